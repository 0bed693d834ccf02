pub mod NodeForm
