-- What the check asks of any words, in its order. Rests on Headed, FreeChain and list_check's Walked.
use Rattle.std.specs.Prelude.{ℕ, ◌+◌, ◌≡◌, List}
use Rattle.link_check.specs.declared.Dims.{Dims}
use Rattle.link_check.specs.EachFrom.{EachFrom}
use Rattle.list_check.specs.Walked.{ListOk}
use Rattle.arena_check.specs.Headed.{dims_of, free_count, first_free_slot, Headed, lengths, LastsDiffer}
use Rattle.arena_check.specs.FreeChain.{FreeFrom}

-- Of words whose header says d.
pub record WholeOf (w : List ℕ) (d : Dims) : Type 0 where
  pub headed : Headed w
  pub counts : free_count w + lengths w d d.lists ≡ d.room
  pub free : FreeFrom w d (free_count w) (first_free_slot w)
  pub lists : EachFrom 0 d.lists (ListOk w d)
  pub lasts : EachFrom 0 d.lists (λ a. EachFrom 0 a (LastsDiffer w d a))

abbrev pub Whole : List ℕ → Type 0
Whole w = WholeOf w (dims_of w)
