-- The tests of the check put together. Rests on specs/Whole.
use Prim.Native.Nat.{ℕ, ◌+◌}
use mathlib.Core.Path.{◌≡◌, sym, ◌∙◌, subst}
use mathlib.Core.Bool.{Bool, true}
use mathlib.Core.List.{List}
use Rattle.arena.specs.Decides.{Decides}
use Rattle.arena.proofs.Deciding.{yes}
use Rattle.link_check.specs.declared.Dims.{Dims}
use Rattle.link_check.specs.declared.records.Records.{Records}
use Rattle.link_check.specs.EachFrom.{EachFrom}
use Rattle.list_check.specs.Walked.{ListOk}
use Rattle.arena_check.specs.Headed.{Headed, HeaderRead, free_count, lengths, LastsDiffer}
use Rattle.arena_check.specs.Whole.{WholeOf, Whole}
use Rattle.arena_check.proofs.FreeWalk.{FreeWhole}

-- the tests passed, and what is left is that the lists end apart
module _ {w : List ℕ} {r : Records} (h : HeaderRead w r) where
  abbrev d : Dims
  d = r.dims

  abbrev v : List ℕ
  v = r.words.now

  of_header : {y : Bool} → Decides y (WholeOf v d) → Decides y (Whole w)
  of_header {y} s = subst (λ (x : Dims). Decides y (WholeOf w x)) h.dims (subst (λ (x : List ℕ). Decides y (WholeOf x d)) h.words s)

  pub whole-decided : {n m : ℕ} {p q y : Bool} → n ≡ free_count v + lengths v d d.lists → m ≡ d.room → n ≡ m → Decides p (FreeWhole v d) → p ≡ true
      → Decides q (EachFrom 0 d.lists (ListOk v d)) → q ≡ true → Decides y (EachFrom 0 d.lists (λ a. EachFrom 0 a (LastsDiffer v d a))) → Decides y (Whole w)
  whole-decided i j k s s' u u' x = of_header (record {
    sound = λ t. record { headed = subst Headed (sym h.words) h.headed; counts = sym i ∙ k ∙ j; free = yes s s'; lists = yes u u'; lasts = x.sound t };
    complete = λ f. x.complete f.lasts;
  })
