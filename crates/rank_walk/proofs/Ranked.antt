-- The walk by rank in document 01's own terms: what `seek` notes is what the model's walk by rank notes, and it ends where that one ends.
-- Rests on Seeking and model's ByRank.
use Prim.Native.Nat.{ℕ, suc, ◌+◌, ◌-◌, ◌≤◌, ◌<◌}
use mathlib.Core.Path.{◌≡◌, refl, sym, ap, ◌∙◌}
use mathlib.Core.List.{List}
use lib.ListN.{length, take, replicate}
use lib.Seq.{take_all, take-length}
use native.Mathlib.Omega.{arith}
use Rattle.std.specs.Prelude.{Option, Some, None}
use Rattle.model.specs.Closed.{last}
use Rattle.model.specs.Walks.{rank_walk}
use Rattle.model.specs.Arena.{next_column}
use Rattle.model.specs.Cells.{cell_at}
use Rattle.model.specs.Passes.{nodes}
use Rattle.model.proofs.ByRank.{rank_precursor_lem, rank_there, rank-past}
use Rattle.arena.specs.Owners.{Listed, Leads}
use Rattle.arena.specs.declared.Slot.{Slot}
use Rattle.arena.specs.declared.Path.{Path}
use Rattle.rank_walk.specs.Ranks.{end_of, WalkedByRank}
use Rattle.walk.proofs.Standing.{at-rank}
use Rattle.walk.proofs.Noting.{none_before}
use Rattle.rank_walk.proofs.Seeking.{steps}

abbrev slot : ℕ → Slot
slot s = record { 0 = s }

abbrev at_slot : ℕ → Option Slot
at_slot s = Some (slot s)

module _ {w : List ℕ} {m a : ℕ} (g : Listed w m a) where
  module _ (t i : ℕ) (p : Path) (k : Leads w m a i p) where
    precursors_are : take i (nodes w a) ≡ take (t - 1) (nodes w a) → (x : Option Slot) → x ≡ end_of a (nodes w a) (rank_walk m t (nodes w a))
        → WalkedByRank w m a t (record { path = p; ended = x })
    precursors_are e x q = record {
      rank = λ l j. k.before.rank l j ∙ ap (last (suc l)) e ∙ sym (rank_precursor_lem m t (nodes w a) l j);
      slot = λ l j. k.before.slot l j;
      ended = q;
    }

    pub ranked-past : i ≡ length (nodes w a) → i < t → WalkedByRank w m a t (record { path = p; ended = None })
    ranked-past e l =
        precursors_are (ap (λ (n : ℕ). take n (nodes w a)) e ∙ take-length (nodes w a) ∙ sym (take_all (t - 1) (nodes w a) (omega arith))) None
        (sym (ap (end_of a (nodes w a)) (rank-past m t (nodes w a) (omega arith))))

    pub ranked_there : i + 1 ≡ t → t ≤ length (nodes w a) → (to : ℕ) → to ≡ cell_at m w p.end.0 next_column
        → WalkedByRank w m a t (record { path = p; ended = at_slot to })
    ranked_there e l to f =
        let o = steps (at-rank i g (omega arith) k.end) (omega arith) to t f (sym e) in
        let z : i ≡ t - 1 = omega arith in
        precursors_are (ap (λ (n : ℕ). take n (nodes w a)) z) (at_slot to)
        (ap at_slot o.owner.slot_is ∙ sym (ap (end_of a (nodes w a)) (rank_there m t (nodes w a) l)))

  abbrev at_head : Path
  at_head = record { slots = replicate 16 (slot a); ranks = replicate 16 (record { 0 = 0 }); end = slot a }

  pub ranked_head : (t : ℕ) → t ≡ 0 → WalkedByRank w m a t (record { path = at_head; ended = at_slot a })
  ranked_head t e =
      let at-start : Leads w m a 0 at_head = record { before = none_before g; end = refl } in
      rw e (precursors_are 0 0 _ at-start refl (at_slot a) (sym (ap (end_of a (nodes w a)) (rank_there m 0 (nodes w a) (omega arith)))))
