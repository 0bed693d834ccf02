-- Words whose list a and free chain are replaced: what they hold, and a path that leads there as before. Rests on model's Builds and Records.
use Prim.Native.Nat.{ℕ, suc, ◌≤◌, ◌<◌}
use mathlib.Core.Path.{◌≡◌, sym, ap, ◌∙◌, subst}
use mathlib.Core.List.{List, []}
use lib.ListN.{length, take, length-set}
use lib.Seq.{get_or-set_same, length-take-le}
use native.Mathlib.Omega.{arith}
use Rattle.model.specs.Nodes.{Node, slot_at}
use Rattle.model.specs.Closed.{last}
use Rattle.model.specs.Arena.{State, list_of, put_list, encode}
use Rattle.model.specs.Passes.{decode, nodes, Ranges, Sound}
use Rattle.model.proofs.Builds.{passes-encode}
use Rattle.model.proofs.Records.{decode-encode}
use Rattle.model.proofs.Splitting.{slot-take}
use Rattle.model.proofs.Walk.{last_le}
use Rattle.arena.specs.Owners.{rank_in, Listed, Leads}
use Rattle.arena.specs.declared.Path.{Path}

-- a path leads to an index by the nodes before it alone
pub leads-kept : {w u : List ℕ} {m a i : ℕ} {p : Path} → Leads w m a i p → take i (nodes u a) ≡ take i (nodes w a) → i ≤ length (nodes w a) → Leads u m a i p
leads-kept {w} {u} {m} {a} {i} {p} q e l =
    record {
      before = record {
        rank = λ j k. q.before.rank j k ∙ ap (last (suc j)) (sym e);
        slot = λ j k. q.before.slot j k ∙ sym (slot-u (rank_in p.ranks j) (rank_le j k));
      };
      end = q.end ∙ sym (slot-u i (omega arith));
    }
  where
    rank_le : (j : ℕ) → j < m → rank_in p.ranks j ≤ i
    rank_le j k = omega (arith, q.before.rank j k, last_le (suc j) (take i (nodes w a)), length-take-le i (nodes w a) l)

    slot-u : (r : ℕ) → r ≤ i → slot_at a (nodes u a) r ≡ slot_at a (nodes w a) r
    slot-u r k = sym (slot-take a i (nodes u a) r k) ∙ ap (λ (t : List Node). slot_at a t r) e ∙ slot-take a i (nodes w a) r k

-- a list and the free chain are replaced
module _ {w : List ℕ} {m a : ℕ} (p : Listed w m a) (ys : List Node) (fs : List ℕ) (v : Sound (put_list (decode w) a ys fs))
    {u : List ℕ} (eu : u ≡ encode (put_list (decode w) a ys fs)) where
  abbrev U : State
  U = put_list (decode w) a ys fs

  pub decoded : decode u ≡ U
  decoded = ap decode eu ∙ decode-encode U v

  count : length U.lists ≡ length (decode w).lists
  count = length-set (decode w).lists a ys

  pub listed_then : Listed u m a
  listed_then = record {
    passes = rw eu (passes-encode U v (subst (λ (n : ℕ). Ranges n (decode w).levels (decode w).room) (sym count) p.passes.sizes));
    levels = p.levels ∙ ap (λ (s : State). s.levels) (sym decoded);
    list = omega (arith, ap (λ (s : State). length s.lists) decoded, count, p.list);
  }

  pub nodes_then : nodes u a ≡ ys
  nodes_then = ap (λ (s : State). list_of s a) decoded ∙ get_or-set_same (decode w).lists a ys [] p.list
