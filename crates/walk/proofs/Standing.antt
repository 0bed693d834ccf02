-- What the words say where a walk stands: the sizes, the record of its slot, the link of its stage, next and key. Rests on arena's Places.
use Prim.Native.Nat.{ℕ, suc, ◌+◌, ◌-◌, ◌≤◌, ◌<◌}
use mathlib.Core.Path.{◌≡◌, refl, sym, ap, ◌∙◌}
use mathlib.Core.List.{List}
use lib.ListN.{length, drop, get_or}
use native.Mathlib.Omega.{arith}
use Rattle.model.specs.Nodes.{Node, key_at, slot_at}
use Rattle.model.specs.Links.{distance, target, link_of}
use Rattle.model.specs.Arena.{width, count_column, key_column, next_column, to_column, far_column}
use Rattle.model.specs.Cells.{Cell, base_of, cell_at, link_at, record_at}
use Rattle.model.specs.Passes.{decode, nodes}
use Rattle.model.proofs.Steps.{first-target}
use Rattle.model.proofs.Columns.{cell_record}
use Rattle.model.proofs.Counting.{list_few}
use Rattle.arena.specs.Owners.{Listed}
use Rattle.arena.proofs.Places.{fits, slot_in_lem, linked, its_link, key_word, length_word}
use Rattle.walk.specs.Standing.{Standing}

-- ---- where a walk begins ----
-- at the head, with every level ahead
pub at_head : {w : List ℕ} {m a i : ℕ} → Listed w m a → i ≤ length (nodes w a) → Standing w m a i m a 0
at_head g l = record {
  owner = record { passes = g.passes; list = g.list; within = omega arith; slot_is = refl; tall = omega (arith, g.levels); level = omega (arith, g.levels) };
  levels = g.levels;
  before = omega arith;
  within = l;
}

-- at the slot of a rank, with no level ahead
pub at-rank : {w : List ℕ} {m a s : ℕ} (r : ℕ) → Listed w m a → r ≤ length (nodes w a) → s ≡ slot_at a (nodes w a) r
    → Standing w m a (length (nodes w a)) 0 s r
at-rank r g l e = record {
  owner = record { passes = g.passes; list = g.list; within = l; slot_is = e; tall = omega arith; level = omega arith };
  levels = g.levels;
  before = l;
  within = omega arith;
}

-- ---- where it stands ----
-- the link of stage h, which is that of level h - 1, in the record that begins at word `base`: it lies in the slice, and is the one where ys follow
pub record LinkHere (w : List ℕ) (base h : ℕ) (ys : List Node) : Type 0 where
  pub inside : base + far_column (h - 1) < length w
  pub target : get_or w (base + to_column (h - 1)) 0 ≡ target h ys
  pub distance : get_or w (base + far_column (h - 1)) 0 ≡ distance h ys

-- the same of next, which is the link of stage 0
pub record NextHere (w : List ℕ) (base : ℕ) (ys : List Node) : Type 0 where
  pub inside : base + next_column < length w
  pub target : get_or w (base + next_column) 0 ≡ target 0 ys

-- the key in the record of slot s, which begins at word `base`
module _ (w : List ℕ) (m s : ℕ) {base : ℕ} (b : base ≡ base_of m s) where
  pub key_inside : Cell w m s key_column → base + key_column < length w
  key_inside k = rw b k.inside

  pub key_read : {met : ℕ} → met ≡ get_or w (base + key_column) 0 → met ≡ cell_at m w s key_column
  unfolding cell_at
  key_read e = rw b at e

module _ {w : List ℕ} {m a i h s r : ℕ} (g : Standing w m a i h s r) where
  pub levels_most : m ≤ 16
  levels_most = omega (arith, g.levels, g.owner.passes.sizes.levels_most)

  pub length_most : length (nodes w a) < 65536
  length_most = omega (arith, list_few (decode w) g.owner.passes.sound a, g.owner.passes.sizes.room_most)

  pub cell_here : (c : ℕ) → c < width m → Cell w m s c
  cell_here c k =
      rw g.levels (record {
        small = g.owner.passes.sizes.levels_most;
        column = omega (arith, g.levels);
        inside = fits w g.owner.passes s c (slot_in_lem g.owner) (omega (arith, g.levels));
      })

  -- it looks no longer at the stages above k
  pub lowered : (k : ℕ) → k ≤ h → Standing w m a i k s r
  lowered k l =
      let o = g.owner in
      record {
        owner = record { passes = o.passes; list = o.list; within = o.within; slot_is = o.slot_is; tall = omega (arith, o.tall); level = omega (arith, o.level) };
        levels = g.levels;
        before = g.before;
        within = g.within;
      }

  pub link_here : {base : ℕ} → base ≡ base_of m s → 0 < h → LinkHere w base h (drop r (nodes w a))
  unfolding cell_at
  link_here b z =
      let its : link_at m w s (h - 1) ≡ link_of h (drop r (nodes w a)) = rw g.levels (its_link g.owner (h - 1) (omega arith)) in
      let top = cell_here (far_column (h - 1)) (omega (arith, g.levels, g.owner.level)) in
      rw b (record { inside = top.inside; target = cc; distance = cc })

  in_record : (c : ℕ) → c < width m → cell_at m w s c ≡ get_or (record_at (decode w).levels w s) c 0
  in_record c k = cell_record m w s c k ∙ ap (λ (n : ℕ). get_or (record_at n w s) c 0) g.levels

  pub next-cell : cell_at m w s next_column ≡ target 0 (drop r (nodes w a))
  next-cell = in_record next_column (omega arith) ∙ (linked g.owner).next ∙ first-target (drop r (nodes w a))

  pub next_here : {base : ℕ} → base ≡ base_of m s → NextHere w base (drop r (nodes w a))
  unfolding cell_at
  next_here b = rw b (record { inside = (cell_here next_column (omega arith)).inside; target = next-cell })

  pub key_here : (j : ℕ) → r ≡ suc j → cell_at m w s key_column ≡ key_at (nodes w a) j
  key_here j e =
      in_record key_column (omega arith)
      ∙ (rw (g.owner.slot_is, e) (key_word w g.owner.passes a g.owner.list j (omega (arith, g.owner.within))))

-- the head's first word is the length
pub length_here : {w : List ℕ} {m a : ℕ} → Listed w m a → cell_at m w a count_column ≡ length (nodes w a)
length_here {w} {m} {a} g = rw g.levels (sym (length_word w g.passes a g.list))
