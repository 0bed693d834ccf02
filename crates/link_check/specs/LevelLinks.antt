-- What is asked of links, level by level. Along a list one link of each level is pending, that of the last owner met there: os and qs are these
-- owners' slots and ranks, by level. Rests on EachFrom, and on model's and arena's links.
use Rattle.std.specs.Prelude.{ℕ, zero, suc, ◌+◌, ◌<◌, ◌≡◌, List, length, get_or, set}
use Rattle.model.specs.Cells.{link_at}
use Rattle.model.specs.Passes.{Absent}
use Rattle.arena.specs.Linked.{words_of}
use Rattle.arena.specs.declared.links.Link.{Link}
use Rattle.link_check.specs.declared.Dims.{Dims}
use Rattle.link_check.specs.EachFrom.{EachFrom}

-- The links of slot s from level h on are absent.
abbrev pub AbsentFrom : List ℕ → Dims → ℕ → ℕ → Type 0
AbsentFrom w d s h = EachFrom h d.levels (Absent d.levels w s)

-- The link of level l of slot o, which has rank q, goes to slot s, which has rank r.
pub record Reaches (w : List ℕ) (d : Dims) (l o q s r : ℕ) : Type 0 where
  pub by : Link
  pub is : link_at d.levels w o l ≡ words_of by
  pub target : by.target.0 ≡ s
  pub ranks : q + by.distance ≡ r

-- At each level below h the pending link goes to slot s of rank r; no pending link goes anywhere.
abbrev pub PendingReach : List ℕ → Dims → List ℕ → List ℕ → ℕ → ℕ → ℕ → Type 0
PendingReach w d os qs h s r = EachFrom 0 h (λ l. Reaches w d l (get_or os l 0) (get_or qs l 0) s r)

abbrev pub PendingAbsent : List ℕ → Dims → List ℕ → Type 0
PendingAbsent w d os = EachFrom 0 d.levels (λ l. Absent d.levels w (get_or os l 0) l)

-- The owners' slots are slots.
pub record OwnerSlots (d : Dims) (os : List ℕ) : Type 0 where
  pub full : length os ≡ 16
  pub slot : (l : ℕ) → l < d.levels → get_or os l 0 < d.lists + d.room

-- xs with v at each level below h.
unfoldable pub filled : ℕ → ℕ → List ℕ → List ℕ
filled zero v xs = xs
filled (suc h) v xs = set (filled h v xs) h v
