-- A node's record takes the free column's form: the loop of `free_node` over the links below the height, then the columns 0 to 2.
-- Rests on arena's Cells and model's Columns.
use Prim.Native.Nat.{ℕ, suc, ◌+◌, ◌≤◌, ◌<◌}
use mathlib.Core.Path.{◌≡◌, refl, sym, ap, ◌∙◌}
use mathlib.Core.Logic.{◌≢◌}
use mathlib.Core.List.{List, [], ◌∷◌}
use lib.ListN.{length, take, get_or}
use native.Mathlib.Omega.{arith}
use Rattle.model.specs.Arena.{width, to_column, free_words}
use Rattle.model.specs.Cells.{base_of, cell_at, put_at}
use Rattle.model.specs.Links.{link_words, absent_link}
use Rattle.model.specs.Nodes.{N}
use Rattle.model.proofs.Chained.{free_field}
use Rattle.model.proofs.Columns.{every_column, link_field}
use Rattle.model.proofs.Tests.{hit, miss, test}
use Rattle.arena.specs.Linked.{put_row, put_link}
use Rattle.arena.proofs.Cells.{row_same, row_other, row-front}
use Rattle.arena.proofs.Relink.{link_size, link_front}
use Rattle.free_node.specs.NodeRecord.{HoldsNode, NodeFreed}

-- of slot s the links below level l are absent, all else is as before
pub record LinksGone (m s l : ℕ) (w₀ w : List ℕ) : Type 0 where
  pub size : length w ≡ length w₀
  pub front : take 8 w ≡ take 8 w₀
  pub others : (z c : ℕ) → z ≢ s → c < width m → cell_at m w z c ≡ cell_at m w₀ z c
  pub gone : (k j : ℕ) → k < l → j < link_words → cell_at m w s (to_column k + j) ≡ get_or absent_link j 0
  pub kept : (c : ℕ) → c < width m → (to_column 0 ≤ c → to_column l ≤ c) → cell_at m w s c ≡ cell_at m w₀ s c

pub none-gone : {m s : ℕ} {w : List ℕ} → LinksGone m s 0 w w
none-gone = record {
  size = refl;
  front = refl;
  others = λ z c ne l. refl;
  gone = λ k j l q. absurd (omega arith);
  kept = λ c l out. refl;
}

module _ {w₀ : List ℕ} {m s : ℕ} (p : HoldsNode w₀ m s) {l : ℕ} {w : List ℕ} (g : LinksGone m s l w₀ w) where
  whole : base_of m s + width m ≤ length w
  whole = omega (arith, p.lies.inside, g.size)

  pub one_more : l < m → {x : List ℕ} → x ≡ put_link m w s l absent_link → LinksGone m s (l + 1) w₀ x
  unfolding put_link
  one_more k e = rw e (record {
    size = link_size m w s l absent_link ∙ g.size;
    front = link_front m w s l absent_link ∙ g.front;
    others = λ z c ne i. elsewhere z c i (λ q a b. ne (sym q)) ∙ g.others z c ne i;
    gone = λ i j b q. elim (test (suc i) l) [
      | hit f r ↦ elsewhere s (to_column i + j) (omega arith) (λ _ x y. omega arith) ∙ g.gone i j r q
      | miss f r ↦ let z : i ≡ l = omega arith in rw z (row_same m s w (to_column l) absent_link j (omega arith) whole q)
    ];
    kept = λ c i out. elsewhere s c i (λ _ x y. omega (arith, out (omega arith))) ∙ g.kept c i (λ q. omega (arith, out q));
  })
    where
      elsewhere : (z c : ℕ) → c < width m → (s ≡ z → to_column l ≤ c → c < to_column l + link_words → ⊥)
          → cell_at m (put_row m w s (to_column l) absent_link) z c ≡ cell_at m w z c
      elsewhere z c i out = row_other m s w (to_column l) absent_link z c (omega arith) i out

  -- the loop has passed the height, so that every link is absent
  module _ (done : cell_at m w₀ s 1 ≤ l) where
    link_gone : (i j : ℕ) → i < m → j < link_words → cell_at m w s (to_column i + j) ≡ get_or absent_link j 0
    link_gone i j k q = elim (test (suc i) l) [
      | hit f r ↦ g.gone i j r q
      | miss f r ↦
          g.kept (to_column i + j) (omega arith) (λ x. omega arith)
          ∙ sym (link_field m w₀ s i j q) ∙ ap (λ (k : List ℕ). get_or k j 0) (p.absent i (omega arith) k).link
    ]

    pub freed : (next : ℕ) {u₀ u₁ x : List ℕ} → u₀ ≡ put_at m w s 0 0 → u₁ ≡ put_at m u₀ s 1 N → x ≡ put_at m u₁ s 2 next → NodeFreed m s next w₀ x
    freed next e₀ e₁ e₂ = rw (e₂, e₁, e₀) (record {
      front = row-front m s w 0 words ∙ g.front;
      others = λ z c ne i. elsewhere z c i (λ q a b. ne (sym q)) ∙ g.others z c ne i;
      form = every_column (λ c. cell_at m (put_row m w s 0 words) s c ≡ get_or (free_words m (next ∷ [])) c 0) m
          (stored 0 (omega arith)) (stored 1 (omega arith)) (stored 2 (omega arith))
          (elsewhere s 3 (omega arith) (λ q a b. omega arith) ∙ g.kept 3 (omega arith) (λ x. omega arith) ∙ p.zero)
          (λ i j k q. elsewhere s (to_column i + j) (omega arith) (λ r a b. omega arith) ∙ link_gone i j k q ∙ sym (free_field m (next ∷ []) i j k q));
    })
      where
        words : List ℕ
        words = 0 ∷ N ∷ next ∷ []

        stored : (j : ℕ) → j < 3 → cell_at m (put_row m w s 0 words) s (0 + j) ≡ get_or words j 0
        stored j q = row_same m s w 0 words j (omega arith) whole q

        elsewhere : (z c : ℕ) → c < width m → (s ≡ z → 0 ≤ c → c < 3 → ⊥) → cell_at m (put_row m w s 0 words) z c ≡ cell_at m w z c
        elsewhere z c i out = row_other m s w 0 words z c (omega arith) i out
