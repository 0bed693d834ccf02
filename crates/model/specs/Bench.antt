-- "Bench readings": P1 to P12, as one table under a single statement, computed. Rests on Calls and Slices.
use Rattle.std.specs.Prelude.{ℕ, ◌≡◌, true, false, List, [], ◌∷◌, map}
use Rattle.model.specs.Nodes.{Node, N, keys, slot_at}
use Rattle.model.specs.Walks.{Stand, stand, precursors}
use Rattle.model.specs.Arena.{State, encode, set_up, list_of}
use Rattle.model.specs.Calls.{search, insert_key, split_at, split_key, append_list, middle, level, searched, plain, keyed, beyond, answer_to, result_of}
use Rattle.model.specs.Slices.{calling, after_all}

-- "Q is 10, 20, 20, 30 levelled at M = 2".
abbrev four : State
four = after_all (set_up 2 2 8) (map calling (insert_key 0 10 0 ∷ insert_key 0 20 0 ∷ insert_key 0 20 0 ∷ insert_key 0 30 0 ∷ level 0 ∷ []))

abbrev Q : List Node
Q = list_of four 0

-- P10's lists: 10, 30 and 20, 40.
abbrev two : State
two = after_all (set_up 2 2 8) (map calling (insert_key 0 10 1 ∷ insert_key 0 30 0 ∷ insert_key 1 20 0 ∷ insert_key 1 40 2 ∷ []))

-- The precursor of a level: its slot and its rank.
abbrev placed : List Stand → List (List ℕ)
placed ss = map (λ s. slot_at 0 Q s.rank ∷ s.rank ∷ []) ss

pub record Table : Type 0 where
  -- "Q is 10, 20, 20, 30 levelled at M = 2: heights 0, 1, 0, 2."
  pub q_keys : keys Q ≡ 10 ∷ 20 ∷ 20 ∷ 30 ∷ []
  pub q : map (λ y. y.height) Q ≡ 0 ∷ 1 ∷ 0 ∷ 2 ∷ []
  -- "P1 search 5 in Q: missing, place 0, tally 3."
  pub p1 : answer_to four (search 0 5 100) ≡ searched false 0 3
  -- "P2 search 20: found, index 1, tally 4."
  pub p2 : answer_to four (search 0 20 100) ≡ searched true 1 4
  -- "P3 search 25: missing, place 3, tally 5; precursors head at rank 0 (level 1), node of rank 2 (level 0)."
  pub p3 : answer_to four (search 0 25 100) ≡ searched false 3 5
  pub p3_precursors : placed (precursors 2 25 Q (stand 0 0)) ≡ (0 ∷ 0 ∷ []) ∷ (slot_at 0 Q 2 ∷ 2 ∷ []) ∷ []
  -- "P4 search 30: found, index 3, tally 5."
  pub p4 : answer_to four (search 0 30 100) ≡ searched true 3 5
  -- "P5 search 31: missing, place 4, tally 1."
  pub p5 : answer_to four (search 0 31 100) ≡ searched false 4 1
  -- "P6 search in an empty list: place 0, tally 0."
  pub p6 : answer_to four (search 1 20 100) ≡ searched false 0 0
  -- "P7 search 25 with allowance 4: refusal 10, tally 4."
  pub p7 : answer_to four (search 0 25 4) ≡ beyond 4
  -- "P8 split Q at 4: nothing moves."
  pub p8 : answer_to four (split_at 0 1 4) ≡ plain
  pub p8_nothing : encode (result_of four (split_at 0 1 4)) ≡ encode four
  -- "P9 split Q by 20: 10 stays, 20, 20, 30 move."
  pub p9_stays : keys (list_of (result_of four (split_key 0 1 20)) 0) ≡ 10 ∷ []
  pub p9_moves : keys (list_of (result_of four (split_key 0 1 20)) 1) ≡ 20 ∷ 20 ∷ 30 ∷ []
  -- "P10 append 20, 40 to 10, 30: 10, 20, 30, 40."
  pub p10 : keys (list_of (result_of two (append_list 0 1)) 0) ≡ 10 ∷ 20 ∷ 30 ∷ 40 ∷ []
  pub p10_empty : list_of (result_of two (append_list 0 1)) 1 ≡ []
  -- P11 middle of Q, request K2: "Q gives 40."
  pub p11 : answer_to four (middle 0) ≡ keyed 40
  -- "P12 the two arenas printed above."
  pub p12 : encode (set_up 1 1 2)
      ≡ 4279123 ∷ 1 ∷ 1 ∷ 1 ∷ 2 ∷ 1 ∷ 2 ∷ 0
      ∷ 0 ∷ 1 ∷ N ∷ N ∷ N ∷ 0
      ∷ 0 ∷ N ∷ 2 ∷ 0 ∷ N ∷ 0
      ∷ 0 ∷ N ∷ N ∷ 0 ∷ N ∷ 0 ∷ []
  pub p12_inserted : encode (result_of (set_up 1 1 2) (insert_key 0 7 1))
      ≡ 4279123 ∷ 1 ∷ 1 ∷ 1 ∷ 2 ∷ 2 ∷ 1 ∷ 0
      ∷ 1 ∷ 1 ∷ 1 ∷ 1 ∷ 1 ∷ 1
      ∷ 7 ∷ 1 ∷ N ∷ 0 ∷ N ∷ 0
      ∷ 0 ∷ N ∷ N ∷ 0 ∷ N ∷ 0 ∷ []
