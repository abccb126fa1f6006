-- What the words of a store say after an entry is written, and after a ticket is freed.
use Rattle.std.proofs.Common.{◌≡◌, ℕ, ◌+◌, ◌*◌, ◌<◌, ◌≤◌, cond, eqb, List, length, get_or, set, ◌∙◌, ⊎_elim, arith}
use Rattle.std.proofs.lemmas.List.{length-set, get_or-set_same, get_or-set_other}
use Rattle.std.proofs.lemmas.Bool.{cases_eq}
use Rattle.std.proofs.lemmas.Bool.Decides.{nat_tests}
use Rattle.parts.specs.Queues.{most_tickets}
use Rattle.heap_laws.specs.Cells.{entry_cells, least_bits, ticket_cell, key_cell, place_cell, tree_in}
use Rattle.heap_laws.proofs.Trees.{same_tree, placed, freed}

pub get_d_set : (xs : List ℕ) (i j x : ℕ) → i < length xs → get_or (set xs i x) j 0 ≡ cond (eqb j i) x (get_or xs j 0)
get_d_set xs i j x l =
    let p = get_or-set_same xs i x 0 l in let q = get_or-set_other xs i j x 0 in
    ⊎_elim (λ (e : j ≡ i). grind (arith, nat_tests)) (λ (ne : j ≡ i → ⊥). grind (arith, nat_tests)) (cases_eq j i)

-- the words with the ticket t and the key k written as entry e
abbrev pub seat : List ℕ → ℕ → ℕ → ℕ → List ℕ
seat xs e t k = set (set (set xs (ticket_cell e) t) (key_cell e) k) (place_cell t) (e + 1)

pub seat_length : (xs : List ℕ) (e t k : ℕ) → length (seat xs e t k) ≡ length xs
seat_length xs e t k = simp length-set

-- the words with the entry i moved to the free place e
abbrev pub shifted : List ℕ → ℕ → ℕ → List ℕ
shifted xs i e = seat xs e ((tree_in xs).ticket i) ((tree_in xs).key i)

-- cells that are wide enough, and enough for the capacity, which is not too large
pub record Fits (w cap size : ℕ) : Type 0 where
  pub wide : least_bits ≤ w
  pub few : cap ≤ most_tickets
  pub cells : entry_cells * cap ≤ size

module _ (xs : List ℕ) (m : ℕ) (fits : entry_cells * m ≤ length xs) (t : ℕ) (b : t < m) where
  module _ (e k : ℕ) (a : e < m) where
    seat_at : (j : ℕ) → get_or (seat xs e t k) j 0
        ≡ cond (eqb j (place_cell t)) (e + 1) (cond (eqb j (key_cell e)) k (cond (eqb j (ticket_cell e)) t (get_or xs j 0)))
    seat_at j =
        let p : ticket_cell e < length xs = omega arith in
        let q : key_cell e < length (set xs (ticket_cell e) t) = simp length-set (omega arith) in
        let r : place_cell t < length (set (set xs (ticket_cell e) t) (key_cell e) k) = simp length-set (omega arith) in
        simp get_d_set

    pub tree_seat : tree_in (seat xs e t k) ≡ placed (tree_in xs) e t k
    tree_seat =
        same_tree (tree_in (seat xs e t k)) (placed (tree_in xs) e t k) (λ j. seat_at (ticket_cell j) ∙ grind (arith, nat_tests))
        (λ j. seat_at (key_cell j) ∙ grind (arith, nat_tests))
        (λ j. seat_at (place_cell j) ∙ grind (arith, nat_tests))

  pub tree_freed : tree_in (set xs (place_cell t) 0) ≡ freed (tree_in xs) t
  tree_freed =
      let p : place_cell t < length xs = omega arith in
      let at = λ (j : ℕ). get_d_set xs (place_cell t) j 0 p in
      same_tree (tree_in (set xs (place_cell t) 0)) (freed (tree_in xs) t) (λ j. at (ticket_cell j) ∙ grind (arith, nat_tests))
      (λ j. at (key_cell j) ∙ grind (arith, nat_tests))
      (λ j. at (place_cell j) ∙ grind (arith, nat_tests))
