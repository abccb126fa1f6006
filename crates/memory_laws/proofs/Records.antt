-- Tallies of the records of a row of cells.
use Rattle.std.proofs.Common.{◌≡◌, ℕ, zero, suc, ◌<◌, ◌≤◌, ◌≢◌, List, length, slice_index_or, set, sym, refl, ap, ◌∙◌, ⊎_elim, arith, get_or-set_other, get_or-set_same}
use Rattle.std.proofs.lemmas.Bool.{cases_eq}
use Rattle.parts.specs.Tallying.{Tallying, Laws}
use Rattle.memory_laws.specs.Checked.{record_of, with_records}

module _ {V : Type 0} (l : Tallying V) (laws : Laws l) where
  pub added : (k : ℕ) {u w : V} {x y : ℕ} → u ≡ w → x ≡ y → l.add u (record_of k x) ≡ l.add w (record_of k y)
  added k p q = rw (p, q)

  -- a record added first or last
  pub records_add : (v : V) (r : ℕ) (xs : List ℕ) (k : ℕ) → with_records l (l.add v r) xs k ≡ l.add (with_records l v xs k) r
  unfolding with_records
  records_add v r xs zero = refl
  records_add v r xs (suc k) =
      ap (λ w. l.add w (record_of k (slice_index_or xs k 0))) (records_add v r xs k) ∙ laws.swap (with_records l v xs k) r (record_of k (slice_index_or xs k 0))

  -- a write past the cells tallied
  pub records_past : (v : V) (xs : List ℕ) (a x : ℕ) (k : ℕ) → k ≤ a → with_records l v (set xs a x) k ≡ with_records l v xs k
  unfolding with_records
  records_past v xs a x zero le = refl
  records_past v xs a x (suc k) le =
      let ne : k ≢ a = omega arith in let le' : k ≤ a = omega arith in
      added k (records_past v xs a x k le') (get_or-set_other xs a k x 0 ne)

  -- a write to a cell exchanges its record
  pub records_set : (v : V) (xs : List ℕ) (a x : ℕ) (k : ℕ) → a < k → a < length xs → l.add (with_records l v (set xs a x) k) (record_of a (slice_index_or xs a 0)) ≡ l.add (with_records l v xs k) (record_of a x)
  unfolding with_records
  records_set v xs a x zero lt in_xs = absurd (omega arith)
  records_set v xs a x (suc k) lt in_xs =
      ⊎_elim
      (λ (e : a ≡ k).
      let at_a : with_records l v (set xs a x) a ≡ with_records l v xs a = records_past v xs a x a (omega arith) in
      rw (← e) (ap (λ u. l.add u (record_of a (slice_index_or xs a 0))) (added a at_a (get_or-set_same xs a x 0 in_xs))
      ∙ laws.swap (with_records l v xs a) (record_of a x) (record_of a (slice_index_or xs a 0))))
      (λ (n : a ≡ k → ⊥).
      let ne : k ≢ a = λ e. n (sym e) in let lt' : a < k = omega arith in
      ap (λ u. l.add u (record_of a (slice_index_or xs a 0))) (added k refl (get_or-set_other xs a k x 0 ne))
      ∙ laws.swap (with_records l v (set xs a x) k) (record_of k (slice_index_or xs k 0)) (record_of a (slice_index_or xs a 0))
      ∙ ap (λ w. l.add w (record_of k (slice_index_or xs k 0))) (records_set v xs a x k lt' in_xs)
      ∙ laws.swap (with_records l v xs k) (record_of a x) (record_of k (slice_index_or xs k 0)))
      (cases_eq a k)

  -- reading a cell's record and writing another keeps the balance
  pub records_exchanged : (v w : V) (xs : List ℕ) (a x n : ℕ) → a < n → a < length xs → with_records l v xs n ≡ w → with_records l (l.add v (record_of a (slice_index_or xs a 0))) (set xs a x) n ≡ l.add w (record_of a x)
  records_exchanged v w xs a x n lt in_xs e =
      records_add v (record_of a (slice_index_or xs a 0)) (set xs a x) n ∙ records_set v xs a x n lt in_xs ∙ ap (λ u. l.add u (record_of a x)) e
