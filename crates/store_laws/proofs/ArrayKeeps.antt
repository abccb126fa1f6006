use Rattle.std.proofs.Common.{◌≡◌, ℕ, ◌^◌, ◌<◌, true, ltb, List, length, get_or, set, replicate, refl, ⊎_elim, arith, length-set, get_or-set_other, get_or-set_same}
use Rattle.std.proofs.lemmas.List.{get_or-replicate, length-replicate}
use Rattle.std.proofs.lemmas.Nat.{pow_pos}
use Rattle.std.proofs.lemmas.Bool.{cases_eq, cond_both, ltb-true}
use Rattle.parts.specs.Meaning.{Keeps, fit, written}
use Rattle.store_laws.specs.ArrayMachine.{Words, array_meaning, array_size}

below_set : (xs : List ℕ) (i v k n : ℕ) → v < n → ((a : ℕ) → a < length xs → get_or xs a 0 < n) → k < length (set xs i v) → get_or (set xs i v) k 0 < n
below_set xs i v k n lv h lt =
    let in_xs : k < length xs = omega (arith, length-set xs i v) in
    ⊎_elim (λ (e : k ≡ i). let here : i < length xs = omega arith in rw (e, get_or-set_same) lv)
    (λ (ne : k ≡ i → ⊥). rw get_or-set_other (h k in_xs)) (cases_eq k i)

abbrev at_words : Words → List ℕ → Words
at_words s xs = record { words = xs; wide = s.wide }

set_loyal : (s : Words) → array_meaning.loyal s → (a v : ℕ) → v < 2 ^ s.wide → array_meaning.loyal (at_words s (set s.words a v))
set_loyal s h a v lv = (rw length-set h.0, λ k lt. below_set s.words a v k (2 ^ s.wide) lv h.1 lt)

write_loyal : (s : Words) → array_meaning.loyal s → (a v : ℕ) → array_meaning.loyal (at_words s (written (array_size s) s.wide s.words a v))
write_loyal s h a v =
    let Q : List ℕ → Type 0 = λ xs. array_meaning.loyal (at_words s xs) in
    cond_both (ltb a (array_size s)) _ _ Q
    (λ _. cond_both (ltb v (2 ^ s.wide)) _ _ Q (λ e. set_loyal s h a v (ltb-true v (2 ^ s.wide) e)) (λ _. h)) (λ _. h)

pub array_keeps : Keeps array_meaning
array_keeps = record {
  sized = λ s h. rw h.0 (refl, h.0);
  below = λ s h a lt. rw h.0 (h.1 a (rw h.0 at lt));
  reads = λ s h a. refl;
  read_leaves = λ s h a. record { loyal = h; cells_are = refl; width_is = refl; height_is = refl };
  writes = λ s h a v. rw h.0 refl;
  write_leaves = λ s h a v.
      let l = write_loyal s h a v in
      record { loyal = l; cells_are = rw h.0 refl; width_is = rw (l.0, h.0) refl; height_is = refl };
}

-- an array over zeros is loyal where it is fit
pub zeros_loyal : (n w : ℕ) → fit n w ≡ true → array_meaning.loyal (record { words = replicate n 0; wide = w })
zeros_loyal n w h =
    (rw (length-replicate {A = ℕ} n 0) h, λ a lt. let l : a < n = omega (arith, length-replicate {A = ℕ} n 0) in rw (get_or-replicate {A = ℕ} n a 0 0 l) (pow_pos w))
