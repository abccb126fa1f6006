-- There are no more entries than tickets.
use Rattle.std.proofs.Common.{◌≡◌, ℕ, zero, suc, ◌+◌, ◌<◌, ◌≤◌, cond, eqb, arith}
use Rattle.std.proofs.lemmas.Bool.Decides.{nat_tests}
use Rattle.heap_laws.specs.Cells.{Tree, Sound}

pigeons : (m n : ℕ) (f : ℕ → ℕ) → ((e : ℕ) → e < n → f e < m) → ((d e : ℕ) → d < n → e < n → f d ≡ f e → d ≡ e) → n ≤ m
pigeons zero zero f b i = omega arith
pigeons zero (suc n) f b i = let h = b 0 (omega arith) in omega arith
pigeons (suc m) zero f b i = omega arith
pigeons (suc m) (suc n) f b i =
    let r = pigeons m n (λ e. cond (eqb (f e) m) (f n) (f e))
    (λ e l. let x = b e (omega arith) in let y = b n (omega arith) in let z = i e n (omega arith) (omega arith) in grind (arith, nat_tests))
    (λ d e p q h.
    let x = i d e (omega arith) (omega arith) in let y = i d n (omega arith) (omega arith) in let z = i e n (omega arith) (omega arith) in grind (arith, nat_tests))
    in omega arith

module _ (m n : ℕ) (v : Tree) (s : Sound m n v) where
  pub count_fits : n ≤ m
  count_fits = pigeons m n v.ticket s.tickets (λ d e x y h. let a = s.back d x in let b = s.back e y in grind (arith, nat_tests))

  -- where a ticket does not wait, there is room for an entry
  pub has_room : (t : ℕ) → t < m → v.place t ≡ 0 → n < m
  has_room t l p =
      let r = pigeons m (n + 1) (λ e. cond (eqb e n) t (v.ticket e))
      (λ e x. let a = s.tickets e in grind (arith, nat_tests))
      (λ d e x y h. let a = s.back d in let b = s.back e in grind (arith, nat_tests))
      in omega arith
