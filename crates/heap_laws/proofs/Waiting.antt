-- What waits by the cells of a heap, and that entry 0 may be named.
use Rattle.std.proofs.Common.{◌≡◌, ℕ, ◌-◌, ◌<◌, Bool, cond, eqb, ltb, Some, None, Option, ⊎_elim, arith}
use mathlib.Core.Path.{fun_ext}
use Rattle.std.proofs.lemmas.Bool.{cases_eq, eq-eqb, ne_eqb}
use Rattle.std.proofs.lemmas.Bool.Decides.{nat_tests}
use Rattle.parts.specs.Orders.{OrderLaws}
use Rattle.parts.specs.Queues.{key_limit, Entries, nothing_waits, with_entry, Named}
use Rattle.heap_laws.specs.Cells.{Tree, Sound, Ordered, held}
use Rattle.heap_laws.proofs.Heaps.{root_first}

-- what waits below cap
abbrev pub cut : ℕ → Entries → Entries
cut cap told t = cond (ltb t cap) (told t) None

pub cut_with : (cap : ℕ) (told : Entries) (t : ℕ) (x : Option ℕ) → t < cap → cut cap (with_entry told t x) ≡ with_entry (cut cap told) t x
cut_with cap told t x l = fun_ext (λ u. by u (told u))
  where
    by : (u : ℕ) (y : Option ℕ) → cond (ltb u cap) (cond (eqb u t) x y) None ≡ cond (eqb u t) x (cond (ltb u cap) y None)
    by u y = grind (arith, nat_tests)

pub cut_none : (cap : ℕ) → cut cap nothing_waits ≡ nothing_waits
cut_none cap = fun_ext (λ t. grind (arith, nat_tests))

module _ {cap n : ℕ} {v : Tree} (s : Sound cap n v) where
  waits : (t k : ℕ) → cut cap (held v) t ≡ Some k → (t < cap) × (0 < v.place t) × (v.key (v.place t - 1) ≡ k)
  waits t k e = (grind (arith, nat_tests), grind (arith, nat_tests), grind (arith, nat_tests))

  pub waits_within : (t k : ℕ) → cut cap (held v) t ≡ Some k → (t < cap) × (k < key_limit)
  waits_within t k e =
      let q = waits t k e in let p = s.there t q.0 q.1 in
      let r = s.keys (v.place t - 1) (omega arith) in (q.0, rw q.2 at r)

module _ (before : ℕ → ℕ → Bool) (o : OrderLaws before) {cap n : ℕ} {v : Tree} (s : Sound cap n v) (p : Ordered before n v.key) where
  first_named : 0 < n → Named before (cut cap (held v)) (Some (v.ticket 0))
  first_named z =
      let a = s.back 0 z in let l = s.tickets 0 z in (
        v.key 0,
        grind (arith, nat_tests),
        λ u j e.
            let q = waits s u j e in let r = s.there u q.0 q.1 in
            rw (← q.2) (root_first before o n v.key p (v.place u - 1) (v.place u - 1) (omega arith) (omega arith)),
      )

  none_named : n ≡ 0 → Named before (cut cap (held v)) None
  none_named z t = let q = s.there t in grind (arith, nat_tests)

  pub names_first : Named before (cut cap (held v)) (cond (eqb n 0) None (Some (v.ticket 0)))
  names_first = ⊎_elim (λ (z : n ≡ 0). rw (eq-eqb n 0 z) (none_named z)) (λ (nz : n ≡ 0 → ⊥). rw (ne_eqb n 0 nz) (first_named (omega arith))) (cases_eq n 0)
