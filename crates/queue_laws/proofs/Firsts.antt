-- The first number below a limit that passes a test.
use Rattle.std.proofs.Common.{◌≡◌, ℕ, zero, suc, ◌+◌, ◌<◌, Bool, true, false, cond, Some, None, Option, sym, refl, ap, ◌∙◌, ⊎_elim, add-one, arith}
use Rattle.std.proofs.lemmas.Bool.{cases_eq, both_ways}
use Rattle.queue_laws.specs.Tables.{or_next, first_below}

-- something is not nothing
pub apart : {X P : Type 0} (o : Option X) (x : X) → o ≡ Some x → o ≡ None → P
apart o x e f = let z : ◌≡◌ {A = ℕ} 0 1 = cc in absurd (omega arith)

module _ (p : ℕ → Bool) where
  pub first_none : first_below p 0 ≡ None
  unfolding first_below
  first_none = refl

  -- one number more: none passed so far, nor does the next
  pub first_on : (n : ℕ) → first_below p n ≡ None → p n ≡ false → first_below p (n + 1) ≡ None
  unfolding first_below
  first_on n e f = rw add-one (ap (λ (o : Option ℕ). or_next o (p n) n) e ∙ ap (λ (b : Bool). cond {A = Option ℕ} b (Some n) None) f)

  -- the next passes, so it is the first below every larger limit
  pub first_here : (n m : ℕ) → n < m → first_below p n ≡ None → p n ≡ true → first_below p m ≡ Some n
  unfolding first_below
  first_here n zero lt e y = absurd (omega arith)
  first_here n (suc m) lt e y =
      ⊎_elim
      (λ (q : n ≡ m). rw (← q) (ap (λ (o : Option ℕ). or_next o (p n) n) e ∙ ap (λ (b : Bool). cond {A = Option ℕ} b (Some n) None) y))
      (λ (q : n ≡ m → ⊥). ap (λ (o : Option ℕ). or_next o (p m) m) (first_here n m (omega arith) e y)) (cases_eq n m)

  -- where one passes, there is a first
  some_of : (m t : ℕ) → t < suc m → p t ≡ true → (t < m → (v : ℕ) × (first_below p m ≡ Some v)) → (o : Option ℕ) → first_below p m ≡ o → (v : ℕ) × (or_next o (p m) m ≡ Some v)
  some_of m t lt y h (Some v) e = (v, refl)
  some_of m t lt y h None e =
      ⊎_elim
      (λ (q : t ≡ m). (m, ap (λ (b : Bool). cond {A = Option ℕ} b (Some m) None) (ap p (sym q) ∙ y)))
      (λ (q : t ≡ m → ⊥). let v = h (omega arith) in apart (first_below p m) v.0 v.1 e) (cases_eq t m)

  pub first_some : (m t : ℕ) → t < m → p t ≡ true → (v : ℕ) × (first_below p m ≡ Some v)
  unfolding first_below
  first_some zero t lt y = absurd (omega arith)
  first_some (suc m) t lt y = some_of m t lt y (λ l. first_some m t l y) (first_below p m) refl

  -- where there is a first, it passes and is below the limit
  passes_of : (m v : ℕ) → ((u : ℕ) → first_below p m ≡ Some u → (u < m) × (p u ≡ true)) →
      (o : Option ℕ) → first_below p m ≡ o → (b : Bool) → p m ≡ b → or_next o b m ≡ Some v → (v < suc m) × (p v ≡ true)
  passes_of m v h (Some u) f b g e = let r = h v (f ∙ e) in (let l = r.0 in omega arith, r.1)
  passes_of m v h None f true g e = let same : m ≡ v = cc in (omega arith, ap p (sym same) ∙ g)
  passes_of m v h None f false g e = apart None v e refl

  pub first_passes : (m v : ℕ) → first_below p m ≡ Some v → (v < m) × (p v ≡ true)
  unfolding first_below
  first_passes zero v e = apart None v e refl
  first_passes (suc m) v e = passes_of m v (first_passes m) (first_below p m) refl (p m) refl e

  -- where none passes, there is no first
  pub first_absent : (m : ℕ) → ((t : ℕ) → t < m → p t ≡ false) → first_below p m ≡ None
  first_absent m h = by (first_below p m) refl
    where
      by : (o : Option ℕ) → first_below p m ≡ o → first_below p m ≡ None
      by None e = e
      by (Some v) e = let r = first_passes m v e in absurd (both_ways (p v) (h v r.0) r.1)
