-- What the two laws of an order give.
use Rattle.std.proofs.Common.{◌≡◌, ℕ, Bool, true, false, ⊎_elim}
use Rattle.std.proofs.lemmas.Bool.{cases_Bool, both_ways}
use Rattle.parts.specs.Orders.{OrderLaws}

module _ (before : ℕ → ℕ → Bool) (laws : OrderLaws before) where
  -- what is before c is before all that is not before c
  pub before_near : (a b c : ℕ) → before a c ≡ true → before b c ≡ false → before a b ≡ true
  before_near a b c y n =
      ⊎_elim (λ h. h) (λ h. absurd (both_ways (before a c) (laws.chains a b c h n) y)) (cases_Bool (before a b))

  pub before_trans : (a b c : ℕ) → before a b ≡ true → before b c ≡ true → before a c ≡ true
  before_trans a b c y z =
      ⊎_elim (λ h. h) (λ h. absurd (both_ways (before b c) (laws.chains b a c (laws.asymmetric a b y) h) z)) (cases_Bool (before a c))

  -- no key is before itself
  pub before_self : (a : ℕ) → before a a ≡ false
  before_self a = ⊎_elim (λ h. laws.asymmetric a a h) (λ h. h) (cases_Bool (before a a))
