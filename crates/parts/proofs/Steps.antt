-- Calls one after another, and the steps of a loop.
use Rattle.std.proofs.Common.{◌≡◌, ℕ, zero, suc, ◌+◌, ◌<◌, ◌≤◌, Ok, Err, Result, refl, ap, ◌∙◌, ⊎_elim, add-one, arith}
use Rattle.std.proofs.lemmas.Bool.{cases_eq}
use Rattle.parts.specs.Outcomes.{Outcome, and_then, up_to}

pub pair : {A B : Type 0} (o : A × B) (a : A) (b : B) → a ≡ o.0 → b ≡ o.1 → o ≡ (a, b)
pair o a b p q = rw (p, q)

-- a fault is no answer
pub never : {F A S : Type 0} (f : F) (a : A) (s s' : S) → ◌≡◌ {A = Outcome F A S} (Err f, s) (Ok a, s') → ⊥
never {F} {A} {S} f a s s' h =
    let e : ◌≡◌ {A = Result A F} (Err f) (Ok a) = ap (λ (o : Outcome F A S). o.0) h in
    let z : ◌≡◌ {A = ℕ} 0 1 = cc in omega arith

-- two calls one after another that were answered
pub both_answered : {F A B S : Type 0} (o : Outcome F A S) (k : A → S → Outcome F B S) (b : B) (s' : S) → and_then o k ≡ (Ok b, s') →
    (a : A) × (s : S) × (o ≡ (Ok a, s)) × (k a s ≡ (Ok b, s'))
both_answered {F} {A} {B} {S} o k b s' h = go o.0 o.1 refl h
  where
    go : (r : Result A F) (s : S) → ◌≡◌ {A = Outcome F A S} o (r, s) → and_then (r, s) k ≡ (Ok b, s') → (a : A) × (s : S) × (o ≡ (Ok a, s)) × (k a s ≡ (Ok b, s'))
    go (Ok a) s e h = (a, s, e, h)
    go (Err f) s e h = absurd (never f b s s' h)

module _ {F A S : Type 0} (step : ℕ → A → S → Outcome F A S) (a : A) (s : S) where
  pub up_to_none : up_to step 0 a s ≡ (Ok a, s)
  unfolding up_to
  up_to_none = refl

  -- one step more, which answers r and leaves s''
  pub up_to_more : (k : ℕ) (a' : A) (s' : S) (r : Result A F) (s'' : S) → up_to step k a s ≡ (Ok a', s') → r ≡ (step k a' s').0 → s'' ≡ (step k a' s').1 → up_to step (k + 1) a s ≡ (r, s'')
  unfolding up_to
  up_to_more k a' s' r s'' e p q = rw (add-one) (ap (λ (o : Outcome F A S). and_then o (step k)) e ∙ pair (step k a' s') r s'' p q)

  -- a fault ends the steps
  up_to_stays : (k n : ℕ) (f : F) (s' : S) → k ≤ n → up_to step k a s ≡ (Err f, s') → up_to step n a s ≡ (Err f, s')
  unfolding up_to
  up_to_stays k zero f s' le e = let z : k ≡ 0 = omega arith in rw z at e
  up_to_stays k (suc n) f s' le e =
      ⊎_elim (λ (q : k ≡ suc n). rw q at e)
      (λ (q : k ≡ suc n → ⊥). let r : k ≤ n = omega arith in ap (λ (o : Outcome F A S). and_then o (step n)) (up_to_stays k n f s' r e)) (cases_eq k (suc n))

  -- a fault at the next step ends them there
  pub up_to_fault : (k n : ℕ) (a' : A) (s' : S) (f : F) (s'' : S) → k < n → up_to step k a s ≡ (Ok a', s') → Err f ≡ (step k a' s').0 → s'' ≡ (step k a' s').1 → up_to step n a s ≡ (Err f, s'')
  up_to_fault k n a' s' f s'' lt e p q = up_to_stays (k + 1) n f s'' (omega arith) (up_to_more k a' s' (Err f) s'' e p q)
