-- The ways up and down, one turn at a time: the rest of a way again has as many steps as it can need.
use Rattle.std.proofs.Common.{◌≡◌, ℕ, zero, suc, ◌+◌, ◌-◌, ◌<◌, ◌≤◌, Bool, true, false, cond, eqb, ltb, Ok, Err, Result, refl, ap, arith}
use mathlib.Core.Path.{fun_ext}
use Rattle.std.proofs.lemmas.Bool.{le-ltb}
use Rattle.parts.specs.Outcomes.{Outcome, and_then}
use Rattle.parts.specs.Meaning.{Meaning}
use Rattle.parts.proofs.Steps.{both_answered}
use Rattle.heap_laws.specs.Cells.{parent, left_child, right_child}
use Rattle.heap_laws.specs.HeapMachine.{On, key_at, risen, rising, chosen, beside, first_child, sunk, sinking}

-- what comes after a call matters only at what it answers
then_alike : {F A B S : Type 0} (o : Outcome F A S) (k k' : A → S → Outcome F B S) →
    ((a : A) (s : S) → o ≡ (Ok a, s) → k a s ≡ k' a s) → and_then o k ≡ and_then o k'
then_alike {F} {A} {B} {S} o k k' h = go o.0 o.1 refl
  where
    go : (r : Result A F) (s : S) → ◌≡◌ {A = Outcome F A S} o (r, s) → and_then (r, s) k ≡ and_then (r, s) k'
    go (Ok a) s e = h a s e
    go (Err f) s e = refl

-- what a call answers
same_answer : {F A S : Type 0} (a b : A) (s s' : S) → ◌≡◌ {A = Outcome F A S} (Ok b, s') (Ok a, s) → a ≡ b
same_answer {F} {A} {S} a b s s' h = let e : ◌≡◌ {A = Result A F} (Ok b) (Ok a) = ap (λ (o : Outcome F A S). o.0) h in cc

module _ (m : Meaning) (before : ℕ → ℕ → Bool) (cap k : ℕ) where
  -- the way up from e
  rise : ℕ → (m.State → On m ℕ) → m.State → On m ℕ
  rise e next s = cond (eqb e 0) (Ok e, s) (and_then (key_at m (parent e) s) (risen m before cap k e next))

  rising_level : (f g e : ℕ) → e ≤ f → e ≤ g → (s : m.State) → rising m before f cap k e s ≡ rising m before g cap k e s
  unfolding rising rise
  rising_level zero zero e p q s = refl
  rising_level zero (suc g) e p q s = let z : e ≡ 0 = omega arith in rw z
  rising_level (suc f) zero e p q s = let z : e ≡ 0 = omega arith in rw z
  rising_level (suc f) (suc g) e p q s = ap (λ (next : m.State → On m ℕ). rise e next s) (fun_ext (rising_level f g (parent e) (omega arith) (omega arith)))

  pub rising_turn : (e : ℕ) (s : m.State) → rising m before e cap k e s
      ≡ cond (eqb e 0) (Ok e, s) (and_then (key_at m (parent e) s) (risen m before cap k e (rising m before (parent e) cap k (parent e))))
  unfolding rising rise
  rising_turn zero s = refl
  rising_turn (suc e) s =
      ap (λ (next : m.State → On m ℕ). rise (suc e) next s) (fun_ext (rising_level e (parent (suc e)) (parent (suc e)) (omega arith) (omega arith)))

  -- the way down from e among n entries
  module _ (n : ℕ) where
    below : (e : ℕ) (b : Bool) (left right : ℕ) (s s' : m.State) (c : ℕ × ℕ)
        → ◌≡◌ {A = On m (ℕ × ℕ)} (Ok (cond b (right_child e, right) (left_child e, left)), s) (Ok c, s') → e < c.0
    below e true left right s s' c h = let z : c.0 ≡ right_child e = ap (λ (d : ℕ × ℕ). d.0) (same_answer c _ s' s h) in omega arith
    below e false left right s s' c h = let z : c.0 ≡ left_child e = ap (λ (d : ℕ × ℕ). d.0) (same_answer c _ s' s h) in omega arith

    -- a child is behind its parent
    child_below : (e : ℕ) (s : m.State) (c : ℕ × ℕ) (s' : m.State) → first_child m before n e s ≡ (Ok c, s') → e < c.0
    child_below e s c s' h =
        let q = both_answered (key_at m (left_child e) s) (beside m before n e) c s' h in by_test (ltb (right_child e) n) q.0 q.1 q.3
      where
        by_test : (b : Bool) (left : ℕ) (s : m.State) →
            cond b (and_then (key_at m (right_child e) s) (chosen m before e left)) (Ok (left_child e, left), s) ≡ (Ok c, s') → e < c.0
        by_test true left s h =
            let q = both_answered (key_at m (right_child e) s) (chosen m before e left) c s' h in below e (before q.0 left) left q.0 q.1 s' c q.3
        by_test false left s h = below e false left 0 s s' c h

    sink : ℕ → (ℕ → m.State → On m ℕ) → m.State → On m ℕ
    sink e next s = cond (ltb (left_child e) n) (and_then (first_child m before n e s) (sunk m before cap k e next)) (Ok e, s)

    sink_alike : (e : ℕ) (next next' : ℕ → m.State → On m ℕ) →
        ((c : ℕ) → e < c → (s : m.State) → next c s ≡ next' c s) → (s : m.State) → sink e next s ≡ sink e next' s
    unfolding sink
    sink_alike e next next' h s =
        ap (λ (o : On m ℕ). cond (ltb (left_child e) n) o (Ok e, s))
        (then_alike (first_child m before n e s) (sunk m before cap k e next) (sunk m before cap k e next')
        (λ c s' q. ap (λ (after : m.State → On m ℕ). sunk m before cap k e (λ _. after) c s') (fun_ext (h c.0 (child_below e s c s' q)))))

    sinking_level : (f g e : ℕ) → n ≤ f + e → n ≤ g + e → (s : m.State) → sinking m before f cap n k e s ≡ sinking m before g cap n k e s
    unfolding sinking sink
    sinking_level zero zero e p q s = refl
    sinking_level zero (suc g) e p q s = rw (le-ltb (left_child e) n (omega arith))
    sinking_level (suc f) zero e p q s = rw (le-ltb (left_child e) n (omega arith))
    sinking_level (suc f) (suc g) e p q s =
        sink_alike e (sinking m before f cap n k) (sinking m before g cap n k) (λ c l. sinking_level f g c (omega arith) (omega arith)) s

    pub sinking_turn : (e : ℕ) (s : m.State) → sinking m before (n - e) cap n k e s
        ≡ cond (ltb (left_child e) n) (and_then (first_child m before n e s) (sunk m before cap k e (λ c. sinking m before (n - c) cap n k c))) (Ok e, s)
    unfolding sinking sink
    sinking_turn e s = from (n - e) refl
      where
        from : (f : ℕ) → n - e ≡ f → sinking m before f cap n k e s
            ≡ cond (ltb (left_child e) n) (and_then (first_child m before n e s) (sunk m before cap k e (λ c. sinking m before (n - c) cap n k c))) (Ok e, s)
        from zero p = rw (le-ltb (left_child e) n (omega arith))
        from (suc f) p =
            sink_alike e (sinking m before f cap n k) (λ c. sinking m before (n - c) cap n k c) (λ c l. sinking_level f (n - c) c (omega arith) (omega arith)) s
