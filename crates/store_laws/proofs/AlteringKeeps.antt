use Rattle.std.proofs.Common.{◌≡◌, ℕ, ◌-◌, ◌<◌, ◌≤◌, List, [], ◌∷◌, length, get_or, take, drop, refl, arith, take_all}
use Rattle.std.proofs.lemmas.Bool.{le-leb, lt-leb}
use Rattle.parts.specs.Meaning.{Meaning, Keeps, Holds}
use Rattle.store_laws.specs.declared.Alteration.{Alteration}
use Rattle.store_laws.specs.AlteringMachine.{Altered, due, after_due, altering}

module _ (m : Meaning) where
  -- nothing is due where nothing is to come
  pub due_none : (xs : List Alteration) (n : ℕ) (s : m.State) → length xs ≤ 0 → due m xs n s ≡ record { store = s; coming = xs; count = n }
  unfolding due
  due_none [] n s le = refl
  due_none (x ∷ xs) n s le = absurd (omega arith)

  -- the first is due now
  pub due_now : (xs : List Alteration) (d : Alteration) (n : ℕ) (s : m.State) → 0 < length xs → (get_or xs 0 d).after ≤ n →
      due m (take (length xs - 1) (drop 1 xs)) n (m.write s (get_or xs 0 d).cell (get_or xs 0 d).word).1 ≡ due m xs n s
  unfolding due
  due_now [] d n s lt le = absurd (omega arith)
  due_now (x ∷ xs) d n s lt le = rw (le-leb x.after n le, take_all (length (x ∷ xs) - 1) xs (omega arith)) refl

  -- the first is due later
  pub due_later : (xs : List Alteration) (d : Alteration) (n : ℕ) (s : m.State) → 0 < length xs → n < (get_or xs 0 d).after → due m xs n s ≡ record { store = s; coming = xs; count = n }
  unfolding due
  due_later [] d n s lo lt = absurd (omega arith)
  due_later (x ∷ xs) d n s lo lt = rw (lt-leb x.after n lt) refl

  module _ (k : Keeps m) where
    settled : (s : Altered m.State) → s.coming ≡ [] → after_due m s ≡ s
    unfolding due
    settled s e = rw e refl

    -- what the store below keeps, where nothing is to come
    lifted : {w h : ℕ} {xs : List ℕ} (s : m.State) (c : ℕ) (l : List Alteration) → l ≡ [] → Holds m w h xs s → Holds (altering m) w h xs (record { store = s; coming = l; count = c })
    lifted s c l e d = record { loyal = (d.loyal, e); cells_are = d.cells_are; width_is = d.width_is; height_is = d.height_is }

    pub altering_keeps : Keeps (altering m)
    altering_keeps = record {
      sized = λ s h. k.sized s.store h.0;
      below = λ s h. k.below s.store h.0;
      reads = λ s h a. rw (settled s h.1) (k.reads s.store h.0 a);
      read_leaves = λ s h a. rw (settled s h.1) (lifted _ _ _ h.1 (k.read_leaves s.store h.0 a));
      writes = λ s h a v. rw (settled s h.1) (k.writes s.store h.0 a v);
      write_leaves = λ s h a v. rw (settled s h.1) (lifted _ _ _ h.1 (k.write_leaves s.store h.0 a v));
    }
