-- How calls over a loyal store end.
use Rattle.std.proofs.Common.{◌≡◌, ℕ, ◌+◌, ◌^◌, ◌<◌, min, Bool, true, false, cond, List, length, get_or, set, Ok, Err, Result, sym, ap, subst}
use Rattle.parts.specs.declared.fault.Fault.{Fault}
use Rattle.parts.specs.declared.fault.Cause.{Cause}
use Rattle.parts.specs.declared.fault.QueueFault.{QueueFault}
use Rattle.parts.specs.Outcomes.{and_then}
use Rattle.parts.specs.Meaning.{Meaning, Keeps, Holds}
use Rattle.parts.specs.Queues.{found}
use Rattle.parts.proofs.Clauses.{read_is, read_holds, write_is, write_holds}
use Rattle.heap_laws.specs.HeapMachine.{On, calling, finds}

module _ (m : Meaning) (w h : ℕ) where
  -- over a loyal store that holds the words xs the call ends in r, and leaves a loyal store that holds ys
  abbrev pub Ends : {X : Type 0} → (m.State → On m X) → List ℕ → Result X QueueFault → List ℕ → Type 0
  Ends f xs r ys = (s : m.State) → Holds m w h xs s → ((f s).0 ≡ r) × Holds m w h ys (f s).1

  -- two calls, of which the first is answered
  pub then_ends : {X Y : Type 0} {a : X} {xs ys zs : List ℕ} {r : Result Y QueueFault} (f : m.State → On m X) (k : X → m.State → On m Y) →
      Ends f xs (Ok a) ys → Ends (k a) ys r zs → Ends (λ s. and_then (f s) k) xs r zs
  then_ends {X} {Y} {a} {xs} {ys} {zs} {r} f k first next s d =
      let c = first s d in
      subst (λ (x : Result X QueueFault). ((and_then (x, (f s).1) k).0 ≡ r) × Holds m w h zs (and_then (x, (f s).1) k).1) (sym c.0) (next (f s).1 c.1)

  -- a call that is one of two by a test
  module _ {X : Type 0} {xs ys : List ℕ} {r : Result X QueueFault} (b : Bool) (f g : m.State → On m X) where
    pub if_ends : b ≡ true → Ends f xs r ys → Ends (λ s. cond b (f s) (g s)) xs r ys
    if_ends e c s d = rw e (c s d)

    pub else_ends : b ≡ false → Ends g xs r ys → Ends (λ s. cond b (f s) (g s)) xs r ys
    else_ends e c s d = rw e (c s d)

  pub finds_ends : {X : Type 0} {xs : List ℕ} (c : Cause) (t : ℕ) → Ends {X = X} (finds m c t) xs (Err (found c (min 255 (h + 1)) t)) xs
  finds_ends {X} c t s d = (ap (λ (g : ℕ). Err (found c (min 255 (g + 1)) t)) d.height_is, d)

  module _ (keeps : Keeps m) {Y : Type 0} {xs ys : List ℕ} {r : Result Y QueueFault} (a : ℕ) (lt : a < length xs) where
    -- a read, and what comes after it
    pub read_ends : (k : ℕ → m.State → On m Y) → Ends (k (get_or xs a 0)) xs r ys → Ends (λ s. calling m (m.read s a) k) xs r ys
    read_ends k next s d =
        let g = λ (x : Result ℕ Fault). calling m (x, (m.read s a).1) k in
        subst (λ (x : Result ℕ Fault). ((g x).0 ≡ r) × Holds m w h ys (g x).1) (sym (read_is m keeps w h xs s d a lt))
        (next (m.read s a).1 (read_holds m keeps w h xs s d a))

    -- a write, and what comes after it
    pub write_ends : (v : ℕ) → v < 2 ^ w → (k : Unit {0} → m.State → On m Y) → Ends (k tt) (set xs a v) r ys → Ends (λ s. calling m (m.write s a v) k) xs r ys
    write_ends v lv k next s d =
        let g = λ (x : Result (Unit {0}) Fault). calling m (x, (m.write s a v).1) k in
        subst (λ (x : Result (Unit {0}) Fault). ((g x).0 ≡ r) × Holds m w h ys (g x).1) (sym (write_is m keeps w h xs s d a lt v lv))
        (next (m.write s a v).1 (write_holds m keeps w h xs s d a lt v lv))
