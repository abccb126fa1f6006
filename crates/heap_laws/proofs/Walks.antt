-- The ways up and down over a loyal store, and what stands in order at their ends.
use Rattle.std.proofs.Common.{◌≡◌, ℕ, zero, suc, ◌+◌, ◌-◌, ◌<◌, ◌≤◌, Bool, true, false, eqb, ltb, List, length, Ok, refl, ◌∙◌, ap₂, ⊎_elim, arith}
use Rattle.std.proofs.lemmas.Bool.{cases_Bool, cases_eq, cases_lt, ne_eqb, eq-eqb, lt-ltb, le-ltb}
use Rattle.parts.specs.Outcomes.{and_then}
use Rattle.parts.specs.Meaning.{Meaning, Keeps}
use Rattle.parts.specs.Orders.{OrderLaws}
use Rattle.parts.specs.Queues.{key_limit, Entries}
use Rattle.heap_laws.specs.Cells.{parent, left_child, right_child, tree_in}
use Rattle.heap_laws.specs.HeapMachine.{On, key_at, moving, onward, risen, rising, chosen, beside, first_child, sunk, sinking, or_down, way, seated, seating}
use Rattle.heap_laws.proofs.Ends.{Ends, then_ends, if_ends, else_ends}
use Rattle.heap_laws.proofs.Heaps.{Under, Over, First, left_only, left_first, right_first}
use Rattle.heap_laws.proofs.Words.{Fits, seat, shifted}
use Rattle.heap_laws.proofs.Holes.{Filled, keyed, Hole, key_fits, ticket_fits, seated_filled, other_key, other_key_fits, other_ticket_fits}
use Rattle.heap_laws.proofs.Holes.{above, above_other, stays_over, rises_hole, rises_under, child_other, stays_under, sinks_hole, sunk_over}
use Rattle.heap_laws.proofs.Operations.{key_ends, placing_ends, moving_ends}

module _ (m : Meaning) (keeps : Keeps m) (before : ℕ → ℕ → Bool) (o : OrderLaws before) (h : ℕ) {w cap size : ℕ} (f : Fits w cap size)
    (told : Entries) (n : ℕ) (room : n ≤ cap) (t k : ℕ) where
  abbrev Free : List ℕ → ℕ → Type 0
  Free = Hole before cap size told n t k

  -- the calls for an entry i other than that at the free place
  module _ (xs : List ℕ) (e : ℕ) (b : Free xs e) where
    fits : Fits w cap (length xs)
    fits = rw b.long f

    module _ (i : ℕ) (l : i < n) (ne : i ≡ e → ⊥) where
      key_fit : (tree_in xs).key i < key_limit
      key_fit = other_key_fits o f.cells room b i l ne

      its_key_ends : Ends m w h (key_at m i) xs (Ok ((tree_in xs).key i)) xs
      its_key_ends = key_ends m keeps h xs fits i (omega arith) key_fit

      -- it moves to the free place, and the way goes on
      move_ends : {u : ℕ} {ys : List ℕ} (next : m.State → On m ℕ) → Ends m w h next (shifted xs i e) (Ok u) ys →
          Ends m w h (λ s. and_then (moving m cap i e ((tree_in xs).key i) s) (onward m before next)) xs (Ok u) ys
      move_ends next =
          let p = b.inside in
          then_ends m w h (moving m cap i e ((tree_in xs).key i)) (onward m before next)
          (moving_ends m keeps h xs fits i e (omega arith) (omega arith) (other_ticket_fits o f.cells room b i l ne) key_fit)

  -- The way up from `top`, as far as the free place e.
  record Risen (top : ℕ) (xs : List ℕ) (e : ℕ) : Type 0 where
    hole : Free xs e
    high : e ≤ top
    under : (e ≡ top → ⊥) → Under before n e (keyed xs e k)

  abbrev Rises : ℕ → ℕ → ℕ → List ℕ → Type 0
  Rises top steps e xs = (u : ℕ) × (ys : List ℕ) × Ends m w h (rising m before steps cap k e) xs (Ok u) ys × Risen top ys u × Over before u (keyed ys u k)

  module _ (top steps e : ℕ) (xs : List ℕ) (b : Risen top xs e) where
    rises_root : e ≡ 0 → Rises top (suc steps) e xs
    unfolding rising
    rises_root z = (e, xs, λ s d. rw (eq-eqb e 0 z) (refl, d), b, λ p. absurd (omega arith))

    module _ (nz : e ≡ 0 → ⊥) where
      abbrev up_next : m.State → On m ℕ
      up_next = rising m before steps cap k (parent e)

      abbrev key_above : ℕ
      key_above = (tree_in xs).key (parent e)

      lies : parent e < n
      lies = above o f.cells room b.hole nz

      other : parent e ≡ e → ⊥
      other = above_other o f.cells room b.hole nz

      rises_by : {u : ℕ} {ys : List ℕ} → Ends m w h (risen m before cap k e up_next key_above) xs (Ok u) ys →
          Ends m w h (rising m before (suc steps) cap k e) xs (Ok u) ys
      unfolding rising
      rises_by p =
          else_ends m w h (eqb e 0) (λ s. (Ok e, s)) (λ s. and_then (key_at m (parent e) s) (risen m before cap k e up_next)) (ne_eqb e 0 nz)
          (then_ends m w h (key_at m (parent e)) (risen m before cap k e up_next) (its_key_ends xs e b.hole (parent e) lies other) p)

      rises_stop : before k key_above ≡ false → Rises top (suc steps) e xs
      rises_stop p = (e, xs, rises_by (λ s d. rw p (refl, d)), b, stays_over o f.cells room b.hole nz p)

      rises_turn : before k key_above ≡ true → Rises top steps (parent e) (shifted xs (parent e) e) → Rises top (suc steps) e xs
      rises_turn p q = let r = move_ends xs e b.hole (parent e) lies other up_next q.2 in (q.0, q.1, rises_by (λ s d. rw p (r s d)), q.3, q.4)

      goes_up : before k key_above ≡ true → Risen top (shifted xs (parent e) e) (parent e)
      goes_up p = record {
        hole = rises_hole o f.cells room b.hole nz p;
        high = let r = b.high in omega arith;
        under = λ _. rises_under o f.cells room b.hole nz p;
      }

  rising_ends : (top steps e : ℕ) → e ≤ steps → (xs : List ℕ) → Risen top xs e → Rises top steps e xs
  unfolding rising
  rising_ends top zero e le xs b = (e, xs, λ s d. (refl, d), b, λ z. absurd (omega arith))
  rising_ends top (suc steps) e le xs b =
      ⊎_elim (rises_root top steps e xs b)
      (λ (nz : e ≡ 0 → ⊥).
      ⊎_elim
      (λ (p : before k ((tree_in xs).key (parent e)) ≡ true).
      rises_turn top steps e xs b nz p (rising_ends top steps (parent e) (omega arith) (shifted xs (parent e) e) (goes_up top steps e xs b nz p)))
      (rises_stop top steps e xs b nz) (cases_Bool (before k ((tree_in xs).key (parent e)))))
      (cases_eq e 0)

  -- the first child of the free place
  module _ (e : ℕ) (xs : List ℕ) (b : Free xs e) (l : left_child e < n) where
    abbrev left_key : ℕ
    left_key = (tree_in xs).key (left_child e)

    abbrev Chosen : ℕ → Type 0
    Chosen c = Ends m w h (first_child m before n e) xs (Ok (c, (tree_in xs).key c)) xs

    abbrev Chooses : ℕ → Type 0
    Chooses c = First before n e (keyed xs e k) c × Chosen c

    chosen_by : {c : ℕ} → Ends m w h (beside m before n e left_key) xs (Ok (c, (tree_in xs).key c)) xs → Chosen c
    chosen_by p = then_ends m w h (key_at m (left_child e)) (beside m before n e) (its_key_ends xs e b (left_child e) l (λ is. omega arith)) p

    one_child : n ≤ right_child e → Chooses (left_child e)
    one_child le = (left_only before o n e (keyed xs e k) l le, chosen_by (λ s d. rw (le-ltb (right_child e) n le) (refl, d)))

    module _ (r : right_child e < n) where
      abbrev right_key : ℕ
      right_key = (tree_in xs).key (right_child e)

      compared : before (keyed xs e k (right_child e)) (keyed xs e k (left_child e)) ≡ before right_key left_key
      compared =
          ap₂ before (other_key o f.cells room b (right_child e) r (λ is. omega arith)) (other_key o f.cells room b (left_child e) l (λ is. omega arith))

      of_two : {c : ℕ} → Ends m w h (chosen m before e left_key right_key) xs (Ok (c, (tree_in xs).key c)) xs → Chosen c
      of_two p =
          chosen_by
          (if_ends m w h (ltb (right_child e) n) (λ s. and_then (key_at m (right_child e) s) (chosen m before e left_key))
          (λ s. (Ok (left_child e, left_key), s)) (lt-ltb (right_child e) n r)
          (then_ends m w h (key_at m (right_child e)) (chosen m before e left_key) (its_key_ends xs e b (right_child e) r (λ is. omega arith)) p))

      choose_right : before right_key left_key ≡ true → Chooses (right_child e)
      choose_right p = (right_first before o n e (keyed xs e k) r (compared ∙ p), of_two (λ s d. rw p (refl, d)))

      choose_left : before right_key left_key ≡ false → Chooses (left_child e)
      choose_left p = (left_first before o n e (keyed xs e k) r (compared ∙ p), of_two (λ s d. rw p (refl, d)))

      choose : (c : ℕ) × Chooses c
      choose =
          ⊎_elim (λ (p : before right_key left_key ≡ true). (right_child e, choose_right p))
          (λ (p : before right_key left_key ≡ false). (left_child e, choose_left p)) (cases_Bool (before right_key left_key))

    first_child_ends : (c : ℕ) × Chooses c
    first_child_ends = ⊎_elim choose (λ (le : n ≤ right_child e). (left_child e, one_child le)) (cases_lt (right_child e) n)

  -- a free place at which the entry is in order
  record Settled (xs : List ℕ) (e : ℕ) : Type 0 where
    hole : Free xs e
    over : Over before e (keyed xs e k)
    under : Under before n e (keyed xs e k)

  abbrev Sinks : ℕ → ℕ → List ℕ → Type 0
  Sinks steps e xs = (u : ℕ) × (ys : List ℕ) × Ends m w h (sinking m before steps cap n k e) xs (Ok u) ys × Settled ys u

  module _ (e : ℕ) (xs : List ℕ) (b : Free xs e) where
    leaf : n ≤ left_child e → Over before e (keyed xs e k) → Settled xs e
    leaf l v = record { hole = b; over = v; under = λ i x y p. absurd (omega arith) }

    sinks_leaf : (steps : ℕ) → n ≤ left_child e → Over before e (keyed xs e k) → Sinks steps e xs
    unfolding sinking
    sinks_leaf zero l v = (e, xs, λ s d. (refl, d), leaf l v)
    sinks_leaf (suc steps) l v = (e, xs, λ s d. rw (le-ltb (left_child e) n l) (refl, d), leaf l v)

    module _ (steps : ℕ) (l : left_child e < n) (c : ℕ) (first : Chooses e xs b l c) where
      abbrev down_next : ℕ → m.State → On m ℕ
      down_next = sinking m before steps cap n k

      sinks_by : {u : ℕ} {ys : List ℕ} → Ends m w h (sunk m before cap k e down_next (c, (tree_in xs).key c)) xs (Ok u) ys →
          Ends m w h (sinking m before (suc steps) cap n k e) xs (Ok u) ys
      unfolding sinking
      sinks_by p =
          if_ends m w h (ltb (left_child e) n) (λ s. and_then (first_child m before n e s) (sunk m before cap k e down_next)) (λ s. (Ok e, s))
          (lt-ltb (left_child e) n l)
          (then_ends m w h (first_child m before n e) (sunk m before cap k e down_next) first.1 p)

      sinks_stop : Over before e (keyed xs e k) → before ((tree_in xs).key c) k ≡ false → Sinks (suc steps) e xs
      sinks_stop v p = (e, xs, sinks_by (λ s d. rw p (refl, d)), record { hole = b; over = v; under = stays_under o f.cells room b c first.0 p })

      sinks_turn : before ((tree_in xs).key c) k ≡ true → Sinks steps c (shifted xs c e) → Sinks (suc steps) e xs
      sinks_turn p q =
          let r = move_ends xs e b c first.0.inside (child_other o f.cells room b c first.0) (down_next c) q.2 in
          (q.0, q.1, sinks_by (λ s d. rw p (r s d)), q.3)

  sinking_ends : (steps e : ℕ) → n ≤ steps + e → (xs : List ℕ) (b : Free xs e) → Over before e (keyed xs e k) → Sinks steps e xs
  sinking_ends zero e le xs b v = sinks_leaf e xs b zero (omega arith) v
  sinking_ends (suc steps) e le xs b v =
      ⊎_elim
      (λ (l : left_child e < n).
      let q = first_child_ends e xs b l in let c = q.0 in let z = q.1.0.behind in
      ⊎_elim
      (λ (p : before ((tree_in xs).key c) k ≡ true).
      sinks_turn e xs b steps l c q.1 p
      (sinking_ends steps c (omega arith) (shifted xs c e) (sinks_hole o f.cells room b c q.1.0) (sunk_over o f.cells room b c q.1.0 p)))
      (sinks_stop e xs b steps l c q.1 v) (cases_Bool (before ((tree_in xs).key c) k)))
      (λ (l : n ≤ left_child e). sinks_leaf e xs b (suc steps) l v) (cases_lt (left_child e) n)

  -- up, or else down
  module _ (e : ℕ) (xs : List ℕ) (b : Free xs e) where
    abbrev Ways : Type 0
    Ways = (u : ℕ) × (ys : List ℕ) × Ends m w h (way m before cap n k e) xs (Ok u) ys × Settled ys u

    module _ (q : Rises e e e xs) where
      way_by : {u : ℕ} {ys : List ℕ} → Ends m w h (or_down m before cap n k e q.0) q.1 (Ok u) ys → Ends m w h (way m before cap n k e) xs (Ok u) ys
      way_by p = then_ends m w h (rising m before e cap k e) (or_down m before cap n k e) q.2 p

      way_up : (q.0 ≡ e → ⊥) → Ways
      way_up ne = (q.0, q.1, way_by (λ s d. rw (ne_eqb q.0 e ne) (refl, d)), record { hole = q.3.hole; over = q.4; under = q.3.under ne })

      way_down : q.0 ≡ e → Sinks (n - e) e q.1 → Ways
      way_down is r = let p = r.2 in (r.0, r.1, way_by (λ s d. rw (eq-eqb q.0 e is) (p s d)), r.3)

      either_way : Ways
      either_way =
          ⊎_elim (λ (is : q.0 ≡ e). way_down is (sinking_ends (n - e) e (omega arith) q.1 (rw is at q.3.hole) (rw is at q.4))) way_up
          (cases_eq q.0 e)

    way_ends : Ways
    way_ends = either_way (rising_ends e e e (omega arith) xs (record { hole = b; high = omega arith; under = λ (ne : e ≡ e → ⊥). absurd (ne refl) }))

    -- the entry takes its place, and the words are a heap's
    pub seating_ends : (ys : List ℕ) × Ends m w h (seating m before cap n t k e) xs (Ok tt) ys × Filled before cap size told n ys
    seating_ends =
        let q = way_ends in let u = q.0 in let g = q.3.hole in let l = g.inside in (
          seat q.1 u t k,
          then_ends m w h (way m before cap n k e) (seated m before t k) q.2
              (placing_ends m keeps h q.1 (fits q.1 u g) u (omega arith) t k (ticket_fits o f.cells room g) (key_fits o f.cells room g)),
          seated_filled o f.cells room g q.3.over q.3.under,
        )
