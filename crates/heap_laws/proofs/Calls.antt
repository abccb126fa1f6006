-- How the heap's calls end over a loyal store whose words are a heap's.
use Rattle.std.proofs.Common.{◌≡◌, ℕ, ◌+◌, ◌-◌, ◌<◌, ◌≤◌, min, Bool, true, false, cond, ◌||◌, eqb, List, length, set, Some, None, Ok, Err, Result, sym, refl, ap, ◌∙◌, subst, ⊎_elim, arith, pow_pos}
use Rattle.std.proofs.lemmas.List.{length-set}
use Rattle.std.proofs.lemmas.Bool.{cases_eq, ne_eqb, eq-eqb, lt-ltb, le-ltb, le-leb}
use Rattle.std.proofs.lemmas.Bool.Decides.{nat_tests}
use Rattle.parts.specs.declared.fault.QueueFault.{QueueFault}
use Rattle.parts.specs.declared.fault.Cause.{Cause}
use Rattle.parts.specs.declared.fault.Cause.TheVariants.{NoSuchTicket, KeyTooLarge, TicketInUse, NotWaiting}
use Rattle.parts.specs.Outcomes.{and_then}
use Rattle.parts.specs.Meaning.{Meaning, Keeps}
use Rattle.parts.specs.Orders.{OrderLaws}
use Rattle.parts.specs.Queues.{key_limit, found, Entries, with_entry}
use Rattle.heap_laws.specs.Cells.{place_cell, Tree, tree_in, Sound, Ordered, held}
use Rattle.heap_laws.specs.HeapMachine.{On, ticket_at, key_at, seating, put_told, putting, last_seated, last_keyed, vacated, vacating, remove_told, removing, named_is, naming}
use Rattle.heap_laws.proofs.Ends.{Ends, then_ends, finds_ends, read_ends, write_ends}
use Rattle.heap_laws.proofs.Pigeons.{count_fits, has_room}
use Rattle.heap_laws.proofs.Trees.{placed, freed, added_sound, added_held, shorter_sound, filled_sound, filled_held, freed_held}
use Rattle.heap_laws.proofs.Heaps.{Near, added_near, filled_near}
use Rattle.heap_laws.proofs.Words.{Fits, tree_freed}
use Rattle.heap_laws.proofs.Operations.{key_ends, ticket_ends}
use Rattle.heap_laws.proofs.Holes.{Filled, Hole}
use Rattle.heap_laws.proofs.Walks.{seating_ends}

-- words of a heap of n entries in order, in cells that fit
pub record Stands (before : ℕ → ℕ → Bool) (w cap n : ℕ) (xs : List ℕ) : Type 0 where
  pub fits : Fits w cap (length xs)
  pub sound : Sound cap n (tree_in xs)
  pub ordered : Ordered before n (tree_in xs).key

module _ (m : Meaning) (keeps : Keeps m) (before : ℕ → ℕ → Bool) (o : OrderLaws before) (h : ℕ) {w cap n : ℕ} {xs : List ℕ} (g : Stands before w cap n xs) where
  -- a call that is declined for the cause c, over the words xs
  abbrev pub Declined : {X : Type 0} → (m.State → On m X) → Cause → ℕ → Type 0
  Declined f c t = Ends m w h f xs (Err (found c (min 255 (h + 1)) t)) xs

  -- a call that is answered, and leaves words of n entries that wait as told
  abbrev pub Accepted : (m.State → On m (Unit {0})) → ℕ → Entries → Type 0
  Accepted f n told = (ys : List ℕ) × Ends m w h f xs (Ok tt) ys × Filled before cap (length xs) told n ys

  abbrev v : Tree
  v = tree_in xs

  module _ (t : ℕ) where
    module _ (k : ℕ) where
      pub put_no_ticket : cap ≤ t → Declined (putting m before cap n t k) NoSuchTicket t
      put_no_ticket l s d = rw (le-ltb t cap l) (finds_ends m w h NoSuchTicket t s d)

      module _ (l : t < cap) where
        pub put_too_large : key_limit ≤ k → Declined (putting m before cap n t k) KeyTooLarge t
        put_too_large b s d = rw (lt-ltb t cap l, le-ltb k key_limit b) (finds_ends m w h KeyTooLarge t s d)

        module _ (b : k < key_limit) where
          put_by : {r : Result (Unit {0}) QueueFault} {ys : List ℕ} → Ends m w h (put_told m before cap n t k (v.place t)) xs r ys →
              Ends m w h (putting m before cap n t k) xs r ys
          put_by next s d =
              rw (lt-ltb t cap l, lt-ltb k key_limit b) (read_ends m w h keeps (place_cell t) (omega arith) (put_told m before cap n t k) next s d)

          pub put_in_use : 0 < v.place t → Declined (putting m before cap n t k) TicketInUse t
          put_in_use z =
              let q = (g.sound.there t l z).0 in
              put_by (λ s d. rw (ne_eqb (v.place t) 0 (omega arith), le-leb (v.place t) n q) (finds_ends m w h TicketInUse t s d))

          module _ (z : v.place t ≡ 0) where
            abbrev after_put : Entries
            after_put = with_entry (held v) t (Some k)

            put_hole : Hole before cap (length xs) after_put (n + 1) t k xs n
            put_hole = record {
              long = refl;
              inside = omega arith;
              sound = added_sound cap n v g.sound t k l b z;
              holds = added_held cap n v g.sound t k l b z;
              near = added_near before o n k v.key g.ordered;
            }

            pub put_accepted : Accepted (putting m before cap n t k) (n + 1) after_put
            put_accepted =
                let room = has_room cap n v g.sound t l z in
                let q = seating_ends m keeps before o h g.fits after_put (n + 1) (omega arith) t k n xs put_hole in
                let r = q.1 in
                (q.0, put_by (λ s d. rw (eq-eqb (v.place t) 0 z, lt-ltb n cap room) (r s d)), q.2)

    pub remove_no_ticket : cap ≤ t → Declined (removing m before cap n t) NoSuchTicket t
    remove_no_ticket l s d = rw (le-ltb t cap l) (finds_ends m w h NoSuchTicket t s d)

    module _ (l : t < cap) where
      remove_by : {r : Result (Unit {0}) QueueFault} {ys : List ℕ} → Ends m w h (remove_told m before cap n t (v.place t)) xs r ys →
          Ends m w h (removing m before cap n t) xs r ys
      remove_by next s d = rw (lt-ltb t cap l) (read_ends m w h keeps (place_cell t) (omega arith) (remove_told m before cap n t) next s d)

      pub remove_not_waiting : v.place t ≡ 0 → Declined (removing m before cap n t) NotWaiting t
      remove_not_waiting z = remove_by (λ s d. rw (eq-eqb (v.place t) 0 z) (finds_ends m w h NotWaiting t s d))

      module _ (z : 0 < v.place t) where
        abbrev last : ℕ
        last = n - 1

        abbrev e : ℕ
        e = v.place t - 1

        abbrev after_remove : Entries
        after_remove = with_entry (held v) t None

        -- the words in which the ticket no longer waits
        abbrev ys : List ℕ
        ys = set xs (place_cell t) 0

        ys_are : tree_in ys ≡ freed v t
        ys_are = tree_freed xs cap g.fits.cells t l

        long : length ys ≡ length xs
        long = length-set xs (place_cell t) 0

        vacated_by : {zs : List ℕ} → Ends m w h (vacated m before cap last e tt) ys (Ok tt) zs → Ends m w h (removing m before cap n t) xs (Ok tt) zs
        vacated_by {zs} next =
            let q = g.sound.there t l z in let room = count_fits cap n v g.sound in
            let a : v.ticket e < cap = g.sound.tickets e (omega arith) in
            let f : Ends m w h (λ s. and_then (ticket_at m cap e s) (vacating m before cap last e t)) xs (Ok tt) zs =
            then_ends m w h (ticket_at m cap e) (vacating m before cap last e t) (ticket_ends m keeps h xs g.fits e (omega arith) a)
            (λ s d.
            rw (eq-eqb (v.ticket e) t q.1) (write_ends m w h keeps (place_cell t) (omega arith) 0 (pow_pos w) (vacated m before cap last e) next s d)) in
            remove_by (λ s d. rw (ne_eqb (v.place t) 0 (omega arith), le-leb (v.place t) n q.0, le-leb n cap room) (f s d))

        remove_last : e ≡ last → Accepted (removing m before cap n t) last after_remove
        remove_last is = (
          ys,
          vacated_by (λ s d. rw (eq-eqb e last is) (refl, d)),
          record {
            long = long;
            sound = rw ys_are (shorter_sound cap n v g.sound t l z is);
            ordered = subst (λ (u : Tree). Ordered before last u.key) (sym ys_are) (λ i x y. g.ordered i x (omega arith));
            holds = λ u x. ap (λ (y : Tree). held y u) ys_are ∙ freed_held v t u;
          },
        )

        module _ (lt : e < last) where
          remove_hole : Hole before cap (length xs) after_remove last ((tree_in ys).ticket last) ((tree_in ys).key last) ys e
          remove_hole = record {
            long = long;
            inside = lt;
            sound = subst (λ (y : Tree). Sound cap last (placed y e (y.ticket last) (y.key last))) (sym ys_are) (filled_sound cap n v g.sound t l z lt);
            holds = λ x b. ap (λ (y : Tree). held (placed y e (y.ticket last) (y.key last)) x) ys_are ∙ filled_held cap n v g.sound t l z lt x b;
            near =
                subst (λ (y : Tree). Near before last e (placed y e (y.ticket last) (y.key last)).key) (sym ys_are)
                (filled_near before o n e (v.key last) v.key g.ordered lt);
          }

          filled_by : {zs : List ℕ} → Ends m w h (seating m before cap last ((tree_in ys).ticket last) ((tree_in ys).key last) e) ys (Ok tt) zs →
              Ends m w h (removing m before cap n t) xs (Ok tt) zs
          filled_by next =
              let room = count_fits cap n v g.sound in
              let u = (tree_in ys).ticket last in let k = (tree_in ys).key last in
              let a : u < cap = subst (λ (y : Tree). y.ticket last < cap) (sym ys_are) (g.sound.tickets last (omega arith)) in
              let b : k < key_limit = subst (λ (y : Tree). y.key last < key_limit) (sym ys_are) (g.sound.keys last (omega arith)) in
              let f : Fits w cap (length ys) = rw long g.fits in
              let r =
              then_ends m w h (ticket_at m cap last) (last_keyed m before cap last e) (ticket_ends m keeps h ys f last (omega arith) a)
              (then_ends m w h (key_at m last) (last_seated m before cap last e u) (key_ends m keeps h ys f last (omega arith) b) next) in
              vacated_by (λ s d. rw (ne_eqb e last (λ is. omega arith)) (r s d))

          remove_other : Accepted (removing m before cap n t) last after_remove
          remove_other =
              let room = count_fits cap n v g.sound in
              let u = (tree_in ys).ticket last in let k = (tree_in ys).key last in
              let q = seating_ends m keeps before o h g.fits after_remove last (omega arith) u k e ys remove_hole in
              (q.0, filled_by q.1, q.2)

        pub remove_accepted : Accepted (removing m before cap n t) last after_remove
        remove_accepted = let q = g.sound.there t l z in ⊎_elim remove_last (λ (ne : e ≡ last → ⊥). remove_other (omega arith)) (cases_eq e last)

  -- the ticket of entry 0, if there is one
  pub naming_ends : Ends m w h (naming m before cap n) xs (Ok (cond (eqb n 0) None (Some (v.ticket 0)))) xs
  naming_ends = ⊎_elim none some (cases_eq n 0)
    where
      none : n ≡ 0 → Ends m w h (naming m before cap n) xs (Ok (cond (eqb n 0) None (Some (v.ticket 0)))) xs
      none is s d = let c : (eqb cap 0 || eqb n 0) ≡ true = grind (arith, nat_tests) in rw (c, eq-eqb n 0 is) (refl, d)

      some : (n ≡ 0 → ⊥) → Ends m w h (naming m before cap n) xs (Ok (cond (eqb n 0) None (Some (v.ticket 0)))) xs
      some ne x d =
          let room = count_fits cap n v g.sound in
          let c : (eqb cap 0 || eqb n 0) ≡ false = grind (arith, nat_tests) in
          let f = ticket_ends m keeps h xs g.fits 0 (omega arith) (g.sound.tickets 0 (omega arith)) in
          let q = then_ends m w h (ticket_at m cap 0) (named_is m before) f (λ s d. (refl, d)) in
          rw (c, ne_eqb n 0 ne) (q x d)
