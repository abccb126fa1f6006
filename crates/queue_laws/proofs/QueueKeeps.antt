-- A check over a queue keeps what a loyal queue keeps.
use Rattle.std.proofs.Common.{◌≡◌, ℕ, ◌+◌, ◌<◌, ◌≤◌, min, Bool, true, false, cond, eqb, ◌≢◌, is_some, Some, None, Ok, Option, sym, refl, ap, ◌∙◌, subst, ⊎_elim, arith}
use Rattle.std.proofs.lemmas.Bool.{cases_eq, cases_lt, lt-ltb, ne_eqb}
use Rattle.std.proofs.lemmas.Bool.Decides.{nat_tests}
use Rattle.parts.specs.declared.fault.Cause.{Cause}
use Rattle.parts.specs.declared.fault.QueueFault.{QueueFault}
use Rattle.parts.specs.Outcomes.{Outcome}
use Rattle.parts.specs.Queues.{Entries, key_limit, nothing_waits, with_entry, put_declined, remove_declined, Named, QueueMeaning, Holds, Unaltered, Owes, KeepsQueue}
use Rattle.queue_laws.specs.Tables.{Row, Table, with_row, fresh_row, key_in, waiting, first_waiting, raised_bound, raised_row, raised, before_bound, offends}
use Rattle.queue_laws.specs.CheckedQueue.{Chk, fitting, at_below, at_table, puts, removes, leasts, audits, clears, made, Loyal, checked, Fits, StartsLoyal}
use Rattle.queue_laws.proofs.Firsts.{apart, first_some, first_absent}
use Rattle.queue_laws.proofs.Rows.{row_same, row_other, waiting_with, row_of, no_row, waiting_raised, put_accepted, remove_accepted}
use Rattle.queue_laws.proofs.QueueSteps.{put_refused, put_done, remove_refused, remove_done, least_none, least_done, audit_passes, clear_done}

-- a call that is accepted at one capacity is accepted at every larger one
put_room : (m n : ℕ) (e : Entries) (t k : ℕ) → m ≤ n → put_declined m e t k ≡ None → put_declined n e t k ≡ None
put_room m n e t k le h =
    let p = put_accepted m e t k h in
    rw (lt-ltb t n (let a = p.0 in omega arith), lt-ltb k key_limit p.1, p.2)

remove_room : (m n : ℕ) (e : Entries) (t : ℕ) → m ≤ n → remove_declined m e t ≡ None → remove_declined n e t ≡ None
remove_room m n e t le h =
    let p = remove_accepted m e t h in
    rw (lt-ltb t n (let a = p.0 in omega arith), p.1.1)

module _ (q : QueueMeaning) (before : ℕ → ℕ → Bool) where
  -- a row with no key before its bound stays so where a key is named that it is not before
  raised_in_bounds : (k : ℕ) (o : Option Row) → ((j : ℕ) → key_in o ≡ Some j → before j k ≡ false) → offends before o ≡ false → offends before (raised_row before k o) ≡ false
  raised_in_bounds k None least h = refl
  raised_in_bounds k (Some r) least h = by r.bound h
    where
      by : (b : Option ℕ) → before_bound before r.key b ≡ false → before r.key (raised_bound before k b) ≡ false
      by None h = least r.key refl
      by (Some b) h = pick (before b k)
        where
          pick : (c : Bool) → before r.key (cond c k b) ≡ false
          pick true = least r.key refl
          pick false = h

  module _ (keeps : KeepsQueue before q) (s : Chk q before) (l : Loyal q before s) where
    abbrev T : Table
    T = s.table

    abbrev E : Entries
    E = q.entries s.below

    row_none : (t : ℕ) → E t ≡ None → T t ≡ None
    row_none t e = no_row (T t) (ap (λ (f : Entries). f t) (sym l.alike) ∙ e)

    row_some : (t k : ℕ) → E t ≡ Some k → (r : Row) × (T t ≡ Some r) × (r.key ≡ k)
    row_some t k e = row_of (T t) k (ap (λ (f : Entries). f t) (sym l.alike) ∙ e)

    ticket_below : (t k : ℕ) → E t ≡ Some k → t < s.capacity
    ticket_below t k e =
        ⊎_elim (λ h. h) (λ h. let r = row_some t k e in apart (T t) r.0 r.1 (l.own_tickets t h)) (cases_lt t s.capacity)

    -- the check with another queue below and another table
    left_with : (x : q.State) (U : Table) (e : Entries) → Holds q s.below e x → e ≡ waiting U → ((t : ℕ) → s.capacity ≤ t → U t ≡ None) → ((t : ℕ) → offends before (U t) ≡ false) →
        Holds (checked q before) s e (at_table (at_below s x) U)
    left_with x U e h a o b = record {
      loyal = record {
        fit = l.fit;
        unbroken = l.unbroken;
        loyal = h.loyal;
        capacity_below = let c = h.same_capacity in let d = l.capacity_below in omega arith;
        alike = h.entries_are ∙ a;
        own_tickets = o;
        in_bounds = b;
      };
      same_capacity = refl;
      same_height = ap (λ n. min 255 (n + 1)) h.same_height;
      entries_are = h.entries_are;
    }

    as_it_is : Unaltered (checked q before) s s
    as_it_is = record { holds = record { loyal = l; same_capacity = refl; same_height = refl; entries_are = refl }; same_named = refl }

    -- a row in or out
    with_alike : (t : ℕ) (r : Option Row) → with_entry E t (key_in r) ≡ waiting (with_row T t r)
    with_alike t r = ap (λ (e : Entries). with_entry e t (key_in r)) l.alike ∙ sym (waiting_with T t r)

    with_own : (t : ℕ) (r : Option Row) → t < s.capacity → (u : ℕ) → s.capacity ≤ u → with_row T t r u ≡ None
    with_own t r lt u le = row_other T t r u (omega arith) ∙ l.own_tickets u le

    with_in_bounds : (t : ℕ) (r : Option Row) → offends before r ≡ false → (u : ℕ) → offends before (with_row T t r u) ≡ false
    with_in_bounds t r h u =
        ⊎_elim (λ (e : u ≡ t). rw e (ap (offends before) (row_same T t r) ∙ h))
        (λ (ne : u ≢ t). ap (offends before) (row_other T t r u ne) ∙ l.in_bounds u) (cases_eq u t)

    put_owes : (t k : ℕ) (d : Option Cause) → put_declined s.capacity E t k ≡ d → Owes (checked q before) s d t (with_entry E t (Some k)) (puts q before t k s)
    put_owes t k (Some c) e =
        let f = ap (λ (w : Entries). put_declined s.capacity w t k) (sym l.alike) ∙ e in
        rw (put_refused q before s l.unbroken t k c f) (refl, as_it_is)
    put_owes t k None e =
        let f = ap (λ (w : Entries). put_declined s.capacity w t k) (sym l.alike) ∙ e in
        let p = put_accepted s.capacity E t k e in
        let b = subst (λ (d : Option Cause). Owes q s.below d t (with_entry E t (Some k)) (q.put s.below t k)) (put_room s.capacity (q.capacity s.below) E t k l.capacity_below e) (keeps.puts s.below l.loyal t k) in
        rw (put_done q before s l.unbroken t k f b.0)
        (refl, left_with _ _ _ b.1 (with_alike t (Some (fresh_row k))) (with_own t (Some (fresh_row k)) p.0) (with_in_bounds t (Some (fresh_row k)) refl))

    remove_owes : (t : ℕ) (d : Option Cause) → remove_declined s.capacity E t ≡ d → Owes (checked q before) s d t (with_entry E t None) (removes q before t s)
    remove_owes t (Some c) e =
        let f = ap (λ (w : Entries). remove_declined s.capacity w t) (sym l.alike) ∙ e in
        rw (remove_refused q before s l.unbroken t c f) (refl, as_it_is)
    remove_owes t None e =
        let f = ap (λ (w : Entries). remove_declined s.capacity w t) (sym l.alike) ∙ e in
        let p = remove_accepted s.capacity E t e in
        let b = subst (λ (d : Option Cause). Owes q s.below d t (with_entry E t None) (q.remove s.below t)) (remove_room s.capacity (q.capacity s.below) E t l.capacity_below e) (keeps.removes s.below l.loyal t) in
        rw (remove_done q before s l.unbroken t f (l.in_bounds t) b.0)
        (refl, left_with _ _ _ b.1 (with_alike t None) (with_own t None p.0) (with_in_bounds t None refl))

    clear_owes : ((clears q before s).0 ≡ Ok tt) × Holds (checked q before) s nothing_waits (clears q before s).1
    clear_owes =
        let b = keeps.clears s.below l.loyal in
        let z : eqb s.capacity 0 ≡ false = let f = l.fit.0 in ne_eqb s.capacity 0 (omega arith) in
        rw (clear_done q before s l.unbroken z b.0) (refl, left_with _ _ _ b.1 refl (λ t le. refl) (λ t. refl))

    abbrev Leasts : Outcome QueueFault (Option ℕ) (Chk q before) → Type 0
    Leasts o = (o.0 ≡ Ok (q.named s.below)) × Unaltered (checked q before) s o.1

    least_owes : (o : Option ℕ) → q.named s.below ≡ o → Named before E o → Leasts (leasts q before s)
    least_owes None e n =
        let w : first_waiting T s.capacity ≡ None = first_absent (λ t. is_some (T t)) s.capacity (λ t lt. ap is_some (row_none t (n t))) in
        rw (least_none q before s l.unbroken w) (ap Ok (sym e), as_it_is)
    least_owes (Some t) e n =
        let b = keeps.leasts s.below l.loyal in
        let r = row_some t n.0 n.1 in
        let w = first_some (λ u. is_some (T u)) s.capacity t (ticket_below t n.0 n.1) (ap is_some r.1) in
        let least : (u j : ℕ) → key_in (T u) ≡ Some j → before j r.0.key ≡ false =
        λ u j g. rw r.2 (n.2 u j (ap (λ (f : Entries). f u) l.alike ∙ g)) in
        let h = left_with (q.least s.below).1 (raised before T r.0.key) E b.1.holds (l.alike ∙ sym (waiting_raised before T r.0.key))
        (λ u le. ap (raised_row before r.0.key) (l.own_tickets u le)) (λ u. raised_in_bounds r.0.key (T u) (least u) (l.in_bounds u)) in
        rw (least_done q before s l.unbroken w.0 t r.0 w.1 (b.0 ∙ ap Ok e) r.1)
        (ap Ok (sym e), record { holds = h; same_named = b.1.same_named })

    -- a loyal check's audit passes
    pub loyal_audit : audits q before s ≡ (Ok tt, s)
    loyal_audit = audit_passes q before s l.unbroken (first_absent (λ t. offends before (T t)) s.capacity (λ t lt. l.in_bounds t))

  module _ (keeps : KeepsQueue before q) where
    pub checked_keeps : KeepsQueue before (checked q before)
    checked_keeps = record {
      fits = λ s l. l.fit;
      within = λ s l t k e. (ticket_below keeps s l t k e, (keeps.within s.below l.loyal t k e).1);
      names = λ s l. keeps.names s.below l.loyal;
      clears = clear_owes keeps;
      puts = λ s l t k. put_owes keeps s l t k _ refl;
      removes = λ s l t. remove_owes keeps s l t _ refl;
      leasts = λ s l. least_owes keeps s l _ refl (keeps.names s.below l.loyal);
    }

    pub fitting_is : (m : ℕ) (x : q.State) → Fits q before m x → fitting m (q.capacity x) ≡ m
    fitting_is m x f = let a = f.capacity.0 in let b = f.capacity.1 in let c = f.capacity_below in grind (arith, nat_tests)

    made_loyal : (m : ℕ) (x : q.State) → q.loyal x → Fits q before m x → q.entries x ≡ nothing_waits → Loyal q before (made q before m x)
    made_loyal m x h f e =
        let g = fitting_is m x f in
        record {
          fit = rw g f.capacity;
          unbroken = refl;
          loyal = h;
          capacity_below = rw g f.capacity_below;
          alike = e;
          own_tickets = λ t le. refl;
          in_bounds = λ t. refl;
        }

    cleared_loyal : (m : ℕ) (x : q.State) → q.loyal x → Fits q before m x → Loyal q before (clears q before (made q before m x)).1
    cleared_loyal m x h f =
        let g = fitting_is m x f in
        let b = keeps.clears x h in
        let z : eqb (fitting m (q.capacity x)) 0 ≡ false = let a = f.capacity.0 in ne_eqb (fitting m (q.capacity x)) 0 (omega arith) in
        rw (clear_done q before (made q before m x) refl z b.0) (record {
          fit = rw g f.capacity;
          unbroken = refl;
          loyal = b.1.loyal;
          capacity_below = rw g (let c = b.1.same_capacity in let d = f.capacity_below in omega arith);
          alike = b.1.entries_are;
          own_tickets = λ t le. refl;
          in_bounds = λ t. refl;
        })

    pub starts_loyal : (m : ℕ) (x : q.State) → StartsLoyal q before m x (made q before m x)
    starts_loyal m x = record { where_empty = made_loyal m x; once_cleared = cleared_loyal m x }
