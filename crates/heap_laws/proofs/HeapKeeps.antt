-- A heap over a store that keeps its meaning keeps its own.
use Rattle.std.proofs.Common.{◌≡◌, ℕ, ◌+◌, ◌-◌, ◌<◌, ◌≤◌, Bool, Some, None, Ok, Option, subst, ⊎_elim, arith}
use Rattle.std.proofs.lemmas.Bool.{cases_eq, cases_lt, ne_eqb, eq-eqb, lt-ltb, le-ltb}
use Rattle.parts.specs.declared.fault.Cause.{Cause}
use Rattle.parts.specs.declared.fault.Cause.TheVariants.{NoSuchTicket, KeyTooLarge, TicketInUse, NotWaiting}
use Rattle.parts.specs.Meaning.{Meaning, Keeps}
use Rattle.parts.specs.Orders.{OrderLaws}
use Rattle.parts.specs.Queues.{key_limit, Entries, nothing_waits, with_entry, put_declined, remove_declined, Owes, Holds, Unaltered, KeepsQueue}
use Rattle.heap_laws.specs.Cells.{Tree, tree_in, held}
use Rattle.heap_laws.specs.HeapMachine.{Heap, putting, removing, capacity, heap_put, heap_remove, heap_clear, heap_least, Loyal, heap_entries, heap_named, heap, over, made, StartsLoyal}
use Rattle.heap_laws.proofs.Waiting.{cut_with, cut_none, waits_within, names_first}
use Rattle.heap_laws.proofs.Calls.{Stands, Declined, put_no_ticket, put_too_large, put_in_use, put_accepted, remove_no_ticket, remove_not_waiting, remove_accepted, naming_ends}
use Rattle.heap_laws.proofs.Wipes.{wiping_ends, wiped_filled}
use Rattle.heap_laws.proofs.Left.{here, cells_fit, left, unaltered, declined, accepted}

module _ (m : Meaning) (keeps : Keeps m) (before : ℕ → ℕ → Bool) (o : OrderLaws before) where
  clear_does : (s : Heap m.State) → 1 ≤ capacity m before s → m.loyal s.store →
      ((heap_clear m before s).0 ≡ Ok tt) × Holds (heap m before) s nothing_waits (heap_clear m before s).1
  clear_does s fit loyal =
      let f = (cells_fit m keeps before s fit loyal).cells in
      let cap = capacity m before s in let xs = m.cells s.store in
      let q = wiping_ends m keeps before (m.width s.store) (m.height s.store) cap xs f s.store (here m keeps before s fit loyal) in
      let d = left m keeps before s fit loyal q.1 (wiped_filled before cap xs f) in
      (q.0, subst (λ (e : Entries). Holds (heap m before) s e (heap_clear m before s).1) (cut_none cap) d)

  module _ (s : Heap m.State) (b : Loyal m before s) where
    abbrev v : Tree
    v = tree_in (m.cells s.store)

    abbrev cap : ℕ
    cap = capacity m before s

    abbrev entries : Entries
    entries = heap_entries m before s

    stands : Stands before (m.width s.store) cap s.count (m.cells s.store)
    stands = record { fits = cells_fit m keeps before s b.fit b.loyal; sound = b.sound; ordered = b.ordered }

    abbrev h : ℕ
    h = m.height s.store

    module _ (t : ℕ) where
      module _ (k : ℕ) where
        abbrev Put : Option Cause → Type 0
        Put c = Owes (heap m before) s c t (with_entry entries t (Some k)) (heap_put m before s t k)

        put_declines : (c : Cause) → Declined m keeps before o h stands (putting m before cap s.count t k) c t → Put (Some c)
        put_declines c p = declined m keeps before s b (putting m before cap s.count t k) (s.count + 1) t c (with_entry entries t (Some k)) p

        puts_free : t < cap → k < key_limit → v.place t ≡ 0 → Put None
        puts_free l a z =
            accepted m keeps before s b (putting m before cap s.count t k) (s.count + 1) t (with_entry entries t (Some k)) (with_entry (held v) t (Some k))
            (cut_with cap (held v) t (Some k) l) (put_accepted m keeps before o h stands t k l a z)

        puts : Put (put_declined cap entries t k)
        puts =
            ⊎_elim
            (λ (l : t < cap). let in_range = lt-ltb t cap l in
            ⊎_elim
            (λ (a : k < key_limit). let small = lt-ltb k key_limit a in
            ⊎_elim
            (λ (z : v.place t ≡ 0).
            let c : put_declined cap entries t k ≡ None = rw (in_range, small, eq-eqb (v.place t) 0 z) in
            rw c (puts_free l a z))
            (λ (nz : v.place t ≡ 0 → ⊥).
            let c : put_declined cap entries t k ≡ Some TicketInUse = rw (in_range, small, ne_eqb (v.place t) 0 nz) in
            rw c (put_declines TicketInUse (put_in_use m keeps before o h stands t k l a (omega arith)))) (cases_eq (v.place t) 0))
            (λ (a : key_limit ≤ k).
            let c : put_declined cap entries t k ≡ Some KeyTooLarge = rw (in_range, le-ltb k key_limit a) in
            rw c (put_declines KeyTooLarge (put_too_large m keeps before o h stands t k l a))) (cases_lt k key_limit))
            (λ (l : cap ≤ t).
            let c : put_declined cap entries t k ≡ Some NoSuchTicket = rw (le-ltb t cap l) in
            rw c (put_declines NoSuchTicket (put_no_ticket m keeps before o h stands t k l))) (cases_lt t cap)

      abbrev Remove : Option Cause → Type 0
      Remove c = Owes (heap m before) s c t (with_entry entries t None) (heap_remove m before s t)

      remove_declines : (c : Cause) → Declined m keeps before o h stands (removing m before cap s.count t) c t → Remove (Some c)
      remove_declines c p = declined m keeps before s b (removing m before cap s.count t) (s.count - 1) t c (with_entry entries t None) p

      removes_waiting : t < cap → 0 < v.place t → Remove None
      removes_waiting l z =
          accepted m keeps before s b (removing m before cap s.count t) (s.count - 1) t (with_entry entries t None) (with_entry (held v) t None)
          (cut_with cap (held v) t None l) (remove_accepted m keeps before o h stands t l z)

      removes : Remove (remove_declined cap entries t)
      removes =
          ⊎_elim
          (λ (l : t < cap). let in_range = lt-ltb t cap l in
          ⊎_elim
          (λ (z : v.place t ≡ 0).
          let c : remove_declined cap entries t ≡ Some NotWaiting = rw (in_range, eq-eqb (v.place t) 0 z) in
          rw c (remove_declines NotWaiting (remove_not_waiting m keeps before o h stands t l z)))
          (λ (nz : v.place t ≡ 0 → ⊥).
          let c : remove_declined cap entries t ≡ None = rw (in_range, ne_eqb (v.place t) 0 nz) in
          rw c (removes_waiting l (omega arith))) (cases_eq (v.place t) 0))
          (λ (l : cap ≤ t).
          let c : remove_declined cap entries t ≡ Some NoSuchTicket = rw (le-ltb t cap l) in
          rw c (remove_declines NoSuchTicket (remove_no_ticket m keeps before o h stands t l))) (cases_lt t cap)

    leasts : ((heap_least m before s).0 ≡ Ok (heap_named m before s)) × Unaltered (heap m before) s (heap_least m before s).1
    leasts =
        let q = naming_ends m keeps before o h stands s.store (here m keeps before s b.fit b.loyal) in
        (q.0, unaltered m keeps before s b q.1)

  pub heap_keeps : KeepsQueue before (heap m before)
  heap_keeps = record {
    fits = λ s b. (b.fit, (cells_fit m keeps before s b.fit b.loyal).few);
    within = λ s b. waits_within b.sound;
    names = λ s b. names_first before o b.sound b.ordered;
    clears = λ s b. clear_does s b.fit b.loyal;
    puts = puts;
    removes = removes;
    leasts = leasts;
  }

  pub starts_loyal : (s : m.State) → StartsLoyal m before s (made m before s)
  starts_loyal s loyal fit = (clear_does (over m before s) fit loyal).1
