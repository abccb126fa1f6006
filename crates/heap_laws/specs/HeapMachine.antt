-- The binary heap over any store, as a machine of plain values.
use Rattle.std.specs.Prelude.{ℕ, zero, suc, ◌+◌, ◌-◌, ◌≤◌, min, Bool, cond, ◌&&◌, ◌||◌, Some, None, Ok, Err, Option, ◌==◌, nat_le, nat_lt}
use Rattle.parts.specs.declared.fault.Fault.{Fault}
use Rattle.parts.specs.declared.fault.Cause.{Cause}
use Rattle.parts.specs.declared.fault.Cause.TheVariants.{NoSuchTicket, KeyTooLarge, TicketInUse, NotWaiting, SenselessCell}
use Rattle.parts.specs.declared.fault.QueueFault.{QueueFault}
use Rattle.parts.specs.declared.fault.QueueFault.TheVariants.{Store}
use Rattle.parts.specs.Outcomes.{Outcome, and_then, up_to}
use Rattle.parts.specs.Meaning.{Meaning}
use Rattle.parts.specs.Queues.{key_limit, found, Entries, nothing_waits, QueueMeaning, Holds}
use Rattle.heap_laws.specs.Cells.{room, ticket_cell, key_cell, place_cell, parent, left_child, right_child, tree_in, Sound, Ordered, held}

-- The store below, and the count of entries, which is all that the heap holds itself.
pub record Heap (S : Type 0) : Type 0 where
  pub store : S
  pub count : ℕ

module _ (m : Meaning) where
  abbrev pub On : Type 0 → Type 0
  On X = Outcome QueueFault X m.State

  -- a call of the store, and what comes after it; a fault of the store is handed up whole
  abbrev pub calling : {X Y : Type 0} → Outcome Fault X m.State → (X → m.State → On Y) → On Y
  calling o k = elim o.0 [ Ok x ↦ k x o.1 | Err f ↦ (Err (Store f), o.1) ]

  -- what the heap finds, over the store as it is then
  abbrev pub finds : {X : Type 0} → Cause → ℕ → m.State → On X
  finds c t s = (Err (found c (min 255 (m.height s + 1)) t), s)

  abbrev pub senseless : {X : Type 0} → m.State → On X
  senseless s = finds SenselessCell 0 s

  -- the ticket of an entry: one that is no ticket makes no sense
  abbrev pub as_ticket : ℕ → ℕ → m.State → On ℕ
  as_ticket cap t s = cond (nat_lt t cap) (Ok t, s) (senseless s)

  abbrev pub ticket_at : ℕ → ℕ → m.State → On ℕ
  ticket_at cap e s = calling (m.read s (ticket_cell e)) (as_ticket cap)

  -- the key of an entry: one that is no key makes no sense
  abbrev pub as_key : ℕ → m.State → On ℕ
  as_key k s = cond (nat_lt k key_limit) (Ok k, s) (senseless s)

  abbrev pub key_at : ℕ → m.State → On ℕ
  key_at e s = calling (m.read s (key_cell e)) as_key

  -- an entry is written at e: its ticket, its key, and where the ticket is
  abbrev pub all_written : Unit {0} → m.State → On (Unit {0})
  all_written _ s = (Ok tt, s)

  abbrev pub key_written : ℕ → ℕ → Unit {0} → m.State → On (Unit {0})
  key_written e t _ s = calling (m.write s (place_cell t) (e + 1)) all_written

  abbrev pub ticket_written : ℕ → ℕ → ℕ → Unit {0} → m.State → On (Unit {0})
  ticket_written e t k _ s = calling (m.write s (key_cell e) k) (key_written e t)

  abbrev pub placing : ℕ → ℕ → ℕ → m.State → On (Unit {0})
  placing e t k s = calling (m.write s (ticket_cell e) t) (ticket_written e t k)

  -- the entry at `from`, whose key is k, moves to the free place `to`
  abbrev pub placed_at : ℕ → ℕ → ℕ → m.State → On (Unit {0})
  placed_at to k t s = placing to t k s

  abbrev pub moving : ℕ → ℕ → ℕ → ℕ → m.State → On (Unit {0})
  moving cap from to k s = and_then (ticket_at cap from s) (placed_at to k)

  module _ (before : ℕ → ℕ → Bool) where
    abbrev pub onward : (m.State → On ℕ) → Unit {0} → m.State → On ℕ
    onward next _ s = next s

    -- The way up of an entry of key k from the free place e: while it is before the entry above, that one moves down. The answer
    -- is the place that is free then. j is the key of the entry above.
    abbrev pub risen : ℕ → ℕ → ℕ → (m.State → On ℕ) → ℕ → m.State → On ℕ
    risen cap k e next j s = cond (before k j) (and_then (moving cap (parent e) e j s) (onward next)) (Ok e, s)

    unfoldable pub rising : ℕ → ℕ → ℕ → ℕ → m.State → On ℕ
    rising zero cap k e s = (Ok e, s)
    rising (suc steps) cap k e s = cond (e == 0) (Ok e, s) (and_then (key_at (parent e) s) (risen cap k e (rising steps cap k (parent e))))

    -- of the children of e among n entries, one that the other is not before, and its key: of equal ones the left
    abbrev pub chosen : ℕ → ℕ → ℕ → m.State → On (ℕ × ℕ)
    chosen e left right s = (Ok (cond (before right left) (right_child e, right) (left_child e, left)), s)

    abbrev pub beside : ℕ → ℕ → ℕ → m.State → On (ℕ × ℕ)
    beside n e left s = cond (nat_lt (right_child e) n) (and_then (key_at (right_child e) s) (chosen e left)) (Ok (left_child e, left), s)

    abbrev pub first_child : ℕ → ℕ → m.State → On (ℕ × ℕ)
    first_child n e s = and_then (key_at (left_child e) s) (beside n e)

    -- The way down from the free place e among n entries: while that child is before it, the child moves up.
    abbrev pub sunk : ℕ → ℕ → ℕ → (ℕ → m.State → On ℕ) → ℕ × ℕ → m.State → On ℕ
    sunk cap k e next c s = cond (before c.1 k) (and_then (moving cap c.0 e c.1 s) (onward (next c.0))) (Ok e, s)

    unfoldable pub sinking : ℕ → ℕ → ℕ → ℕ → ℕ → m.State → On ℕ
    sinking zero cap n k e s = (Ok e, s)
    sinking (suc steps) cap n k e s = cond (nat_lt (left_child e) n) (and_then (first_child n e s) (sunk cap k e (sinking steps cap n k))) (Ok e, s)

    -- An entry of ticket t and key k takes the free place e among n entries, after the others have made way: up, or else down.
    abbrev pub or_down : ℕ → ℕ → ℕ → ℕ → ℕ → m.State → On ℕ
    or_down cap n k e u s = cond (u == e) (sinking (n - e) cap n k e s) (Ok u, s)

    abbrev pub way : ℕ → ℕ → ℕ → ℕ → m.State → On ℕ
    way cap n k e s = and_then (rising e cap k e s) (or_down cap n k e)

    abbrev pub seated : ℕ → ℕ → ℕ → m.State → On (Unit {0})
    seated t k e s = placing e t k s

    abbrev pub seating : ℕ → ℕ → ℕ → ℕ → ℕ → m.State → On (Unit {0})
    seating cap n t k e s = and_then (way cap n k e s) (seated t k)

    -- a put where the ticket is told to be at p: it takes the place behind the n entries
    abbrev pub put_told : ℕ → ℕ → ℕ → ℕ → ℕ → m.State → On (Unit {0})
    put_told cap n t k p s =
        cond (p == 0)
        (cond (nat_lt n cap) (seating cap (n + 1) t k n s) (senseless s))
        (cond (nat_le p n) (finds TicketInUse t s) (senseless s))

    abbrev pub putting : ℕ → ℕ → ℕ → ℕ → m.State → On (Unit {0})
    putting cap n t k s =
        cond (nat_lt t cap)
        (cond (nat_lt k key_limit) (calling (m.read s (place_cell t)) (put_told cap n t k)) (finds KeyTooLarge t s))
        (finds NoSuchTicket t s)

    -- the last entry takes the place e
    abbrev pub last_seated : ℕ → ℕ → ℕ → ℕ → ℕ → m.State → On (Unit {0})
    last_seated cap last e u k s = seating cap last u k e s

    abbrev pub last_keyed : ℕ → ℕ → ℕ → ℕ → m.State → On (Unit {0})
    last_keyed cap last e u s = and_then (key_at last s) (last_seated cap last e u)

    abbrev pub filling : ℕ → ℕ → ℕ → m.State → On (Unit {0})
    filling cap last e s = and_then (ticket_at cap last s) (last_keyed cap last e)

    -- the ticket at the place e no longer waits; where that was not the last entry, the last one takes its place
    abbrev pub vacated : ℕ → ℕ → ℕ → Unit {0} → m.State → On (Unit {0})
    vacated cap last e _ s = cond (e == last) (Ok tt, s) (filling cap last e s)

    abbrev pub vacating : ℕ → ℕ → ℕ → ℕ → ℕ → m.State → On (Unit {0})
    vacating cap last e t u s = cond (u == t) (calling (m.write s (place_cell t) 0) (vacated cap last e)) (senseless s)

    -- a remove where the ticket is told to be at p
    abbrev pub remove_told : ℕ → ℕ → ℕ → ℕ → m.State → On (Unit {0})
    remove_told cap n t p s =
        cond (p == 0)
        (finds NotWaiting t s)
        (cond (nat_le p n && nat_le n cap) (and_then (ticket_at cap (p - 1) s) (vacating cap (n - 1) (p - 1) t)) (senseless s))

    abbrev pub removing : ℕ → ℕ → ℕ → m.State → On (Unit {0})
    removing cap n t s = cond (nat_lt t cap) (calling (m.read s (place_cell t)) (remove_told cap n t)) (finds NoSuchTicket t s)

    abbrev pub named_is : ℕ → m.State → On (Option ℕ)
    named_is t s = (Ok (Some t), s)

    abbrev pub naming : ℕ → ℕ → m.State → On (Option ℕ)
    naming cap n s = cond (cap == 0 || n == 0) (Ok None, s) (and_then (ticket_at cap 0 s) named_is)

    -- no ticket below k waits any more
    abbrev pub wiped_at : ℕ → Unit {0} → m.State → On (Unit {0})
    wiped_at t _ s = calling (m.write s (place_cell t) 0) all_written

    abbrev pub wiping : ℕ → m.State → On (Unit {0})
    wiping k s = up_to wiped_at k tt s

    -- the heap with the store that is left, and with the count n where the call was answered
    abbrev pub counted : ℕ → Heap m.State → On (Unit {0}) → Outcome QueueFault (Unit {0}) (Heap m.State)
    counted n s o = elim o.0 [ Ok x ↦ (Ok tt, record { store = o.1; count = n }) | Err f ↦ (Err f, record { store = o.1; count = s.count }) ]

    -- the capacity that the store's size and width give
    abbrev pub capacity : Heap m.State → ℕ
    capacity s = room (m.size s.store) (m.width s.store)

    abbrev pub heap_clear : Heap m.State → Outcome QueueFault (Unit {0}) (Heap m.State)
    heap_clear s = let o = wiping (capacity s) s.store in (o.0, record { store = o.1; count = 0 })

    abbrev pub heap_put : Heap m.State → ℕ → ℕ → Outcome QueueFault (Unit {0}) (Heap m.State)
    heap_put s t k = counted (s.count + 1) s (putting (capacity s) s.count t k s.store)

    abbrev pub heap_remove : Heap m.State → ℕ → Outcome QueueFault (Unit {0}) (Heap m.State)
    heap_remove s t = counted (s.count - 1) s (removing (capacity s) s.count t s.store)

    abbrev pub heap_least : Heap m.State → Outcome QueueFault (Option ℕ) (Heap m.State)
    heap_least s = let o = naming (capacity s) s.count s.store in (o.0, record { store = o.1; count = s.count })

    -- The heap is fit, its store is loyal, and the cells are a heap's: each waiting ticket has one entry, and no key is
    -- before its parent's.
    pub record Loyal (s : Heap m.State) : Type 0 where
      pub fit : 1 ≤ capacity s
      pub loyal : m.loyal s.store
      pub sound : Sound (capacity s) s.count (tree_in (m.cells s.store))
      pub ordered : Ordered before s.count (tree_in (m.cells s.store)).key

    abbrev pub heap_entries : Heap m.State → Entries
    heap_entries s t = cond (nat_lt t (capacity s)) (held (tree_in (m.cells s.store)) t) None

    -- the ticket of entry 0
    abbrev pub heap_named : Heap m.State → Option ℕ
    heap_named s = cond (s.count == 0) None (Some ((tree_in (m.cells s.store)).ticket 0))

    abbrev pub heap : QueueMeaning
    heap = record {
      State = Heap m.State;
      loyal = Loyal;
      capacity = capacity;
      height = λ s. min 255 (m.height s.store + 1);
      entries = heap_entries;
      named = heap_named;
      clear = heap_clear;
      put = heap_put;
      remove = heap_remove;
      least = heap_least;
    }

    -- a heap over the store s: making it clears it
    abbrev pub over : m.State → Heap m.State
    over s = record { store = s; count = 0 }

    abbrev pub made : m.State → Heap m.State
    made s = (heap_clear (over s)).1

    -- x, made over the store s, is loyal and nothing waits in it, where s is loyal and of fit size and width
    abbrev pub StartsLoyal : m.State → Heap m.State → Type 0
    StartsLoyal s x = m.loyal s → 1 ≤ capacity (over s) → Holds heap (over s) nothing_waits x
