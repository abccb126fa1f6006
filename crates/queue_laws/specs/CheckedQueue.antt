-- The checked queue over any queue, as a machine of plain values.
use Rattle.std.specs.Prelude.{◌≡◌, ℕ, ◌+◌, ◌≤◌, min, Bool, false, cond, ◌&&◌, Some, None, Ok, Err, Option, ◌==◌, nat_le}
use Rattle.parts.specs.declared.fault.Cause.{Cause}
use Rattle.parts.specs.declared.fault.Cause.TheVariants.{NothingNamed, NamedNotWaiting, KeyBeforeBound}
use Rattle.parts.specs.declared.fault.QueueFault.{QueueFault}
use Rattle.parts.specs.Outcomes.{Outcome, and_then, settled, unless_broken}
use Rattle.parts.specs.Queues.{most_tickets, found, nothing_waits, put_declined, remove_declined, QueueMeaning}
use Rattle.queue_laws.specs.Tables.{Row, Table, empty_table, with_row, fresh_row, waiting, first_waiting, raised, offends, first_offender}

-- the queue below, the capacity, the table and the first fault
pub record Check (S : Type 0) : Type 0 where
  pub below : S
  pub capacity : ℕ
  pub table : Table
  pub broken : Option QueueFault

-- the capacity of a check over a queue of capacity n, or 0 where it is unfit
abbrev pub fitting : ℕ → ℕ → ℕ
fitting m n = cond (nat_le 1 m && nat_le m most_tickets && nat_le m n) m 0

module _ {S : Type 0} where
  abbrev pub at_below : Check S → S → Check S
  at_below s x = record { below = x; capacity = s.capacity; table = s.table; broken = s.broken }

  abbrev pub at_table : Check S → Table → Check S
  at_table s T = record { below = s.below; capacity = s.capacity; table = T; broken = s.broken }

  abbrev pub at_broken : QueueFault → Check S → Check S
  at_broken f s = record { below = s.below; capacity = s.capacity; table = s.table; broken = Some f }

module _ (q : QueueMeaning) (before : ℕ → ℕ → Bool) where
  abbrev pub Chk : Type 0
  Chk = Check q.State

  abbrev pub Does : Type 0 → Type 0
  Does X = Outcome QueueFault X Chk

  abbrev pub height : Chk → ℕ
  height s = min 255 (q.height s.below + 1)

  -- what the check finds
  abbrev pub finds : {X : Type 0} → Cause → ℕ → Chk → Does X
  finds c t s = (Err (found c (height s) t), s)

  -- a call of the queue below
  abbrev pub on_queue : {X : Type 0} → Chk → Outcome QueueFault X q.State → Does X
  on_queue s o = (o.0, at_below s o.1)

  abbrev pub unless_declined : {X : Type 0} → Option Cause → ℕ → Chk → Does X → Does X
  unless_declined (Some c) t s o = finds c t s
  unless_declined None t s o = o

  -- put: below, and the entry then waits without a bound
  abbrev pub entered : ℕ → ℕ → Unit {0} → Chk → Does (Unit {0})
  entered t k _ s = (Ok tt, at_table s (with_row s.table t (Some (fresh_row k))))

  abbrev pub entering : ℕ → ℕ → Chk → Does (Unit {0})
  entering t k s = and_then (on_queue s (q.put s.below t k)) (entered t k)

  abbrev pub puts : ℕ → ℕ → Chk → Does (Unit {0})
  puts t k s = unless_broken s.broken s (unless_declined (put_declined s.capacity (waiting s.table) t k) t s (settled at_broken (entering t k s)))

  -- remove: a key before its bound is found out; otherwise the entry is removed below
  abbrev pub taken : ℕ → Unit {0} → Chk → Does (Unit {0})
  taken t _ s = (Ok tt, at_table s (with_row s.table t None))

  abbrev pub taking : ℕ → Chk → Does (Unit {0})
  taking t s = cond (offends before (s.table t)) (finds KeyBeforeBound t s) (and_then (on_queue s (q.remove s.below t)) (taken t))

  abbrev pub removes : ℕ → Chk → Does (Unit {0})
  removes t s = unless_broken s.broken s (unless_declined (remove_declined s.capacity (waiting s.table) t) t s (settled at_broken (taking t s)))

  -- least: the ticket that is named below has to wait, and each waiting entry's bound is raised to its key
  abbrev pub raising : ℕ → Option Row → Chk → Does (Option ℕ)
  raising t (Some r) s = (Ok (Some t), at_table s (raised before s.table r.key))
  raising t None s = finds NamedNotWaiting t s

  abbrev pub named : Option ℕ → Chk → Does (Option ℕ)
  named (Some t) s = raising t (s.table t) s
  named None s = finds NothingNamed 0 s

  abbrev pub naming : Chk → Does (Option ℕ)
  naming s = and_then (on_queue s (q.least s.below)) named

  abbrev pub if_any : {X : Type 0} → Option X → Chk → Does (Option ℕ) → Does (Option ℕ)
  if_any (Some x) s o = o
  if_any None s o = (Ok None, s)

  abbrev pub leasts : Chk → Does (Option ℕ)
  leasts s = unless_broken s.broken s (if_any (first_waiting s.table s.capacity) s (settled at_broken (naming s)))

  -- audit: from ticket 0 up, a waiting key before its bound is found out
  abbrev pub auditing : Option ℕ → Chk → Does (Unit {0})
  auditing (Some t) s = finds KeyBeforeBound t s
  auditing None s = (Ok tt, s)

  abbrev pub audits : Chk → Does (Unit {0})
  audits s = unless_broken s.broken s (settled at_broken (auditing (first_offender before s.table s.capacity) s))

  -- clear: below, and the table is then empty; an unfit check clears nothing
  abbrev pub emptied : Unit {0} → Chk → Does (Unit {0})
  emptied _ s = (Ok tt, at_table s empty_table)

  abbrev pub clearing : Chk → Does (Unit {0})
  clearing s = and_then (on_queue s (q.clear s.below)) emptied

  abbrev pub clears : Chk → Does (Unit {0})
  clears s = unless_broken s.broken s (cond (s.capacity == 0) (Ok tt, s) (settled at_broken (clearing s)))

  -- a check of capacity m over a queue, which it leaves as it is
  abbrev pub made : ℕ → q.State → Chk
  made m x = record { below = x; capacity = fitting m (q.capacity x); table = empty_table; broken = None }

  -- It is fit and unbroken, the queue below is loyal with as much capacity or more and holds what the table holds, and no
  -- waiting key is before its bound. (The table has rows only of tickets below the capacity.)
  pub record Loyal (s : Chk) : Type 0 where
    pub fit : (1 ≤ s.capacity) × (s.capacity ≤ most_tickets)
    pub unbroken : s.broken ≡ None
    pub loyal : q.loyal s.below
    pub capacity_below : s.capacity ≤ q.capacity s.below
    pub alike : q.entries s.below ≡ waiting s.table
    pub own_tickets : (t : ℕ) → s.capacity ≤ t → s.table t ≡ None
    pub in_bounds : (t : ℕ) → offends before (s.table t) ≡ false

  abbrev pub checked : QueueMeaning
  checked = record {
    State = Chk;
    loyal = Loyal;
    capacity = λ s. s.capacity;
    height = height;
    entries = λ s. q.entries s.below;
    named = λ s. q.named s.below;
    clear = clears;
    put = λ s t k. puts t k s;
    remove = λ s t. removes t s;
    least = leasts;
  }

  -- whether a check of capacity m is fit over the queue x
  pub record Fits (m : ℕ) (x : q.State) : Type 0 where
    pub capacity : (1 ≤ m) × (m ≤ most_tickets)
    pub capacity_below : m ≤ q.capacity x

  -- A check of capacity m made over a loyal queue is loyal where nothing waits there, and else once it is cleared.
  pub record StartsLoyal (m : ℕ) (x : q.State) (s : Chk) : Type 0 where
    pub where_empty : q.loyal x → Fits m x → q.entries x ≡ nothing_waits → Loyal s
    pub once_cleared : q.loyal x → Fits m x → Loyal (clears s).1
