-- What a queue means: a machine of plain values, and what its loyal states keep.
use Rattle.std.specs.Prelude.{◌≡◌, ℕ, ◌^◌, ◌<◌, ◌≤◌, Bool, false, cond, is_some, Some, None, Ok, Err, Option, Result, ◌==◌, nat_lt}
use Rattle.parts.specs.declared.fault.Fault.{Fault}
use Rattle.parts.specs.declared.fault.Cause.{Cause}
use Rattle.parts.specs.declared.fault.Cause.TheVariants.{NoSuchTicket, KeyTooLarge, TicketInUse, NotWaiting}
use Rattle.parts.specs.declared.fault.QueueFault.{QueueFault}
use Rattle.parts.specs.declared.fault.QueueFault.TheVariants.{Found, Store}
use Rattle.parts.specs.Outcomes.{Outcome}
use Rattle.parts.specs.Meaning.{fault}

-- the largest capacity that a queue has, and what every key is below
abbrev pub most_tickets : ℕ
most_tickets = 1024

abbrev pub key_limit : ℕ
key_limit = 2 ^ 28

-- what waits: under each ticket its key, or nothing
abbrev pub Entries : Type 0
Entries = ℕ → Option ℕ

abbrev pub nothing_waits : Entries
nothing_waits t = None

-- the entries with o under the ticket t
abbrev pub with_entry : Entries → ℕ → Option ℕ → Entries
with_entry e t o u = cond (u == t) o (e u)

-- a fault that a queue of height h finds
abbrev pub found : Cause → ℕ → ℕ → QueueFault
found c h t = Found (fault c h t)

-- the fault that is carried, whichever part found it
abbrev pub carried : QueueFault → Fault
carried (Found f) = f
carried (Store f) = f

-- Why a queue of capacity m in which e waits declines a put, if it does ..
abbrev pub put_declined : ℕ → Entries → ℕ → ℕ → Option Cause
put_declined m e t k =
    cond (nat_lt t m) (cond (nat_lt k key_limit) (cond (is_some (e t)) (Some TicketInUse) None) (Some KeyTooLarge)) (Some NoSuchTicket)

-- .. and why it declines a remove.
abbrev pub remove_declined : ℕ → Entries → ℕ → Option Cause
remove_declined m e t = cond (nat_lt t m) (cond (is_some (e t)) None (Some NotWaiting)) (Some NoSuchTicket)

-- The machine: for every state its loyalty, what it tells of itself, the waiting entries, the ticket that it would name, and
-- for each call the answer and the state that the call leaves. It tells these of loyal and disloyal states alike.
pub record QueueMeaning : Type 1 where
  pub State : Type 0
  pub loyal : State → Type 0
  pub capacity : State → ℕ
  pub height : State → ℕ
  pub entries : State → Entries
  pub named : State → Option ℕ
  pub clear : State → Outcome QueueFault (Unit {0}) State
  pub put : State → ℕ → ℕ → Outcome QueueFault (Unit {0}) State
  pub remove : State → ℕ → Outcome QueueFault (Unit {0}) State
  pub least : State → Outcome QueueFault (Option ℕ) State

-- The ticket that may be named where e waits: a waiting one whose key no waiting key is before, or none where nothing waits.
abbrev pub Named : (ℕ → ℕ → Bool) → Entries → Option ℕ → Type 0
Named before e (Some t) = (k : ℕ) × (e t ≡ Some k) × ((u j : ℕ) → e u ≡ Some j → before j k ≡ false)
Named before e None = (t : ℕ) → e t ≡ None

-- an answer to least that names so
abbrev pub Names : (ℕ → ℕ → Bool) → Entries → Result (Option ℕ) QueueFault → Type 0
Names before e (Ok o) = Named before e o
Names before e (Err f) = ⊥

module _ (q : QueueMeaning) (s : q.State) where
  -- a loyal state, of the capacity and the height of s, in which e waits
  pub record Holds (e : Entries) (z : q.State) : Type 0 where
    pub loyal : q.loyal z
    pub same_capacity : q.capacity z ≡ q.capacity s
    pub same_height : q.height z ≡ q.height s
    pub entries_are : q.entries z ≡ e

  -- a loyal state that means what s means
  pub record Unaltered (z : q.State) : Type 0 where
    pub holds : Holds (q.entries s) z
    pub same_named : q.named z ≡ q.named s

  -- what is owed by a call about the ticket t: declined, it alters nothing; accepted, it leaves the entries e
  abbrev pub Owes : Option Cause → ℕ → Entries → Outcome QueueFault (Unit {0}) q.State → Type 0
  Owes (Some c) t e o = (o.0 ≡ Err (found c (q.height s) t)) × Unaltered o.1
  Owes None t e o = (o.0 ≡ Ok tt) × Holds e o.1

-- What every loyal state keeps.
pub record KeepsQueue (before : ℕ → ℕ → Bool) (q : QueueMeaning) : Type 0 where
  -- its capacity is a queue's
  pub fits : (s : q.State) → q.loyal s → (1 ≤ q.capacity s) × (q.capacity s ≤ most_tickets)
  -- its tickets are below the capacity, and its keys are keys
  pub within : (s : q.State) → q.loyal s → (t k : ℕ) → q.entries s t ≡ Some k → (t < q.capacity s) × (k < key_limit)
  -- it names a waiting ticket whose key no waiting key is before
  pub names : (s : q.State) → q.loyal s → Named before (q.entries s) (q.named s)
  -- clear leaves nothing waiting, put adds an entry, remove takes one away, and least answers the named ticket and alters nothing
  pub clears : (s : q.State) → q.loyal s → ((q.clear s).0 ≡ Ok tt) × Holds q s nothing_waits (q.clear s).1
  pub puts : (s : q.State) → q.loyal s → (t k : ℕ) → Owes q s (put_declined (q.capacity s) (q.entries s) t k) t (with_entry (q.entries s) t (Some k)) (q.put s t k)
  pub removes : (s : q.State) → q.loyal s → (t : ℕ) → Owes q s (remove_declined (q.capacity s) (q.entries s) t) t (with_entry (q.entries s) t None) (q.remove s t)
  pub leasts : (s : q.State) → q.loyal s → ((q.least s).0 ≡ Ok (q.named s)) × Unaltered q s (q.least s).1
