-- A list of calls performed on a checked queue, and on an ideal one.
use Rattle.std.specs.Prelude.{◌≡◌, ℕ, Bool, true, false, cond, List, [], ◌∷◌, Some, None, Ok, Err, Option}
use Rattle.parts.specs.declared.fault.Cause.{Cause}
use Rattle.parts.specs.declared.fault.QueueFault.{QueueFault}
use Rattle.parts.specs.Outcomes.{Outcome}
use Rattle.parts.specs.Runs.{Machine}
use Rattle.parts.specs.Queues.{Entries, nothing_waits, with_entry, found, put_declined, remove_declined, Named, QueueMeaning}
use Rattle.queue_laws.specs.declared.call.Call.{Call}
use Rattle.queue_laws.specs.declared.call.Call.TheVariants.{Put, Remove, Least, Audit, Clear}
use Rattle.queue_laws.specs.declared.call.Answer as answers
use Rattle.queue_laws.specs.declared.call.Answer.{Answer}
use Rattle.queue_laws.specs.declared.call.Answer.TheVariants.{Entered, Removed, Nothing, Passed, Cleared, Declined, Failed}
use Rattle.queue_laws.specs.CheckedQueue.{Check, Chk, puts, removes, leasts, audits, clears}

-- what is answered where a ticket is named, or none
abbrev pub naming_of : Option ℕ → Answer
naming_of (Some t) = answers.TheVariants.Named t
naming_of None = Nothing

-- a call without a result was declined, unless the queue is broken
abbrev pub refused : Option QueueFault → QueueFault → Answer
refused None f = Declined f
refused (Some _) f = Failed f

abbrev pub told : {X S : Type 0} → (X → Answer) → Outcome QueueFault X (Check S) → Answer × Check S
told f o = (elim o.0 [ Ok x ↦ f x | Err g ↦ refused o.1.broken g ], o.1)

module _ (q : QueueMeaning) (before : ℕ → ℕ → Bool) where
  abbrev pub performed : Call → Chk q before → Answer × Chk q before
  performed (Put t k) s = told (λ _. Entered) (puts q before t k s)
  performed (Remove t) s = told (λ _. Removed) (removes q before t s)
  performed Least s = told naming_of (leasts q before s)
  performed Audit s = told (λ _. Passed) (audits q before s)
  performed Clear s = told (λ _. Cleared) (clears q before s)

  abbrev pub answering : Machine Call Answer
  answering = record { State = Chk q before; step = performed }

-- a call was accepted if it was neither declined nor answered with a fault
abbrev pub accepted : Answer → Bool
accepted Entered = true
accepted Removed = true
accepted (answers.TheVariants.Named t) = true
accepted Nothing = true
accepted Passed = true
accepted Cleared = true
accepted (Declined f) = false
accepted (Failed f) = false

abbrev pub failed : Answer → Bool
failed Entered = false
failed Removed = false
failed (answers.TheVariants.Named t) = false
failed Nothing = false
failed Passed = false
failed Cleared = false
failed (Declined f) = false
failed (Failed f) = true

-- what waits after a call, told by its answer alone: an accepted put adds an entry, an accepted remove takes one away, and
-- an accepted clear takes all
abbrev pub after_call : Entries → Call → Answer → Entries
after_call e (Put t k) a = cond (accepted a) (with_entry e t (Some k)) e
after_call e (Remove t) a = cond (accepted a) (with_entry e t None) e
after_call e Least a = e
after_call e Audit a = e
after_call e Clear a = cond (accepted a) nothing_waits e

-- what waits after some calls, told by their answers
abbrev pub waits_after : Entries → List Call → List Answer → Entries
waits_after e [] rs = e
waits_after e (c ∷ cs) [] = e
waits_after e (c ∷ cs) (a ∷ rs) = waits_after (after_call e c a) cs rs

-- The ideal queue is fed the calls alone: of capacity m, with declines of height h. It names any ticket that may be named.
module _ (before : ℕ → ℕ → Bool) (h m : ℕ) where
  abbrev pub ideally : Option Cause → ℕ → Answer → Answer
  ideally (Some c) t a = Declined (found c h t)
  ideally None t a = a

  -- what it can answer where e waits
  abbrev pub CanAnswer : Entries → Call → Answer → Type 0
  CanAnswer e (Put t k) a = a ≡ ideally (put_declined m e t k) t Entered
  CanAnswer e (Remove t) a = a ≡ ideally (remove_declined m e t) t Removed
  CanAnswer e Least a = (o : Option ℕ) × Named before e o × (a ≡ naming_of o)
  CanAnswer e Audit a = a ≡ Passed
  CanAnswer e Clear a = a ≡ Cleared

  -- it can give a list of answers if it can give each in turn, on what waits by then
  abbrev pub CanGive : Entries → List Call → List Answer → Type 0
  CanGive e [] rs = rs ≡ []
  CanGive e (c ∷ cs) [] = ⊥
  CanGive e (c ∷ cs) (a ∷ rs) = CanAnswer e c a × CanGive (after_call e c a) cs rs
