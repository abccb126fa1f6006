-- What is promised of every list of calls on a checked queue just made, over any queue.
use Rattle.std.specs.Prelude.{◌≡◌, ℕ, suc, ◌+◌, ◌<◌, min, Bool, true, false, List, length, take, Some, None, Option, ◌≢◌, slice_index_or}
use Rattle.parts.specs.declared.fault.Cause.TheVariants.{KeyBeforeBound}
use Rattle.parts.specs.declared.fault.QueueFault.{QueueFault}
use Rattle.parts.specs.Queues.{Entries, nothing_waits, found, QueueMeaning}
use Rattle.parts.specs.Runs.{answers, after}
use Rattle.queue_laws.specs.declared.call.Call.{Call}
use Rattle.queue_laws.specs.declared.call.Call.TheVariants.{Remove, Least, Audit, Clear}
use Rattle.queue_laws.specs.declared.call.Answer.{Answer}
use Rattle.queue_laws.specs.declared.call.Answer.TheVariants.{Named, Passed, Failed}
use Rattle.queue_laws.specs.Tables.{Row}
use Rattle.queue_laws.specs.CheckedQueue.{Chk, made, Fits}
use Rattle.queue_laws.specs.QueueRuns.{performed, failed, waits_after, CanGive}

-- a bound only rises: once it is a key it stays one, and no later one is before it
abbrev pub Risen : (ℕ → ℕ → Bool) → Option ℕ → Option ℕ → Type 0
Risen before None later = Unit {0}
Risen before (Some b) None = ⊥
Risen before (Some b) (Some later) = before later b ≡ false

module _ (q : QueueMeaning) (before : ℕ → ℕ → Bool) (m : ℕ) (s : q.State) where
  abbrev pub all_answers : List Call → List Answer
  all_answers calls = answers (performed q before) calls (made q before m s)

  abbrev pub left : List Call → Chk q before
  left calls = after (performed q before) calls (made q before m s)

  -- what waits when the call i begins, told by the answers before it
  abbrev pub waits_at : List Call → ℕ → Entries
  waits_at calls i = waits_after nothing_waits (take i calls) (take i (all_answers calls))

  -- the call i names a ticket, while the ticket u waits with a key that is before the named one
  pub record PassedOver (calls : List Call) (i u : ℕ) : Type 0 where
    pub asked : slice_index_or calls i Audit ≡ Least
    pub other : ℕ
    pub named : slice_index_or (all_answers calls) i Passed ≡ Named other
    pub named_key : ℕ
    pub named_waits : waits_at calls i other ≡ Some named_key
    pub key : ℕ
    pub waits : waits_at calls i u ≡ Some key
    pub earlier : before key named_key ≡ true

  -- the call l comes after the call i, with no clear between them
  pub record Follows (calls : List Call) (i l : ℕ) : Type 0 where
    pub later : i < l
    pub within : l < length calls
    pub uncleared : (n : ℕ) → i < n → n < l → slice_index_or calls n Audit ≢ Clear

  -- no call before the call l was answered with a fault
  abbrev pub NoFaultBefore : List Call → ℕ → Type 0
  NoFaultBefore calls l = (n : ℕ) → n < l → failed (slice_index_or (all_answers calls) n Passed) ≡ false

  pub record Promise (calls : List Call) : Type 0 where
    -- A ticket that was passed over is caught: its removal is cause 26 with that ticket, unless another fault came first ..
    pub caught_leaving : (i u l : ℕ) → PassedOver calls i u → Follows calls i l → slice_index_or calls l Audit ≡ Remove u → NoFaultBefore calls l →
        (h : ℕ) × (slice_index_or (all_answers calls) l Passed ≡ Failed (found KeyBeforeBound h u))
    -- .. and the next audit fails.
    pub caught_waiting : (i u l : ℕ) → PassedOver calls i u → Follows calls i l → slice_index_or calls l Least ≡ Audit →
        (f : QueueFault) × (slice_index_or (all_answers calls) l Passed ≡ Failed f)
    -- Bounds only rise: where a ticket waits before and after a call, it is the same entry, and its bound is not lower.
    pub bounds_rise : (i u : ℕ) (r later : Row) → i < length calls → (left (take i calls)).table u ≡ Some r → (left (take (suc i) calls)).table u ≡ Some later →
        (later.key ≡ r.key) × Risen before r.bound later.bound
    -- No false alarm: over a loyal queue in which nothing waits, the answers are ones that an ideal queue can give, so every audit passes.
    pub no_alarm : q.loyal s → Fits q before m s → q.entries s ≡ nothing_waits → CanGive before (min 255 (q.height s + 1)) m nothing_waits calls (all_answers calls)
