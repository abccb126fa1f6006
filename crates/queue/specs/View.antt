-- The state that a checked queue is in.
use Rattle.std.specs.Prelude.{◌≡◌, Result}
use Rattle.parts.specs.declared.fault.QueueFault.{QueueFault}
use Rattle.parts.specs.Outcomes.{Outcome}
use Rattle.queue_laws.specs.CheckedQueue.{Check}
use Rattle.queue.specs.declared.checked.CheckedQueue.{CheckedQueue}
use Rattle.table.specs.Rows.{rows}

abbrev pub view : {Q X : Type 0} → (Q → X) → CheckedQueue Q → Check X
view f c = record { below = f c.below; capacity = c.table.tickets; table = rows c.table; broken = c.latch.first }

-- a call on c that answers r and leaves d has the outcome o
pub record Does {A Q X : Type 0} (f : Q → X) (c d : CheckedQueue Q) (r : Result A QueueFault) (o : Check X → Outcome QueueFault A (Check X)) : Type 0 where
  pub answer : r ≡ (o (view f c)).0
  pub leaves : view f d ≡ (o (view f c)).1
