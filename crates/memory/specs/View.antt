-- The state that a checked memory is in.
use Rattle.std.specs.Prelude.{◌≡◌, Result}
use Rattle.parts.specs.declared.fault.Fault.{Fault}
use Rattle.parts.specs.Outcomes.{Outcome}
use Rattle.memory_laws.specs.Checked.{Memory}
use Rattle.memory.specs.declared.checked.CheckedMemory.{CheckedMemory}

abbrev pub view : {S T V X : Type 0} → (S → X) → CheckedMemory S T V → Memory X T V
view f c = record { store = f c.store; rule = c.tally; size = c.clock.size; width = c.clock.width; clock = c.clock.time; read = c.read; written = c.written; broken = c.latch.first }

-- a call on c that answers r and leaves d has the outcome o
pub record Does {A S T V X : Type 0} (f : S → X) (c d : CheckedMemory S T V) (r : Result A Fault) (o : Memory X T V → Outcome Fault A (Memory X T V)) : Type 0 where
  pub answer : r ≡ (o (view f c)).0
  pub leaves : view f d ≡ (o (view f c)).1
