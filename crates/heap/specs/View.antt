-- The state that a heap is in, and what a call on its store does.
use Rattle.std.specs.Prelude.{◌≡◌, Result}
use Rattle.parts.specs.declared.fault.QueueFault.{QueueFault}
use Rattle.parts.specs.Outcomes.{Outcome}
use Rattle.heap_laws.specs.HeapMachine.{Heap as State}
use Rattle.heap.specs.declared.binary.Heap.{Heap}

abbrev pub view : {S O X : Type 0} → (S → X) → Heap S O → State X
view f h = record { store = f h.store; count = h.count }

-- a call on the store s that answers r and leaves z has the outcome o
pub record Does {A S X : Type 0} (f : S → X) (s z : S) (r : Result A QueueFault) (o : X → Outcome QueueFault A X) : Type 0 where
  pub answer : r ≡ (o (f s)).0
  pub leaves : f z ≡ (o (f s)).1
