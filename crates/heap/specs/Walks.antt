-- What a call on a walk does.
use Rattle.std.specs.Prelude.{◌≡◌, ℕ, Result, Ok, Err}
use Rattle.parts.specs.declared.fault.QueueFault.{QueueFault}
use Rattle.parts.specs.Outcomes.{Outcome}
use Rattle.heap.specs.View.{Does}
use Rattle.heap.specs.declared.walk.Walk.{Walk}

-- the same store, as it was lent, the same capacity and the same count
pub record Same {S O : Type 0} (s z : Walk S O) : Type 0 where
  pub lent : z.store.ghost_name ≡ s.store.ghost_name
  pub capacity : z.capacity ≡ s.capacity
  pub count : z.count ≡ s.count

-- a call on the walk s that answers r and leaves z has the outcome o on its store
pub record Leaves {A S O X : Type 0} (f : S → X) (s z : Walk S O) (r : Result A QueueFault) (o : X → Outcome QueueFault A X) : Type 0 where
  pub does : Does f s.store.now z.store.now r o
  pub same : Same s z

-- a call that answers nothing has the place that is free after it as its outcome
abbrev pub to_hole : ℕ → Result (Unit {0}) QueueFault → Result ℕ QueueFault
to_hole e r = elim r [ Ok x ↦ Ok e | Err f ↦ Err f ]

abbrev pub Walks : {S O X : Type 0} → (S → X) → Walk S O → Walk S O → Result (Unit {0}) QueueFault → (X → Outcome QueueFault ℕ X) → Type 0
Walks f s z r o = Leaves f s z (to_hole z.hole r) o
