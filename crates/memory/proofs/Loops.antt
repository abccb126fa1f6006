-- The loops over the cells, by what the call for each cell did.
use Rattle.std.proofs.Common.{◌≡◌, ℕ, ◌+◌, ◌<◌, Ok, Err, Result, sym, ap}
use Rattle.parts.specs.declared.fault.Fault.{Fault}
use Rattle.parts.specs.Outcomes.{Outcome, up_to}
use Rattle.parts.proofs.Steps.{up_to_more, up_to_fault}
use Rattle.memory_laws.specs.Checked.{Memory}
use Rattle.memory.specs.declared.checked.CheckedMemory.{CheckedMemory}
use Rattle.memory.specs.View.{view, Does}

-- what the outcome o of a call on c says, where it is r and d
pub does : {A S T V X : Type 0} {f : S → X} {c d : CheckedMemory S T V} {r : Result A Fault} (o : Memory X T V → Outcome Fault A (Memory X T V)) → o (view f c) ≡ (r, view f d) → Does f c d r o
does o e = record { answer = sym (ap (λ p. p.0) e); leaves = sym (ap (λ p. p.1) e) }

module _ {A S T V X : Type 0} (f : S → X) (step : ℕ → A → Memory X T V → Outcome Fault A (Memory X T V)) (a : A) (s : Memory X T V) (k : ℕ) (b : A) (c d : CheckedMemory S T V) (so_far : up_to step k a s ≡ (Ok b, view f c)) where
  -- one cell more
  pub one_more : (r : A) → Does f c d (Ok r) (step k b) → up_to step (k + 1) a s ≡ (Ok r, view f d)
  one_more r told = up_to_more step a s k b (view f c) (Ok r) (view f d) so_far told.answer told.leaves

  -- a fault at a cell ends the loop
  pub ended : (n : ℕ) (x : Fault) → k < n → Does f c d (Err x) (step k b) → up_to step n a s ≡ (Err x, view f d)
  ended n x lt told = up_to_fault step a s k n b (view f c) x (view f d) lt so_far told.answer told.leaves
