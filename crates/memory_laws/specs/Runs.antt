-- A list of calls performed on a checked memory, and on an ideal one.
use Rattle.std.specs.Prelude.{ℕ, List, [], ◌∷◌, Some, None, Ok, Err, Option, Result}
use Rattle.parts.specs.declared.fault.Fault.{Fault}
use Rattle.parts.specs.Outcomes.{Outcome}
use Rattle.parts.specs.Runs.{Machine}
use Rattle.parts.specs.Meaning.{reading, writing, written}
use Rattle.parts.specs.Tallying.{Tallying}
use Rattle.memory_laws.specs.declared.call.Call.{Call}
use Rattle.memory_laws.specs.declared.call.Call.TheVariants.{Write, Read, Sweep}
use Rattle.memory_laws.specs.declared.call.Answer.{Answer}
use Rattle.memory_laws.specs.declared.call.Answer.TheVariants.{Written, Value, Passed, Declined, Failed}
use Rattle.memory_laws.specs.Checked.{Base, Memory, Mem, reads, writes, sweeps}

-- a call without a result was declined, unless the memory is broken
abbrev pub refused : Option Fault → Fault → Answer
refused None f = Declined f
refused (Some _) f = Failed f

abbrev pub told : {A S T V : Type 0} → (A → Answer) → Outcome Fault A (Memory S T V) → Answer × Memory S T V
told f o = (elim o.0 [ Ok a ↦ f a | Err x ↦ refused o.1.broken x ], o.1)

-- a call was accepted if it was neither declined nor answered with a fault
abbrev pub accepted : Answer → Type 0
accepted Written = Unit {0}
accepted (Value v) = Unit {0}
accepted Passed = Unit {0}
accepted (Declined f) = ⊥
accepted (Failed f) = ⊥

module _ (b : Base) {T V : Type 0} (l : T → Tallying V) where
  abbrev pub performed : Call → Mem b l → Answer × Mem b l
  performed (Write a v) s = told (λ _. Written) (writes b l a v s)
  performed (Read a) s = told Value (reads b l a s)
  performed Sweep s = told (λ _. Passed) (sweeps b l s)

  abbrev pub answering : Machine Call Answer
  answering = record { State = Mem b l; step = performed }

-- The ideal memory is fed the calls alone: n cells of w bits. Its words after some calls:
abbrev pub ideal_words : ℕ → ℕ → List ℕ → List Call → List ℕ
ideal_words n w xs [] = xs
ideal_words n w xs (Write a v ∷ cs) = ideal_words n w (written n w xs a v) cs
ideal_words n w xs (Read a ∷ cs) = ideal_words n w xs cs
ideal_words n w xs (Sweep ∷ cs) = ideal_words n w xs cs

abbrev pub ideally : {A : Type 0} → (A → Answer) → Result A Fault → Answer
ideally f (Ok a) = f a
ideally f (Err x) = Declined x

-- and what it answers; h is the height that its declines tell
abbrev pub ideal_answers : ℕ → ℕ → ℕ → List ℕ → List Call → List Answer
ideal_answers h n w xs [] = []
ideal_answers h n w xs (Write a v ∷ cs) = ideally (λ _. Written) (writing h n w a v) ∷ ideal_answers h n w (written n w xs a v) cs
ideal_answers h n w xs (Read a ∷ cs) = ideally Value (reading h n xs a) ∷ ideal_answers h n w xs cs
ideal_answers h n w xs (Sweep ∷ cs) = Passed ∷ ideal_answers h n w xs cs
