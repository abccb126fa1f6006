-- Examples of orders and queues, each of which follows from the definitions.
use Rattle.std.specs.Prelude.{◌≡◌, ℕ, ◌+◌, ◌*◌, ◌^◌, ◌<◌, true, false, [], ◌∷◌, Some}
use Rattle.parts.specs.declared.fault.Cause.TheVariants.{KeyBeforeBound}
use Rattle.parts.specs.Causes.{number_of}
use Rattle.parts.specs.Queues.{found, nothing_waits, with_entry, Named}
use Rattle.order_laws.specs.Ranks.{earlier, by_fault}
use Rattle.queue_laws.specs.declared.call.Call.TheVariants.{Put, Remove, Least, Audit}
use Rattle.queue_laws.specs.declared.call.Answer.TheVariants as answered
use Rattle.queue_laws.specs.declared.call.Answer.TheVariants.{Entered, Passed, Failed}
use Rattle.queue_laws.specs.QueuePromise.{all_answers}
use Rattle.queue_examples.specs.Stubborn.{stubborn}

pub record QueueTable : Type 0 where
  -- class 1 at minute 900 is before class 0 at minute 5
  pub class_before : by_fault (1 * 2 ^ 24 + 900) (0 * 2 ^ 24 + 5) ≡ true
  -- classes 4 and 7 at one minute are not before each other
  pub classes_level : (minute : ℕ) → minute < 2 ^ 24 → (by_fault (4 * 2 ^ 24 + minute) (7 * 2 ^ 24 + minute) ≡ false) × (by_fault (7 * 2 ^ 24 + minute) (4 * 2 ^ 24 + minute) ≡ false)
  -- keys 5 and 8 wait as tickets 0 and 1: where 1 is named, removing 0 is the fault 26 at place 0
  pub passed_over : all_answers stubborn earlier 2 1 (Put 0 5 ∷ Put 1 8 ∷ Least ∷ Remove 0 ∷ []) ≡ Entered ∷ Entered ∷ answered.Named 1 ∷ Failed (found KeyBeforeBound 1 0) ∷ []
  pub bound_number : number_of KeyBeforeBound ≡ 26
  -- with equal keys either ticket may be named, and the audit passes
  pub either_named : (t : ℕ) → t < 2 → Named earlier (with_entry (with_entry nothing_waits 0 (Some 5)) 1 (Some 5)) (Some t)
  pub either_passes : (t : ℕ) → t < 2 → all_answers stubborn earlier 2 t (Put 0 5 ∷ Put 1 5 ∷ Least ∷ Audit ∷ []) ≡ Entered ∷ Entered ∷ answered.Named t ∷ Passed ∷ []
