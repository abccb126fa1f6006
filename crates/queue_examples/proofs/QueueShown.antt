use Rattle.std.proofs.Common.{◌≡◌, ℕ, zero, suc, ◌+◌, ◌*◌, ◌^◌, ◌<◌, false, [], ◌∷◌, slice_index_or, Some, refl, mod-eq_of_lt, arith}
use Rattle.std.proofs.lemmas.Bool.Decides.{nat_tests}
use Rattle.std.proofs.lemmas.Nat.{div-mul-add, mod-mul-add}
use Rattle.parts.specs.Queues.{found, nothing_waits, with_entry, Named}
use Rattle.parts.specs.declared.fault.Cause.TheVariants.{KeyBeforeBound}
use Rattle.parts.specs.Runs.{answers}
use Rattle.order_laws.specs.Ranks.{earlier, ranks, rank_of, minute_of, by_fault}
use Rattle.queue_laws.specs.declared.call.Call.TheVariants.{Put, Remove, Least, Audit}
use Rattle.queue_laws.specs.declared.call.Answer.TheVariants as answered
use Rattle.queue_laws.specs.declared.call.Answer.TheVariants.{Entered, Passed, Failed}
use Rattle.queue_laws.specs.QueuePromise.{all_answers}
use Rattle.queue_laws.specs.Tables.{first_below}
use Rattle.queue_examples.specs.Stubborn.{stubborn}
use Rattle.queue_examples.specs.QueueTable.{QueueTable}

-- the ranks of two classes at one minute
rank_at : (c minute : ℕ) → minute < 2 ^ 24 → c < 16 → rank_of (c * 2 ^ 24 + minute) ≡ slice_index_or ranks c 0
rank_at c minute h lt = rw (div-mul-add c (2 ^ 24) minute h, mod-eq_of_lt lt) refl

minute_at : (c minute : ℕ) → minute < 2 ^ 24 → minute_of (c * 2 ^ 24 + minute) ≡ minute
minute_at c minute h = mod-mul-add c (2 ^ 24) minute h

level : (c d minute : ℕ) → minute < 2 ^ 24 → c < 16 → d < 16 → slice_index_or ranks c 0 ≡ slice_index_or ranks d 0 → by_fault (c * 2 ^ 24 + minute) (d * 2 ^ 24 + minute) ≡ false
level c d minute h lc ld e = rw (rank_at c minute h lc, rank_at d minute h ld, minute_at c minute h, minute_at d minute h, e) (grind (arith, nat_tests))

either : (t : ℕ) → t < 2 → Named earlier (with_entry (with_entry nothing_waits 0 (Some 5)) 1 (Some 5)) (Some t)
either t lt = (5, grind (arith, nat_tests), λ u j e. let same : j ≡ 5 = grind (arith, nat_tests) in rw same refl)

passes : (t : ℕ) → t < 2 → all_answers stubborn earlier 2 t (Put 0 5 ∷ Put 1 5 ∷ Least ∷ Audit ∷ []) ≡ Entered ∷ Entered ∷ answered.Named t ∷ Passed ∷ []
unfolding answers first_below
passes zero lt = refl
passes (suc zero) lt = refl
passes (suc (suc t)) lt = absurd (omega arith)

caught : all_answers stubborn earlier 2 1 (Put 0 5 ∷ Put 1 8 ∷ Least ∷ Remove 0 ∷ []) ≡ Entered ∷ Entered ∷ answered.Named 1 ∷ Failed (found KeyBeforeBound 1 0) ∷ []
unfolding answers first_below
caught = refl

pub queue_shown : QueueTable
queue_shown = record {
  class_before = refl;
  classes_level = λ minute h. (level 4 7 minute h (omega arith) (omega arith) refl, level 7 4 minute h (omega arith) (omega arith) refl);
  passed_over = caught;
  bound_number = refl;
  either_named = either;
  either_passes = passes;
}
