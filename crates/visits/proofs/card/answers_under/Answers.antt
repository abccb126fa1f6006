use Rattle.std.proofs.Common.{vec_items, ap, ◌∙◌}
use Rattle.memory_laws.specs.Promise.{all_answers}
use Rattle.store_laws.specs.AlteringMachine.{altering}
use Rattle.store_laws.specs.ArrayMachine.{array_meaning}
use Rattle.visits.specs.Cards.{answers_under}
use Rattle.visits.specs.Stores.{altered_card}
use Rattle.visits.proofs.Answered.{answered}
use Rattle.visits.proofs.card.answers_under.Goals as goal

pub returns : goal.returns
returns g c =
    let state = c.card-store.ensures ∙ ap (altered_card c.args.plan.now.kind.cells) c.as_slice.ensures.value in
    let calls = c.as_slice-2.ensures in
    answered c.perform.result.1 vec_items _ (answers_under g.T.Tally.tallying c.args.tally c.args.plan.now) _ _ (λ k. all_answers (altering array_meaning) g.T.Tally.tallying (state k) c.args.tally (calls k)) c.perform.ensures.gives
