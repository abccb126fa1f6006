-- What the calls of a card section are answered.
use Rattle.std.specs.Prelude.{List}
use Rattle.std.specs.Option.{unwrap_or}
use Rattle.memory_laws.specs.Mix.{sum_tally, xor_tally}
use Rattle.memory_laws.specs.Promise.{all_answers}
use Rattle.memory_laws.specs.declared.call.Answer.{Answer}
use Rattle.memory_laws.specs.declared.call.Call.{Call}
use Rattle.parts.specs.Tallying.{Tallying}
use Rattle.plan.specs.Plans.{calls_of, alterations_of}
use Rattle.plan.specs.declared.plan.Plan.{Plan}
use Rattle.script.specs.Cards.{usual_tally}
use Rattle.script.specs.declared.card.Card.{Card}
use Rattle.script.specs.declared.card.Rule.TheVariants.{Sum, Xor}
use Rattle.script.specs.declared.card.Tally.{Tally}
use Rattle.store_laws.specs.AlteringMachine.{altering}
use Rattle.store_laws.specs.ArrayMachine.{array_meaning}
use Rattle.tallies.specs.declared.Sum as sums
use Rattle.tallies.specs.declared.Xor as xors
use Rattle.visits.specs.Stores.{altered_card}

-- the tally that the section gives, or the sum under key 0
abbrev pub tally_of : Card → Tally
tally_of card = unwrap_or card.tally usual_tally

-- the answers of a checked memory over the section's card, under the tally t
abbrev pub answers_under : {T V : Type 0} → (T → Tallying V) → T → Plan Card Tally Call → List Answer
answers_under tallying t plan = all_answers (altering array_meaning) tallying (altered_card plan.kind.cells (alterations_of plan)) t (calls_of plan)

-- under the tally of that rule and key
abbrev pub answers_by : Tally → Plan Card Tally Call → List Answer
answers_by tally plan = elim tally.rule [ Sum ↦ answers_under (λ (t : sums.Sum). sum_tally t.key) (record { key = tally.key }) plan | Xor ↦ answers_under (λ (t : xors.Xor). xor_tally t.key) (record { key = tally.key }) plan ]

abbrev pub answers_to : Plan Card Tally Call → List Answer
answers_to plan = answers_by (tally_of plan.kind) plan
