use Rattle.std.proofs.Common.{◌≡◌, List, IfOk, vec_items, ap, subst}
use Rattle.memory_laws.specs.Mix.{sum_tally, xor_tally}
use Rattle.memory_laws.specs.declared.call.Answer.{Answer}
use Rattle.memory_laws.specs.declared.call.Call.{Call}
use Rattle.plan.specs.declared.plan.Plan.{Plan}
use Rattle.script.specs.declared.card.Card.{Card}
use Rattle.script.specs.declared.card.Rule.TheVariants.{Sum, Xor}
use Rattle.script.specs.declared.card.Tally.{Tally}
use Rattle.tallies.specs.declared.Sum as sums
use Rattle.tallies.specs.declared.Xor as xors
use Rattle.visits.specs.Cards.{tally_of, answers_under, answers_by, answers_to}
use Rattle.visits.proofs.Answered.{usual}
use Rattle.visits.proofs.card.answers.Goals as goal

under_sum : (plan : Plan Card Tally Call) (t : Tally) → t.rule ≡ Sum → t ≡ tally_of plan.kind → answers_under (λ (u : sums.Sum). sum_tally u.key) (record { key = t.key }) plan ≡ answers_to plan
under_sum plan t e is = rw e at (ap (λ u. answers_by u plan) is)

under_xor : (plan : Plan Card Tally Call) (t : Tally) → t.rule ≡ Xor → t ≡ tally_of plan.kind → answers_under (λ (u : xors.Xor). xor_tally u.key) (record { key = t.key }) plan ≡ answers_to plan
under_xor plan t e is = rw e at (ap (λ u. answers_by u plan) is)

pub returns-in-Sum : goal.returns-in-Sum
returns-in-Sum c = subst (λ (all : List Answer). IfOk c.answers_under.result (λ v. vec_items v ≡ all)) (under_sum c.args.plan.now c.unwrap_or_default-tally.result c.in-Sum.is (usual _ _ c.unwrap_or_default-tally.ensures)) c.answers_under.ensures

pub returns-in-Xor : goal.returns-in-Xor
returns-in-Xor c = subst (λ (all : List Answer). IfOk c.answers_under-in-Xor.result (λ v. vec_items v ≡ all)) (under_xor c.args.plan.now c.unwrap_or_default-tally.result c.in-Xor.is (usual _ _ c.unwrap_or_default-tally.ensures)) c.answers_under-in-Xor.ensures
