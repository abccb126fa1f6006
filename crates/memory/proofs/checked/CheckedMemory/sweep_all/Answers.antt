use Rattle.std.proofs.Common.{refl, ap, ◌∙◌, arith}
use Rattle.std.proofs.lemmas.Result.{err_from_is_err_and}
use Rattle.parts.specs.Outcomes.{and_then}
use Rattle.parts.proofs.Steps.{up_to_none}
use Rattle.memory_laws.specs.Checked.{plain, closed}
use Rattle.memory.proofs.Loops.{does, one_more, ended}
use Rattle.memory.proofs.checked.CheckedMemory.sweep_all.Goals as goal

pub loop-number-init : goal.loop-number-init
loop-number-init g c = (refl, rw c.start-fresh.ensures (up_to_none _ _ _))

pub loop-number-preserved : goal.loop-number-preserved
loop-number-preserved g c =
    let told = rw c.new.ensures at c.in_ok-fresh.ensures in
    (told.clock ∙ c.loop-number.invariant.0, one_more _ _ _ _ _ _ _ _ c.loop-number.invariant.1 _ told.does)

pub returns-in_err-fresh-clause-does : goal.returns-in_err-fresh-clause-does
returns-in_err-fresh-clause-does g c =
    let p = err_from_is_err_and c.from_residual.result c.from_residual.ensures.1 in
    let all = ended _ _ _ _ _ _ _ _ c.loop-number.invariant.1 c.args.self.now.clock.size _ (omega (arith, c.cells-number-end.ensures, c.loop-number-test.true)) (rw c.new.ensures at c.in_err-fresh.ensures.does) in
    rw (p.1, p.2) (does _ (ap (λ o. and_then o (closed (plain g.S.Store.meaning) g.T.Tally.tallying)) all))
