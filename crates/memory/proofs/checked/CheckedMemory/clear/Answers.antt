use Rattle.std.proofs.Common.{arith}
use Rattle.std.proofs.lemmas.Result.{err_from_is_err_and}
use Rattle.parts.proofs.Steps.{up_to_none}
use Rattle.memory.proofs.Loops.{does, one_more, ended}
use Rattle.memory.proofs.checked.CheckedMemory.clear.Goals as goal

pub loop-number-init : goal.loop-number-init
loop-number-init g c = up_to_none _ _ _

pub loop-number-preserved : goal.loop-number-preserved
loop-number-preserved g c = one_more _ _ _ _ _ _ _ _ c.loop-number.invariant _ (rw c.new.ensures at c.in_ok-put.ensures)

pub returns-in_err-put : goal.returns-in_err-put
returns-in_err-put g c =
    let p = err_from_is_err_and c.from_residual.result c.from_residual.ensures.1 in
    let all = ended _ _ _ _ _ _ _ _ c.loop-number.invariant c.args.self.now.clock.size _ (omega (arith, c.cells-number-end.ensures, c.loop-number-test.true)) (rw c.new.ensures at c.in_err-put.ensures) in
    rw (p.1, p.2) (does _ all)
