use Rattle.std.proofs.Common.{◌≡◌, length, arith}
use Rattle.std.proofs.lemmas.Bool.Decides.{nat_tests}
use Rattle.words.proofs.LineSteps.{no_lines}
use Rattle.words.proofs.lines.LinesIterator.next.Goals as goal

pub returns-then-is_empty-clause-steps : goal.returns-then-is_empty-clause-steps
returns-then-is_empty-clause-steps c =
    let e : length c.args.self.now.rest.now ≡ 0 = grind (arith, nat_tests, c.if-is_empty.ensures) in
    (no_lines c.args.self.now.rest.now e, no_lines c.args.self.now.rest.now e)
