use Rattle.std.proofs.Common.{refl}
use Rattle.words.proofs.LineSteps.{ended_line, whole_line}
use Rattle.words.proofs.lines.split_line.Goals as goal

pub returns-in-Some-clause-first : goal.returns-in-Some-clause-first
returns-in-Some-clause-first c = λ some. ended_line c.args.text.now _ c.in-Some.n c.in-Some.ensures refl

pub returns-in-None-clause-first : goal.returns-in-None-clause-first
returns-in-None-clause-first c = whole_line c.args.text.now c.in-None.ensures
