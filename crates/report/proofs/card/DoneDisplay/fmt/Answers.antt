use Rattle.report.proofs.card.DoneDisplay.fmt.Goals as goal

pub returns-clause-writes : goal.returns-clause-writes
returns-clause-writes g c = rw (c.passed-passed.ensures, c.first_fault.ensures) at c.write.ensures.writes
