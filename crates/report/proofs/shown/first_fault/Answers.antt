use Rattle.std.proofs.Common.{rules}
use Rattle.report.proofs.Firsts.{first_found}
use Rattle.report.proofs.shown.first_fault.Goals as goal

pub returns : goal.returns
returns g c = first_found g.A.Shown.reported c.args.answers.now c.find_map.result (search rules)
