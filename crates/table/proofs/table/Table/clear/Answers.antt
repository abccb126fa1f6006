use Rattle.table.proofs.Tabled.{rows_empty}
use Rattle.table.proofs.table.Table.clear.Goals as goal

pub returns-clause-rows : goal.returns-clause-rows
returns-clause-rows c = rows_empty _ _ _ _
