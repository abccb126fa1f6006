use Rattle.std.proofs.Common.{false, replicate}
use Rattle.parts.specs.Queues.{most_tickets}
use Rattle.table.proofs.Tabled.{rows_empty}
use Rattle.table.proofs.table.Table.new.Goals as goal

pub returns-clause-rows : goal.returns-clause-rows
returns-clause-rows c = rows_empty _ (replicate most_tickets 0) (replicate most_tickets false) (replicate most_tickets 0)
