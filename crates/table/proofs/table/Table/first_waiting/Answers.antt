use Rattle.std.proofs.Common.{false, is_some, get_or, rules}
use Rattle.table.specs.Rows.{rows}
use Rattle.table.proofs.Tabled.{has_row, first_found}
use Rattle.table.proofs.table.Table.first_waiting.Goals as goal

pub returns : goal.returns
returns c =
    let T = c.args.self.now in
    first_found (λ t. is_some (rows T t)) (λ t. get_or T.waits t false) T.tickets _ c.find.result c.find.ensures.ran (λ t b h k. search rules) (has_row T)
