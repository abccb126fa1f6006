use Rattle.std.proofs.Common.{◌≡◌}
use Rattle.table.specs.Rows.{rows}
use Rattle.table.proofs.Tabled.{raised_below}
use Rattle.table.proofs.table.Table.raise.Given as goal

abbrev pub invariant-loop-t : goal.invariant-loop-t
invariant-loop-t g l = (l.self.tickets ≡ l.initial.self.tickets) × (rows l.self ≡ raised_below g.O.Order.before l.key (rows l.initial.self) l.t)
