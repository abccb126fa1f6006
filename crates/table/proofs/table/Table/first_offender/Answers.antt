use Rattle.std.proofs.Common.{ℕ, refl, rules}
use Rattle.queue_laws.specs.Tables.{offends}
use Rattle.table.specs.Rows.{rows}
use Rattle.table.proofs.Tabled.{first_found}
use Rattle.table.proofs.table.Table.first_offender.Goals as goal

pub returns : goal.returns
returns g c =
    let T = c.args.self.now in
    let p = λ (t : ℕ). offends g.O.Order.before (rows T t) in
    first_found p p T.tickets _ c.find.result c.find.ensures.ran (λ t b h k. search rules) (λ t lt. refl)
