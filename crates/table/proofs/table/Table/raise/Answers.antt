use Rattle.std.proofs.Common.{◌∙◌, arith}
use Rattle.table.specs.Rows.{rows}
use Rattle.table.proofs.Tabled.{raised_more, raised_all}
use Rattle.table.proofs.table.Table.raise.Goals as goal

pub loop-t-preserved : goal.loop-t-preserved
loop-t-preserved g c =
    let i = c.loop-t.invariant in let e = c.raise_one.ensures in
    (e.tickets ∙ i.0, raised_more g.O.Order.before c.args.key (rows c.args.self.now) c.loop-t.t _ _ i.1 e.rows)

pub returns-clause-rows : goal.returns-clause-rows
returns-clause-rows g c = raised_all g.O.Order.before c.args.key c.args.self.now c.loop-t.t _ (omega arith) c.loop-t.invariant.1
