use Rattle.std.proofs.Common.{rules}
use Rattle.std.proofs.lemmas.Fmt.{contents_after_writes}
use Rattle.std.proofs.lemmas.Option.{IfSome_then}
use Rattle.std.proofs.lemmas.Result.{on_ok_weaker}
use Rattle.report.proofs.out.Out.write_fmt.Goals as goal

pub returns : goal.returns
returns g c = search (rules, on_ok_weaker c.write.result (λ w. IfSome_then (g.D.Display.output c.args.value) w (λ text p. contents_after_writes _ (λ l. l) (λ before new after e. e) _ text _ p)) c.write.ensures.writes)
