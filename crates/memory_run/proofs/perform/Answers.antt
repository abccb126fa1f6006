use Rattle.std.proofs.Common.{ap, ◌∙◌}
use Rattle.parts.specs.Runs.{answers, after}
use Rattle.parts.proofs.Runs.{all_answered, all_left}
use Rattle.memory_laws.specs.Checked.{plain}
use Rattle.memory_laws.specs.Runs.{performed}
use Rattle.memory_laws.proofs.Forget.{watched_answers, watched_left}
use Rattle.memory_laws.proofs.Promised.{promised}
use Rattle.memory_run.proofs.perform.Goals as goal

pub returns : goal.returns
returns g c =
    let m = g.S.Store.meaning in let l = g.T.Tally.tallying in
    let s = g.S.Store.state c.args.store in let cs = c.args.calls.now in
    let new = c.new.ensures.outcome in
    let all = c.in-Ok.ensures in let done = c.perform_all.ensures in
    record {
      keeps = promised m g.S.Store.keeps l g.T.Tally.laws s c.args.tally cs;
      gives = (
        all_answered (performed (plain m) l) cs _ _ _ all.len all.capacity _ _ all.items done.answer ∙ ap (answers (performed (plain m) l) cs) new ∙ watched_answers m l s c.args.tally cs,
        c.into_store.ensures ∙ ap (λ x. x.store) (all_left (performed (plain m) l) cs _ _ _ all.len all.capacity _ done.leaves ∙ ap (after (performed (plain m) l) cs) new) ∙ watched_left m l s c.args.tally cs,
      );
    }

pub returns-in-Err-clause-keeps : goal.returns-in-Err-clause-keeps
returns-in-Err-clause-keeps g c = promised g.S.Store.meaning g.S.Store.keeps g.T.Tally.tallying g.T.Tally.laws _ c.args.tally c.args.calls.now
