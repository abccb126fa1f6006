use Rattle.examples.proofs.Shown.{shown}
use Rattle.examples.proofs.examples_hold.Goals as goal

pub returns : goal.returns
returns g c = shown g.S.Store.meaning g.T.Tally.tallying
