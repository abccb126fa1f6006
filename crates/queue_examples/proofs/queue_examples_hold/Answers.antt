use Rattle.queue_examples.proofs.QueueShown.{queue_shown}
use Rattle.queue_examples.proofs.queue_examples_hold.Goals as goal

pub returns : goal.returns
returns c = queue_shown
