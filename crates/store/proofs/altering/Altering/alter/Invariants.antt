use mathlib.Core.Path.{◌≡◌}
use lib.ListN.{length}
use Rattle.store_laws.specs.AlteringMachine.{due}
use Rattle.store.proofs.altering.Altering.alter.Given as goal

abbrev pub invariant-loop-self : goal.invariant-loop-self
invariant-loop-self g l =
    due g.S.Store.meaning l.self.coming.now l.self.count (g.S.Store.state l.self.store)
    ≡ due g.S.Store.meaning l.initial.self.coming.now l.initial.self.count (g.S.Store.state l.initial.self.store)

abbrev pub decreases-loop-self : goal.decreases-loop-self
decreases-loop-self g l = length l.self.coming.now
