use Rattle.std.proofs.Common.{◌≡◌, Ok}
use Rattle.memory_laws.specs.Checked.{plain, swept}
use Rattle.memory.specs.View.{view}
use Rattle.memory.proofs.checked.CheckedMemory.sweep_all.Given as goal

abbrev pub invariant-loop-number : goal.invariant-loop-number
invariant-loop-number g l =
    let f = g.S.Store.state in
    (l.self.clock ≡ l.initial.self.clock) ×
    (swept (plain g.S.Store.meaning) g.T.Tally.tallying l.number (view f l.initial.self) ≡ (Ok l.fresh, view f l.self))
