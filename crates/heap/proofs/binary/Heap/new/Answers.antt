use Rattle.std.proofs.Common.{sym, subst}
use Rattle.heap_laws.specs.HeapMachine.{Heap, StartsLoyal}
use Rattle.heap_laws.proofs.HeapKeeps.{starts_loyal}
use Rattle.heap.proofs.binary.Heap.new.Goals as goal

pub returns : goal.returns
returns g c =
    let m = g.S.Store.meaning in
    let before = g.O.Order.before in
    let s = g.S.Store.state c.args.store in
    let made_is = c.clear.ensures.leaves in
    record { outcome = made_is; loyal = subst (λ (x : Heap m.State). StartsLoyal m before s x) (sym made_is) (starts_loyal m g.S.Store.keeps before g.met.O.Order.laws s) }
