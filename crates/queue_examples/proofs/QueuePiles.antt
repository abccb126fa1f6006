use Rattle.std.proofs.Common.{◌≡◌, ℕ, ◌+◌, ◌-◌, ◌≤◌, min, Bool, List, ap, ◌∙◌, subst, arith}
use Rattle.parts.specs.Meaning.{Meaning, Keeps}
use Rattle.parts.specs.Orders.{OrderLaws}
use Rattle.parts.specs.Queues.{QueueMeaning, most_tickets, nothing_waits}
use Rattle.parts.specs.Tallying.{Tallying, Laws}
use Rattle.std.proofs.lemmas.Bool.Decides.{nat_tests}
use Rattle.memory_laws.specs.Checked.{Mem, plain, checked, StartsLoyal}
use Rattle.memory_laws.proofs.CheckedKeeps.{checked_keeps, starts_as_large}
use Rattle.heap_laws.specs.Cells.{room}
use Rattle.heap_laws.specs.HeapMachine as heaps
use Rattle.heap_laws.proofs.HeapKeeps.{heap_keeps}
use Rattle.queue_laws.specs.declared.call.Call as queue_calls
use Rattle.queue_laws.specs.CheckedQueue as queues
use Rattle.queue_laws.specs.QueueRuns.{CanGive}
use Rattle.queue_laws.specs.QueuePromise as promises
use Rattle.queue_laws.proofs.QueueKeeps.{fitting_is}

room_few : (n w : ℕ) → room n w ≤ most_tickets
room_few n w = grind (arith, nat_tests)

-- a check over a check over a heap over a memory just made over a loyal store gives what an ideal queue can give
module _ (m : Meaning) (keeps : Keeps m) {T V : Type 0} (l : T → Tallying V) (laws : (t : T) → Laws (l t)) (before : ℕ → ℕ → Bool) (order : OrderLaws before) where
  abbrev cells : Meaning
  cells = checked m l

  abbrev tree : QueueMeaning
  tree = heaps.heap cells before

  abbrev lower : QueueMeaning
  lower = queues.checked tree before

  pub ideal_on_queues : (s : m.State) (x : Mem (plain m) l) (y : heaps.Heap (Mem (plain m) l)) (z : lower.State) (tickets : ℕ) (cs : List queue_calls.Call) →
      StartsLoyal m l s x → heaps.StartsLoyal cells before x y → z ≡ queues.made tree before tickets y → queues.StartsLoyal tree before tickets y z → promises.Promise lower before tickets z cs →
      m.loyal s → m.width s ≡ 48 → 1 ≤ tickets → tickets ≤ room (m.size s) 28 →
      CanGive before (min 255 (min 255 (min 255 (min 255 (m.height s + 1) + 1) + 1) + 1)) tickets nothing_waits cs (promises.all_answers lower before tickets z cs)
  ideal_on_queues s x y z tickets cs memory tall is check promise h wide low high =
      let d = memory h (omega arith) in
      let size : x.size ≡ m.size s = starts_as_large m keeps l laws s x memory h (omega arith) in
      let width : x.width ≡ 28 = d.width_is ∙ ap (λ (w : ℕ). w - 20) wide in
      let same : room x.size x.width ≡ room (m.size s) 28 = rw (size, width) in
      let e = tall d.loyal (omega arith) in
      let few = room_few (m.size s) 28 in
      let fits : queues.Fits tree before tickets y = record { capacity = (low, omega arith); capacity_below = let c = e.same_capacity in omega arith } in
      let loyal = check.where_empty e.loyal fits e.entries_are in
      let below : z.below ≡ y = ap (λ (c : lower.State). c.below) is in
      let capacity : z.capacity ≡ tickets = ap (λ (c : lower.State). c.capacity) is ∙ fitting_is tree before (heap_keeps cells (checked_keeps m keeps l laws) before order) tickets y fits in
      let high_up : lower.height z ≡ min 255 (min 255 (min 255 (m.height s + 1) + 1) + 1) =
      ap (λ (t : tree.State). min 255 (tree.height t + 1)) below ∙ ap (λ (g : ℕ). min 255 (g + 1)) (e.same_height ∙ ap (λ (g : ℕ). min 255 (g + 1)) d.height_is) in
      subst (λ (g : ℕ). CanGive before (min 255 (g + 1)) tickets nothing_waits cs (promises.all_answers lower before tickets z cs)) high_up
      (promise.no_alarm loyal (record { capacity = (low, omega arith); capacity_below = omega arith }) (ap tree.entries below ∙ e.entries_are))
