-- A loyal queue names a ticket that may be named.
use Rattle.std.proofs.Common.{◌≡◌, ℕ, Bool, Option, Result, sym, ◌∙◌, subst}
use Rattle.parts.specs.declared.fault.QueueFault.{QueueFault}
use Rattle.parts.specs.Queues.{QueueMeaning, KeepsQueue, Names}

pub names_so : (before : ℕ → ℕ → Bool) (q : QueueMeaning) → KeepsQueue before q → (s : q.State) (r : Result (Option ℕ) QueueFault) → r ≡ (q.least s).0 → q.loyal s → Names before (q.entries s) r
names_so before q keeps s r e l = subst (Names before (q.entries s)) (sym (e ∙ (keeps.leasts s l).0)) (keeps.names s l)
