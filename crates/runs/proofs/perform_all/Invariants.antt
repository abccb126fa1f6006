use Rattle.std.proofs.Common.{◌≡◌, ◌+◌, ◌++◌, length, map, vec_items, vec_len, vec_capacity}
use Rattle.parts.specs.Runs.{answers, after}
use Rattle.runs.proofs.perform_all.Given as goal

abbrev pub invariant-loop-call : goal.invariant-loop-call
invariant-loop-call g l =
    let done = map (λ x. x.now) l.yielded in let start = g.P.Performs.state l.initial.part in
    (goal.iterator-loop-call g).can_next l.call-iterator × (goal.iterator-loop-call g).is_finite l.call-iterator ×
    (vec_len l.all ≡ vec_len l.initial.all + length l.yielded) × (vec_capacity l.all ≡ vec_capacity l.initial.all) ×
    (vec_items l.all ≡ vec_items l.initial.all ++ answers g.P.Performs.machine.step done start) × (g.P.Performs.state l.part ≡ after g.P.Performs.machine.step done start)
