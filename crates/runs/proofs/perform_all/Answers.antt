use Rattle.std.proofs.Common.{◌≡◌, ◌-◌, List, [], ◌∷◌, ◌++◌, map, vec_len, vec_capacity, sym, refl, ap, append_assoc, append-nil, add-zero, arith, rules}
use Rattle.std.proofs.lemmas.Iterator.{YieldsList-from_slice, YieldsList-from_take}
use Rattle.std.proofs.lemmas.Iterator.Consumers.{YieldsList-end}
use Rattle.std.proofs.lemmas.List.{length_push, map-append}
use Rattle.parts.specs.Runs.{answers, after}
use Rattle.runs.proofs.perform_all.Goals as goal

-- one call more
module _ {C R S : Type 0} (step : C → S → R × S) where
  answers_more : (cs : List C) (c : C) (s : S) → answers step (cs ++ c ∷ []) s ≡ answers step cs s ++ (step c (after step cs s)).0 ∷ []
  unfolding answers after
  answers_more [] c s = refl
  answers_more (d ∷ cs) c s = ap (λ (rs : List R). (step d s).0 ∷ rs) (answers_more cs c (step d s).1)

  after_more : (cs : List C) (c : C) (s : S) → after step (cs ++ c ∷ []) s ≡ (step c (after step cs s)).1
  unfolding after
  after_more [] c s = refl
  after_more (d ∷ cs) c s = after_more cs c (step d s).1

pub loop-call-init : goal.loop-call-init
unfolding answers after
loop-call-init g c = (tt, tt, sym (add-zero _), refl, sym (append-nil _), refl)

pub loop-call-preserved : goal.loop-call-preserved
loop-call-preserved g c =
    let step = g.P.Performs.machine.step in let start = g.P.Performs.state c.args.part.now in
    let i = c.loop-call.invariant in let e = c.push_reserved.ensures in let p = c.perform.ensures in
    let done = map (λ x. x.now) c.loop-call.yielded in
    let more = map-append (λ x. x.now) c.loop-call.yielded (c.in-Some.call ∷ []) in (
      tt,
      tt,
      omega (arith, e.len, i.2, length_push c.loop-call.yielded c.in-Some.call),
      rw e.capacity i.3,
      rw (more, answers_more step done c.in-Some.call.now start, e.items, p.answer, i.4, i.5) (append_assoc c.args.all.now.items (answers step done start) ((step c.in-Some.call.now (after step done start)).0 ∷ [])),
      rw (more, after_more step done c.in-Some.call.now start, p.leaves, i.5) refl,
    )

pub returns : goal.returns
returns g c =
    let room = vec_capacity c.args.all.now - vec_len c.args.all.now in
    let items = YieldsList-from_take room (YieldsList-from_slice c.args.calls.now (search rules)) (search rules) in
    let e = (YieldsList-end items c.loop-call.yielded _ c.loop-call.yielded_by _ _ c.in-None.is c.next.ensures.steps).0 in
    let i = c.loop-call.invariant in
    record { answer = rw (sym e) i.4; leaves = rw (sym e) i.5 }
