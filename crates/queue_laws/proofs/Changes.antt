-- What a call on a check is answered and leaves, way by way.
use Rattle.std.proofs.Common.{◌≡◌, ℕ, Bool, true, false, cond, eqb, Some, None, Ok, Err, Option, Result, sym, refl, subst}
use Rattle.std.proofs.lemmas.Bool.{eqb-true}
use Rattle.parts.specs.declared.fault.Cause.{Cause}
use Rattle.parts.specs.declared.fault.Cause.TheVariants.{NothingNamed, NamedNotWaiting, KeyBeforeBound}
use Rattle.parts.specs.declared.fault.QueueFault.{QueueFault}
use Rattle.parts.specs.Outcomes.{and_then, settled, unless_broken}
use Rattle.parts.specs.Queues.{QueueMeaning, found, put_declined, remove_declined}
use Rattle.queue_laws.specs.declared.call.Call.{Call}
use Rattle.queue_laws.specs.declared.call.Call.TheVariants.{Put, Remove, Least, Audit, Clear}
use Rattle.queue_laws.specs.declared.call.Answer.{Answer}
use Rattle.queue_laws.specs.declared.call.Answer.TheVariants.{Entered, Removed, Named, Nothing, Passed, Cleared, Declined, Failed}
use Rattle.queue_laws.specs.Tables.{Row, Table, empty_table, with_row, fresh_row, waiting, first_waiting, raised, offends, first_offender}
use Rattle.queue_laws.specs.CheckedQueue.{Chk, Does, height, at_below, at_table, at_broken, on_queue, finds, unless_declined, entered, taken, raising, named, if_any, auditing, emptied}
use Rattle.queue_laws.specs.QueueRuns.{naming_of, refused, told, performed}

module _ (q : QueueMeaning) (before : ℕ → ℕ → Bool) where
  -- the check s, with the queue below left as x and the table as T
  abbrev pub leaving : Chk q before → q.State → Table → Chk q before
  leaving s x T = at_table (at_below s x) T

  pub data Change (s : Chk q before) : Call → Answer → Chk q before → Type 0 where
    was_broken : {c : Call} (f : QueueFault) → s.broken ≡ Some f → Change s c (Failed f) s
    declines : {c : Call} (f : QueueFault) → s.broken ≡ None → Change s c (Declined f) s
    breaks : {c : Call} (x : q.State) (f : QueueFault) → s.broken ≡ None → Change s c (Failed f) (at_broken f (at_below s x))
    enters : (t k : ℕ) (x : q.State) → s.broken ≡ None → put_declined s.capacity (waiting s.table) t k ≡ None → Change s (Put t k) Entered (leaving s x (with_row s.table t (Some (fresh_row k))))
    takes : (t : ℕ) (x : q.State) → s.broken ≡ None → offends before (s.table t) ≡ false → Change s (Remove t) Removed (leaving s x (with_row s.table t None))
    names : (t : ℕ) (r : Row) (x : q.State) → s.broken ≡ None → s.table t ≡ Some r → Change s Least (Named t) (leaving s x (raised before s.table r.key))
    names_none : s.broken ≡ None → Change s Least Nothing s
    passes : s.broken ≡ None → first_offender before s.table s.capacity ≡ None → Change s Audit Passed s
    empties : (x : q.State) → s.broken ≡ None → Change s Clear Cleared (leaving s x empty_table)
    clears_unfit : s.broken ≡ None → s.capacity ≡ 0 → Change s Clear Cleared s

  module _ (s : Chk q before) (c : Call) where
    abbrev Way : {X : Type 0} → (X → Answer) → Does q before X → Type 0
    Way f o = Change s c (told f o).0 (told f o).1

    by_broken : {X : Type 0} (f : X → Answer) (o : Does q before X) (b : Option QueueFault) → s.broken ≡ b → (s.broken ≡ None → Way f o) → Way f (unless_broken b s o)
    by_broken f o (Some g) e h = subst (λ (b : Option QueueFault). Change s c (refused b g) s) (sym e) (was_broken g e)
    by_broken f o None e h = h e

    by_decline : {X : Type 0} (f : X → Answer) (o : Does q before X) (t : ℕ) (all d : Option Cause) → all ≡ d → s.broken ≡ None → (all ≡ None → Way f o) → Way f (unless_declined q before d t s o)
    by_decline f o t all (Some x) d e h = let g = found x (height q before s) t in subst (λ (b : Option QueueFault). Change s c (refused b g) s) (sym e) (declines g e)
    by_decline f o t all None d e h = h d

    -- a fault from below breaks the check
    by_below : {X Y : Type 0} (f : Y → Answer) (r : Result X QueueFault) (x : q.State) (k : X → Chk q before → Does q before Y) → s.broken ≡ None →
        ((y : X) → Way f (settled at_broken (k y (at_below s x)))) → Way f (settled at_broken (and_then (on_queue q before s (r, x)) k))
    by_below f (Err g) x k e h = breaks x g e
    by_below f (Ok y) x k e h = h y

  -- remove, by whether the key is before its bound
  by_offence : (t : ℕ) (s : Chk q before) → s.broken ≡ None → (b : Bool) → offends before (s.table t) ≡ b →
      Way s (Remove t) (λ _. Removed) (settled at_broken (cond b (finds q before KeyBeforeBound t s) (and_then (on_queue q before s (q.remove s.below t)) (taken q before t))))
  by_offence t s e true o = breaks s.below (found KeyBeforeBound (height q before s) t) e
  by_offence t s e false o =
      by_below s (Remove t) (λ _. Removed) (q.remove s.below t).0 (q.remove s.below t).1 (taken q before t) e (λ _. takes t (q.remove s.below t).1 e o)

  -- least, by what is named below
  by_row : (t : ℕ) (s : Chk q before) (x : q.State) → s.broken ≡ None → (o : Option Row) → s.table t ≡ o → Way s Least naming_of (settled at_broken (raising q before t o (at_below s x)))
  by_row t s x e (Some r) h = names t r x e h
  by_row t s x e None h = breaks x (found NamedNotWaiting (height q before (at_below s x)) t) e

  by_name : (s : Chk q before) (x : q.State) → s.broken ≡ None → (o : Option ℕ) → Way s Least naming_of (settled at_broken (named q before o (at_below s x)))
  by_name s x e (Some t) = by_row t s x e (s.table t) refl
  by_name s x e None = breaks x (found NothingNamed (height q before (at_below s x)) 0) e

  by_any : (s : Chk q before) → s.broken ≡ None → (o : Option ℕ) → Way s Least naming_of (if_any q before o s (settled at_broken (and_then (on_queue q before s (q.least s.below)) (named q before))))
  by_any s e (Some v) = by_below s Least naming_of (q.least s.below).0 (q.least s.below).1 (named q before) e (by_name s (q.least s.below).1 e)
  by_any s e None = names_none e

  by_offender : (s : Chk q before) → s.broken ≡ None → (o : Option ℕ) → first_offender before s.table s.capacity ≡ o → Way s Audit (λ _. Passed) (settled at_broken (auditing q before o s))
  by_offender s e (Some t) h = breaks s.below (found KeyBeforeBound (height q before s) t) e
  by_offender s e None h = passes e h

  by_fit : (s : Chk q before) → s.broken ≡ None → (b : Bool) → eqb s.capacity 0 ≡ b →
      Way s Clear (λ _. Cleared) (cond b (Ok tt, s) (settled at_broken (and_then (on_queue q before s (q.clear s.below)) (emptied q before))))
  by_fit s e true z = clears_unfit e (eqb-true s.capacity 0 z)
  by_fit s e false z = by_below s Clear (λ _. Cleared) (q.clear s.below).0 (q.clear s.below).1 (emptied q before) e (λ _. empties (q.clear s.below).1 e)

  pub change : (c : Call) (s : Chk q before) → Change s c (performed q before c s).0 (performed q before c s).1
  change (Put t k) s =
      let d = put_declined s.capacity (waiting s.table) t k in
      by_broken s (Put t k) (λ _. Entered) _ s.broken refl (λ e. by_decline s (Put t k) (λ _. Entered) _ t d d refl e (λ n.
      by_below s (Put t k) (λ _. Entered) (q.put s.below t k).0 (q.put s.below t k).1 (entered q before t k) e (λ _. enters t k (q.put s.below t k).1 e n)))
  change (Remove t) s =
      let d = remove_declined s.capacity (waiting s.table) t in
      by_broken s (Remove t) (λ _. Removed) _ s.broken refl (λ e. by_decline s (Remove t) (λ _. Removed) _ t d d refl e (λ n. by_offence t s e (offends before (s.table t)) refl))
  change Least s = by_broken s Least naming_of _ s.broken refl (λ e. by_any s e (first_waiting s.table s.capacity))
  change Audit s = by_broken s Audit (λ _. Passed) _ s.broken refl (λ e. by_offender s e (first_offender before s.table s.capacity) refl)
  change Clear s = by_broken s Clear (λ _. Cleared) _ s.broken refl (λ e. by_fit s e (eqb s.capacity 0) refl)
