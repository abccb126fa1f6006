-- The promise, of every list of calls on a checked queue just made.
use Rattle.std.proofs.Common.{◌≡◌, ℕ, ◌+◌, min, Bool, List, [], ◌∷◌, Some, None, Ok, Err, Option, Result, sym, refl, ap, ◌∙◌, subst}
use Rattle.parts.specs.declared.fault.Cause.{Cause}
use Rattle.parts.specs.declared.fault.QueueFault.{QueueFault}
use Rattle.parts.specs.Orders.{OrderLaws}
use Rattle.parts.specs.Queues.{Entries, nothing_waits, with_entry, put_declined, remove_declined, found, QueueMeaning, Holds, Owes, KeepsQueue}
use Rattle.parts.specs.Runs.{answers}
use Rattle.queue_laws.specs.declared.call.Call.{Call}
use Rattle.queue_laws.specs.declared.call.Call.TheVariants.{Put, Remove, Least, Audit, Clear}
use Rattle.queue_laws.specs.declared.call.Answer.{Answer}
use Rattle.queue_laws.specs.declared.call.Answer.TheVariants.{Entered, Removed, Cleared, Declined}
use Rattle.queue_laws.specs.CheckedQueue.{Chk, Does, height, puts, removes, leasts, clears, made, Loyal, checked, Fits}
use Rattle.queue_laws.specs.QueueRuns.{naming_of, refused, told, performed, after_call, ideally, CanAnswer, CanGive}
use Rattle.queue_laws.specs.QueuePromise.{all_answers, Promise}
use Rattle.queue_laws.proofs.QueueKeeps.{checked_keeps, loyal_audit, fitting_is, starts_loyal}
use Rattle.queue_laws.proofs.Caught.{leaving_caught, waiting_caught, bounds_risen}

module _ (q : QueueMeaning) (before : ℕ → ℕ → Bool) (keeps : KeepsQueue before q) where
  told_ok : {X : Type 0} (f : X → Answer) (o : Does q before X) (x : X) → o.0 ≡ Ok x → (told f o).0 ≡ f x
  told_ok {X} f o x e = ap (λ (r : Result X QueueFault). elim r [ Ok y ↦ f y | Err g ↦ refused o.1.broken g ]) e

  told_declined : {X : Type 0} (f : X → Answer) (o : Does q before X) (g : QueueFault) → o.0 ≡ Err g → o.1.broken ≡ None → (told f o).0 ≡ Declined g
  told_declined {X} f o g e n =
      ap (λ (r : Result X QueueFault). elim r [ Ok y ↦ f y | Err g ↦ refused o.1.broken g ]) e ∙ ap (λ (b : Option QueueFault). refused b g) n

  -- a loyal check of height h and capacity m, over a queue in which e waits
  record Goes (h m : ℕ) (e : Entries) (s : Chk q before) : Type 0 where
    loyal : Loyal q before s
    height_is : height q before s ≡ h
    capacity_is : s.capacity ≡ m
    waits : q.entries s.below ≡ e

  abbrev Step : ℕ → ℕ → Entries → Call → Answer → Chk q before → Type 0
  Step h m e c a z = CanAnswer before h m e c a × Goes h m (after_call e c a) z

  module _ (h m : ℕ) (e : Entries) (s : Chk q before) (g : Goes h m e s) where
    goes_on : (e' : Entries) (z : Chk q before) → Holds (checked q before) s e' z → Goes h m e' z
    goes_on e' z d = record { loyal = d.loyal; height_is = d.same_height ∙ g.height_is; capacity_is = d.same_capacity ∙ g.capacity_is; waits = d.entries_are }

    -- a put or a remove, by what it owes
    by_owing : (c : Call) (t : ℕ) (e' : Entries) (done : Answer) (o : Does q before (Unit {0})) (d : Option Cause) →
        ((a : Answer) → a ≡ ideally before h m d t done → CanAnswer before h m e c a) → after_call e c done ≡ e' → ((f : QueueFault) → after_call e c (Declined f) ≡ e) →
        Owes (checked q before) s d t e' o → Step h m e c (told (λ _. done) o).0 (told (λ _. done) o).1
    by_owing c t e' done o (Some x) can entered stayed w =
        let a : (told (λ _. done) o).0 ≡ Declined (found x h t) = told_declined (λ _. done) o (found x h t) (w.0 ∙ ap (λ n. Err (found x n t)) g.height_is) w.1.holds.loyal.unbroken in
        (can _ a, rw a (subst (λ (f : Entries). Goes h m f o.1) (sym (stayed (found x h t))) (goes_on e o.1 (subst (λ (f : Entries). Holds (checked q before) s f o.1) g.waits w.1.holds))))
    by_owing c t e' done o None can entered stayed w =
        let a : (told (λ _. done) o).0 ≡ done = told_ok (λ _. done) o tt w.0 in
        (can _ a, rw a (subst (λ (f : Entries). Goes h m f o.1) (sym entered) (goes_on e' o.1 w.1)))

    abbrev K : KeepsQueue before (checked q before)
    K = checked_keeps q before keeps

    put_owed : (t k : ℕ) → Owes (checked q before) s (put_declined m e t k) t (with_entry e t (Some k)) (puts q before t k s)
    put_owed t k = rw (← g.capacity_is, ← g.waits) (K.puts s g.loyal t k)

    remove_owed : (t : ℕ) → Owes (checked q before) s (remove_declined m e t) t (with_entry e t None) (removes q before t s)
    remove_owed t = rw (← g.capacity_is, ← g.waits) (K.removes s g.loyal t)

    step : (c : Call) → Step h m e c (performed q before c s).0 (performed q before c s).1
    step (Put t k) = by_owing (Put t k) t (with_entry e t (Some k)) Entered (puts q before t k s) (put_declined m e t k) (λ a i. i) refl (λ f. refl) (put_owed t k)
    step (Remove t) = by_owing (Remove t) t (with_entry e t None) Removed (removes q before t s) (remove_declined m e t) (λ a i. i) refl (λ f. refl) (remove_owed t)
    step Least =
        let w = K.leasts s g.loyal in
        let n = subst (λ (f : Entries). Rattle.parts.specs.Queues.Named before f (q.named s.below)) g.waits (keeps.names s.below g.loyal.loyal) in
        ((q.named s.below, n, told_ok naming_of (leasts q before s) (q.named s.below) w.0), goes_on e _ (subst (λ (f : Entries). Holds (checked q before) s f (leasts q before s).1) g.waits w.1.holds))
    step Audit = rw (loyal_audit q before keeps s g.loyal) (refl, g)
    step Clear =
        let w = K.clears s g.loyal in
        let a : (told (λ _. Cleared) (clears q before s)).0 ≡ Cleared = told_ok (λ _. Cleared) (clears q before s) tt w.0 in
        (a, rw a (goes_on nothing_waits _ w.1))

  gives : (h m : ℕ) (e : Entries) (s : Chk q before) → Goes h m e s → (cs : List Call) → CanGive before h m e cs (answers (performed q before) cs s)
  unfolding answers
  gives h m e s g [] = refl
  gives h m e s g (c ∷ cs) = let w = step h m e s g c in (w.0, gives h m (after_call e c (performed q before c s).0) (performed q before c s).1 w.1 cs)

  no_alarm : (m : ℕ) (x : q.State) (cs : List Call) → q.loyal x → Fits q before m x → q.entries x ≡ nothing_waits → CanGive before (min 255 (q.height x + 1)) m nothing_waits cs (all_answers q before m x cs)
  no_alarm m x cs l f e =
      gives (min 255 (q.height x + 1)) m nothing_waits (made q before m x)
      (record { loyal = (starts_loyal q before keeps m x).where_empty l f e; height_is = refl; capacity_is = fitting_is q before keeps m x f; waits = e }) cs

  pub promised : OrderLaws before → (m : ℕ) (x : q.State) (cs : List Call) → Promise q before m x cs
  promised laws m x cs = record {
    caught_leaving = leaving_caught q before laws m x cs;
    caught_waiting = waiting_caught q before laws m x cs;
    bounds_rise = bounds_risen q before laws m x cs;
    no_alarm = no_alarm m x cs;
  }
