-- A ticket that was passed over is caught, and bounds only rise.
use Rattle.std.proofs.Common.{◌≡◌, ℕ, zero, suc, ◌<◌, ◌≤◌, Bool, true, false, cond, ◌≢◌, List, [], ◌∷◌, length, get_or, take, Some, None, Option, sym, refl, ap, ◌∙◌, subst, ⊎_elim, arith}
use Rattle.std.proofs.lemmas.Bool.{cases_eq, cases_lt, both_ways, lt-ltb}
use Rattle.parts.specs.declared.fault.Cause.TheVariants.{KeyBeforeBound}
use Rattle.parts.specs.declared.fault.QueueFault.{QueueFault}
use Rattle.parts.specs.Orders.{OrderLaws}
use Rattle.parts.specs.Queues.{Entries, nothing_waits, found, remove_declined, QueueMeaning}
use Rattle.parts.specs.Runs.{answers, after}
use Rattle.parts.proofs.OrderFacts.{before_near, before_trans, before_self}
use Rattle.parts.proofs.Runs.{answer_at, after_one, answers_take}
use Rattle.queue_laws.specs.declared.call.Call.{Call}
use Rattle.queue_laws.specs.declared.call.Call.TheVariants.{Put, Remove, Least, Audit, Clear}
use Rattle.queue_laws.specs.declared.call.Answer.{Answer}
use Rattle.queue_laws.specs.declared.call.Answer.TheVariants.{Named, Passed, Declined, Failed}
use Rattle.queue_laws.specs.Tables.{Row, with_row, fresh_row, key_in, waiting, raised_bound, raised_row, raised, before_bound, offends, first_offender}
use Rattle.queue_laws.specs.CheckedQueue.{Chk, height, made}
use Rattle.queue_laws.specs.QueueRuns.{performed, failed, after_call, waits_after}
use Rattle.queue_laws.specs.QueuePromise.{Risen, all_answers, left, waits_at, PassedOver, Follows, NoFaultBefore}
use Rattle.queue_laws.proofs.Firsts.{apart, first_some}
use Rattle.queue_laws.proofs.Rows.{row_same, row_other, waiting_with, row_of, no_row, waiting_raised, put_accepted}
use Rattle.queue_laws.proofs.Changes.{leaving, Change, was_broken, declines, breaks, enters, takes, names, names_none, passes, empties, clears_unfit, change}

-- a call that has no result leaves what waits
after_failed : (e : Entries) (c : Call) (f : QueueFault) → e ≡ after_call e c (Failed f)
after_failed e (Put t k) f = refl
after_failed e (Remove t) f = refl
after_failed e Least f = refl
after_failed e Audit f = refl
after_failed e Clear f = refl

after_declined : (e : Entries) (c : Call) (f : QueueFault) → e ≡ after_call e c (Declined f)
after_declined e (Put t k) f = refl
after_declined e (Remove t) f = refl
after_declined e Least f = refl
after_declined e Audit f = refl
after_declined e Clear f = refl

module _ (q : QueueMeaning) (before : ℕ → ℕ → Bool) where
  -- the table has rows only of tickets below the capacity
  abbrev Own : Chk q before → Type 0
  Own s = (t : ℕ) → s.capacity ≤ t → s.table t ≡ None

  own_step : {s z : Chk q before} {c : Call} {a : Answer} → Change q before s c a z → Own s → Own z
  own_step (was_broken f e) o = o
  own_step (declines f e) o = o
  own_step (breaks x f e) o = o
  own_step {s} (enters t k x e d) o = λ u le. let lt = (put_accepted s.capacity (waiting s.table) t k d).0 in row_other s.table t (Some (fresh_row k)) u (omega arith) ∙ o u le
  own_step {s} (takes t x e f) o = λ u le.
      ⊎_elim (λ (p : u ≡ t). rw p (row_same s.table t None)) (λ (ne : u ≢ t). row_other s.table t None u ne ∙ o u le) (cases_eq u t)
  own_step (names t r x e h) o = λ u le. ap (raised_row before r.key) (o u le)
  own_step (names_none e) o = o
  own_step (passes e n) o = o
  own_step (empties x e) o = λ u le. refl
  own_step (clears_unfit e z) o = o

  -- what waits in the table is what the answers tell
  tracks : {s z : Chk q before} {c : Call} {a : Answer} → Change q before s c a z → Own s → waiting z.table ≡ after_call (waiting s.table) c a
  tracks {s} (was_broken {c} f e) o = after_failed (waiting s.table) c f
  tracks {s} (declines {c} f e) o = after_declined (waiting s.table) c f
  tracks {s} (breaks {c} x f e) o = after_failed (waiting s.table) c f
  tracks {s} (enters t k x e d) o = waiting_with s.table t (Some (fresh_row k))
  tracks {s} (takes t x e f) o = waiting_with s.table t None
  tracks {s} (names t r x e h) o = waiting_raised before s.table r.key
  tracks (names_none e) o = refl
  tracks (passes e n) o = refl
  tracks (empties x e) o = refl
  tracks {s} (clears_unfit e z) o = λ i t. key_in (o t (let h = z in omega arith) i)

  -- a check breaks only with a fault
  unbroken_step : {s z : Chk q before} {c : Call} {a : Answer} → Change q before s c a z → failed a ≡ false → s.broken ≡ None → z.broken ≡ None
  unbroken_step (was_broken f e) n ok = ok
  unbroken_step (declines f e) n ok = ok
  unbroken_step (breaks x f e) n ok = let z : ◌≡◌ {A = ℕ} 0 1 = cc in absurd (omega arith)
  unbroken_step (enters t k x e d) n ok = ok
  unbroken_step (takes t x e f) n ok = ok
  unbroken_step (names t r x e h) n ok = ok
  unbroken_step (names_none e) n ok = ok
  unbroken_step (passes e m) n ok = ok
  unbroken_step (empties x e) n ok = ok
  unbroken_step (clears_unfit e z) n ok = ok

  own_after : (cs : List Call) (s : Chk q before) → Own s → Own (after (performed q before) cs s)
  unfolding after
  own_after [] s o = o
  own_after (c ∷ cs) s o = own_after cs (performed q before c s).1 (own_step (change q before c s) o)

  tracks_after : (cs : List Call) (s : Chk q before) (e : Entries) → Own s → waiting s.table ≡ e → waiting (after (performed q before) cs s).table ≡ waits_after e cs (answers (performed q before) cs s)
  unfolding after answers
  tracks_after [] s e o h = h
  tracks_after (c ∷ cs) s e o h =
      let d = change q before c s in
      tracks_after cs (performed q before c s).1 (after_call e c (performed q before c s).0) (own_step d o)
      (tracks d o ∙ ap (λ (f : Entries). after_call f c (performed q before c s).0) h)

  -- the naming that a call told of
  record Naming (s z : Chk q before) (t : ℕ) : Type 0 where
    row : Row
    queue : q.State
    row_is : s.table t ≡ Some row
    leaves : z ≡ leaving q before s queue (raised before s.table row.key)

  naming_of : {s z : Chk q before} {c : Call} {a : Answer} → Change q before s c a z → (t : ℕ) → a ≡ Named t → Naming s z t
  naming_of (was_broken f e) t h = let z : ◌≡◌ {A = ℕ} 0 1 = cc in absurd (omega arith)
  naming_of (declines f e) t h = let z : ◌≡◌ {A = ℕ} 0 1 = cc in absurd (omega arith)
  naming_of (breaks x f e) t h = let z : ◌≡◌ {A = ℕ} 0 1 = cc in absurd (omega arith)
  naming_of (enters u k x e d) t h = let z : ◌≡◌ {A = ℕ} 0 1 = cc in absurd (omega arith)
  naming_of (takes u x e f) t h = let z : ◌≡◌ {A = ℕ} 0 1 = cc in absurd (omega arith)
  naming_of {s} (names u r x e g) t h = let same : u ≡ t = cc in record { row = r; queue = x; row_is = ap s.table (sym same) ∙ g; leaves = refl }
  naming_of (names_none e) t h = let z : ◌≡◌ {A = ℕ} 0 1 = cc in absurd (omega arith)
  naming_of (passes e m) t h = let z : ◌≡◌ {A = ℕ} 0 1 = cc in absurd (omega arith)
  naming_of (empties x e) t h = let z : ◌≡◌ {A = ℕ} 0 1 = cc in absurd (omega arith)
  naming_of (clears_unfit e g) t h = let z : ◌≡◌ {A = ℕ} 0 1 = cc in absurd (omega arith)

  module _ (laws : OrderLaws before) where
    -- a row passed over, or one that was before its bound, is before its raised bound
    raised_above : (j k : ℕ) (b : Option ℕ) → before j k ≡ true → before j (raised_bound before k b) ≡ true
    raised_above j k None y = y
    raised_above j k (Some b) y = by (before b k) refl
      where
        by : (c : Bool) → before b k ≡ c → before j (cond c k b) ≡ true
        by true e = y
        by false e = before_near before laws j b k y e

    raised_still : (j k : ℕ) (b : Option ℕ) → before_bound before j b ≡ true → before j (raised_bound before k b) ≡ true
    raised_still j k None y = let z : ◌≡◌ {A = ℕ} 0 1 = cc in absurd (omega arith)
    raised_still j k (Some b) y = by (before b k) refl
      where
        by : (c : Bool) → before b k ≡ c → before j (cond c k b) ≡ true
        by true e = before_trans before laws j b k y e
        by false e = y

    offends_still : (k : ℕ) (o : Option Row) → offends before o ≡ true → offends before (raised_row before k o) ≡ true
    offends_still k (Some r) y = raised_still r.key k r.bound y
    offends_still k None y = y

    -- what is before its bound waits
    offender_waits : (o : Option Row) → offends before o ≡ true → (r : Row) × (o ≡ Some r)
    offender_waits (Some r) y = (r, refl)
    offender_waits None y = let z : ◌≡◌ {A = ℕ} 0 1 = cc in absurd (omega arith)

    -- The ticket u has a key before its bound: no call but a clear changes that.
    offends_step : (u : ℕ) {s z : Chk q before} {c : Call} {a : Answer} → Change q before s c a z → (c ≡ Clear → ⊥) → offends before (s.table u) ≡ true → offends before (z.table u) ≡ true
    offends_step u (was_broken f e) nc y = y
    offends_step u (declines f e) nc y = y
    offends_step u (breaks x f e) nc y = y
    offends_step u {s} (enters t k x e d) nc y =
        let r = offender_waits (s.table u) y in
        let w = (put_accepted s.capacity (waiting s.table) t k d).2 in
        let ne : u ≢ t = λ p. apart (s.table u) r.0 r.1 (ap s.table p ∙ no_row (s.table t) w) in
        ap (offends before) (row_other s.table t (Some (fresh_row k)) u ne) ∙ y
    offends_step u {s} (takes t x e f) nc y =
        let ne : u ≢ t = λ p. both_ways (offends before (s.table u)) (ap (λ v. offends before (s.table v)) p ∙ f) y in
        ap (offends before) (row_other s.table t None u ne) ∙ y
    offends_step u {s} (names t r x e h) nc y = offends_still r.key (s.table u) y
    offends_step u (names_none e) nc y = y
    offends_step u (passes e m) nc y = y
    offends_step u (empties x e) nc y = absurd (nc refl)
    offends_step u (clears_unfit e z) nc y = y

    -- its removal and an audit find it out
    removal_finds : (u : ℕ) (s : Chk q before) → s.broken ≡ None → Own s → offends before (s.table u) ≡ true → (performed q before (Remove u) s).0 ≡ Failed (found KeyBeforeBound (height q before s) u)
    removal_finds u s ok o y =
        let r = offender_waits (s.table u) y in
        let lt : u < s.capacity = ⊎_elim (λ h. h) (λ h. apart (s.table u) r.0 r.1 (o u h)) (cases_lt u s.capacity) in
        let d : remove_declined s.capacity (waiting s.table) u ≡ None = rw (lt-ltb u s.capacity lt, r.1) in
        rw (ok, d, y)

    audit_finds : (u : ℕ) (s : Chk q before) → Own s → offends before (s.table u) ≡ true → (f : QueueFault) × ((performed q before Audit s).0 ≡ Failed f)
    audit_finds u s o y = by s.broken refl
      where
        by : (b : Option QueueFault) → s.broken ≡ b → (f : QueueFault) × ((performed q before Audit s).0 ≡ Failed f)
        by (Some f) e = (f, rw e)
        by None e =
            let r = offender_waits (s.table u) y in
            let lt : u < s.capacity = ⊎_elim (λ h. h) (λ h. apart (s.table u) r.0 r.1 (o u h)) (cases_lt u s.capacity) in
            let v = first_some (λ t. offends before (s.table t)) s.capacity u lt y in
            let w : first_offender before s.table s.capacity ≡ Some v.0 = v.1 in
            (found KeyBeforeBound (height q before s) v.0, rw (e, w))

    -- bounds only rise
    raised_rises : (k : ℕ) (b : Option ℕ) → Risen before b (Some (raised_bound before k b))
    raised_rises k None = tt
    raised_rises k (Some b) = by (before b k) refl
      where
        by : (c : Bool) → before b k ≡ c → before (cond c k b) b ≡ false
        by true e = laws.asymmetric b k e
        by false e = before_self before laws b

    stays_risen : (b : Option ℕ) → Risen before b b
    stays_risen None = tt
    stays_risen (Some b) = before_self before laws b

    abbrev Higher : Row → Row → Type 0
    Higher r later = (later.key ≡ r.key) × Risen before r.bound later.bound

    same_row : (o : Option Row) (r later : Row) → o ≡ Some r → o ≡ Some later → Higher r later
    same_row o r later e g = let p : r ≡ later = cc in subst (Higher r) p (refl, stays_risen r.bound)

    raised_higher : (k : ℕ) (o : Option Row) (r later : Row) → o ≡ Some r → raised_row before k o ≡ Some later → Higher r later
    raised_higher k o r later e g =
        let p : Some (record { key = r.key; bound = Some (raised_bound before k r.bound) }) ≡ Some later = ap (raised_row before k) (sym e) ∙ g in
        let s : record { key = r.key; bound = Some (raised_bound before k r.bound) } ≡ later = cc in
        subst (Higher r) s (refl, raised_rises k r.bound)

    rises_step : (u : ℕ) {s z : Chk q before} {c : Call} {a : Answer} → Change q before s c a z → (r later : Row) → s.table u ≡ Some r → z.table u ≡ Some later → Higher r later
    rises_step u {s} (was_broken f e) r later h g = same_row (s.table u) r later h g
    rises_step u {s} (declines f e) r later h g = same_row (s.table u) r later h g
    rises_step u {s} (breaks x f e) r later h g = same_row (s.table u) r later h g
    rises_step u {s} (enters t k x e d) r later h g =
        let w = (put_accepted s.capacity (waiting s.table) t k d).2 in
        let ne : u ≢ t = λ p. apart (s.table u) r h (ap s.table p ∙ no_row (s.table t) w) in
        same_row (s.table u) r later h (sym (row_other s.table t (Some (fresh_row k)) u ne) ∙ g)
    rises_step u {s} (takes t x e f) r later h g =
        ⊎_elim (λ (p : u ≡ t). apart (with_row s.table t None u) later g (rw p (row_same s.table t None)))
        (λ (ne : u ≢ t). same_row (s.table u) r later h (sym (row_other s.table t None u ne) ∙ g)) (cases_eq u t)
    rises_step u {s} (names t v x e w) r later h g = raised_higher v.key (s.table u) r later h g
    rises_step u {s} (names_none e) r later h g = same_row (s.table u) r later h g
    rises_step u {s} (passes e m) r later h g = same_row (s.table u) r later h g
    rises_step u (empties x e) r later h g = apart None later g refl
    rises_step u {s} (clears_unfit e z) r later h g = same_row (s.table u) r later h g

    module _ (m : ℕ) (x : q.State) (calls : List Call) where
      abbrev at : ℕ → Chk q before
      at i = left q before m x (take i calls)

      abbrev told_at : ℕ → Answer
      told_at i = get_or (all_answers q before m x calls) i Passed

      own_at : (i : ℕ) → Own (at i)
      own_at i = own_after (take i calls) (made q before m x) (λ t le. refl)

      waits_is : (i : ℕ) → waits_at q before m x calls i ≡ waiting (at i).table
      waits_is i =
          ap (waits_after nothing_waits (take i calls)) (answers_take (performed q before) calls (made q before m x) i)
          ∙ sym (tracks_after (take i calls) (made q before m x) nothing_waits (λ t le. refl) refl)

      change_at : (i : ℕ) → i < length calls → Change q before (at i) (get_or calls i Audit) (told_at i) (at (suc i))
      change_at i lt =
          let c = get_or calls i Audit in
          rw (answer_at (performed q before) calls (made q before m x) i Audit Passed lt, after_one (performed q before) calls (made q before m x) i Audit lt) (change q before c (at i))

      unbroken_at : (l : ℕ) → l ≤ length calls → ((n : ℕ) → n < l → failed (told_at n) ≡ false) → (at l).broken ≡ None
      unfolding after
      unbroken_at zero le h = refl
      unbroken_at (suc l) le h = unbroken_step (change_at l (omega arith)) (h l (omega arith)) (unbroken_at l (omega arith) (λ n lt. h n (omega arith)))

      passed_over : (i u : ℕ) → i < length calls → PassedOver q before m x calls i u → offends before ((at (suc i)).table u) ≡ true
      passed_over i u lt p =
          let n = naming_of (change_at i lt) p.other p.named in
          let T = (at i).table in
          let w : waiting T p.other ≡ Some p.named_key = ap (λ (f : Entries). f p.other) (sym (waits_is i)) ∙ p.named_waits in
          let v : waiting T u ≡ Some p.key = ap (λ (f : Entries). f u) (sym (waits_is i)) ∙ p.waits in
          let r = row_of (T u) p.key v in
          let k : n.row.key ≡ p.named_key = let a : Some n.row.key ≡ Some p.named_key = ap key_in (sym n.row_is) ∙ w in cc in
          let y : before r.0.key n.row.key ≡ true = rw (r.2, k) p.earlier in
          let z : offends before (raised_row before n.row.key (T u)) ≡ true = rw r.1 (raised_above r.0.key n.row.key r.0.bound y) in
          subst (λ (s : Chk q before). offends before (s.table u) ≡ true) (sym n.leaves) z

      offends_at : (i u l : ℕ) → Follows q before m x calls i l → PassedOver q before m x calls i u → (n : ℕ) → i < n → n ≤ l → offends before ((at n).table u) ≡ true
      offends_at i u l f p zero lt le = absurd (omega arith)
      offends_at i u l f p (suc n) lt le =
          let b = f.within in
          ⊎_elim (λ (e : i ≡ n). subst (λ k. offends before ((at (suc k)).table u) ≡ true) e (passed_over i u (omega arith) p))
          (λ (ne : i ≡ n → ⊥). offends_step u (change_at n (omega arith)) (f.uncleared n (omega arith) (omega arith)) (offends_at i u l f p n (omega arith) (omega arith))) (cases_eq i n)

      pub leaving_caught : (i u l : ℕ) → PassedOver q before m x calls i u → Follows q before m x calls i l → get_or calls l Audit ≡ Remove u → NoFaultBefore q before m x calls l →
          (h : ℕ) × (told_at l ≡ Failed (found KeyBeforeBound h u))
      leaving_caught i u l p f c n =
          let b = f.within in
          let z = removal_finds u (at l) (unbroken_at l (omega arith) n) (own_at l) (offends_at i u l f p l f.later (omega arith)) in
          (height q before (at l), answer_at (performed q before) calls (made q before m x) l Audit Passed b ∙ ap (λ (c : Call). (performed q before c (at l)).0) c ∙ z)

      pub waiting_caught : (i u l : ℕ) → PassedOver q before m x calls i u → Follows q before m x calls i l → get_or calls l Least ≡ Audit → (g : QueueFault) × (told_at l ≡ Failed g)
      waiting_caught i u l p f c =
          let z = audit_finds u (at l) (own_at l) (offends_at i u l f p l f.later (omega arith)) in
          (z.0, answer_at (performed q before) calls (made q before m x) l Least Passed f.within ∙ ap (λ (c : Call). (performed q before c (at l)).0) c ∙ z.1)

      pub bounds_risen : (i u : ℕ) (r later : Row) → i < length calls → (at i).table u ≡ Some r → (at (suc i)).table u ≡ Some later → Higher r later
      bounds_risen i u r later lt h g = rises_step u (change_at i lt) r later h g
