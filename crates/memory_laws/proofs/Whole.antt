-- What is promised of every list of calls on a memory just made, over any store.
use Rattle.std.proofs.Common.{◌≡◌, ℕ, zero, suc, ◌+◌, ◌^◌, ◌<◌, ◌≤◌, ◌≢◌, ◌⊎◌, List, [], ◌∷◌, ◌++◌, length, slice_index_or, take, drop, replicate, Some, None, Ok, Err, Result, sym, refl, ap, ◌∙◌, subst, inl, inr, append-nil, zero-add, arith}
use native.Mathlib.Nat.{zero-mod}
use Rattle.std.proofs.lemmas.List.{get_or-replicate, length-replicate, take_all}
use Rattle.parts.specs.declared.fault.Fault.{Fault}
use Rattle.parts.specs.Outcomes.{Outcome, up_to, settled}
use Rattle.parts.specs.Meaning.{Meaning}
use Rattle.parts.specs.Runs.{answers, after}
use Rattle.parts.proofs.Runs.{answer_at, after_one, after_rest}
use Rattle.parts.specs.Tallying.{Tallying, Laws}
use Rattle.parts.proofs.Steps.{both_answered}
use Rattle.memory_laws.specs.declared.call.Call.{Call}
use Rattle.memory_laws.specs.declared.call.Call.TheVariants.{Read, Sweep}
use Rattle.memory_laws.specs.declared.call.Answer.{Answer}
use Rattle.memory_laws.specs.declared.call.Answer.TheVariants.{Value, Passed, Failed}
use Rattle.memory_laws.specs.Checked.{Mem, record_of, stamp_of, at_broken, put, cleared}
use Rattle.memory_laws.specs.History.{Event, did_write, sweep_begins, sweep_ends, taken, watched, misread, epochs, no_bags, Same}
use Rattle.memory_laws.specs.Runs.{performed, accepted, ideal_words}
use Rattle.memory_laws.proofs.Bags.{tallied, tallied_more}
use Rattle.memory_laws.proofs.Touches.{Touch, Epoch, stale, touches, Each, Agree, Sound, Sweeps}
use Rattle.memory_laws.proofs.Offline.{offline_from, one_shows_from}
use Rattle.memory_laws.proofs.Log.{Hist, all, fresh, push, close, zeros, flat, bags, bags_length, made_from, made_records, made_same, misread_flat, misread_cut, epochs_flat, Endless, none_among, whole_sweep}
use Rattle.memory_laws.proofs.Remembers.{Held, Trail, held_trail, Visited, Swept, put_is, Grows, grows_cleared}
use Rattle.memory_laws.proofs.Lasting.{Later, prefix_stale, each_take, agree_take, same_take}
use Rattle.memory_laws.proofs.Watching.{Did, did, Reached, reach, Notes, broken_performed, broken_after, read_ideal, read_notes}
use Rattle.memory_laws.proofs.Watching.Did.{did_write as done_write, did_read as done_read, did_sweep, did_decline, did_break}
use Rattle.memory_laws.proofs.Watching.Reached.{well, ill}

module _ (m : Meaning) {T V : Type 0} (l : T → Tallying V) (laws : (t : T) → Laws (l t)) where
  abbrev W : Type 0
  W = Mem (watched m) l

  abbrev events : W → List Event
  events s = s.store.history

  -- what is promised of a run from a state, for a memory of n cells of w bits
  pub record Kept (n w : ℕ) (s : W) (calls : List Call) : Type 0 where
    pub offline : (i a v : ℕ) → i < length calls → slice_index_or calls i Sweep ≡ Read a → slice_index_or (answers (performed (watched m) l) calls s) i Passed ≡ Value v →
        ((j : ℕ) → j ≤ length (epochs (events (after (performed (watched m) l) (take (suc i) calls) s))) →
        (j < length (epochs (events (after (performed (watched m) l) calls s)))) × Same (slice_index_or (epochs (events (after (performed (watched m) l) calls s))) j no_bags).got (slice_index_or (epochs (events (after (performed (watched m) l) calls s))) j no_bags).put) →
        (a < n) × (v ≡ slice_index_or (ideal_words n w (replicate n 0) (take i calls)) a 0)
    pub one_lie : (i : ℕ) → i < length calls → slice_index_or calls i Sweep ≡ Sweep → misread (events (after (performed (watched m) l) (take (suc i) calls) s)) ≡ 1 →
        (f : Fault) × (slice_index_or (answers (performed (watched m) l) calls s) i Passed ≡ Failed f)
    pub one_lie_ends : (i : ℕ) → i < length calls → (before since : List Event) → events (after (performed (watched m) l) (take (suc i) calls) s) ≡ before ++ sweep_ends ∷ since →
        misread before ≡ 1 → accepted (slice_index_or (answers (performed (watched m) l) calls s) i Passed) → ⊥
    pub whole_sweeps : (before since : List Event) → events (after (performed (watched m) l) calls s) ≡ before ++ sweep_ends ∷ since →
        (earlier : List Event) × (words : List (ℕ × ℕ)) × (length words ≡ n) × (before ≡ earlier ++ (sweep_begins ∷ taken 0 words))

  -- of a memory that the making broke
  module _ (n w : ℕ) (s : W) (f : Fault) (e : s.broken ≡ Some f) (quiet : Endless (events s)) (t : T) (calls : List Call) where
    broken_answer : (i : ℕ) → i < length calls → slice_index_or (answers (performed (watched m) l) calls s) i Passed ≡ Failed f
    broken_answer i lt =
        answer_at (performed (watched m) l) calls s i Sweep Passed lt ∙ ap (λ (x : W). (performed (watched m) l (slice_index_or calls i Sweep) x).0) (broken_after m l laws 0 0 t (omega arith) (take i calls) s f e)
        ∙ ap (λ (r : Answer × W). r.0) (broken_performed m l laws 0 0 t (omega arith) (slice_index_or calls i Sweep) s f e)

    kept_broken : Kept n w s calls
    kept_broken = record {
      offline = λ i a v lt is answered same. let q = broken_answer i lt in let z : ◌≡◌ {A = ℕ} 0 1 = cc in absurd (omega arith);
      one_lie = λ i lt is one. (f, broken_answer i lt);
      one_lie_ends = λ i lt before since cut one ok. subst accepted (broken_answer i lt) ok;
      whole_sweeps = λ before since cut. absurd (none_among (events s) before since quiet (ap events (sym (broken_after m l laws 0 0 t (omega arith) calls s f e)) ∙ cut));
    }

  module _ (n w : ℕ) (t : T) (narrow : w ≤ 28) (few : n ≤ 4096) where
    abbrev Holding : Hist → W → Type 0
    Holding = Held m l laws n w t narrow

    low : (a : ℕ) → a < n → zeros a < 2 ^ 48
    low a lt = omega arith

    -- what a reading, a sweep and an accepted call did
    read_did : {h : Hist} {c : Call} {r : Answer} {s₁ : W} → Did m l laws n w t narrow h c r s₁ → (a v : ℕ) → c ≡ Read a → r ≡ Value v → (a < n) × Visited m l laws n w t narrow h a None v s₁
    read_did {h} (done_read a' v' s₁ la k) a v p q =
        let ea : a' ≡ a = cc in let ev : v' ≡ v = cc in
        (rw (← ea) la, subst (λ (x : ℕ). Visited m l laws n w t narrow h x None v s₁) ea (subst (λ (x : ℕ). Visited m l laws n w t narrow h a' None x s₁) ev k))
    read_did (done_write a' v' s₁ la lv k) a v p q = let z : ◌≡◌ {A = ℕ} 0 1 = cc in absurd (omega arith)
    read_did (did_sweep s₁ k) a v p q = let z : ◌≡◌ {A = ℕ} 0 1 = cc in absurd (omega arith)
    read_did (did_decline c f s₁ i no_sweep e) a v p q = let z : ◌≡◌ {A = ℕ} 0 1 = cc in absurd (omega arith)
    read_did (did_break c f s₁ h₁ one tr b) a v p q = let z : ◌≡◌ {A = ℕ} 0 1 = cc in absurd (omega arith)

    sweep_did : {h : Hist} {c : Call} {r : Answer} {s₁ : W} → Did m l laws n w t narrow h c r s₁ → c ≡ Sweep → Swept m l laws n w t narrow h s₁ ⊎ ((f : Fault) × (r ≡ Failed f))
    sweep_did (did_sweep s₁ k) p = inl k
    sweep_did (did_break c f s₁ h₁ one tr b) p = inr (f, refl)
    sweep_did (did_decline c f s₁ i no_sweep e) p = absurd (no_sweep p)
    sweep_did (done_read a v s₁ la k) p = let z : ◌≡◌ {A = ℕ} 0 1 = cc in absurd (omega arith)
    sweep_did (done_write a v s₁ la lv k) p = let z : ◌≡◌ {A = ℕ} 0 1 = cc in absurd (omega arith)

    accepted_did : {h : Hist} {c : Call} {r : Answer} {s₁ : W} → Did m l laws n w t narrow h c r s₁ → accepted r → (h₁ : Hist) × Holding h₁ s₁
    accepted_did (done_read a v s₁ la k) ok = (push k.before k.touch, k.held)
    accepted_did (done_write a v s₁ la lv k) ok = (push k.before k.touch, k.held)
    accepted_did {h} (did_sweep s₁ k) ok = (close h k.touched, k.held)
    accepted_did (did_decline c f s₁ i no_sweep e) ok = absurd ok
    accepted_did (did_break c f s₁ h₁ one tr b) ok = absurd ok

    -- no first k epochs of an unbroken memory have exactly one false word
    never_one : (h : Hist) (s : W) → Holding h s → (k : ℕ) → stale zeros (touches (take k h.past)) ≢ 1
    never_one h s i k =
        one_shows_from (l t) (laws t) (l t).start _ n zeros (made_records 0 n) (take k h.past) few low (made_same n)
        (each_take _ h.past k i.good.past) (agree_take (λ r x. tallied (l t) (l t).start r ≡ tallied (l t) (l t).start x) (made_records 0 n) h.past k i.good.agree)

    all_epochs : (h : Hist) → h.own ≡ [] → (take (length h.past) h.past) ≡ h.past → all h ≡ touches (take (length h.past) h.past)
    all_epochs h e p = ap (λ (k : List Touch). touches h.past ++ k) e ∙ append-nil (touches h.past) ∙ ap touches (sym p)

    trail_of : {h : Hist} {ys : List ℕ} {x : W} → Reached m l laws n w t narrow h ys x → (h₁ : Hist) × Later h h₁ × Trail m l laws n w t narrow h₁ x
    trail_of (well h₁ p i k e) = (h₁, p, held_trail m l laws n w t narrow h₁ _ i)
    trail_of (ill f h₁ b p tr) = (h₁, p, tr)

    trail_epochs : (h : Hist) (s : W) → Trail m l laws n w t narrow h s → epochs (events s) ≡ bags (made_records 0 n) h.past
    trail_epochs h s tr = ap epochs tr.log_is ∙ epochs_flat n h tr.tail tr.endless

    covered : (es : List Epoch) → Each (Sound (stamp_of w) n) es → Each (λ e. Sweeps 0 n e.sweep) es
    covered [] s = tt
    covered (e ∷ es) s = (s.0.covers, covered es s.1)

    first_notes : Notes m l laws n w t narrow (replicate n 0) fresh
    first_notes z a lt = zero-mod (2 ^ w) ∙ sym (get_or-replicate {A = ℕ} n a 0 0 lt)

    module _ (s : W) (i₀ : Holding fresh s) (calls : List Call) where
      abbrev at : ℕ → W
      at i = after (performed (watched m) l) (take i calls) s

      abbrev ideal_at : ℕ → List ℕ
      ideal_at i = ideal_words n w (replicate n 0) (take i calls)

      reached : (i : ℕ) → Reached m l laws n w t narrow fresh (ideal_at i) (at i)
      reached i = reach m l laws n w t narrow (take i calls) s fresh (replicate n 0) i₀ first_notes (length-replicate {A = ℕ} n 0)

      -- the answer to a call on a broken memory
      ill_answer : (i : ℕ) (f : Fault) → i < length calls → (at i).broken ≡ Some f → slice_index_or (answers (performed (watched m) l) calls s) i Passed ≡ Failed f
      ill_answer i f lt b = answer_at (performed (watched m) l) calls s i Sweep Passed lt ∙ ap (λ (r : Answer × W). r.0) (broken_performed m l laws n w t narrow (slice_index_or calls i Sweep) (at i) f b)

      reading : (i a v : ℕ) → i < length calls → slice_index_or calls i Sweep ≡ Read a → slice_index_or (answers (performed (watched m) l) calls s) i Passed ≡ Value v →
          ((j : ℕ) → j ≤ length (epochs (events (at (suc i)))) →
          (j < length (epochs (events (after (performed (watched m) l) calls s)))) × Same (slice_index_or (epochs (events (after (performed (watched m) l) calls s))) j no_bags).got (slice_index_or (epochs (events (after (performed (watched m) l) calls s))) j no_bags).put) →
          Reached m l laws n w t narrow fresh (ideal_at i) (at i) → (a < n) × (v ≡ slice_index_or (ideal_at i) a 0)
      reading i a v lt is answered same (ill f h₁ b p tr) = let q = ill_answer i f lt b in let z : ◌≡◌ {A = ℕ} 0 1 = cc in absurd (omega arith)
      reading i a v lt is answered same (well h₁ p j note len) =
          let c = slice_index_or calls i Sweep in
          let s₁ : W = (performed (watched m) l c (at i)).1 in
          let d = read_did (did m l laws n w t narrow h₁ (at i) j c) a v is (sym (answer_at (performed (watched m) l) calls s i Sweep Passed lt) ∙ answered) in
          let la = d.0 in let k = d.1 in
          let h₂ = push k.before k.touch in
          let here : at (suc i) ≡ s₁ = after_one (performed (watched m) l) calls s i Sweep lt in
          let end : after (performed (watched m) l) calls s ≡ after (performed (watched m) l) (drop (suc i) calls) s₁ =
          after_rest (performed (watched m) l) calls s (suc i) ∙ ap (after (performed (watched m) l) (drop (suc i) calls)) here in
          let r = trail_of (reach m l laws n w t narrow (drop (suc i) calls) s₁ h₂ (ideal_at i) k.held (read_notes m l laws n w t narrow h₁ a v s₁ (ideal_at i) la len k note) len) in
          let h₃ = r.0 in
          let now : epochs (events (at (suc i))) ≡ bags (made_records 0 n) h₂.past = ap (λ (x : W). epochs (events x)) here ∙ trail_epochs h₂ s₁ (held_trail m l laws n w t narrow h₂ s₁ k.held) in
          let then : epochs (events (after (performed (watched m) l) calls s)) ≡ bags (made_records 0 n) h₃.past = ap (λ (x : W). epochs (events x)) end ∙ trail_epochs h₃ _ r.2 in
          let many : length (epochs (events (at (suc i)))) ≡ length h₂.past = ap length now ∙ bags_length (made_records 0 n) h₂.past in
          let more : length h₂.past < length h₃.past =
          let q = (same (length h₂.past) (omega arith)).0 in omega (arith, q, ap length then, bags_length (made_records 0 n) h₃.past) in
          let agree : Agree Same (made_records 0 n) (take (suc (length h₂.past)) h₃.past) =
          same_take (made_records 0 n) h₃.past (suc (length h₂.past))
          (λ x lx. subst (λ (bs : List _). Same (slice_index_or bs x no_bags).got (slice_index_or bs x no_bags).put) then (same x (omega arith)).1) in
          let none : stale zeros (touches (take (suc (length h₂.past)) h₃.past)) ≡ 0 =
          offline_from _ n zeros (made_records 0 n) (take (suc (length h₂.past)) h₃.past) low (made_same n) (each_take _ h₃.past (suc (length h₂.past)) r.2.past) agree in
          let true_so_far : stale zeros (all h₂) ≡ 0 = omega (arith, prefix_stale zeros h₂ h₃ r.1 more, none) in
          (la, read_ideal m l laws n w t narrow h₁ a v s₁ (ideal_at i) la k note true_so_far)

      lying : (i : ℕ) → i < length calls → slice_index_or calls i Sweep ≡ Sweep → misread (events (at (suc i))) ≡ 1 → Reached m l laws n w t narrow fresh (ideal_at i) (at i) →
          (f : Fault) × (slice_index_or (answers (performed (watched m) l) calls s) i Passed ≡ Failed f)
      lying i lt is one (ill f h₁ b p tr) = (f, ill_answer i f lt b)
      lying i lt is one (well h₁ p j note len) =
          let c = slice_index_or calls i Sweep in
          let s₁ : W = (performed (watched m) l c (at i)).1 in
          elim (sweep_did (did m l laws n w t narrow h₁ (at i) j c) is) [
            | inl k ↦
                let h₂ = close h₁ k.touched in
                let here : misread (events (at (suc i))) ≡ stale zeros (touches (take (length h₂.past) h₂.past)) =
                ap (λ (x : W). misread (events x)) (after_one (performed (watched m) l) calls s i Sweep lt) ∙ ap misread k.held.log_is ∙ misread_flat n h₂
                ∙ ap (stale zeros) (all_epochs h₂ refl (take_all (length h₂.past) h₂.past (omega arith))) in
                absurd (never_one h₂ s₁ k.held (length h₂.past) (sym here ∙ one))
            | inr q ↦ (q.0, answer_at (performed (watched m) l) calls s i Sweep Passed lt ∙ q.1)
          ]

      ending : (i : ℕ) → i < length calls → (before since : List Event) → events (at (suc i)) ≡ before ++ sweep_ends ∷ since → misread before ≡ 1 →
          accepted (slice_index_or (answers (performed (watched m) l) calls s) i Passed) → Reached m l laws n w t narrow fresh (ideal_at i) (at i) → ⊥
      ending i lt before since is one ok (ill f h₁ b p tr) = subst accepted (ill_answer i f lt b) ok
      ending i lt before since is one ok (well h₁ p j note len) =
          let c = slice_index_or calls i Sweep in
          let s₁ : W = (performed (watched m) l c (at i)).1 in
          let d = accepted_did (did m l laws n w t narrow h₁ (at i) j c) (subst accepted (answer_at (performed (watched m) l) calls s i Sweep Passed lt) ok) in
          let here : flat n d.0 ≡ before ++ sweep_ends ∷ since = sym d.1.log_is ∙ ap events (sym (after_one (performed (watched m) l) calls s i Sweep lt)) ∙ is in
          let q = misread_cut n d.0 before since here in
          never_one d.0 s₁ d.1 q.0 (sym q.1 ∙ one)

      kept_from : Kept n w s calls
      kept_from = record {
        offline = λ i a v lt is answered same. reading i a v lt is answered same (reached i);
        one_lie = λ i lt is one. lying i lt is one (reached i);
        one_lie_ends = λ i lt before since cut one ok. ending i lt before since cut one ok (reached i);
        whole_sweeps = λ before since cut.
            let r = trail_of (reach m l laws n w t narrow calls s fresh (replicate n 0) i₀ first_notes (length-replicate {A = ℕ} n 0)) in
            whole_sweep n r.0 r.2.tail before since (covered r.0.past r.2.past) r.2.endless (sym r.2.log_is ∙ cut);
      }

    -- the making: unbroken with every cell written, or broken
    made_more : (a k : ℕ) → made_records a (suc k) ≡ made_records a k ++ record_of (a + k) 0 ∷ []
    made_more a zero = let e : a + 0 ≡ a = omega arith in rw e
    made_more a (suc k) = ap (λ (xs : List ℕ). record_of a 0 ∷ xs) (made_more (suc a) k ∙ (let e : suc a + k ≡ a + suc k = omega arith in rw e))

    wrote_more : (a k : ℕ) → made_from a (suc k) ≡ made_from a k ++ did_write (a + k) 0 ∷ []
    wrote_more a zero = let e : a + 0 ≡ a = omega arith in rw e
    wrote_more a (suc k) = ap (λ (xs : List Event). did_write a 0 ∷ xs) (wrote_more (suc a) k ∙ (let e : suc a + k ≡ a + suc k = omega arith in rw e))

    -- the memory after k cells of the making
    abbrev midway : ℕ → m.State → W
    midway k z = record { store = record { below = z; history = made_from 0 k }; rule = t; size = n; width = w; clock = 0; read = (l t).start; written = tallied (l t) (l t).start (made_records 0 k); broken = None }

    cleared_is : (z : m.State) (k : ℕ) (u : Unit {0}) (s₁ : W) → cleared (watched m) l k (midway 0 z) ≡ (Ok u, s₁) → (z₁ : m.State) × (s₁ ≡ midway k z₁)
    unfolding up_to
    cleared_is z zero u s₁ e = (z, sym (ap (λ (o : Outcome Fault (Unit {0}) W). o.1) e))
    cleared_is z (suc k) u s₁ e =
        let b = both_answered (cleared (watched m) l k (midway 0 z)) (λ _ s'. put (watched m) l k 0 s') u s₁ e in
        let j = cleared_is z k b.0 b.1 b.2 in
        let p = put_is m l (midway k j.0) k 0 u s₁ (ap (put (watched m) l k 0) (sym j.1) ∙ b.3) in
        let q : (l t).add (tallied (l t) (l t).start (made_records 0 k)) (record_of k 0) ≡ tallied (l t) (l t).start (made_records 0 (suc k)) =
        sym (tallied_more (l t) (l t).start (made_records 0 k) (record_of k 0)) ∙ ap (tallied (l t) (l t).start) (sym (made_more 0 k ∙ ap (λ (x : ℕ). made_records 0 k ++ record_of x 0 ∷ []) (zero-add k))) in
        let r : made_from 0 k ++ did_write k 0 ∷ [] ≡ made_from 0 (suc k) = sym (wrote_more 0 k ∙ ap (λ (x : ℕ). made_from 0 k ++ did_write x 0 ∷ []) (zero-add k)) in
        (p.0, sym p.1 ∙ both_are p.0 q r)
      where
        both_are : (y : m.State) {v v' : V} {h h' : List Event} → v ≡ v' → h ≡ h' →
            ◌≡◌ {A = W} (record { store = record { below = y; history = h }; rule = t; size = n; width = w; clock = 0; read = (l t).start; written = v; broken = None })
            (record { store = record { below = y; history = h' }; rule = t; size = n; width = w; clock = 0; read = (l t).start; written = v'; broken = None })
        both_are y p q = rw (p, q)

    midway_held : (z : m.State) → Holding fresh (midway n z)
    midway_held z = record {
      size_is = refl;
      width_is = refl;
      rule_is = refl;
      sound = refl;
      clock_is = refl;
      in_time = omega arith;
      got_is = refl;
      put_is = ap (tallied (l t) (l t).start) (sym (append-nil (made_records 0 n)));
      log_is = sym (append-nil (made_from 0 n));
      good = record { past = tt; renews = tt; agree = tt; own = tt; timed = tt };
    }

    pub kept_made : (z : m.State) (calls : List Call) → Kept n w (settled at_broken (cleared (watched m) l n (midway 0 z))).1 calls
    kept_made z calls = go (cleared (watched m) l n (midway 0 z)).0 (cleared (watched m) l n (midway 0 z)).1 refl
      where
        go : (r : Result (Unit {0}) Fault) (s₁ : W) → ◌≡◌ {A = Outcome Fault (Unit {0}) W} (cleared (watched m) l n (midway 0 z)) (r, s₁) → Kept n w (settled at_broken (r, s₁)).1 calls
        go (Ok u) s₁ e = let j = cleared_is z n u s₁ e in kept_from s₁ (subst (λ (x : W). Holding fresh x) (sym j.1) (midway_held j.0)) calls
        go (Err f) s₁ e =
            let g : Grows m l (midway 0 z) s₁ = subst (λ (o : Outcome Fault (Unit {0}) W). Grows m l (midway 0 z) o.1) e (grows_cleared m l n (midway 0 z)) in
            kept_broken n w (at_broken f s₁) f refl (subst Endless (sym g.1) g.2) t calls
