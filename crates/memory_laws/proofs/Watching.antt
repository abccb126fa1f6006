-- The runs of a memory that is watched: what each call did, and what is promised of every list of calls.
use Rattle.std.proofs.Common.{◌≡◌, ℕ, zero, suc, ◌^◌, ◌<◌, ◌≤◌, cond, nat_lt, ◌⊎◌, List, [], ◌∷◌, length, slice_index_or, set, Some, None, Err, Option, Result, sym, refl, ap, ◌∙◌, subst, inl, inr, ⊎_elim, arith, length-set, get_or-set_other, get_or-set_same}
use Rattle.std.proofs.lemmas.Bool.{cases_eq, cases_lt, lt-ltb, le-ltb}
use Rattle.parts.specs.declared.fault.Fault.{Fault}
use Rattle.parts.specs.declared.fault.Cause.TheVariants.{NoSuchCell, WordTooWide}
use Rattle.parts.specs.Outcomes.{Outcome, and_then, settled, unless_broken}
use Rattle.parts.specs.Meaning.{Meaning, fault, written}
use Rattle.parts.specs.Runs.{after}
use Rattle.parts.specs.Tallying.{Tallying, Laws}
use Rattle.memory_laws.specs.declared.call.Call.{Call}
use Rattle.memory_laws.specs.declared.call.Call.TheVariants.{Write, Read, Sweep}
use Rattle.memory_laws.specs.declared.call.Answer.{Answer}
use Rattle.memory_laws.specs.declared.call.Answer.TheVariants.{Written, Value, Passed, Declined, Failed}
use Rattle.memory_laws.specs.Checked.{Mem, at_broken, height, visit, done, replaced, sweep_all}
use Rattle.memory_laws.specs.History.{watched, update}
use Rattle.memory_laws.specs.Runs.{told, refused, performed, ideal_words}
use Rattle.memory_laws.proofs.CheckedKeeps.{unbroken_is}
use Rattle.memory_laws.proofs.Touches.{Touch, stale, words_after, update_same, update_other}
use Rattle.memory_laws.proofs.Log.{Hist, all, push, close, zeros}
use Rattle.memory_laws.proofs.Remembers.{Held, Trail, Swept, Ended, May, Visited, Came, sweep_is, visit_is, stamp, value}
use Rattle.memory_laws.proofs.Remembers.Ended.{passes, fails}
use Rattle.memory_laws.proofs.Remembers.Came.{visits, fails as strays}
use Rattle.memory_laws.proofs.Remembers.May.{stays, sweeps_first}
use Rattle.memory_laws.proofs.Lasting.{Later, later_refl, later_trans, later_push, later_close, Noted, noted_close, pushed}

-- A call that has a result is no decline.
refused_none : (b : Option Fault) (f : Fault) → b ≡ None → refused b f ≡ Declined f
refused_none b f e = ap (λ (x : Option Fault). refused x f) e

module _ (m : Meaning) {T V : Type 0} (l : T → Tallying V) (laws : (t : T) → Laws (l t)) (n w : ℕ) (t : T) (narrow : w ≤ 28) where
  abbrev W : Type 0
  W = Mem (watched m) l

  abbrev Holding : Hist → W → Type 0
  Holding = Held m l laws n w t narrow

  abbrev Trailing : Hist → W → Type 0
  Trailing = Trail m l laws n w t narrow

  abbrev Visiting : Hist → ℕ → Option ℕ → ℕ → W → Type 0
  Visiting = Visited m l laws n w t narrow

  abbrev One : Hist → Hist → Type 0
  One h h₁ = (h₁ ≡ h) ⊎ ((sw : List Touch) × (h₁ ≡ close h sw))

  -- what a call of an unbroken memory with the history h did
  pub data Did (h : Hist) : Call → Answer → W → Type 0 where
    did_write : (a v : ℕ) (s₁ : W) → a < n → v < 2 ^ w → Visiting h a (Some v) v s₁ → Did h (Write a v) Written s₁
    did_read : (a v : ℕ) (s₁ : W) → a < n → Visiting h a None v s₁ → Did h (Read a) (Value v) s₁
    did_sweep : (s₁ : W) → Swept m l laws n w t narrow h s₁ → Did h Sweep Passed s₁
    did_decline : (c : Call) (f : Fault) (s₁ : W) → Holding h s₁ → (c ≡ Sweep → ⊥) → ((xs : List ℕ) → ideal_words n w xs (c ∷ []) ≡ xs) → Did h c (Declined f) s₁
    did_break : (c : Call) (f : Fault) (s₁ : W) (h₁ : Hist) → One h h₁ → Trailing h₁ s₁ → s₁.broken ≡ Some f → Did h c (Failed f) s₁

  trail_on : (h : Hist) (s : W) (f : Fault) → Trailing h s → Trailing h (at_broken f s)
  trail_on h s f tr = record { past = tr.past; tail = tr.tail; endless = tr.endless; log_is = tr.log_is }

  module _ (h : Hist) (s : W) (i : Holding h s) where
    reading_did : (a : ℕ) → a < n → {r : Result ℕ Fault} {s₁ : W} → Came m l laws n w t narrow h a None r s₁ → let o = told Value (settled at_broken (r, s₁)) in Did h (Read a) o.0 o.1
    reading_did a la (visits v s₁ k) = did_read a v s₁ la k
    reading_did a la (strays f s₁ h₁ one tr) = did_break (Read a) f (at_broken f s₁) h₁ one (trail_on h₁ s₁ f tr) refl

    writing_did : (a v : ℕ) → a < n → v < 2 ^ w → {r : Result ℕ Fault} {s₁ : W} → Came m l laws n w t narrow h a (Some v) r s₁ →
        let o = told (λ _. Written) (settled at_broken (and_then (r, s₁) (done (watched m) l))) in Did h (Write a v) o.0 o.1
    writing_did a v la lv (visits x s₁ k) =
        let e : x ≡ v = sym k.got_value in
        did_write a v s₁ la lv (subst (λ (y : ℕ). Visiting h a (Some v) y s₁) e k)
    writing_did a v la lv (strays f s₁ h₁ one tr) = did_break (Write a v) f (at_broken f s₁) h₁ one (trail_on h₁ s₁ f tr) refl

    sweeping_did : {r : Result (Unit {0}) Fault} {s₁ : W} → Ended m l laws n w t narrow h r s₁ → let o = told (λ _. Passed) (settled at_broken (r, s₁)) in Did h Sweep o.0 o.1
    sweeping_did (passes s₁ k) = did_sweep s₁ k
    sweeping_did (fails f s₁ h₁ one tr) = did_break Sweep f (at_broken f s₁) h₁ one (trail_on h₁ s₁ f tr) refl

    declining : (c : Call) (f : Fault) → (c ≡ Sweep → ⊥) → ((xs : List ℕ) → ideal_words n w xs (c ∷ []) ≡ xs) → Did h c (refused s.broken f) s
    declining c f no_sweep e = subst (λ (a : Answer). Did h c a s) (sym (refused_none s.broken f i.sound)) (did_decline c f s i no_sweep e)

    open_told : {A : Type 0} (g : A → Answer) (o o' : Outcome Fault A W) → o ≡ o' → told g (unless_broken s.broken s o) ≡ told g o'
    open_told g o o' e = ap (told g) (unbroken_is s.broken s o i.sound ∙ e)

    -- what an unbroken memory does
    abbrev read_body : ℕ → Outcome Fault ℕ W
    read_body a = cond (nat_lt a s.size) (settled at_broken (visit (watched m) l a None s)) (Err (fault NoSuchCell (height (watched m) l s) a), s)

    abbrev write_body : ℕ → ℕ → Outcome Fault (Unit {0}) W
    write_body a v =
        cond (nat_lt a s.size)
        (cond (nat_lt v (2 ^ s.width)) (settled at_broken (replaced (watched m) l a v s)) (Err (fault WordTooWide (height (watched m) l s) a), s))
        (Err (fault NoSuchCell (height (watched m) l s) a), s)

    pub did : (c : Call) → Did h c (performed (watched m) l c s).0 (performed (watched m) l c s).1
    did (Read a) =
        ⊎_elim
        (λ (lt : a < s.size).
        let la : a < n = omega (arith, i.size_is) in
        let e = open_told Value (read_body a) (settled at_broken (visit (watched m) l a None s)) (rw (lt-ltb a s.size lt)) in
        subst (λ (o : Answer × W). Did h (Read a) o.0 o.1) (sym e) (reading_did a la (visit_is m l laws n w t narrow h s a None i la (λ x lx. lx))))
        (λ (le : s.size ≤ a).
        let e = open_told Value (read_body a) (Err (fault NoSuchCell (height (watched m) l s) a), s) (rw (le-ltb a s.size le)) in
        subst (λ (o : Answer × W). Did h (Read a) o.0 o.1) (sym e) (declining (Read a) _ (λ e. let z : ◌≡◌ {A = ℕ} 0 1 = cc in omega arith) (λ xs. refl)))
        (cases_lt a s.size)
    did (Write a v) =
        ⊎_elim
        (λ (lt : a < s.size).
        let la : a < n = omega (arith, i.size_is) in
        ⊎_elim
        (λ (small : v < 2 ^ s.width).
        let lv : v < 2 ^ w = rw (← i.width_is) small in
        let e = open_told (λ _. Written) (write_body a v) (settled at_broken (replaced (watched m) l a v s)) (rw (lt-ltb a s.size lt, lt-ltb v (2 ^ s.width) small)) in
        subst (λ (o : Answer × W). Did h (Write a v) o.0 o.1) (sym e) (writing_did a v la lv (visit_is m l laws n w t narrow h s a (Some v) i la (λ x lx. lv))))
        (λ (wide : 2 ^ s.width ≤ v).
        let wv : 2 ^ w ≤ v = rw (← i.width_is) wide in
        let e = open_told (λ _. Written) (write_body a v) (Err (fault WordTooWide (height (watched m) l s) a), s) (rw (lt-ltb a s.size lt, le-ltb v (2 ^ s.width) wide)) in
        subst (λ (o : Answer × W). Did h (Write a v) o.0 o.1) (sym e) (declining (Write a v) _ (λ e. let z : ◌≡◌ {A = ℕ} 0 1 = cc in omega arith) (λ xs. rw (lt-ltb a n la, le-ltb v (2 ^ w) wv))))
        (cases_lt v (2 ^ s.width)))
        (λ (le : s.size ≤ a).
        let ln : n ≤ a = omega (arith, i.size_is) in
        let e = open_told (λ _. Written) (write_body a v) (Err (fault NoSuchCell (height (watched m) l s) a), s) (rw (le-ltb a s.size le)) in
        subst (λ (o : Answer × W). Did h (Write a v) o.0 o.1) (sym e) (declining (Write a v) _ (λ e. let z : ◌≡◌ {A = ℕ} 0 1 = cc in omega arith) (λ xs. rw (le-ltb a n ln))))
        (cases_lt a s.size)
    did Sweep =
        let e = open_told (λ _. Passed) _ (settled at_broken (sweep_all (watched m) l s)) refl in
        subst (λ (o : Answer × W). Did h Sweep o.0 o.1) (sym e) (sweeping_did (sweep_is m l laws n w t narrow h s i))

  -- a broken memory answers its first fault, and stays as it is
  broken_told : {A : Type 0} (s : W) (f : Fault) → s.broken ≡ Some f → (g : A → Answer) (o : Outcome Fault A W) → told g (unless_broken s.broken s o) ≡ (Failed f, s)
  broken_told s f e g o = ap (λ (b : Option Fault). told g (unless_broken b s o)) e ∙ ap (λ (b : Option Fault). (refused b f, s)) e

  pub broken_performed : (c : Call) (s : W) (f : Fault) → s.broken ≡ Some f → performed (watched m) l c s ≡ (Failed f, s)
  broken_performed (Read a) s f e = broken_told s f e Value _
  broken_performed (Write a v) s f e = broken_told s f e (λ _. Written) _
  broken_performed Sweep s f e = broken_told s f e (λ _. Passed) _

  pub broken_after : (cs : List Call) (s : W) (f : Fault) → s.broken ≡ Some f → after (performed (watched m) l) cs s ≡ s
  unfolding after
  broken_after [] s f e = refl
  broken_after (c ∷ cs) s f e = ap (λ (r : Answer × W). after (performed (watched m) l) cs r.1) (broken_performed c s f e) ∙ broken_after cs s f e

  later_one : (h h₁ : Hist) → One h h₁ → Later h h₁
  later_one h h₁ (inl p) = subst (λ (x : Hist). Later h x) (sym p) (later_refl h)
  later_one h h₁ (inr p) = subst (λ (x : Hist). Later h x) (sym p.1) (later_close h p.0)

  later_may : {h h₁ : Hist} → May m l laws n w t narrow h h₁ → Later h h₁
  later_may (stays h) = later_refl h
  later_may (sweeps_first h sw f) = later_close h sw

  abbrev pub Notes : List ℕ → Hist → Type 0
  Notes = Noted (λ x. stamp m l laws n w t narrow x) (λ x. value m l laws n w t narrow x) n

  noted_may : (xs : List ℕ) {h h₁ : Hist} → May m l laws n w t narrow h h₁ → Notes xs h → Notes xs h₁
  noted_may xs (stays h) k = k
  noted_may xs (sweeps_first h sw f) k = noted_close _ _ n xs h sw f.renews k

  -- after a visit that put v the values are those before it, but for v
  noted_visit : (h : Hist) (a v : ℕ) (new : Option ℕ) (s₁ : W) (xs ys : List ℕ) → a < n → length xs ≡ n → (k : Visiting h a new v s₁) → Notes xs h →
      (stale zeros (all (push k.before k.touch)) ≡ 0 → ys ≡ set xs a v) → Notes ys (push k.before k.touch)
  noted_visit h a v new s₁ xs ys la len k note is z b lb =
      let q = pushed k.before k.touch z in
      let u = k.touch in
      let f : ℕ → ℕ = words_after zeros (all k.before) in
      let val : ℕ → ℕ = value m l laws n w t narrow in
      ap (λ (g : ℕ → ℕ). val (g b)) q.2
      ∙ elim (cases_eq b a) [
        | inl p ↦
            let in_xs : a < length xs = omega arith in
            ap (λ (c : ℕ). val (update f c u.put b)) k.cell_is ∙ ap (λ (c : ℕ). val (update f a u.put c)) p ∙ ap val (update_same f a u.put) ∙ k.put_value
            ∙ sym (get_or-set_same xs a v 0 in_xs) ∙ ap (λ (c : ℕ). slice_index_or (set xs a v) c 0) (sym p) ∙ ap (λ (zs : List ℕ). slice_index_or zs b 0) (sym (is z))
        | inr ne ↦
            ap (λ (c : ℕ). val (update f c u.put b)) k.cell_is ∙ ap val (update_other f a u.put b ne) ∙ noted_may xs k.may note q.0 b lb
            ∙ sym (get_or-set_other xs a b v 0 ne) ∙ ap (λ (zs : List ℕ). slice_index_or zs b 0) (sym (is z))
      ]

  -- the state after some calls: unbroken with the ideal words, or broken with a trail
  pub data Reached (h : Hist) (ys : List ℕ) (x : W) : Type 0 where
    well : (h₁ : Hist) → Later h h₁ → Holding h₁ x → Notes ys h₁ → length ys ≡ n → Reached h ys x
    ill : (f : Fault) (h₁ : Hist) → x.broken ≡ Some f → Later h h₁ → Trailing h₁ x → Reached h ys x

  reached_on : (h h₁ : Hist) (ys : List ℕ) (x : W) → Later h h₁ → Reached h₁ ys x → Reached h ys x
  reached_on h h₁ ys x p (well h₂ q i k e) = well h₂ (later_trans h h₁ h₂ p q) i k e
  reached_on h h₁ ys x p (ill f h₂ b q tr) = ill f h₂ b (later_trans h h₁ h₂ p q) tr

  ideal_step : (xs : List ℕ) (c : Call) (cs : List Call) → ideal_words n w (ideal_words n w xs (c ∷ [])) cs ≡ ideal_words n w xs (c ∷ cs)
  ideal_step xs (Write a v) cs = refl
  ideal_step xs (Read a) cs = refl
  ideal_step xs Sweep cs = refl

  -- what a reading that is true leaves of the ideal words: they are set to what they are
  set_same : (xs : List ℕ) (a v : ℕ) → a < length xs → slice_index_or xs a 0 ≡ v → xs ≡ set xs a v
  set_same [] a v lt e = absurd (omega arith)
  set_same (x ∷ xs) zero v lt e = ap (λ (y : ℕ). y ∷ xs) e
  set_same (x ∷ xs) (suc a) v lt e = ap (λ (k : List ℕ). x ∷ k) (set_same xs a v (omega arith) e)

  -- a reading that is true answers the ideal word
  pub read_ideal : (h : Hist) (a v : ℕ) (s₁ : W) (xs : List ℕ) → a < n → (k : Visiting h a None v s₁) → Notes xs h → stale zeros (all (push k.before k.touch)) ≡ 0 → v ≡ slice_index_or xs a 0
  read_ideal h a v s₁ xs la k note z =
      let q = pushed k.before k.touch z in
      let val : ℕ → ℕ = value m l laws n w t narrow in
      sym k.got_value ∙ ap val (q.1 ∙ ap (words_after zeros (all k.before)) k.cell_is) ∙ noted_may xs k.may note q.0 a la

  pub read_notes : (h : Hist) (a v : ℕ) (s₁ : W) (xs : List ℕ) → a < n → length xs ≡ n → (k : Visiting h a None v s₁) → Notes xs h → Notes xs (push k.before k.touch)
  read_notes h a v s₁ xs la len k note =
      noted_visit h a v None s₁ xs xs la len k note (λ z. set_same xs a v (omega arith) (sym (read_ideal h a v s₁ xs la k note z)))

  step : (h : Hist) (xs : List ℕ) → Notes xs h → length xs ≡ n → {c : Call} {r : Answer} {s₁ : W} → Did h c r s₁ → Reached h (ideal_words n w xs (c ∷ [])) s₁
  step h xs note len (did_write a v s₁ la lv k) =
      let e : written n w xs a v ≡ set xs a v = rw (lt-ltb a n la, lt-ltb v (2 ^ w) lv) in
      well (push k.before k.touch) (later_trans h k.before _ (later_may k.may) (later_push k.before k.touch)) k.held
      (noted_visit h a v (Some v) s₁ xs (written n w xs a v) la len k note (λ _. e)) (ap length e ∙ length-set xs a v ∙ len)
  step h xs note len (did_read a v s₁ la k) =
      well (push k.before k.touch) (later_trans h k.before _ (later_may k.may) (later_push k.before k.touch)) k.held
      (read_notes h a v s₁ xs la len k note) len
  step h xs note len (did_sweep s₁ k) =
      well (close h k.touched) (later_close h k.touched) k.held (noted_close _ _ n xs h k.touched k.faultless.renews note) len
  step h xs note len (did_decline c f s₁ i no_sweep e) = subst (λ (ys : List ℕ). Reached h ys s₁) (sym (e xs)) (well h (later_refl h) i note len)
  step h xs note len (did_break c f s₁ h₁ one tr b) = ill f h₁ b (later_one h h₁ one) tr

  pub reach : (cs : List Call) (s : W) (h : Hist) (xs : List ℕ) → Holding h s → Notes xs h → length xs ≡ n → Reached h (ideal_words n w xs cs) (after (performed (watched m) l) cs s)
  unfolding after
  reach [] s h xs i note len = well h (later_refl h) i note len
  reach (c ∷ cs) s h xs i note len = go (step h xs note len (did h s i c)) (reach cs (performed (watched m) l c s).1)
    where
      go : Reached h (ideal_words n w xs (c ∷ [])) (performed (watched m) l c s).1 →
          ((h₁ : Hist) (ys : List ℕ) → Holding h₁ (performed (watched m) l c s).1 → Notes ys h₁ → length ys ≡ n → Reached h₁ (ideal_words n w ys cs) (after (performed (watched m) l) cs (performed (watched m) l c s).1)) →
          Reached h (ideal_words n w xs (c ∷ cs)) (after (performed (watched m) l) cs (performed (watched m) l c s).1)
      go (well h₁ p j k e) rest =
          subst (λ (ys : List ℕ). Reached h ys (after (performed (watched m) l) cs (performed (watched m) l c s).1)) (ideal_step xs c cs)
          (reached_on h h₁ _ _ p (rest h₁ (ideal_words n w xs (c ∷ [])) j k e))
      go (ill f h₁ b p tr) rest =
          subst (λ (x : W). Reached h (ideal_words n w xs (c ∷ cs)) x) (sym (broken_after cs (performed (watched m) l c s).1 f b)) (ill f h₁ b p tr)
