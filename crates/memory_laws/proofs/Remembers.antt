-- What the calls of a checked memory do to its history.
use Rattle.std.proofs.Common.{◌≡◌, ℕ, zero, suc, ◌+◌, ◌/◌, ◌^◌, ◌<◌, ◌≤◌, Bool, true, false, cond, nat_eq, nat_lt, nat_le, ◌⊎◌, List, [], ◌∷◌, ◌++◌, length, None, Ok, Err, Option, Result, unwrap_or, sym, refl, ap, ◌∙◌, subst, inl, inr, append_assoc, append-nil, mod-eq_of_lt, arith, ltb-true, leb-true}
use Rattle.std.proofs.lemmas.List.{length_push}
use native.Mathlib.Nat.{div-eq_of_lt}
use lib.Arith.{digits_div, digits_mod}
use borrow.Author.Tests.{eqb-false}
use Rattle.std.proofs.lemmas.Nat.{pow_pos, mod_below}
use Rattle.parts.specs.declared.fault.Fault.{Fault}
use Rattle.parts.specs.Outcomes.{Outcome, and_then, up_to}
use Rattle.parts.specs.Meaning.{Meaning}
use Rattle.parts.specs.Tallying.{Tallying, Laws}
use Rattle.parts.proofs.Steps.{never, both_answered}
use Rattle.memory_laws.specs.Checked.{Mem, clock_end, record_of, stamp_of, value_of, word_of, at_store, at_read, at_clock, on_store, examined, fetch, counted, put, retallied, rewritten, renewed, swept, closed, sweep_all, answered, restamped, turn, turned, visit, cleared}
use Rattle.memory_laws.specs.History.{Event, did_read, did_write, sweep_begins, sweep_ends, watched, watching, noted}
use Rattle.memory_laws.proofs.Numbers.{word_low, word_fits, value_below}
use Rattle.memory_laws.proofs.Bags.{tallied, tallied_more}
use Rattle.memory_laws.proofs.Touches.{Touch, Epoch, reads, writes, Within, Timed, Sweeps, Sound, Each, Agree, bag_read, bag_written, reads_append, writes_append, within_append}
use Rattle.memory_laws.proofs.Log.{Hist, push, close, made_records, pairs, flat, began, Endless, endless_append, pairs_append, flat_push, flat_close}

-- a sweep writes each value back with stamp 0
abbrev pub Renews : (ℕ → ℕ) → (ℕ → ℕ) → List Touch → Type 0
Renews stamp value [] = Unit {0}
Renews stamp value (t ∷ ts) = (stamp t.put ≡ 0) × (value t.put ≡ value t.got) × Renews stamp value ts

-- a touch at the time c: the stamp read is not ahead of it, and the stamp written is the next
pub record Fair (stamp : ℕ → ℕ) (n c : ℕ) (t : Touch) : Type 0 where
  pub cell : t.cell < n
  pub got : t.got < 2 ^ 48
  pub put : t.put < 2 ^ 48
  pub early : stamp t.got ≤ c
  pub next : stamp t.put ≡ suc c

-- lists with one touch or one epoch more
began_push : (w : List ℕ) (es : List Epoch) (e : Epoch) → began w (es ++ e ∷ []) ≡ writes e.sweep
began_push w [] e = refl
began_push w (x ∷ es) e = began_push (writes x.sweep) es e

sweeps_push : (a k : ℕ) (sw : List Touch) (t : Touch) → Sweeps a k sw → t.cell ≡ k → Sweeps a (suc k) (sw ++ t ∷ [])
sweeps_push a k [] t s e = (e ∙ sym s, ap suc s)
sweeps_push a k (x ∷ sw) t s e = (s.0, sweeps_push (suc a) k sw t s.1 e)

renews_push : (stamp value : ℕ → ℕ) (sw : List Touch) (t : Touch) → Renews stamp value sw → stamp t.put ≡ 0 → value t.put ≡ value t.got → Renews stamp value (sw ++ t ∷ [])
renews_push stamp value [] t r z v = (z, v, tt)
renews_push stamp value (x ∷ sw) t r z v = (r.0, r.1, renews_push stamp value sw t r.2 z v)

each_push : (P : Epoch → Type 0) (es : List Epoch) (e : Epoch) → Each P es → P e → Each P (es ++ e ∷ [])
each_push P [] e h k = (k, tt)
each_push P (x ∷ es) e h k = (h.0, each_push P es e h.1 k)

agree_push : (P : List ℕ → List ℕ → Type 0) (w : List ℕ) (es : List Epoch) (e : Epoch) → Agree P w es → P (bag_read e) (bag_written (began w es) e) → Agree P w (es ++ e ∷ [])
agree_push P w [] e h k = (k, tt)
agree_push P w (x ∷ es) e h k = (h.0, agree_push P (writes x.sweep) es e h.1 k)

timed_push : (stamp : ℕ → ℕ) (c : ℕ) (ts : List Touch) (t : Touch) → Timed stamp c ts → stamp t.got ≤ c + length ts → stamp t.put ≡ suc (c + length ts) → Timed stamp c (ts ++ t ∷ [])
timed_push stamp c [] t h le e = (omega arith, omega arith, tt)
timed_push stamp c (x ∷ ts) t h le e = (h.0, h.1, timed_push stamp (suc c) ts t h.2 (omega arith) (omega arith))

module _ (m : Meaning) {T V : Type 0} (l : T → Tallying V) where
  abbrev W : Type 0
  W = Mem (watched m) l

  -- the history of s₁ goes on from that of s, and no sweep ended since
  abbrev pub Grows : W → W → Type 0
  Grows s s₁ = (tail : List Event) × (s₁.store.history ≡ s.store.history ++ tail) × Endless tail

  grows_refl : (s : W) → Grows s s
  grows_refl s = ([], sym (append-nil s.store.history), tt)

  grows_trans : (s s₁ s₂ : W) → Grows s s₁ → Grows s₁ s₂ → Grows s s₂
  grows_trans s s₁ s₂ p q =
      (p.0 ++ q.0, q.1 ∙ ap (λ (k : List Event). k ++ q.0) p.1 ∙ append_assoc s.store.history p.0 q.0, endless_append p.0 q.0 p.2 q.2)

  grows_then : {A B : Type 0} (s : W) (o : Outcome Fault A W) (k : A → W → Outcome Fault B W) → Grows s o.1 → ((a : A) (s' : W) → Grows s' (k a s').1) → Grows s (and_then o k).1
  grows_then {A} s o k p q = go o.0 o.1 p
    where
      go : (r : Result A Fault) (s' : W) → Grows s s' → Grows s (and_then (r, s') k).1
      go (Ok a) s' p = grows_trans s s' (k a s').1 p (q a s')
      go (Err f) s' p = p

  -- a call of the store below
  grows_watch : {A : Type 0} (s : W) (e : A → Event) → ((a : A) → Endless (e a ∷ [])) → (o : Outcome Fault A m.State) → Grows s (on_store (watched m) l s (watching s.store.history e o)).1
  grows_watch {A} s e q o = go o.0 o.1
    where
      go : (r : Result A Fault) (z : m.State) → Grows s (on_store (watched m) l s (watching s.store.history e (r, z))).1
      go (Ok a) z = (e a ∷ [], refl, q a)
      go (Err f) z = ([], sym (append-nil s.store.history), tt)

  grows_examined : (a x : ℕ) (s : W) → Grows s (examined (watched m) l a x s).1
  grows_examined a x s = go (nat_lt x (2 ^ (s.width + 20))) (nat_le (stamp_of s.width x) s.clock) _ _ _
    where
      go : (p q : Bool) (v : V) (f g : Fault) → Grows s (cond {A = Outcome Fault ℕ W} p (cond q (Ok (value_of s.width x), at_read s v) (Err f, s)) (Err g, s)).1
      go true true v f g = grows_refl s
      go true false v f g = grows_refl s
      go false q v f g = grows_refl s

  grows_fetch : (a : ℕ) (s : W) → Grows s (fetch (watched m) l a s).1
  grows_fetch a s = grows_then s (on_store (watched m) l s ((watched m).read s.store a)) (examined (watched m) l a) (grows_watch s (did_read a) (λ _. tt) (m.read s.store.below a)) (λ x s'. grows_examined a x s')

  grows_put : (a x : ℕ) (s : W) → Grows s (put (watched m) l a x s).1
  grows_put a x s = grows_then s (on_store (watched m) l s ((watched m).write s.store a x)) (counted (watched m) l a x) (grows_watch s (λ _. did_write a x) (λ _. tt) (m.write s.store.below a x)) (λ _ s'. grows_refl s')

  grows_renewed : (a : ℕ) (fresh : V) (s : W) → Grows s (renewed (watched m) l a fresh s).1
  grows_renewed a fresh s =
      grows_then s (fetch (watched m) l a s) (rewritten (watched m) l a fresh) (grows_fetch a s)
      (λ v s'. grows_then s' (on_store (watched m) l s' ((watched m).write s'.store a v)) (retallied (watched m) l a fresh v) (grows_watch s' (λ _. did_write a v) (λ _. tt) (m.write s'.store.below a v)) (λ _ s''. grows_refl s''))

  grows_up_to : {A : Type 0} (step : ℕ → A → W → Outcome Fault A W) → ((k : ℕ) (a : A) (s : W) → Grows s (step k a s).1) → (k : ℕ) (a : A) (s : W) → Grows s (up_to step k a s).1
  unfolding up_to
  grows_up_to step g zero a s = grows_refl s
  grows_up_to step g (suc k) a s = grows_then s (up_to step k a s) (step k) (grows_up_to step g k a s) (λ x s'. g k x s')

  pub grows_cleared : (k : ℕ) (s : W) → Grows s (cleared (watched m) l k s).1
  grows_cleared k s = grows_up_to (λ a _ s'. put (watched m) l a 0 s') (λ a _ s'. grows_put a 0 s') k tt s

  pub grows_turn : (a : ℕ) (new : Option ℕ) (s : W) → Grows s (turn (watched m) l a new s).1
  grows_turn a new s =
      grows_then s (fetch (watched m) l a s) (restamped (watched m) l a new) (grows_fetch a s)
      (λ v s'. grows_then s' (put (watched m) l a _ (at_clock s' (s'.clock + 1))) (answered (watched m) l _) (grows_put a _ (at_clock s' (s'.clock + 1))) (λ _ s''. grows_refl s''))

  -- a word that was read and accepted
  abbrev after_fetch : W → ℕ → ℕ → m.State → W
  after_fetch s a x z = record { store = record { below = z; history = s.store.history ++ did_read a x ∷ [] }; rule = s.rule; size = s.size; width = s.width; clock = s.clock; read = (l s.rule).add s.read (record_of a x); written = s.written; broken = s.broken }

  record Fetched (s : W) (a v : ℕ) (s₁ : W) : Type 0 where
    word : ℕ
    left : m.State
    low : word < 2 ^ (s.width + 20)
    early : stamp_of s.width word ≤ s.clock
    value_is : value_of s.width word ≡ v
    left_is : after_fetch s a word left ≡ s₁

  fetched : (s : W) (a v : ℕ) (s₁ : W) → fetch (watched m) l a s ≡ (Ok v, s₁) → Fetched s a v s₁
  fetched s a v s₁ h = go (m.read s.store.below a).0 (m.read s.store.below a).1 h
    where
      tests : (x : ℕ) (z : m.State) (p q : Bool) → nat_lt x (2 ^ (s.width + 20)) ≡ p → nat_le (stamp_of s.width x) s.clock ≡ q → (f g : Fault) (y y' : W) → ◌≡◌ {A = Outcome Fault ℕ W} (cond p (cond q (Ok (value_of s.width x), after_fetch s a x z) (Err f, y)) (Err g, y')) (Ok v, s₁) → Fetched s a v s₁
      tests x z true true lo ea f g y y' h =
          let e : ◌≡◌ {A = Result ℕ Fault} (Ok (value_of s.width x)) (Ok v) = ap (λ (o : Outcome Fault ℕ W). o.0) h in
          record { word = x; left = z; low = ltb-true _ _ lo; early = leb-true _ _ ea; value_is = cc; left_is = ap (λ (o : Outcome Fault ℕ W). o.1) h }
      tests x z true false lo ea f g y y' h = absurd (never f v y s₁ h)
      tests x z false q lo ea f g y y' h = absurd (never g v y' s₁ h)

      go : (r : Result ℕ Fault) (z : m.State) → and_then (on_store (watched m) l s (watching s.store.history (did_read a) (r, z))) (examined (watched m) l a) ≡ (Ok v, s₁) → Fetched s a v s₁
      go (Ok x) z h = tests x z (nat_lt x (2 ^ (s.width + 20))) (nat_le (stamp_of s.width x) s.clock) refl refl _ _ _ _ h
      go (Err f) z h = absurd (never f v _ s₁ h)

  abbrev after_write : W → ℕ → ℕ → m.State → W
  after_write s a y z = record { store = record { below = z; history = s.store.history ++ did_write a y ∷ [] }; rule = s.rule; size = s.size; width = s.width; clock = s.clock; read = s.read; written = s.written; broken = s.broken }

  abbrev pub after_put : W → ℕ → ℕ → m.State → W
  after_put s a y z = record { store = record { below = z; history = s.store.history ++ did_write a y ∷ [] }; rule = s.rule; size = s.size; width = s.width; clock = s.clock; read = s.read; written = (l s.rule).add s.written (record_of a y); broken = s.broken }

  wrote_is : (s : W) (a y : ℕ) (u : Unit {0}) (s₁ : W) → on_store (watched m) l s ((watched m).write s.store a y) ≡ (Ok u, s₁) → (z : m.State) × (after_write s a y z ≡ s₁)
  wrote_is s a y u s₁ h = go (m.write s.store.below a y).0 (m.write s.store.below a y).1 h
    where
      go : (r : Result (Unit {0}) Fault) (z : m.State) → on_store (watched m) l s (watching s.store.history (λ _. did_write a y) (r, z)) ≡ (Ok u, s₁) → (z : m.State) × (after_write s a y z ≡ s₁)
      go (Ok w) z h = (z, ap (λ (o : Outcome Fault (Unit {0}) W). o.1) h)
      go (Err f) z h = absurd (never f u _ s₁ h)

  pub put_is : (s : W) (a y : ℕ) (u : Unit {0}) (s₁ : W) → put (watched m) l a y s ≡ (Ok u, s₁) → (z : m.State) × (after_put s a y z ≡ s₁)
  put_is s a y u s₁ h =
      let b = both_answered (on_store (watched m) l s ((watched m).write s.store a y)) (counted (watched m) l a y) u s₁ h in
      let w = wrote_is s a y b.0 b.1 b.2 in
      let e : counted (watched m) l a y tt (after_write s a y w.0) ≡ (Ok u, s₁) = ap (counted (watched m) l a y tt) w.1 ∙ b.3 in
      (w.0, ap (λ (o : Outcome Fault (Unit {0}) W). o.1) e)

  abbrev after_turn : W → ℕ → ℕ → ℕ → m.State → W
  after_turn s a x y z = record { store = record { below = z; history = (s.store.history ++ did_read a x ∷ []) ++ did_write a y ∷ [] }; rule = s.rule; size = s.size; width = s.width; clock = s.clock + 1; read = (l s.rule).add s.read (record_of a x); written = (l s.rule).add s.written (record_of a y); broken = s.broken }

  record Turned (s : W) (a : ℕ) (new : Option ℕ) (v : ℕ) (s₁ : W) : Type 0 where
    word : ℕ
    left : m.State
    low : word < 2 ^ (s.width + 20)
    early : stamp_of s.width word ≤ s.clock
    value_is : unwrap_or new (value_of s.width word) ≡ v
    left_is : after_turn s a word (word_of s.width (s.clock + 1) v) left ≡ s₁

  turned_is : (s : W) (a : ℕ) (new : Option ℕ) (v : ℕ) (s₁ : W) → turn (watched m) l a new s ≡ (Ok v, s₁) → Turned s a new v s₁
  turned_is s a new v s₁ h =
      let b = both_answered (fetch (watched m) l a s) (restamped (watched m) l a new) v s₁ h in
      let k = fetched s a b.0 b.1 b.2 in
      let u = b.0 in
      let t : W = after_fetch s a k.word k.left in
      let e : restamped (watched m) l a new u t ≡ (Ok v, s₁) = ap (restamped (watched m) l a new u) k.left_is ∙ b.3 in
      let y = word_of s.width (s.clock + 1) (unwrap_or new u) in
      let t₁ : W = at_clock t (s.clock + 1) in
      let d = both_answered (put (watched m) l a y t₁) (answered (watched m) l (unwrap_or new u)) v s₁ e in
      let w = put_is t₁ a y d.0 d.1 d.2 in
      let f : ◌≡◌ {A = Outcome Fault ℕ W} (Ok (unwrap_or new u), d.1) (Ok v, s₁) = d.3 in
      let g : ◌≡◌ {A = Result ℕ Fault} (Ok (unwrap_or new u)) (Ok v) = ap (λ (o : Outcome Fault ℕ W). o.0) f in
      let uv : unwrap_or new u ≡ v = cc in
      let left : after_turn s a k.word y w.0 ≡ s₁ = w.1 ∙ ap (λ (o : Outcome Fault ℕ W). o.1) f in
      record {
        word = k.word;
        left = w.0;
        low = k.low;
        early = k.early;
        value_is = ap (unwrap_or new) k.value_is ∙ uv;
        left_is = subst (λ (x : ℕ). after_turn s a k.word (word_of s.width (s.clock + 1) x) w.0 ≡ s₁) uv left;
      }

  module _ (laws : (t : T) → Laws (l t)) (n w : ℕ) (t : T) (narrow : w ≤ 28) where
    abbrev pub stamp : ℕ → ℕ
    stamp = stamp_of w

    abbrev pub value : ℕ → ℕ
    value = value_of w

    abbrev Tallies : List ℕ → List ℕ → Type 0
    Tallies r x = tallied (l t) (l t).start r ≡ tallied (l t) (l t).start x

    -- what is known of the epochs of a memory that is not broken
    pub record Good (h : Hist) : Type 0 where
      pub past : Each (Sound stamp n) h.past
      pub renews : Each (λ e. Renews stamp value e.sweep) h.past
      pub agree : Agree Tallies (made_records 0 n) h.past
      pub own : Within n h.own
      pub timed : Timed stamp 0 h.own

    -- what an unbroken memory holds, by its history
    pub record Held (h : Hist) (s : W) : Type 0 where
      pub size_is : s.size ≡ n
      pub width_is : s.width ≡ w
      pub rule_is : s.rule ≡ t
      pub sound : s.broken ≡ None
      pub clock_is : s.clock ≡ length h.own
      pub in_time : s.clock ≤ clock_end
      pub got_is : s.read ≡ tallied (l t) (l t).start (reads h.own)
      pub put_is : s.written ≡ tallied (l t) (l t).start (began (made_records 0 n) h.past ++ writes h.own)
      pub log_is : s.store.history ≡ flat n h
      pub good : Good h

    -- the history of a memory that may be broken: some epochs, and events among which no sweep ends
    pub record Trail (h : Hist) (s : W) : Type 0 where
      pub past : Each (Sound stamp n) h.past
      pub tail : List Event
      pub endless : Endless tail
      pub log_is : s.store.history ≡ flat n h ++ tail

    pub held_trail : (h : Hist) (s : W) → Held h s → Trail h s
    held_trail h s i = record { past = i.good.past; tail = []; endless = tt; log_is = i.log_is ∙ sym (append-nil (flat n h)) }

    grown_trail : (h : Hist) (s s₁ : W) → Held h s → Grows s s₁ → Trail h s₁
    grown_trail h s s₁ i g = record { past = i.good.past; tail = g.0; endless = g.2; log_is = g.1 ∙ ap (λ (k : List Event). k ++ g.0) i.log_is }

    good_push : (h : Hist) (u : Touch) → Good h → Fair stamp n (length h.own) u → Good (push h u)
    good_push h u g f =
        record {
          past = g.past;
          renews = g.renews;
          agree = g.agree;
          own = within_append n h.own (u ∷ []) g.own (f.cell, f.got, f.put, tt);
          timed = timed_push stamp 0 h.own u g.timed (omega (arith, f.early)) (omega (arith, f.next));
        }

    -- a sweep over all cells whose tallies were found alike
    pub record Faultless (h : Hist) (sw : List Touch) : Type 0 where
      pub within : Within n sw
      pub covers : Sweeps 0 n sw
      pub renews : Renews stamp value sw
      pub tallies : Tallies (reads h.own ++ reads sw) (began (made_records 0 n) h.past ++ writes h.own)

    sound_close : (h : Hist) (sw : List Touch) → Good h → Within n sw → Sweeps 0 n sw → Each (Sound stamp n) (close h sw).past
    sound_close h sw g i c = each_push (Sound stamp n) h.past (record { own = h.own; sweep = sw }) g.past (record { own = g.own; sweep = i; timed = g.timed; covers = c })

    good_close : (h : Hist) (sw : List Touch) → Good h → Faultless h sw → Good (close h sw)
    good_close h sw g f =
        let e : Epoch = record { own = h.own; sweep = sw } in
        record {
          past = sound_close h sw g f.within f.covers;
          renews = each_push (λ e. Renews stamp value e.sweep) h.past e g.renews f.renews;
          agree = agree_push Tallies (made_records 0 n) h.past e g.agree f.tallies;
          own = tt;
          timed = tt;
        }

    -- one more touch of the open epoch
    held_turn : (h : Hist) (s : W) (a x y : ℕ) (z : m.State) → Held h s → s.clock < clock_end → Fair stamp n (length h.own) (record { cell = a; got = x; put = y }) → Held (push h (record { cell = a; got = x; put = y })) (after_turn s a x y z)
    held_turn h s a x y z i lt f =
        let u : Touch = record { cell = a; got = x; put = y } in
        let L = l t in
        record {
          size_is = i.size_is;
          width_is = i.width_is;
          rule_is = i.rule_is;
          sound = i.sound;
          clock_is = omega (arith, i.clock_is, length_push h.own u);
          in_time = omega arith;
          got_is = ap (λ (r : T). (l r).add s.read (record_of a x)) i.rule_is ∙ ap (λ (v : V). L.add v (record_of a x)) i.got_is ∙ sym (tallied_more L L.start (reads h.own) (record_of a x)) ∙ ap (tallied L L.start) (sym (reads_append h.own (u ∷ [])));
          put_is = ap (λ (r : T). (l r).add s.written (record_of a y)) i.rule_is ∙ ap (λ (v : V). L.add v (record_of a y)) i.put_is ∙ sym (tallied_more L L.start (began (made_records 0 n) h.past ++ writes h.own) (record_of a y))
              ∙ ap (tallied L L.start) (append_assoc (began (made_records 0 n) h.past) (writes h.own) (record_of a y ∷ []) ∙ ap (λ (xs : List ℕ). began (made_records 0 n) h.past ++ xs) (sym (writes_append h.own (u ∷ []))));
          log_is = ap (λ (xs : List Event). (xs ++ did_read a x ∷ []) ++ did_write a y ∷ []) i.log_is ∙ append_assoc (flat n h) (did_read a x ∷ []) (did_write a y ∷ []) ∙ sym (flat_push n h u);
          good = good_push h u i.good f;
        }

    abbrev after_renew : W → ℕ → ℕ → ℕ → m.State → W
    after_renew s a x y z = record { store = record { below = z; history = (s.store.history ++ did_read a x ∷ []) ++ did_write a y ∷ [] }; rule = s.rule; size = s.size; width = s.width; clock = s.clock; read = (l s.rule).add s.read (record_of a x); written = s.written; broken = s.broken }

    record Renewed (s : W) (a : ℕ) (fresh fresh₁ : V) (s₁ : W) : Type 0 where
      word : ℕ
      left : m.State
      low : word < 2 ^ (s.width + 20)
      fresh_is : (l s.rule).add fresh (record_of a (value_of s.width word)) ≡ fresh₁
      left_is : after_renew s a word (value_of s.width word) left ≡ s₁

    renewed_is : (s : W) (a : ℕ) (fresh fresh₁ : V) (s₁ : W) → renewed (watched m) l a fresh s ≡ (Ok fresh₁, s₁) → Renewed s a fresh fresh₁ s₁
    renewed_is s a fresh fresh₁ s₁ h =
        let b = both_answered (fetch (watched m) l a s) (rewritten (watched m) l a fresh) fresh₁ s₁ h in
        let k = fetched s a b.0 b.1 b.2 in
        let v = b.0 in
        let t : W = after_fetch s a k.word k.left in
        let e : rewritten (watched m) l a fresh v t ≡ (Ok fresh₁, s₁) = ap (rewritten (watched m) l a fresh v) k.left_is ∙ b.3 in
        let d = both_answered (on_store (watched m) l t ((watched m).write t.store a v)) (retallied (watched m) l a fresh v) fresh₁ s₁ e in
        let o = wrote_is t a v d.0 d.1 d.2 in
        let e' : retallied (watched m) l a fresh v tt (after_write t a v o.0) ≡ (Ok fresh₁, s₁) = ap (retallied (watched m) l a fresh v tt) o.1 ∙ d.3 in
        let g : ◌≡◌ {A = Result V Fault} (Ok ((l s.rule).add fresh (record_of a v))) (Ok fresh₁) = ap (λ (o : Outcome Fault V W). o.0) e' in
        let fr : (l s.rule).add fresh (record_of a v) ≡ fresh₁ = cc in
        let left : after_renew s a k.word v o.0 ≡ s₁ = ap (λ (o : Outcome Fault V W). o.1) e' in
        record {
          word = k.word;
          left = o.0;
          low = k.low;
          fresh_is = subst (λ (y : ℕ). (l s.rule).add fresh (record_of a y) ≡ fresh₁) (sym k.value_is) fr;
          left_is = subst (λ (y : ℕ). after_renew s a k.word y o.0 ≡ s₁) (sym k.value_is) left;
        }

    -- a sweep on its way, at cell k
    record Midway (h : Hist) (k : ℕ) (fresh : V) (sw : List Touch) (s : W) : Type 0 where
      size_is : s.size ≡ n
      width_is : s.width ≡ w
      rule_is : s.rule ≡ t
      sound : s.broken ≡ None
      got_is : s.read ≡ tallied (l t) (l t).start (reads h.own ++ reads sw)
      put_is : s.written ≡ tallied (l t) (l t).start (began (made_records 0 n) h.past ++ writes h.own)
      fresh_is : fresh ≡ tallied (l t) (l t).start (writes sw)
      log_is : s.store.history ≡ flat n h ++ (sweep_begins ∷ pairs sw)
      within : Within n sw
      covers : Sweeps 0 k sw
      renews : Renews stamp value sw

    abbrev beginning : W → W
    beginning s = at_store s (noted sweep_begins s.store)

    mid_start : (h : Hist) (s : W) → Held h s → Midway h 0 (l s.rule).start [] (beginning s)
    mid_start h s i =
        record {
          size_is = i.size_is;
          width_is = i.width_is;
          rule_is = i.rule_is;
          sound = i.sound;
          got_is = i.got_is ∙ ap (tallied (l t) (l t).start) (sym (append-nil (reads h.own)));
          put_is = i.put_is;
          fresh_is = ap (λ (r : T). (l r).start) i.rule_is;
          log_is = ap (λ (k : List Event). k ++ sweep_begins ∷ []) i.log_is;
          within = tt;
          covers = refl;
          renews = tt;
        }

    mid_more : (h : Hist) (k : ℕ) (fresh : V) (sw : List Touch) (s : W) (x y : ℕ) (z : m.State) → Midway h k fresh sw s → k < n → x < 2 ^ (w + 20) → y ≡ value x →
        Midway h (suc k) ((l s.rule).add fresh (record_of k y)) (sw ++ record { cell = k; got = x; put = y } ∷ []) (after_renew s k x y z)
    mid_more h k fresh sw s x y z i lt low ey =
        let u : Touch = record { cell = k; got = x; put = y } in
        let L = l t in
        let small : value x < 2 ^ w = mod_below x (2 ^ w) (pow_pos w) in
        let zero_stamp : stamp y ≡ 0 = ap stamp ey ∙ div-eq_of_lt small in
        let same : value y ≡ value x = ap value ey ∙ mod-eq_of_lt small in
        let yl : y < 2 ^ 48 = word_low w y narrow (value_below w y (rw ey small)) in
        record {
          size_is = i.size_is;
          width_is = i.width_is;
          rule_is = i.rule_is;
          sound = i.sound;
          got_is = ap (λ (r : T). (l r).add s.read (record_of k x)) i.rule_is ∙ ap (λ (v : V). L.add v (record_of k x)) i.got_is ∙ sym (tallied_more L L.start (reads h.own ++ reads sw) (record_of k x))
              ∙ ap (tallied L L.start) (append_assoc (reads h.own) (reads sw) (record_of k x ∷ []) ∙ ap (λ (xs : List ℕ). reads h.own ++ xs) (sym (reads_append sw (u ∷ []))));
          put_is = i.put_is;
          fresh_is = ap (λ (r : T). (l r).add fresh (record_of k y)) i.rule_is ∙ ap (λ (v : V). L.add v (record_of k y)) i.fresh_is ∙ sym (tallied_more L L.start (writes sw) (record_of k y)) ∙ ap (tallied L L.start) (sym (writes_append sw (u ∷ [])));
          log_is = ap (λ (xs : List Event). (xs ++ did_read k x ∷ []) ++ did_write k y ∷ []) i.log_is ∙ longer (flat n h) (sweep_begins ∷ pairs sw) (did_read k x) (did_write k y)
              ∙ ap (λ (xs : List Event). flat n h ++ (sweep_begins ∷ xs)) (sym (pairs_append sw (u ∷ [])));
          within = within_append n sw (u ∷ []) i.within (lt, word_low w x narrow low, yl, tt);
          covers = sweeps_push 0 k sw u i.covers refl;
          renews = renews_push stamp value sw u i.renews zero_stamp same;
        }
      where
        longer : (xs ys : List Event) (p q : Event) → ((xs ++ ys) ++ p ∷ []) ++ q ∷ [] ≡ xs ++ (ys ++ p ∷ q ∷ [])
        longer xs ys p q = append_assoc (xs ++ ys) (p ∷ []) (q ∷ []) ∙ append_assoc xs ys (p ∷ q ∷ [])

    swept_is : (h : Hist) (s : W) (f : V) → Midway h 0 f [] s → (k : ℕ) → k ≤ n → (fresh : V) (s₁ : W) → up_to (renewed (watched m) l) k f s ≡ (Ok fresh, s₁) → (sw : List Touch) × Midway h k fresh sw s₁
    unfolding up_to
    swept_is h s f i zero le fresh s₁ e =
        let g : ◌≡◌ {A = Result V Fault} (Ok f) (Ok fresh) = ap (λ (o : Outcome Fault V W). o.0) e in
        let fe : f ≡ fresh = cc in
        ([], subst (λ (x : W). Midway h 0 fresh [] x) (ap (λ (o : Outcome Fault V W). o.1) e) (subst (λ (v : V). Midway h 0 v [] s) fe i))
    swept_is h s f i (suc k) le fresh s₁ e =
        let b = both_answered (up_to (renewed (watched m) l) k f s) (renewed (watched m) l k) fresh s₁ e in
        let j = swept_is h s f i k (omega arith) b.0 b.1 b.2 in
        let r = renewed_is b.1 k b.0 fresh s₁ b.3 in
        let u : Touch = record { cell = k; got = r.word; put = value_of b.1.width r.word } in
        let wi : b.1.width ≡ w = j.1.width_is in
        let low : r.word < 2 ^ (w + 20) = subst (λ (d : ℕ). r.word < 2 ^ (d + 20)) wi r.low in
        let y = mid_more h k b.0 j.0 b.1 r.word (value_of b.1.width r.word) r.left j.1 (omega arith) low (ap (λ (d : ℕ). value_of d r.word) wi) in
        (j.0 ++ u ∷ [], subst (λ (x : W). Midway h (suc k) fresh (j.0 ++ u ∷ []) x) r.left_is (subst (λ (v : V). Midway h (suc k) v (j.0 ++ u ∷ []) (after_renew b.1 k r.word (value_of b.1.width r.word) r.left)) r.fresh_is y))

    -- a sweep that passed
    pub record Swept (h : Hist) (s₁ : W) : Type 0 where
      pub touched : List Touch
      pub faultless : Faultless h touched
      pub held : Held (close h touched) s₁
      pub at_zero : s₁.clock ≡ 0

    -- a sweep: it passed, or it left a trail
    pub data Ended (h : Hist) : Result (Unit {0}) Fault → W → Type 0 where
      passes : (s₁ : W) → Swept h s₁ → Ended h (Ok tt) s₁
      fails : (f : Fault) (s₁ : W) (h₁ : Hist) → (h₁ ≡ h) ⊎ ((sw : List Touch) × (h₁ ≡ close h sw)) → Trail h₁ s₁ → Ended h (Err f) s₁

    abbrev ending : W → W
    ending s = at_store s (noted sweep_ends s.store)

    mid_log : (h : Hist) (fresh : V) (sw : List Touch) (s : W) → Midway h n fresh sw s → (ending s).store.history ≡ flat n (close h sw)
    mid_log h fresh sw s i =
        ap (λ (k : List Event). k ++ sweep_ends ∷ []) i.log_is ∙ append_assoc (flat n h) (sweep_begins ∷ pairs sw) (sweep_ends ∷ []) ∙ sym (flat_close n h sw)

    closed_is : (h : Hist) (fresh : V) (sw : List Touch) (s : W) → Good h → Midway h n fresh sw s → Ended h (closed (watched m) l fresh s).0 (closed (watched m) l fresh s).1
    closed_is h fresh sw s g i = go ((l s.rule).same s.read s.written) refl _
      where
        go : (p : Bool) → (l s.rule).same s.read s.written ≡ p → (f : Fault) →
            let o : Outcome Fault (Unit {0}) W = cond p (Ok tt, record { store = (ending s).store; rule = s.rule; size = s.size; width = s.width; clock = 0; read = (l s.rule).start; written = fresh; broken = s.broken }) (Err f, ending s) in
            Ended h o.0 o.1
        go true q f =
            let same : s.read ≡ s.written = ((laws s.rule).same_tells s.read s.written).0 q in
            let ep : Epoch = record { own = h.own; sweep = sw } in
            let fl : Faultless h sw = record { within = i.within; covers = i.covers; renews = i.renews; tallies = sym i.got_is ∙ same ∙ i.put_is } in
            passes _ (record {
              touched = sw;
              faultless = fl;
              held = record {
                size_is = i.size_is;
                width_is = i.width_is;
                rule_is = i.rule_is;
                sound = i.sound;
                clock_is = refl;
                in_time = omega arith;
                got_is = ap (λ (r : T). (l r).start) i.rule_is;
                put_is = i.fresh_is ∙ ap (tallied (l t) (l t).start) (sym (append-nil (writes sw)) ∙ ap (λ (xs : List ℕ). xs ++ []) (sym (began_push (made_records 0 n) h.past ep)));
                log_is = mid_log h fresh sw s i;
                good = good_close h sw g fl;
              };
              at_zero = refl;
            })
        go false q f =
            fails f _ (close h sw) (inr (sw, refl)) (record { past = sound_close h sw g i.within i.covers; tail = []; endless = tt; log_is = mid_log h fresh sw s i ∙ sym (append-nil (flat n (close h sw))) })

    pub sweep_is : (h : Hist) (s : W) → Held h s → Ended h (sweep_all (watched m) l s).0 (sweep_all (watched m) l s).1
    sweep_is h s i = go (swept (watched m) l s.size (beginning s)).0 (swept (watched m) l s.size (beginning s)).1 refl
      where
        go : (r : Result V Fault) (s₁ : W) → ◌≡◌ {A = Outcome Fault V W} (swept (watched m) l s.size (beginning s)) (r, s₁) → Ended h (and_then (r, s₁) (closed (watched m) l)).0 (and_then (r, s₁) (closed (watched m) l)).1
        go (Ok fresh) s₁ e =
            let le : s.size ≤ n = omega (arith, i.size_is) in
            let j = swept_is h (beginning s) (l s.rule).start (mid_start h s i) s.size le fresh s₁ e in
            closed_is h fresh j.0 s₁ i.good (subst (λ (k : ℕ). Midway h k fresh j.0 s₁) i.size_is j.1)
        go (Err f) s₁ e =
            let g : Grows (beginning s) s₁ = subst (λ (o : Outcome Fault V W). Grows (beginning s) o.1) e (grows_up_to (renewed (watched m) l) (λ k a x. grows_renewed k a x) s.size (l s.rule).start (beginning s)) in
            fails f s₁ h (inl refl) (grown_trail h s s₁ i (grows_trans s (beginning s) s₁ (sweep_begins ∷ [], refl, tt) g))

    -- where the clock has run out a sweep comes first
    pub data May : Hist → Hist → Type 0 where
      stays : (h : Hist) → May h h
      sweeps_first : (h : Hist) (sw : List Touch) → Faultless h sw → May h (close h sw)

    -- a cell read, and written again
    pub record Visited (h : Hist) (a : ℕ) (new : Option ℕ) (v : ℕ) (s₁ : W) : Type 0 where
      pub before : Hist
      pub touch : Touch
      pub may : May h before
      pub cell_is : touch.cell ≡ a
      pub put_value : value touch.put ≡ v
      pub got_value : unwrap_or new (value touch.got) ≡ v
      pub held : Held (push before touch) s₁

    turn_is : (h h₁ : Hist) (s : W) (a : ℕ) (new : Option ℕ) (v : ℕ) (s₁ : W) → May h h₁ → Held h₁ s → s.clock < clock_end → a < n → ((x : ℕ) → x < 2 ^ w → unwrap_or new x < 2 ^ w) → turn (watched m) l a new s ≡ (Ok v, s₁) → Visited h a new v s₁
    turn_is h h₁ s a new v s₁ may i lt la narrow_new e =
        let k = turned_is s a new v s₁ e in
        let wi = i.width_is in
        let y = word_of s.width (s.clock + 1) v in
        let u : Touch = record { cell = a; got = k.word; put = y } in
        let got : unwrap_or new (value k.word) ≡ v = ap (λ (d : ℕ). unwrap_or new (value_of d k.word)) (sym wi) ∙ k.value_is in
        let vl : v < 2 ^ w = let q = narrow_new (value k.word) (mod_below k.word (2 ^ w) (pow_pos w)) in omega (arith, q, got) in
        let yw : y ≡ word_of w (s.clock + 1) v = ap (λ (d : ℕ). word_of d (s.clock + 1) v) wi in
        let ci = i.clock_is in
        let fair : Fair stamp n (length h₁.own) u = record {
          cell = la;
          got = word_low w k.word narrow (subst (λ (d : ℕ). k.word < 2 ^ (d + 20)) wi k.low);
          put = subst (λ (z : ℕ). z < 2 ^ 48) (sym yw) (word_fits w (s.clock + 1) v (omega arith) vl narrow);
          early = let q : k.word / 2 ^ w ≤ s.clock = subst (λ (d : ℕ). stamp_of d k.word ≤ s.clock) wi k.early in omega (arith, q, ci);
          next = ap stamp yw ∙ digits_div (s.clock + 1) vl ∙ (let q : s.clock + 1 ≡ suc (length h₁.own) = omega (arith, ci) in q);
        } in
        record {
          before = h₁;
          touch = u;
          may = may;
          cell_is = refl;
          put_value = ap value yw ∙ digits_mod (s.clock + 1) vl;
          got_value = got;
          held = subst (λ (z : W). Held (push h₁ u) z) k.left_is (held_turn h₁ s a k.word y k.left i lt fair);
        }

    -- a visit: the cell was visited, or it left a trail
    pub data Came (h : Hist) (a : ℕ) (new : Option ℕ) : Result ℕ Fault → W → Type 0 where
      visits : (v : ℕ) (s₁ : W) → Visited h a new v s₁ → Came h a new (Ok v) s₁
      fails : (f : Fault) (s₁ : W) (h₁ : Hist) → (h₁ ≡ h) ⊎ ((sw : List Touch) × (h₁ ≡ close h sw)) → Trail h₁ s₁ → Came h a new (Err f) s₁

    came : (h h₁ : Hist) (s : W) (a : ℕ) (new : Option ℕ) → May h h₁ → (h₁ ≡ h) ⊎ ((sw : List Touch) × (h₁ ≡ close h sw)) → Held h₁ s → s.clock < clock_end → a < n → ((x : ℕ) → x < 2 ^ w → unwrap_or new x < 2 ^ w) →
        Came h a new (turn (watched m) l a new s).0 (turn (watched m) l a new s).1
    came h h₁ s a new may one i lt la narrow_new = go (turn (watched m) l a new s).0 (turn (watched m) l a new s).1 refl
      where
        go : (r : Result ℕ Fault) (s₁ : W) → ◌≡◌ {A = Outcome Fault ℕ W} (turn (watched m) l a new s) (r, s₁) → Came h a new r s₁
        go (Ok v) s₁ e = visits v s₁ (turn_is h h₁ s a new v s₁ may i lt la narrow_new e)
        go (Err f) s₁ e = fails f s₁ h₁ one (grown_trail h₁ s s₁ i (subst (λ (o : Outcome Fault ℕ W). Grows s o.1) e (grows_turn a new s)))

    pub visit_is : (h : Hist) (s : W) (a : ℕ) (new : Option ℕ) → Held h s → a < n → ((x : ℕ) → x < 2 ^ w → unwrap_or new x < 2 ^ w) → Came h a new (visit (watched m) l a new s).0 (visit (watched m) l a new s).1
    visit_is h s a new i la narrow_new = go (nat_eq s.clock clock_end) refl
      where
        swept_first : {r : Result (Unit {0}) Fault} {s₁ : W} → Ended h r s₁ → Came h a new (and_then (r, s₁) (turned (watched m) l a new)).0 (and_then (r, s₁) (turned (watched m) l a new)).1
        swept_first (passes s₁ k) = came h (close h k.touched) s₁ a new (sweeps_first h k.touched k.faultless) (inr (k.touched, refl)) k.held (omega (arith, k.at_zero)) la narrow_new
        swept_first (fails f s₁ h₁ one tr) = fails f s₁ h₁ one tr

        go : (p : Bool) → nat_eq s.clock clock_end ≡ p →
            let o : Outcome Fault ℕ W = and_then (cond {A = Outcome Fault (Unit {0}) W} p (sweep_all (watched m) l s) (Ok tt, s)) (turned (watched m) l a new) in
            Came h a new o.0 o.1
        go true q = swept_first (sweep_is h s i)
        go false q =
            let ne = eqb-false s.clock clock_end q in
            came h h s a new (stays h) (inl refl) i (omega (arith, ne, i.in_time)) la narrow_new
