-- Where the bags of every epoch agree no read was stale, and one stale read shows in the tallies.
use Rattle.std.proofs.Common.{◌≡◌, ℕ, zero, suc, ◌+◌, ◌^◌, ◌<◌, ◌≤◌, false, cond, nat_eq, ◌≢◌, List, [], ◌∷◌, ◌++◌, sym, refl, ap, ◌∙◌, inl, inr, arith, eq-eqb, ne_eqb}
use Rattle.std.proofs.lemmas.Bool.{cases_eq}
use Rattle.parts.specs.Tallying.{Tallying, Laws}
use Rattle.memory_laws.specs.Checked.{record_of}
use Rattle.memory_laws.specs.History.{update, count, Same}
use Rattle.memory_laws.proofs.Numbers.{record_tells}
use Rattle.memory_laws.proofs.Bags.{tallied, count_append, same_append, one_value, tallied_add}
use Rattle.memory_laws.proofs.Touches.{Touch, Epoch, reads, writes, stale, words_after, present, Within, Timed, Sweeps, Sound, Each, bag_read, bag_written, touches, Agree, present_update, present_new, low_update, low_after, within_append, stale_epochs, whole, renewed, due, none_stale, due_written, reads_append}

pub in_present : (last : ℕ → ℕ) (a w n : ℕ) → w < 2 ^ 48 → ((b : ℕ) → b < n → last b < 2 ^ 48) → 0 < count (record_of a w) (present last n) → w ≡ last a
in_present last a w zero lt low h = absurd (omega arith)
in_present last a w (suc k) lt low h =
    let ih : 0 < count (record_of a w) (present last k) → w ≡ last a = in_present last a w k lt (λ b l. low b (omega arith)) in
    elim (cases_eq (record_of k (last k)) (record_of a w)) [
      | inl p ↦ let i = record_tells k a (last k) w (low k (omega arith)) lt p in sym i.1 ∙ ap last i.0
      | inr ne ↦ let q = ne_eqb (record_of k (last k)) (record_of a w) ne in ih (omega (arith, rw q at h))
    ]

-- a word whose stamp is not ahead of the clock is not written later
pub late : (stamp : ℕ → ℕ) (n c a w : ℕ) (ts : List Touch) → w < 2 ^ 48 → stamp w ≤ c → Within n ts → Timed stamp c ts → count (record_of a w) (writes ts) ≡ 0
late stamp n c a w [] lt le h k = refl
late stamp n c a w (t ∷ ts) lt le h k =
    let ih = late stamp n (suc c) a w ts lt (omega arith) h.3 k.2 in
    let q : nat_eq (record_of t.cell t.put) (record_of a w) ≡ false =
    ne_eqb (record_of t.cell t.put) (record_of a w) (λ p. let e = ap stamp (record_tells t.cell a t.put w h.2 lt p).1 in omega arith) in
    rw q (omega arith)

abbrev one : ℕ → ℕ → ℕ
one x r = cond (nat_eq x r) 1 0

first : (r : ℕ) (xs : List ℕ) → 0 < count r (r ∷ xs)
first r xs = rw (eq-eqb r r refl) (omega arith)

pub sweep_true : (n k : ℕ) (last : ℕ → ℕ) (sw : List Touch) → Within n sw → Sweeps k n sw → ((b : ℕ) → b < n → last b < 2 ^ 48) → ((r : ℕ) → count r (reads sw) + count r (present last k) ≡ count r (present last n)) → stale last sw ≡ 0
sweep_true n k last [] h s low same = refl
sweep_true n k last (t ∷ ts) h s low same =
    let a = t.cell in
    let e : t.got ≡ last a = in_present last a t.got n h.1 low (omega (arith, same (record_of a t.got), first (record_of a t.got) (reads ts))) in
    let ih = sweep_true n (suc k) (update last a t.put) ts h.3 s.1 (low_update n last a t.put h.2 low)
    (λ r. let f : one (record_of a t.got) r ≡ one (record_of a (last a)) r = ap (λ (w : ℕ). one (record_of a w) r) e in
    omega (arith, same r, present_update r last a t.put n h.0, present_new r last a k t.put s.0, f)) in
    rw (eq-eqb t.got (last a) e) (omega (arith, ih))

pub own_true : (stamp : ℕ → ℕ) (n c : ℕ) (last : ℕ → ℕ) (ts sw : List Touch) → Within n ts → Within n sw → Timed stamp c ts → Sweeps 0 n sw → ((b : ℕ) → b < n → last b < 2 ^ 48) → ((r : ℕ) → count r (reads ts) + count r (reads sw) ≡ count r (present last n) + count r (writes ts)) → stale last (ts ++ sw) ≡ 0
own_true stamp n c last [] sw h j k s low same = sweep_true n 0 last sw j s low (λ r. omega (arith, same r))
own_true stamp n c last (t ∷ ts) sw h j k s low same =
    let a = t.cell in
    let r₀ = record_of a t.got in
    let e : t.got ≡ last a = in_present last a t.got n h.1 low (omega (arith, same r₀, first r₀ (reads ts), late stamp n c a t.got (t ∷ ts) h.1 k.0 h k)) in
    let ih = own_true stamp n (suc c) (update last a t.put) ts sw h.3 j k.2 s (low_update n last a t.put h.2 low)
    (λ r. let f : one (record_of a t.got) r ≡ one (record_of a (last a)) r = ap (λ (w : ℕ). one (record_of a w) r) e in
    omega (arith, same r, present_update r last a t.put n h.0, f)) in
    rw (eq-eqb t.got (last a) e) (omega (arith, ih))

pub offline_from : (stamp : ℕ → ℕ) (n : ℕ) (last : ℕ → ℕ) (began : List ℕ) (es : List Epoch) → ((a : ℕ) → a < n → last a < 2 ^ 48) → Same began (present last n) → Each (Sound stamp n) es → Agree Same began es → stale last (touches es) ≡ 0
offline_from stamp n last began [] low b s agree = refl
offline_from stamp n last began (e ∷ es) low b s agree =
    let here = own_true stamp n 0 last e.own e.sweep s.0.own s.0.sweep s.0.timed s.0.covers low
    (λ r. omega (arith, agree.0 r, b r, count_append r (reads e.own) (reads e.sweep), count_append r began (writes e.own))) in
    let later = offline_from stamp n (words_after last (whole e)) (writes e.sweep) es (low_after n last (whole e) (within_append n e.own e.sweep s.0.own s.0.sweep) low) (renewed stamp n last e s.0) s.1 agree.1 in
    omega (arith, stale_epochs last e es, here, later)

module _ {V : Type 0} (l : Tallying V) (laws : Laws l) where
  -- one stale read: the tally of what was read is not that of what was due
  pub one_stale : (v : V) (n : ℕ) (last : ℕ → ℕ) (ts : List Touch) → n ≤ 4096 → Within n ts → ((a : ℕ) → a < n → last a < 2 ^ 48) → stale last ts ≡ 1 → tallied l v (reads ts) ≢ tallied l v (due last ts)
  one_stale v n last [] le h low one same = omega arith
  one_stale v n last (t ∷ ts) le h low one same =
      let last' : ℕ → ℕ = update last t.cell t.put in
      let rest : stale last' ts ≡ 1 → tallied l (l.add v (record_of t.cell t.got)) (reads ts) ≢ tallied l (l.add v (record_of t.cell t.got)) (due last' ts) =
      λ o. one_stale (l.add v (record_of t.cell t.got)) n last' ts le h.3 (low_update n last t.cell t.put h.2 low) o in
      let down : last t.cell < 2 ^ 48 = low t.cell h.0 in
      elim (cases_eq t.got (last t.cell)) [
        | inl p ↦
            let q = eq-eqb t.got (last t.cell) p in
            let o : stale last' ts ≡ 1 = omega (arith, rw q at one) in
            rest o (rw (← p) at same)
        | inr ne ↦
            let q = ne_eqb t.got (last t.cell) ne in
            let z : stale last' ts ≡ 0 = omega (arith, rw q at one) in
            let e : reads ts ≡ due last' ts = none_stale last' ts z in
            let f : l.add (tallied l v (reads ts)) (record_of t.cell t.got) ≡ l.add (tallied l v (reads ts)) (record_of t.cell (last t.cell)) =
            sym (tallied_add l laws v (record_of t.cell t.got) (reads ts)) ∙ same ∙ ap (λ (k : List ℕ). tallied l (l.add v (record_of t.cell (last t.cell))) k) (sym e) ∙ tallied_add l laws v (record_of t.cell (last t.cell)) (reads ts) in
            ne (omega (arith, laws.apart (tallied l v (reads ts)) (record_of t.cell t.got) (record_of t.cell (last t.cell)) (omega arith) (omega arith) f))
      ]

  pub epoch_one : (v : V) (stamp : ℕ → ℕ) (n : ℕ) (last : ℕ → ℕ) (e : Epoch) → n ≤ 4096 → ((a : ℕ) → a < n → last a < 2 ^ 48) → Sound stamp n e → stale last (whole e) ≡ 1 → tallied l v (bag_read e) ≢ tallied l v (bag_written (present last n) e)
  epoch_one v stamp n last e le low s one same =
      one_stale v n last (whole e) le (within_append n e.own e.sweep s.own s.sweep) low one
      (ap (tallied l v) (reads_append e.own e.sweep) ∙ same ∙ sym (one_value l laws v (due last (whole e)) (bag_written (present last n) e) (due_written stamp n last e s)))

  pub one_shows_from : (v : V) (stamp : ℕ → ℕ) (n : ℕ) (last : ℕ → ℕ) (began : List ℕ) (es : List Epoch) → n ≤ 4096 → ((a : ℕ) → a < n → last a < 2 ^ 48) → Same began (present last n) → Each (Sound stamp n) es → Agree (λ r w. tallied l v r ≡ tallied l v w) began es → stale last (touches es) ≢ 1
  one_shows_from v stamp n last began [] le low b s agree one = omega arith
  one_shows_from v stamp n last began (e ∷ es) le low b s agree one =
      let parts = stale_epochs last e es in
      let here : stale last (whole e) ≢ 1 = λ o. epoch_one v stamp n last e le low s.0 o (agree.0 ∙ one_value l laws v (bag_written began e) (bag_written (present last n) e) (same_append began (present last n) (writes e.own) b)) in
      let later : stale (words_after last (whole e)) (touches es) ≢ 1 =
      one_shows_from v stamp n (words_after last (whole e)) (writes e.sweep) es le (low_after n last (whole e) (within_append n e.own e.sweep s.0.own s.0.sweep) low) (renewed stamp n last e s.0) s.1 agree.1 in
      omega arith
