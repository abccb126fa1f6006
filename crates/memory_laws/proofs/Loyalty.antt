-- The checked memory over a loyal store: each call's outcome.
use Rattle.std.proofs.Common.{◌≡◌, ℕ, zero, suc, ◌+◌, ◌^◌, ◌<◌, ◌≤◌, min, true, List, map, length, slice_index_or, set, Ok, Option, unwrap_or, sym, refl, ap, ◌∙◌, ⊎_elim, mod-lt, arith, length-set, get_or-set_other, get_or-set_same}
use native.Mathlib.Nat.{div-eq_of_lt, mod-mod}
use lib.Seq.{map-set, map-set_same}
use Rattle.std.proofs.lemmas.Bool.{cases_eq, lt-ltb, le-leb, eq-eqb, ne_eqb}
use Rattle.std.proofs.lemmas.Nat.{pow_pos, div-mul-add, mod-mul-add}
use Rattle.parts.specs.declared.fault.Fault.{Fault}
use Rattle.parts.specs.Outcomes.{Outcome, and_then, up_to}
use Rattle.parts.specs.Meaning.{Meaning, Keeps, Holds}
use Rattle.parts.specs.Tallying.{Tallying, Laws}
use Rattle.parts.proofs.Clauses.{size_is, read_holds, read_is, word_below, write_is, write_holds}
use Rattle.memory_laws.specs.Checked.{Mem, plain, record_of, stamp_of, value_of, word_of, with_records, at_store, at_read, at_written, at_clock, at_epoch, height, fetch, put, renewed, swept, closed, sweep_all, ready, turn, Loyal, checked}
use Rattle.memory_laws.proofs.Records.{added, records_past, records_exchanged}
use Rattle.memory_laws.proofs.Numbers.{value_below}
use Rattle.memory_laws.proofs.Numbers.{word_below as word_of_below}

both : {A B C : Type 0} (f : A → B → C) {a a' : A} {b b' : B} → a ≡ a' → b ≡ b' → f a b ≡ f a' b'
both f p q = rw (p, q)

module _ (m : Meaning) (keeps : Keeps m) {T V : Type 0} (l : T → Tallying V) where
  abbrev State : Type 0
  State = Mem (plain m) l

  abbrev cells : State → List ℕ
  cells s = m.cells s.store

  -- the words of the store below
  pub words_held : (s : State) → Loyal m l s → Holds m (s.width + 20) (m.height s.store) (cells s) s.store
  words_held s h = record { loyal = h.loyal; cells_are = refl; width_is = h.width_is; height_is = refl }

  pub long : (s : State) → Loyal m l s → length (cells s) ≡ s.size
  long s h = sym (keeps.sized s.store h.loyal).0 ∙ h.size_is

  module _ (g : ℕ) (xs : List ℕ) (s : State) (d : Holds m (s.width + 20) g xs s.store) (a : ℕ) (lt : a < length xs) where
    pub fetch_is : stamp_of s.width (slice_index_or xs a 0) ≤ s.clock →
        fetch (plain m) l a s ≡ (Ok (value_of s.width (slice_index_or xs a 0)), at_read (at_store s (m.read s.store a).1) ((l s.rule).add s.read (record_of a (slice_index_or xs a 0))))
    fetch_is past =
        let e = read_is m keeps (s.width + 20) g xs s.store d a lt in
        let narrow = lt-ltb _ _ (word_below m keeps (s.width + 20) g xs s.store d a lt) in
        let early = le-leb _ _ past in
        rw (e, narrow, early)

    pub put_is : (x : ℕ) → x < 2 ^ (s.width + 20) →
        put (plain m) l a x s ≡ (Ok tt, at_written (at_store s (m.write s.store a x).1) ((l s.rule).add s.written (record_of a x)))
    put_is x fits = rw (write_is m keeps (s.width + 20) g xs s.store d a lt x fits)

    renewed_is : (fresh : V) → stamp_of s.width (slice_index_or xs a 0) ≤ s.clock →
        let v = value_of s.width (slice_index_or xs a 0) in
        renewed (plain m) l a fresh s ≡ (Ok ((l s.rule).add fresh (record_of a v)), at_read (at_store s (m.write (m.read s.store a).1 a v).1) ((l s.rule).add s.read (record_of a (slice_index_or xs a 0))))
    renewed_is fresh past =
        let v : ℕ = value_of s.width (slice_index_or xs a 0) in
        let small : v < 2 ^ s.width = mod-lt (slice_index_or xs a 0) (pow_pos s.width) in
        let d' = read_holds m keeps (s.width + 20) g xs s.store d a in
        let e = write_is m keeps (s.width + 20) g xs (m.read s.store a).1 d' a lt v (value_below s.width v small) in
        rw (fetch_is past) (rw e)

  module _ (laws : (t : T) → Laws (l t)) where
    module _ (g : ℕ) (xs : List ℕ) (s : State) (n_is : length xs ≡ s.size) (past : (a : ℕ) → a < s.size → stamp_of s.width (slice_index_or xs a 0) ≤ s.clock) where
      -- the store after the sweep's first k cells, with the words ys
      record Done (k : ℕ) (σ : m.State) (ys : List ℕ) : Type 0 where
        holds : Holds m (s.width + 20) g ys σ
        same_long : length ys ≡ s.size
        later : (j : ℕ) → k ≤ j → slice_index_or ys j 0 ≡ slice_index_or xs j 0
        small : (j : ℕ) → j < k → slice_index_or ys j 0 < 2 ^ s.width
        values : map (value_of s.width) ys ≡ map (value_of s.width) xs
        is : swept (plain m) l k s ≡ (Ok (with_records (l s.rule) (l s.rule).start ys k), at_read (at_store s σ) (with_records (l s.rule) s.read xs k))

      done_more : (k : ℕ) (σ : m.State) (ys : List ℕ) → k < s.size → Done k σ ys → (σ'' : m.State) × (zs : List ℕ) × Done (suc k) σ'' zs
      unfolding up_to with_records
      done_more k σ ys lt d =
          let L = l s.rule in
          let y : ℕ = slice_index_or ys k 0 in
          let v : ℕ = value_of s.width y in
          let t : State = at_read (at_store s σ) (with_records L s.read xs k) in
          let σ' = (m.read σ k).1 in
          let in_ys : k < length ys = omega (arith, d.same_long) in
          let d' = read_holds m keeps (s.width + 20) g ys σ d.holds k in
          let below : v < 2 ^ s.width = mod-lt y (pow_pos s.width) in
          let fits : v < 2 ^ (s.width + 20) = value_below s.width v below in
          let σ'' = (m.write σ' k v).1 in
          let zs : List ℕ = set ys k v in
          let at_k : slice_index_or zs k 0 ≡ v = get_or-set_same ys k v 0 in_ys in
          let same : y ≡ slice_index_or xs k 0 = d.later k (omega arith) in
          let early : stamp_of s.width y ≤ s.clock = rw same (past k lt) in
          let step = ap (λ (o : Outcome Fault V State). and_then o (renewed (plain m) l k)) d.is ∙ renewed_is g ys t d.holds k in_ys (with_records L L.start ys k) early in
          let fresh : L.add (with_records L L.start ys k) (record_of k v) ≡ with_records L L.start zs (suc k) =
          added L (laws s.rule) k (sym (records_past L (laws s.rule) L.start ys k v k (omega arith))) (sym at_k) in
          let taken : L.add (with_records L s.read xs k) (record_of k y) ≡ with_records L s.read xs (suc k) =
          added L (laws s.rule) k refl same in (
            σ'',
            zs,
            record {
              holds = write_holds m keeps (s.width + 20) g ys σ' d' k in_ys v fits;
              same_long = length-set ys k v ∙ d.same_long;
              later = λ j le. get_or-set_other ys k j v 0 (omega arith) ∙ d.later j (omega arith);
              small = λ j ltj. ⊎_elim (λ (e : j ≡ k). rw (e, at_k) below) (λ (ne : j ≡ k → ⊥). rw (get_or-set_other ys k j v 0 ne) (d.small j (omega arith))) (cases_eq j k);
              values = map-set_same (value_of s.width) ys k v 0 (mod-mod y (2 ^ s.width)) ∙ d.values;
              is = step ∙ both (λ u r. (Ok u, at_read (at_store s σ'') r)) fresh taken;
            },
          )

      swept_is : Holds m (s.width + 20) g xs s.store → (k : ℕ) → k ≤ s.size → (σ : m.State) × (ys : List ℕ) × Done k σ ys
      unfolding up_to with_records
      swept_is d zero le = (s.store, xs, record { holds = d; same_long = n_is; later = λ j _. refl; small = λ j lt. absurd (omega arith); values = refl; is = refl })
      swept_is d (suc k) le = let p = swept_is d k (omega arith) in done_more k p.0 p.1 (omega arith) p.2

    -- t is loyal, of the size of s, and holds the values xs
    pub record Fine (s t : State) (xs : List ℕ) : Type 0 where
      pub holds : Holds (checked m l) s.width (height (plain m) l s) xs t
      pub size_same : t.size ≡ s.size

    -- a sweep of a loyal memory passes, and leaves it loyal with the same values
    pub sweep_is : (s : State) → Loyal m l s → (t : State) × (sweep_all (plain m) l s ≡ (Ok tt, t)) × Fine s t ((checked m l).cells s) × (t.clock ≡ 0)
    sweep_is s h =
        let L = l s.rule in
        let p = swept_is (m.height s.store) (cells s) s (long s h) h.stamps (words_held s h) s.size (omega arith) in
        let σ = p.0 in let ys = p.1 in let d = p.2 in
        let t : State = at_epoch (at_read (at_store s σ) (with_records L s.read (cells s) s.size)) L.start (with_records L L.start ys s.size) in
        let passes : L.same (with_records L s.read (cells s) s.size) s.written ≡ true = ((laws s.rule).same_tells _ _).1 h.tallied in (
          t,
          ap (λ (o : Outcome Fault V State). and_then o (closed (plain m) l)) d.is ∙ rw passes,
          record {
            holds = record {
              loyal = record {
                fit = h.fit;
                unbroken = h.unbroken;
                in_range = omega arith;
                loyal = d.holds.loyal;
                size_is = size_is m keeps (s.width + 20) (m.height s.store) ys σ d.holds ∙ d.same_long;
                width_is = d.holds.width_is;
                stamps = λ a lt. rw (d.holds.cells_are, div-eq_of_lt (d.small a lt)) (omega arith);
                tallied = ap (λ (zs : List ℕ). with_records L L.start zs s.size) d.holds.cells_are;
              };
              cells_are = ap (map (value_of s.width)) d.holds.cells_are ∙ d.values;
              width_is = refl;
              height_is = ap (λ (k : ℕ). min 255 (k + 1)) d.holds.height_is;
            };
            size_same = refl;
          },
          refl,
        )

    pub unmoved : (s : State) → Loyal m l s → Fine s s ((checked m l).cells s)
    unmoved s h = record { holds = record { loyal = h; cells_are = refl; width_is = refl; height_is = refl }; size_same = refl }

    pub ready_is : (s : State) → Loyal m l s → (t : State) × (ready (plain m) l s ≡ (Ok tt, t)) × Fine s t ((checked m l).cells s) × (t.clock < 1048575)
    ready_is s h =
        ⊎_elim
        (λ (e : s.clock ≡ 1048575). let q = sweep_is s h in let b = eq-eqb _ _ e in (q.0, rw b q.1, q.2, omega (arith, q.3)))
        (λ (ne : s.clock ≡ 1048575 → ⊥). let b = ne_eqb _ _ ne in (s, rw b, unmoved s h, omega (arith, h.in_range)))
        (cases_eq s.clock 1048575)

    pub turn_is : (s : State) (a : ℕ) (new : Option ℕ) → Loyal m l s → s.clock < 1048575 → a < s.size → (v : ℕ) → unwrap_or new (value_of s.width (slice_index_or (cells s) a 0)) ≡ v → v < 2 ^ s.width →
        (t : State) × (turn (plain m) l a new s ≡ (Ok v, t)) × Fine s t (set ((checked m l).cells s) a v)
    turn_is s a new h early lt v e small =
        let L = l s.rule in
        let w = s.width in let c = s.clock in let g = m.height s.store in
        let xs : List ℕ = cells s in
        let x : ℕ = slice_index_or xs a 0 in
        let σ' = (m.read s.store a).1 in
        let d = words_held s h in
        let d' = read_holds m keeps (w + 20) g xs s.store d a in
        let in_xs : a < length xs = rw (long s h) lt in
        let word : ℕ = word_of w (c + 1) v in
        let fits : word < 2 ^ (w + 20) = word_of_below w (c + 1) v (omega arith) small in
        let σ'' = (m.write σ' a word).1 in
        let d'' = write_holds m keeps (w + 20) g xs σ' d' a in_xs word fits in
        let stamp : stamp_of w word ≡ c + 1 = div-mul-add (c + 1) (2 ^ w) v small in
        let low : value_of w word ≡ v = mod-mul-add (c + 1) (2 ^ w) v small in
        let t : State = at_written (at_store (at_clock (at_read s (L.add s.read (record_of a x))) (c + 1)) σ'') (L.add s.written (record_of a word)) in (
          t,
          rw (fetch_is g xs s d a in_xs (h.stamps a lt)) (rw (e) (rw (write_is m keeps (w + 20) g xs σ' d' a in_xs word fits))),
          record {
            holds = record {
              loyal = record {
                fit = h.fit;
                unbroken = h.unbroken;
                in_range = omega arith;
                loyal = d''.loyal;
                size_is = size_is m keeps (w + 20) g (set xs a word) σ'' d'' ∙ length-set xs a word ∙ long s h;
                width_is = d''.width_is;
                stamps = λ j ltj. rw d''.cells_are (⊎_elim
                    (λ (q : j ≡ a). rw (q, get_or-set_same xs a word 0 in_xs, stamp) (omega arith))
                    (λ (ne : j ≡ a → ⊥). rw (get_or-set_other xs a j word 0 ne) (let b = h.stamps j ltj in omega arith)) (cases_eq j a));
                tallied = rw d''.cells_are (records_exchanged L (laws s.rule) s.read s.written xs a word s.size lt in_xs h.tallied);
              };
              cells_are = ap (map (value_of w)) d''.cells_are ∙ map-set (value_of w) xs a word ∙ ap (set ((checked m l).cells s) a) low;
              width_is = refl;
              height_is = ap (λ (k : ℕ). min 255 (k + 1)) d''.height_is;
            };
            size_same = refl;
          },
        )
