-- A checked memory made over a loyal store is loyal, with 0 in each cell.
use Rattle.std.proofs.Common.{◌≡◌, ℕ, zero, suc, ◌+◌, ◌-◌, ◌^◌, ◌<◌, ◌≤◌, min, true, List, map, length, slice_index_or, set, replicate, Ok, sym, refl, ap, ◌∙◌, ⊎_elim, arith, length-set, get_or-set_other, get_or-set_same}
use native.Mathlib.Nat.{zero-mod, zero-div}
use Rattle.std.proofs.lemmas.List.{length-map, ext_get_or, get_or-replicate, length-replicate}
use Rattle.std.proofs.lemmas.Bool.{cases_eq}
use Rattle.std.proofs.lemmas.Bool.Decides.{nat_tests}
use Rattle.std.proofs.lemmas.Nat.{pow_pos}
use Rattle.parts.specs.declared.fault.Fault.{Fault}
use Rattle.parts.specs.Outcomes.{Outcome, and_then, up_to, settled}
use Rattle.parts.specs.Meaning.{Meaning, Keeps, Holds}
use Rattle.parts.specs.Tallying.{Tallying, Laws}
use Rattle.parts.proofs.Clauses.{fit_says, size_is, write_holds}
use Rattle.memory_laws.specs.Checked.{Mem, plain, value_of, record_of, with_records, at_written, at_broken, put, cleared, blank, checkable, made, checked}
use Rattle.memory_laws.proofs.Records.{added, records_past}
use Rattle.memory_laws.proofs.Loyalty.{put_is}
use Rattle.memory_laws.proofs.CheckedKeeps.{value_at}

pub can_check : (n w : ℕ) → 1 ≤ n → n ≤ 4096 → 20 < w → w ≤ 48 → checkable n w ≡ true
can_check n w a b c d = grind (arith, nat_tests)

module _ (m : Meaning) (keeps : Keeps m) {T V : Type 0} (l : T → Tallying V) (laws : (t : T) → Laws (l t)) where
  module _ (t : T) (σ₀ : m.State) (n w g : ℕ) where
    -- the store after the making's first k cells, with the words xs
    record Done (k : ℕ) (σ : m.State) (xs : List ℕ) : Type 0 where
      holds : Holds m (w + 20) g xs σ
      long : length xs ≡ n
      empty : (j : ℕ) → j < k → slice_index_or xs j 0 ≡ 0
      is : cleared (plain m) l k (blank (plain m) l t n w σ₀) ≡ (Ok tt, at_written (blank (plain m) l t n w σ) (with_records (l t) (l t).start xs k))

    cleared_is : (xs : List ℕ) → length xs ≡ n → Holds m (w + 20) g xs σ₀ → (k : ℕ) → k ≤ n → (σ : m.State) × (ys : List ℕ) × Done k σ ys
    unfolding up_to with_records
    cleared_is xs e d₀ zero le = (σ₀, xs, record { holds = d₀; long = e; empty = λ j lt. absurd (omega arith); is = refl })
    cleared_is xs e d₀ (suc k) le =
        let L = l t in
        let p = cleared_is xs e d₀ k (omega arith) in
        let σ = p.0 in let ys = p.1 in let d = p.2 in
        let in_ys : k < length ys = omega (arith, d.long) in
        let fits : 0 < 2 ^ (w + 20) = pow_pos (w + 20) in
        let zs : List ℕ = set ys k 0 in
        let σ' = (m.write σ k 0).1 in
        let at_k : slice_index_or zs k 0 ≡ 0 = get_or-set_same ys k 0 0 in_ys in
        let s : Mem (plain m) l = at_written (blank (plain m) l t n w σ) (with_records L L.start ys k) in
        let written : L.add (with_records L L.start ys k) (record_of k 0) ≡ with_records L L.start zs (suc k) =
        added L (laws t) k (sym (records_past L (laws t) L.start ys k 0 k (omega arith))) (sym at_k) in (
          σ',
          zs,
          record {
            holds = write_holds m keeps (w + 20) g ys σ d.holds k in_ys 0 fits;
            long = length-set ys k 0 ∙ d.long;
            empty = λ j ltj. ⊎_elim (λ (q : j ≡ k). rw (q, at_k)) (λ (ne : j ≡ k → ⊥). get_or-set_other ys k j 0 0 ne ∙ d.empty j (omega arith)) (cases_eq j k);
            is = ap (λ (o : Outcome Fault (Unit {0}) (Mem (plain m) l)). and_then o (λ _ s'. put (plain m) l k 0 s')) d.is ∙ put_is m keeps l g ys s d.holds k in_ys 0 fits
                ∙ ap (λ v. (Ok tt, at_written (blank (plain m) l t n w σ') v)) written;
          },
        )

  -- x is a loyal memory that was made over the store σ
  pub record Made (σ : m.State) (x : Mem (plain m) l) : Type 0 where
    pub holds : Holds (checked m l) (m.width σ - 20) (min 255 (m.height σ + 1)) (replicate (m.size σ) 0) x
    pub size_same : x.size ≡ m.size σ

  pub made_is : (σ : m.State) (t : T) → m.loyal σ → 20 < m.width σ → Made σ (made m l σ t)
  made_is σ t h wide =
      let k = keeps.sized σ h in let f = fit_says (m.size σ) (m.width σ) k.1 in
      let n : ℕ = m.size σ in let w : ℕ = m.width σ - 20 in let g = m.height σ in
      let fit : checkable (m.size σ) (m.width σ) ≡ true = can_check (m.size σ) (m.width σ) f.0 f.1 wide f.3 in
      let wide_is : m.width σ ≡ w + 20 = omega arith in
      let p = cleared_is t σ n w g (m.cells σ) (sym k.0) (record { loyal = h; cells_are = refl; width_is = wide_is; height_is = refl }) n (omega arith) in
      let ys = p.1 in let d = p.2 in
      let s : Mem (plain m) l = at_written (blank (plain m) l t n w p.0) (with_records (l t) (l t).start ys n) in
      let all : made m l σ t ≡ s = rw fit (ap (λ o. (settled at_broken o).1) d.is) in
      let zeros : map (value_of w) ys ≡ replicate n 0 = ext_get_or 0 _ _ (length-map ys (value_of w) ∙ d.long ∙ sym (length-replicate {A = ℕ} n 0))
      (λ i lt. let i_in : i < n = omega (arith, length-map ys (value_of w), d.long) in
      value_at w ys i ∙ ap (value_of w) (d.empty i i_in) ∙ zero-mod (2 ^ w) ∙ sym (get_or-replicate {A = ℕ} n i 0 0 i_in)) in
      rw all (record {
        holds = record {
          loyal = record {
            fit = (f.0, omega arith);
            unbroken = refl;
            in_range = omega arith;
            loyal = d.holds.loyal;
            size_is = size_is m keeps (w + 20) g ys p.0 d.holds ∙ d.long;
            width_is = d.holds.width_is;
            stamps = λ a lt. rw (d.holds.cells_are, d.empty a lt, zero-div (2 ^ w)) (omega arith);
            tallied = ap (λ (zs : List ℕ). with_records (l t) (l t).start zs n) d.holds.cells_are;
          };
          cells_are = ap (map (value_of w)) d.holds.cells_are ∙ zeros;
          width_is = refl;
          height_is = ap (λ (k : ℕ). min 255 (k + 1)) d.holds.height_is;
        };
        size_same = refl;
      })
