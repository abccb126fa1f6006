-- A checked memory over a store that keeps its meaning keeps its own.
use Rattle.std.proofs.Common.{◌≡◌, ℕ, ◌^◌, ◌<◌, ◌≤◌, List, map, slice_index_or, set, replicate, Some, None, Ok, Err, Option, Result, unwrap_or, sym, refl, ap, ◌∙◌, ⊎_elim, mod-lt, arith}
use native.Mathlib.Nat.{zero-mod}
use lib.ListN.{get_or-map}
use lib.Seq.{set-get_or}
use Rattle.std.proofs.lemmas.List.{length-map, length-replicate}
use Rattle.std.proofs.lemmas.Bool.{cases_lt, lt-ltb, le-ltb}
use Rattle.std.proofs.lemmas.Nat.{pow_pos}
use Rattle.parts.specs.declared.fault.Fault.{Fault}
use Rattle.parts.specs.declared.fault.Cause.TheVariants.{NoSuchCell, WordTooWide}
use Rattle.parts.specs.Outcomes.{Outcome, and_then, settled, unless_broken}
use Rattle.parts.specs.Meaning.{Meaning, Keeps, fault, reading, writing, written}
use Rattle.parts.specs.Tallying.{Tallying, Laws}
use Rattle.parts.proofs.Clauses.{fit_says, says_fit, size_is}
use Rattle.memory_laws.specs.Checked.{Mem, plain, value_of, at_broken, height, turned, visit, reads, writes, sweeps, done, Loyal, checked, StartsLoyal}
use Rattle.memory_laws.proofs.Loyalty.{Fine, sweep_is, ready_is, turn_is, unmoved}

pub value_at : (w : ℕ) (xs : List ℕ) (a : ℕ) → slice_index_or (map (value_of w) xs) a 0 ≡ value_of w (slice_index_or xs a 0)
value_at w xs a = ap (slice_index_or (map (value_of w) xs) a) (sym (zero-mod (2 ^ w))) ∙ get_or-map (value_of w) xs a 0

-- an unbroken part does what it is asked
pub unbroken_is : {F A S : Type 0} (b : Option F) (s : S) (o : Outcome F A S) → b ≡ None → unless_broken b s o ≡ o
unbroken_is {F} {A} {S} b s o e = ap (λ (x : Option F). unless_broken x s o) e

module _ (m : Meaning) (keeps : Keeps m) {T V : Type 0} (l : T → Tallying V) (laws : (t : T) → Laws (l t)) where
  abbrev State : Type 0
  State = Mem (plain m) l

  abbrev cells : State → List ℕ
  cells s = (checked m l).cells s

  visit_is : (s : State) (a : ℕ) (new : Option ℕ) → Loyal m l s → a < s.size → (v : ℕ) → unwrap_or new (slice_index_or (cells s) a 0) ≡ v → v < 2 ^ s.width →
      (t : State) × (visit (plain m) l a new s ≡ (Ok v, t)) × Fine m keeps l laws s t (set (cells s) a v)
  visit_is s a new h lt v e small =
      let r = ready_is m keeps l laws s h in
      let s' = r.0 in let d = r.2.holds in
      let e' : unwrap_or new (value_of s'.width (slice_index_or (m.cells s'.store) a 0)) ≡ v =
      ap (unwrap_or new) (sym (value_at s'.width (m.cells s'.store) a) ∙ ap (λ xs. slice_index_or xs a 0) d.cells_are) ∙ e in
      let q = turn_is m keeps l laws s' a new d.loyal r.3 (rw r.2.size_same lt) v e' (rw d.width_is small) in (
        q.0,
        ap (λ (o : Outcome Fault (Unit {0}) State). and_then o (turned (plain m) l a new)) r.1 ∙ q.1,
        record {
          holds = record {
            loyal = q.2.holds.loyal;
            cells_are = q.2.holds.cells_are ∙ ap (λ xs. set xs a v) d.cells_are;
            width_is = q.2.holds.width_is ∙ d.width_is;
            height_is = q.2.holds.height_is ∙ d.height_is;
          };
          size_same = q.2.size_same ∙ r.2.size_same;
        },
      )

  pub sweeps_is : (s : State) → Loyal m l s → (t : State) × (sweeps (plain m) l s ≡ (Ok tt, t)) × Fine m keeps l laws s t (cells s)
  sweeps_is s h =
      let q = sweep_is m keeps l laws s h in
      (q.0, unbroken_is s.broken s _ h.unbroken ∙ ap (settled at_broken) q.1, q.2)

  module _ (s : State) (h : Loyal m l s) (a : ℕ) where
    below : slice_index_or (cells s) a 0 < 2 ^ s.width
    below = rw (value_at s.width (m.cells s.store) a) (mod-lt (slice_index_or (m.cells s.store) a 0) (pow_pos s.width))

    reads_in : a < s.size → (t : State) × (reads (plain m) l a s ≡ (Ok (slice_index_or (cells s) a 0), t)) × Fine m keeps l laws s t (cells s)
    reads_in lt =
        let q = visit_is s a None h lt (slice_index_or (cells s) a 0) refl below in
        let b = lt-ltb a s.size lt in (
          q.0,
          unbroken_is s.broken s _ h.unbroken ∙ rw b (ap (settled at_broken) q.1),
          record {
            holds = record { loyal = q.2.holds.loyal; cells_are = q.2.holds.cells_are ∙ set-get_or (cells s) a 0; width_is = q.2.holds.width_is; height_is = q.2.holds.height_is };
            size_same = q.2.size_same;
          },
        )

    reads_out : s.size ≤ a → reads (plain m) l a s ≡ (Err (fault NoSuchCell (height (plain m) l s) a), s)
    reads_out le = let b = le-ltb a s.size le in unbroken_is s.broken s _ h.unbroken ∙ rw b

    -- the outcome of a read, and the memory that it leaves
    pub reads_is : (t : State) × (reads (plain m) l a s ≡ (reading (height (plain m) l s) s.size (cells s) a, t)) × Fine m keeps l laws s t (cells s)
    reads_is =
        ⊎_elim
        (λ (lt : a < s.size).
        let q = reads_in lt in
        let e : reading (height (plain m) l s) s.size (cells s) a ≡ Ok (slice_index_or (cells s) a 0) = rw (lt-ltb a s.size lt) in
        (q.0, q.1 ∙ ap (λ (r : Result ℕ Fault). (r, q.0)) (sym e), q.2))
        (λ (le : s.size ≤ a).
        let e : reading (height (plain m) l s) s.size (cells s) a ≡ Err (fault NoSuchCell (height (plain m) l s) a) = rw (le-ltb a s.size le) in
        (s, reads_out le ∙ ap (λ (r : Result ℕ Fault). (r, s)) (sym e), unmoved m keeps l laws s h))
        (cases_lt a s.size)

    module _ (v : ℕ) where
      writes_in : a < s.size → v < 2 ^ s.width → (t : State) × (writes (plain m) l a v s ≡ (Ok tt, t)) × Fine m keeps l laws s t (set (cells s) a v)
      writes_in lt small =
          let q = visit_is s a (Some v) h lt v refl small in
          let b = lt-ltb a s.size lt in let n = lt-ltb v (2 ^ s.width) small in
          (q.0, unbroken_is s.broken s _ h.unbroken ∙ rw (b, n) (ap (λ (o : Outcome Fault ℕ State). settled at_broken (and_then o (done (plain m) l))) q.1), q.2)

      writes_wide : a < s.size → 2 ^ s.width ≤ v → writes (plain m) l a v s ≡ (Err (fault WordTooWide (height (plain m) l s) a), s)
      writes_wide lt le = let b = lt-ltb a s.size lt in let n = le-ltb v (2 ^ s.width) le in unbroken_is s.broken s _ h.unbroken ∙ rw (b, n)

      writes_out : s.size ≤ a → writes (plain m) l a v s ≡ (Err (fault NoSuchCell (height (plain m) l s) a), s)
      writes_out le = let b = le-ltb a s.size le in unbroken_is s.broken s _ h.unbroken ∙ rw b

      pub writes_is : (t : State) × (writes (plain m) l a v s ≡ (writing (height (plain m) l s) s.size s.width a v, t)) × Fine m keeps l laws s t (written s.size s.width (cells s) a v)
      writes_is =
          ⊎_elim
          (λ (lt : a < s.size). let b = lt-ltb a s.size lt in
          ⊎_elim
          (λ (small : v < 2 ^ s.width).
          let q = writes_in lt small in let n = lt-ltb v (2 ^ s.width) small in
          let e : writing (height (plain m) l s) s.size s.width a v ≡ Ok tt = rw (b, n) in
          (q.0, q.1 ∙ ap (λ (r : Result (Unit {0}) Fault). (r, q.0)) (sym e), rw (b, n) q.2))
          (λ (le : 2 ^ s.width ≤ v).
          let n = le-ltb v (2 ^ s.width) le in
          let e : writing (height (plain m) l s) s.size s.width a v ≡ Err (fault WordTooWide (height (plain m) l s) a) = rw (b, n) in
          (s, writes_wide lt le ∙ ap (λ (r : Result (Unit {0}) Fault). (r, s)) (sym e), rw (b, n) (unmoved m keeps l laws s h)))
          (cases_lt v (2 ^ s.width)))
          (λ (le : s.size ≤ a).
          let b = le-ltb a s.size le in
          let e : writing (height (plain m) l s) s.size s.width a v ≡ Err (fault NoSuchCell (height (plain m) l s) a) = rw b in
          (s, writes_out le ∙ ap (λ (r : Result (Unit {0}) Fault). (r, s)) (sym e), rw b (unmoved m keeps l laws s h)))
          (cases_lt a s.size)

  pub checked_keeps : Keeps (checked m l)
  checked_keeps = record {
    sized = λ s h.
        let k = keeps.sized s.store h.loyal in
        let f = fit_says (m.size s.store) (m.width s.store) k.1 in
        (sym h.size_is ∙ k.0 ∙ sym (length-map (m.cells s.store) (value_of s.width)), says_fit s.size s.width h.fit.0 (omega (arith, h.size_is)) h.fit.1 (omega (arith, h.width_is)));
    below = λ s h a lt. below s h a;
    reads = λ s h a. ap (λ o. o.0) (reads_is s h a).1;
    read_leaves = λ s h a. let q = reads_is s h a in rw q.1 q.2.holds;
    writes = λ s h a v. ap (λ o. o.0) (writes_is s h a v).1;
    write_leaves = λ s h a v. let q = writes_is s h a v in rw q.1 q.2.holds;
  }

  -- over a loyal store a memory begins with as many cells as it has
  pub starts_as_large : (s : m.State) (x : State) → StartsLoyal m l s x → m.loyal s → 20 < m.width s → x.size ≡ m.size s
  starts_as_large s x starts h wide = size_is (checked m l) checked_keeps _ _ (replicate (m.size s) 0) x (starts h wide) ∙ length-replicate {A = ℕ} (m.size s) 0
