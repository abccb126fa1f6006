-- The promise, of every list of calls on a checked memory just made.
use Rattle.std.proofs.Common.{◌≡◌, ℕ, ◌+◌, ◌-◌, ◌<◌, ◌≤◌, min, Bool, true, false, cond, List, [], ◌∷◌, replicate, None, Ok, Err, Result, sym, refl, ap, ◌∙◌, inl, inr, arith}
use Rattle.std.proofs.lemmas.Bool.{cases_Bool}
use Rattle.std.proofs.lemmas.Bool.Decides.{nat_tests}
use Rattle.parts.specs.declared.fault.Fault.{Fault}
use Rattle.parts.specs.Outcomes.{Outcome, up_to, settled}
use Rattle.parts.specs.Meaning.{Meaning, Keeps, reading, writing, written}
use Rattle.parts.specs.Runs.{answers}
use Rattle.parts.specs.Tallying.{Tallying, Laws}
use Rattle.memory_laws.specs.declared.call.Call.{Call}
use Rattle.memory_laws.specs.declared.call.Call.TheVariants.{Write, Read, Sweep}
use Rattle.memory_laws.specs.declared.call.Answer.{Answer}
use Rattle.memory_laws.specs.declared.call.Answer.TheVariants.{Written, Value, Passed}
use Rattle.memory_laws.specs.Checked.{Mem, plain, height, at_broken, cleared, blank, checkable, made, Loyal, checked}
use Rattle.memory_laws.specs.History.{watched}
use Rattle.memory_laws.specs.Runs.{told, refused, performed, ideally, ideal_answers}
use Rattle.memory_laws.specs.Promise.{start, all_answers, Promise}
use Rattle.memory_laws.proofs.CheckedKeeps.{reads_is, writes_is, sweeps_is}
use Rattle.memory_laws.proofs.Making.{made_is}
use Rattle.memory_laws.proofs.Forget.{watched_answers}
use Rattle.memory_laws.proofs.Whole.{Kept, kept_made}

checkable_says : (n w : ℕ) → checkable n w ≡ true → (n ≤ 4096) × (w - 20 ≤ 28)
checkable_says n w h = grind (arith, nat_tests)

-- calls at equal numbers
writing_same : {h h' n n' w w' : ℕ} (a v : ℕ) → h ≡ h' → n ≡ n' → w ≡ w' → writing h n w a v ≡ writing h' n' w' a v
writing_same a v p q r = rw (p, q, r)

written_same : {n n' w w' : ℕ} {xs ys : List ℕ} (a v : ℕ) → n ≡ n' → w ≡ w' → xs ≡ ys → written n w xs a v ≡ written n' w' ys a v
written_same a v p q r = rw (p, q, r)

reading_same : {h h' n n' : ℕ} {xs ys : List ℕ} (a : ℕ) → h ≡ h' → n ≡ n' → xs ≡ ys → reading h n xs a ≡ reading h' n' ys a
reading_same a p q r = rw (p, q, r)

module _ (m : Meaning) (keeps : Keeps m) {T V : Type 0} (l : T → Tallying V) (laws : (t : T) → Laws (l t)) where
  abbrev P : Type 0
  P = Mem (plain m) l

  -- an unbroken memory declines where it has no result
  told_ideally : {A : Type 0} (g : A → Answer) (r : Result A Fault) (s : P) → s.broken ≡ None → told g (r, s) ≡ (ideally g r, s)
  told_ideally g (Ok a) s e = refl
  told_ideally g (Err x) s e = ap (λ b. (refused b x, s)) e

  -- a loyal memory answers as an ideal one does
  loyal_answers : (h n w : ℕ) (xs : List ℕ) (cs : List Call) (s : P) → Loyal m l s → height (plain m) l s ≡ h → s.size ≡ n → s.width ≡ w → (checked m l).cells s ≡ xs → answers (performed (plain m) l) cs s ≡ ideal_answers h n w xs cs
  unfolding answers
  loyal_answers h n w xs [] s i eh en ew ex = refl
  loyal_answers h n w xs (Write a v ∷ cs) s i eh en ew ex =
      let q = writes_is m keeps l laws s i a v in
      let t = q.0 in let d = q.2.holds in
      let one : performed (plain m) l (Write a v) s ≡ (ideally (λ _. Written) (writing h n w a v), t) =
      ap (told (λ _. Written)) q.1 ∙ told_ideally (λ _. Written) _ t d.loyal.unbroken ∙ ap (λ (r : Result (Unit {0}) Fault). (ideally (λ _. Written) r, t)) (writing_same a v eh en ew) in
      ap (λ (r : Answer × P). r.0 ∷ answers (performed (plain m) l) cs r.1) one
      ∙ ap (λ (rest : List Answer). ideally (λ _. Written) (writing h n w a v) ∷ rest)
      (loyal_answers h n w (written n w xs a v) cs t d.loyal (d.height_is ∙ eh) (q.2.size_same ∙ en) (d.width_is ∙ ew) (d.cells_are ∙ written_same a v en ew ex))
  loyal_answers h n w xs (Read a ∷ cs) s i eh en ew ex =
      let q = reads_is m keeps l laws s i a in
      let t = q.0 in let d = q.2.holds in
      let one : performed (plain m) l (Read a) s ≡ (ideally Value (reading h n xs a), t) =
      ap (told Value) q.1 ∙ told_ideally Value _ t d.loyal.unbroken ∙ ap (λ (r : Result ℕ Fault). (ideally Value r, t)) (reading_same a eh en ex) in
      ap (λ (r : Answer × P). r.0 ∷ answers (performed (plain m) l) cs r.1) one
      ∙ ap (λ (rest : List Answer). ideally Value (reading h n xs a) ∷ rest)
      (loyal_answers h n w xs cs t d.loyal (d.height_is ∙ eh) (q.2.size_same ∙ en) (d.width_is ∙ ew) (d.cells_are ∙ ex))
  loyal_answers h n w xs (Sweep ∷ cs) s i eh en ew ex =
      let q = sweeps_is m keeps l laws s i in
      let t = q.0 in let d = q.2.holds in
      ap (λ (o : Outcome Fault (Unit {0}) P). (told (λ _. Passed) o).0 ∷ answers (performed (plain m) l) cs (told (λ _. Passed) o).1) q.1
      ∙ ap (λ (rest : List Answer). Passed ∷ rest)
      (loyal_answers h n w xs cs t d.loyal (d.height_is ∙ eh) (q.2.size_same ∙ en) (d.width_is ∙ ew) (d.cells_are ∙ ex))

  module _ (s : m.State) (t : T) (calls : List Call) where
    no_alarm : m.loyal s → 20 < m.width s → all_answers m l s t calls ≡ ideal_answers (min 255 (m.height s + 1)) (m.size s) (m.width s - 20) (replicate (m.size s) 0) calls
    no_alarm h wide =
        let k = made_is m keeps l laws s t h wide in
        sym (watched_answers m l s t calls)
        ∙ loyal_answers _ _ _ _ calls (made m l s t) k.holds.loyal k.holds.height_is k.size_same k.holds.width_is k.holds.cells_are

    -- what is kept of a run from the memory just made, by whether the store can be checked
    Started : Bool → Type 0
    Started b = Kept m l laws (cond b (m.size s) 0) (cond b (m.width s - 20) 0) (start m l s t) calls

    started : (b : Bool) → checkable (m.size s) (m.width s) ≡ b → Started b
    unfolding Started up_to
    started true e =
        let c = checkable_says (m.size s) (m.width s) e in
        let is : start m l s t ≡ (settled at_broken (cleared (watched m) l (m.size s) (blank (watched m) l t (m.size s) (m.width s - 20) (record { below = s; history = [] })))).1 = rw e in
        rw is (kept_made m l laws (m.size s) (m.width s - 20) t c.1 c.0 s calls)
    started false e =
        let is : start m l s t ≡ blank (watched m) l t 0 0 (record { below = s; history = [] }) = rw e in
        rw is (kept_made m l laws 0 0 t (omega arith) (omega arith) s calls)

    pub promised : Promise m l s t calls
    unfolding Started
    promised = elim (cases_Bool (checkable (m.size s) (m.width s))) [
      | inl e ↦
          let k = started true e in
          record {
            offline = λ i a v lt is answered same. (k.offline i a v lt is answered same).1;
            one_lie = k.one_lie;
            one_lie_ends = k.one_lie_ends;
            no_alarm = no_alarm;
            whole_sweeps = λ before since cut. let r = k.whole_sweeps before since cut in (r.0, r.1, r.2 ∙ sym (ap (λ (b : Bool). cond b (m.size s) 0) e), r.3);
          }
      | inr e ↦
          let k = started false e in
          record {
            offline = λ i a v lt is answered same. let z = (k.offline i a v lt is answered same).0 in absurd (omega arith);
            one_lie = k.one_lie;
            one_lie_ends = k.one_lie_ends;
            no_alarm = no_alarm;
            whole_sweeps = λ before since cut. let r = k.whole_sweeps before since cut in (r.0, r.1, r.2 ∙ sym (ap (λ (b : Bool). cond b (m.size s) 0) e), r.3);
          }
    ]
