-- Watching a store changes no outcome.
use Rattle.std.proofs.Common.{◌≡◌, ℕ, zero, suc, ◌+◌, ◌-◌, ◌^◌, Bool, true, false, cond, nat_eq, nat_lt, nat_le, List, [], ◌∷◌, Some, None, Ok, Err, Option, Result, unwrap_or, sym, refl, ap, ◌∙◌}
use Rattle.parts.specs.declared.fault.Fault.{Fault}
use Rattle.parts.specs.Outcomes.{Outcome, and_then, up_to, settled, unless_broken}
use Rattle.parts.specs.Meaning.{Meaning}
use Rattle.parts.specs.Runs.{answers, after}
use Rattle.parts.specs.Tallying.{Tallying}
use Rattle.memory_laws.specs.declared.call.Call.{Call}
use Rattle.memory_laws.specs.declared.call.Call.TheVariants.{Write, Read, Sweep}
use Rattle.memory_laws.specs.declared.call.Answer.{Answer}
use Rattle.memory_laws.specs.declared.call.Answer.TheVariants.{Written, Value, Passed}
use Rattle.memory_laws.specs.Checked.{Memory, Mem, plain, stamp_bits, clock_end, stamp_of, word_of, at_store, at_clock, at_broken, on_store, examined, fetch, counted, put, retallied, rewritten, renewed, swept, closed, sweep_all, ready, answered, restamped, turn, turned, visit, done, replaced, reads, writes, sweeps, cleared, blank, checkable, opened, made}
use Rattle.memory_laws.specs.History.{Watched, watched}
use Rattle.memory_laws.specs.Runs.{told, performed}
use Rattle.memory_laws.specs.Promise.{start, all_answers, left}

-- the memory over the store itself
abbrev pub forget : {S T V : Type 0} → Memory (Watched S) T V → Memory S T V
forget s = record { store = s.store.below; rule = s.rule; size = s.size; width = s.width; clock = s.clock; read = s.read; written = s.written; broken = s.broken }

abbrev pub forgotten : {A S T V : Type 0} → Outcome Fault A (Memory (Watched S) T V) → Outcome Fault A (Memory S T V)
forgotten o = (o.0, forget o.1)

module _ (m : Meaning) {T V : Type 0} (l : T → Tallying V) where
  abbrev W : Type 0
  W = Mem (watched m) l

  abbrev P : Type 0
  P = Mem (plain m) l

  -- calls one after another
  then : {A B : Type 0} (o : Outcome Fault A W) (k : A → W → Outcome Fault B W) (k' : A → P → Outcome Fault B P) → ((a : A) (s : W) → forgotten (k a s) ≡ k' a (forget s)) →
      forgotten (and_then o k) ≡ and_then (forgotten o) k'
  then {A} {B} o k k' h = by_answer o.0 o.1
    where
      by_answer : (r : Result A Fault) (s : W) → forgotten {A = B} (and_then (r, s) k) ≡ and_then (forgotten (r, s)) k'
      by_answer (Ok a) s = h a s
      by_answer (Err f) s = refl

  tested : {A : Type 0} (b : Bool) (x y : Outcome Fault A W) (x' y' : Outcome Fault A P) → forgotten x ≡ x' → forgotten y ≡ y' → forgotten (cond b x y) ≡ cond b x' y'
  tested true x y x' y' p q = p
  tested false x y x' y' p q = q

  breaks : {A : Type 0} (o : Outcome Fault A W) → forgotten (settled at_broken o) ≡ settled at_broken (forgotten o)
  breaks {A} o = by_answer o.0 o.1
    where
      by_answer : (r : Result A Fault) (s : W) → forgotten {A = A} (settled at_broken (r, s)) ≡ settled at_broken (forgotten (r, s))
      by_answer (Ok a) s = refl
      by_answer (Err f) s = refl

  unbroken : {A : Type 0} (b : Option Fault) (s : W) (o : Outcome Fault A W) (o' : Outcome Fault A P) → forgotten o ≡ o' → forgotten (unless_broken b s o) ≡ unless_broken b (forget s) o'
  unbroken (Some f) s o o' e = refl
  unbroken None s o o' e = e

  examines : (a x : ℕ) (s : W) → forgotten (examined (watched m) l a x s) ≡ examined (plain m) l a x (forget s)
  examines a x s = tested (nat_lt x (2 ^ (s.width + stamp_bits))) _ _ _ _ (tested (nat_le (stamp_of s.width x) s.clock) _ _ _ _ refl refl) refl

  fetches : (a : ℕ) (s : W) → forgotten (fetch (watched m) l a s) ≡ fetch (plain m) l a (forget s)
  fetches a s = then (on_store (watched m) l s ((watched m).read s.store a)) (examined (watched m) l a) (examined (plain m) l a) (examines a)

  puts : (a x : ℕ) (s : W) → forgotten (put (watched m) l a x s) ≡ put (plain m) l a x (forget s)
  puts a x s = then (on_store (watched m) l s ((watched m).write s.store a x)) (counted (watched m) l a x) (counted (plain m) l a x) (λ _ _. refl)

  rewrites : (a : ℕ) (fresh : V) (v : ℕ) (s : W) → forgotten (rewritten (watched m) l a fresh v s) ≡ rewritten (plain m) l a fresh v (forget s)
  rewrites a fresh v s = then (on_store (watched m) l s ((watched m).write s.store a v)) (retallied (watched m) l a fresh v) (retallied (plain m) l a fresh v) (λ _ _. refl)

  renews : (a : ℕ) (fresh : V) (s : W) → forgotten (renewed (watched m) l a fresh s) ≡ renewed (plain m) l a fresh (forget s)
  renews a fresh s = then (fetch (watched m) l a s) (rewritten (watched m) l a fresh) (rewritten (plain m) l a fresh) (rewrites a fresh) ∙ ap (λ o. and_then o (rewritten (plain m) l a fresh)) (fetches a s)

  steps : {A : Type 0} (step : ℕ → A → W → Outcome Fault A W) (step' : ℕ → A → P → Outcome Fault A P) → ((k : ℕ) (a : A) (s : W) → forgotten (step k a s) ≡ step' k a (forget s)) →
      (k : ℕ) (a : A) (s : W) → forgotten (up_to step k a s) ≡ up_to step' k a (forget s)
  unfolding up_to
  steps step step' h zero a s = refl
  steps step step' h (suc k) a s = then (up_to step k a s) (step k) (step' k) (h k) ∙ ap (λ o. and_then o (step' k)) (steps step step' h k a s)

  closes : (fresh : V) (s : W) → forgotten (closed (watched m) l fresh s) ≡ closed (plain m) l fresh (forget s)
  closes fresh s = tested ((l s.rule).same s.read s.written) _ _ _ _ refl refl

  sweeps_all : (s : W) → forgotten (sweep_all (watched m) l s) ≡ sweep_all (plain m) l (forget s)
  sweeps_all s =
      let s' = at_store s ((watched m).begins s.store) in
      then (swept (watched m) l s.size s') (closed (watched m) l) (closed (plain m) l) closes
      ∙ ap (λ o. and_then o (closed (plain m) l)) (steps (renewed (watched m) l) (renewed (plain m) l) renews s.size (l s.rule).start s')

  readies : (s : W) → forgotten (ready (watched m) l s) ≡ ready (plain m) l (forget s)
  readies s = tested (nat_eq s.clock clock_end) (sweep_all (watched m) l s) (Ok tt, s) _ _ (sweeps_all s) refl

  restamps : (a : ℕ) (new : Option ℕ) (v : ℕ) (s : W) → forgotten (restamped (watched m) l a new v s) ≡ restamped (plain m) l a new v (forget s)
  restamps a new v s =
      let t = at_clock s (s.clock + 1) in let x = word_of s.width (s.clock + 1) (unwrap_or new v) in
      then (put (watched m) l a x t) (answered (watched m) l (unwrap_or new v)) (answered (plain m) l (unwrap_or new v)) (λ _ _. refl) ∙ ap (λ o. and_then o (answered (plain m) l (unwrap_or new v))) (puts a x t)

  turns : (a : ℕ) (new : Option ℕ) (s : W) → forgotten (turn (watched m) l a new s) ≡ turn (plain m) l a new (forget s)
  turns a new s = then (fetch (watched m) l a s) (restamped (watched m) l a new) (restamped (plain m) l a new) (restamps a new) ∙ ap (λ o. and_then o (restamped (plain m) l a new)) (fetches a s)

  visits : (a : ℕ) (new : Option ℕ) (s : W) → forgotten (visit (watched m) l a new s) ≡ visit (plain m) l a new (forget s)
  visits a new s = then (ready (watched m) l s) (turned (watched m) l a new) (turned (plain m) l a new) (λ _ x. turns a new x) ∙ ap (λ o. and_then o (turned (plain m) l a new)) (readies s)

  broken_visits : (a : ℕ) (new : Option ℕ) (s : W) → forgotten (settled at_broken (visit (watched m) l a new s)) ≡ settled at_broken (visit (plain m) l a new (forget s))
  broken_visits a new s = breaks (visit (watched m) l a new s) ∙ ap (settled at_broken) (visits a new s)

  pub forget_reads : (a : ℕ) (s : W) → forgotten (reads (watched m) l a s) ≡ reads (plain m) l a (forget s)
  forget_reads a s = unbroken s.broken s _ _ (tested (nat_lt a s.size) _ _ _ _ (broken_visits a None s) refl)

  pub forget_writes : (a v : ℕ) (s : W) → forgotten (writes (watched m) l a v s) ≡ writes (plain m) l a v (forget s)
  forget_writes a v s =
      unbroken s.broken s _ _ (tested (nat_lt a s.size) _ _ _ _
      (tested (nat_lt v (2 ^ s.width)) _ _ _ _
      (breaks (replaced (watched m) l a v s) ∙ ap (settled at_broken) (then (visit (watched m) l a (Some v) s) (done (watched m) l) (done (plain m) l) (λ _ _. refl) ∙ ap (λ o. and_then o (done (plain m) l)) (visits a (Some v) s)))
      refl) refl)

  pub forget_sweeps : (s : W) → forgotten (sweeps (watched m) l s) ≡ sweeps (plain m) l (forget s)
  forget_sweeps s = unbroken s.broken s _ _ (breaks (sweep_all (watched m) l s) ∙ ap (settled at_broken) (sweeps_all s))

  pub forget_opened : (n w : ℕ) (s : Watched m.State) (t : T) → forget (opened (watched m) l n w s t) ≡ opened (plain m) l n w s.below t
  forget_opened n w s t = by_test (checkable n w)
    where
      by_test : (b : Bool) → forget (cond b (settled at_broken (cleared (watched m) l n (blank (watched m) l t n (w - stamp_bits) s))).1 (blank (watched m) l t 0 0 s))
          ≡ cond b (settled at_broken (cleared (plain m) l n (blank (plain m) l t n (w - stamp_bits) s.below))).1 (blank (plain m) l t 0 0 s.below)
      by_test true =
          ap (λ o. o.1) (breaks (cleared (watched m) l n (blank (watched m) l t n (w - stamp_bits) s)) ∙ ap (settled at_broken) (steps (λ a _ s'. put (watched m) l a 0 s') (λ a _ s'. put (plain m) l a 0 s') (λ a _ s'. puts a 0 s') n tt (blank (watched m) l t n (w - stamp_bits) s)))
      by_test false = refl

  -- one call of a list
  abbrev forget_told : Answer × W → Answer × P
  forget_told r = (r.0, forget r.1)

  telling : {A : Type 0} (f : A → Answer) (o : Outcome Fault A W) (o' : Outcome Fault A P) → forgotten o ≡ o' → forget_told (told f o) ≡ told f o'
  telling f o o' e = ap (told f) e

  pub forget_performed : (c : Call) (s : W) → forget_told (performed (watched m) l c s) ≡ performed (plain m) l c (forget s)
  forget_performed (Write a v) s = telling (λ _. Written) (writes (watched m) l a v s) _ (forget_writes a v s)
  forget_performed (Read a) s = telling Value (reads (watched m) l a s) _ (forget_reads a s)
  forget_performed Sweep s = telling (λ _. Passed) (sweeps (watched m) l s) _ (forget_sweeps s)

  pub forget_answers : (cs : List Call) (s : W) → answers (performed (watched m) l) cs s ≡ answers (performed (plain m) l) cs (forget s)
  unfolding answers
  forget_answers [] s = refl
  forget_answers (c ∷ cs) s =
      let e = forget_performed c s in
      ap (λ (rest : List Answer). (performed (watched m) l c s).0 ∷ rest) (forget_answers cs (performed (watched m) l c s).1) ∙ ap (λ (r : Answer × P). r.0 ∷ answers (performed (plain m) l) cs r.1) e

  pub forget_after : (cs : List Call) (s : W) → forget (after (performed (watched m) l) cs s) ≡ after (performed (plain m) l) cs (forget s)
  unfolding after
  forget_after [] s = refl
  forget_after (c ∷ cs) s = forget_after cs (performed (watched m) l c s).1 ∙ ap (λ (r : Answer × P). after (performed (plain m) l) cs r.1) (forget_performed c s)

  -- a run that is watched from the making on is the run
  pub watched_answers : (s : m.State) (t : T) (cs : List Call) → answers (performed (plain m) l) cs (made m l s t) ≡ all_answers m l s t cs
  watched_answers s t cs =
      sym (forget_answers cs (start m l s t) ∙ ap (answers (performed (plain m) l) cs) (forget_opened (m.size s) (m.width s) (record { below = s; history = [] }) t))

  pub watched_left : (s : m.State) (t : T) (cs : List Call) → (after (performed (plain m) l) cs (made m l s t)).store ≡ (left m l s t cs).store.below
  watched_left s t cs =
      ap (λ (x : P). x.store) (sym (forget_after cs (start m l s t) ∙ ap (after (performed (plain m) l) cs) (forget_opened (m.size s) (m.width s) (record { below = s; history = [] }) t)))
