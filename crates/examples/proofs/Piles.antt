use Rattle.std.proofs.Common.{◌≡◌, ℕ, ◌+◌, ◌-◌, ◌<◌, min, List, replicate, ap, ◌∙◌, arith}
use Rattle.parts.specs.Meaning.{Meaning, Keeps}
use Rattle.parts.specs.Tallying.{Tallying, Laws}
use Rattle.memory_laws.specs.declared.call.Call.{Call}
use Rattle.memory_laws.specs.Checked.{Mem, plain, checked, StartsLoyal}
use Rattle.memory_laws.specs.Runs.{ideal_answers}
use Rattle.memory_laws.specs.Promise.{all_answers, Promise}
use Rattle.memory_laws.proofs.CheckedKeeps.{starts_as_large}

same_ideal : {h h' n n' w w' : ℕ} (cs : List Call) → h ≡ h' → n ≡ n' → w ≡ w' → ideal_answers h n w (replicate n 0) cs ≡ ideal_answers h' n' w' (replicate n' 0) cs
same_ideal cs p q r = rw (p, q, r)

module _ (m : Meaning) (keeps : Keeps m) {T V : Type 0} (l : T → Tallying V) (laws : (t : T) → Laws (l t)) {U Z : Type 0} (k : U → Tallying Z) where
  -- a memory over a memory just made over a loyal store answers as an ideal one does
  pub ideal_on_pile : (s : m.State) (x : Mem (plain m) l) (u : U) (cs : List Call) → StartsLoyal m l s x → Promise (checked m l) k x u cs → m.loyal s → 40 < m.width s →
      all_answers (checked m l) k x u cs ≡ ideal_answers (min 255 (min 255 (m.height s + 1) + 1)) (m.size s) (m.width s - 20 - 20) (replicate (m.size s) 0) cs
  ideal_on_pile s x u cs starts promise h wide =
      let d = starts h (omega arith) in
      let size : x.size ≡ m.size s = starts_as_large m keeps l laws s x starts h (omega arith) in
      promise.no_alarm d.loyal (omega (arith, d.width_is))
      ∙ same_ideal cs (ap (λ (g : ℕ). min 255 (g + 1)) d.height_is) size (ap (λ (w : ℕ). w - 20) d.width_is)
