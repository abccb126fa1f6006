-- The replay: a bottom store that answers recorded words in order, and forgets what is written.
use Rattle.std.specs.Prelude.{ℕ, Bool, cond, List, [], ◌∷◌, Ok, Err}
use Rattle.parts.specs.declared.fault.Fault.{Fault}
use Rattle.parts.specs.declared.fault.Cause.TheVariants.{NoSuchCell, ReplayEnded}
use Rattle.parts.specs.Outcomes.{Outcome}
use Rattle.parts.specs.Meaning.{Meaning, fit, fault}

-- the handed words that are left to be answered, and the given size and width
pub record Recorded : Type 0 where
  pub left : List ℕ
  pub cells : ℕ
  pub wide : ℕ

abbrev pub fits : Recorded → Bool
fits s = fit s.cells s.wide

-- the first of the words that are left is answered, whatever cell is asked
abbrev pub next_word : Recorded → ℕ → List ℕ → Outcome Fault ℕ Recorded
next_word s a [] = (Err (fault ReplayEnded 0 a), s)
next_word s a (x ∷ xs) = (Ok x, record { left = xs; cells = s.cells; wide = s.wide })

abbrev pub replay_read : Recorded → ℕ → Outcome Fault ℕ Recorded
replay_read s a = cond (fits s) (next_word s a s.left) (Err (fault NoSuchCell 0 a), s)

abbrev pub replay_write : Recorded → ℕ → ℕ → Outcome Fault (Unit {0}) Recorded
replay_write s a v = cond (fits s) (Ok tt, s) (Err (fault NoSuchCell 0 a), s)

-- It is never loyal, and holds no cells of its own.
abbrev pub replay_meaning : Meaning
replay_meaning = record {
  State = Recorded;
  loyal = λ _. ⊥;
  cells = λ _. [];
  size = λ s. cond (fits s) s.cells 0;
  width = λ s. cond (fits s) s.wide 0;
  height = λ _. 0;
  read = replay_read;
  write = replay_write;
}
