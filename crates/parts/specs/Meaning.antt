-- What a store means: a machine of plain values, and what its loyal states keep.
use Rattle.std.specs.Prelude.{◌≡◌, ℕ, ◌^◌, ◌<◌, Bool, true, cond, ◌&&◌, List, length, Ok, Err, Result, nat_le, nat_lt, slice_index, slice_set}
use Rattle.parts.specs.declared.fault.Fault.{Fault}
use Rattle.parts.specs.declared.fault.Cause.{Cause}
use Rattle.parts.specs.declared.fault.Cause.TheVariants.{NoSuchCell, WordTooWide}
use Rattle.parts.specs.Outcomes.{Outcome}

-- the most cells that a store has, and the most bits that a word has
abbrev pub most_cells : ℕ
most_cells = 4096

abbrev pub most_bits : ℕ
most_bits = 48

-- whether a store may have n cells of w bits
abbrev pub fit : ℕ → ℕ → Bool
fit n w = nat_le 1 n && nat_le n most_cells && nat_le 1 w && nat_le w most_bits

abbrev pub fault : Cause → ℕ → ℕ → Fault
fault c h a = record { cause = c; height = h; place = a }

-- The machine: for every state its loyalty, its cells, what it tells of itself, and for each call the answer
-- and the state that the call leaves. It tells these of loyal and disloyal states alike.
pub record Meaning : Type 1 where
  pub State : Type 0
  pub loyal : State → Type 0
  pub cells : State → List ℕ
  pub size : State → ℕ
  pub width : State → ℕ
  pub height : State → ℕ
  pub read : State → ℕ → Outcome Fault ℕ State
  pub write : State → ℕ → ℕ → Outcome Fault (Unit {0}) State

-- What a store of height h, with n cells of w bits that hold the words xs, answers to a read of the cell a ..
abbrev pub reading : ℕ → ℕ → List ℕ → ℕ → Result ℕ Fault
reading h n xs a = cond (nat_lt a n) (Ok (slice_index xs a)) (Err (fault NoSuchCell h a))

-- .. and to a write of v there: a cell that is not there is declined first, then a word too wide.
abbrev pub writing : ℕ → ℕ → ℕ → ℕ → ℕ → Result (Unit {0}) Fault
writing h n w a v =
    cond (nat_lt a n) (cond (nat_lt v (2 ^ w)) (Ok tt) (Err (fault WordTooWide h a))) (Err (fault NoSuchCell h a))

-- The words after that write: a write that is declined puts nothing.
abbrev pub written : ℕ → ℕ → List ℕ → ℕ → ℕ → List ℕ
written n w xs a v = cond (nat_lt a n) (cond (nat_lt v (2 ^ w)) (slice_set xs a v) xs) xs

-- a loyal state that holds the words xs, and tells the width w and the height h
pub record Holds (m : Meaning) (w h : ℕ) (xs : List ℕ) (s : m.State) : Type 0 where
  pub loyal : m.loyal s
  pub cells_are : m.cells s ≡ xs
  pub width_is : m.width s ≡ w
  pub height_is : m.height s ≡ h

-- What every loyal state keeps.
pub record Keeps (m : Meaning) : Type 0 where
  -- its size is the number of its cells, and size and width are a store's
  pub sized : (s : m.State) → m.loyal s → (m.size s ≡ length (m.cells s)) × (fit (m.size s) (m.width s) ≡ true)
  -- its words are below 2 ^ w
  pub below : (s : m.State) → m.loyal s → (a : ℕ) → a < m.size s → slice_index (m.cells s) a < 2 ^ m.width s
  -- a read answers the word in the cell, and leaves a loyal store with the same words
  pub reads : (s : m.State) → m.loyal s → (a : ℕ) → (m.read s a).0 ≡ reading (m.height s) (m.size s) (m.cells s) a
  pub read_leaves : (s : m.State) → m.loyal s → (a : ℕ) → Holds m (m.width s) (m.height s) (m.cells s) (m.read s a).1
  -- a write puts the word into that cell and no other, and leaves a loyal store
  pub writes : (s : m.State) → m.loyal s → (a v : ℕ) → (m.write s a v).0 ≡ writing (m.height s) (m.size s) (m.width s) a v
  pub write_leaves : (s : m.State) → m.loyal s → (a v : ℕ) → Holds m (m.width s) (m.height s) (written (m.size s) (m.width s) (m.cells s) a v) (m.write s a v).1
