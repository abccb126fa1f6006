-- What is promised of every list of calls on a checked memory just made, over any store.
use Rattle.std.specs.Prelude.{◌≡◌, ℕ, suc, ◌+◌, ◌-◌, ◌<◌, ◌≤◌, min, cond, List, [], ◌∷◌, ◌++◌, length, take, replicate, slice_index, slice_index_or}
use Rattle.parts.specs.declared.fault.Fault.{Fault}
use Rattle.parts.specs.Meaning.{Meaning}
use Rattle.parts.specs.Runs.{answers, after}
use Rattle.parts.specs.Tallying.{Tallying}
use Rattle.memory_laws.specs.declared.call.Call.{Call}
use Rattle.memory_laws.specs.declared.call.Call.TheVariants.{Read, Sweep}
use Rattle.memory_laws.specs.declared.call.Answer.{Answer}
use Rattle.memory_laws.specs.declared.call.Answer.TheVariants.{Value, Passed, Failed}
use Rattle.memory_laws.specs.Checked.{Mem, stamp_bits, checkable, opened}
use Rattle.memory_laws.specs.History.{Event, sweep_begins, sweep_ends, taken, watched, misread, epochs, no_bags, Same}
use Rattle.memory_laws.specs.Runs.{performed, accepted, ideal_words, ideal_answers}

module _ (m : Meaning) {T V : Type 0} (l : T → Tallying V) (s : m.State) (t : T) where
  -- the memory just made over the store in the state s, whose calls are watched from the making on
  abbrev pub start : Mem (watched m) l
  start = opened (watched m) l (m.size s) (m.width s) (record { below = s; history = [] }) t

  abbrev pub all_answers : List Call → List Answer
  all_answers calls = answers (performed (watched m) l) calls start

  abbrev pub left : List Call → Mem (watched m) l
  left calls = after (performed (watched m) l) calls start

  -- all that was done to the store, from the making to the end of these calls
  abbrev pub history : List Call → List Event
  history calls = (left calls).store.history

  -- the words of an ideal memory of that size and width, after these calls
  abbrev pub ideal : List Call → List ℕ
  ideal calls = ideal_words (m.size s) (m.width s - stamp_bits) (replicate (m.size s) 0) calls

  -- how many cells the memory has: none over a store that cannot be checked
  abbrev pub cells : ℕ
  cells = cond (checkable (m.size s) (m.width s)) (m.size s) 0

  pub record Promise (calls : List Call) : Type 0 where
    -- The offline check: where every epoch up to that of a reading has ended with one bag read and written, the reading
    -- answered what was last written to the cell. The epoch of a reading is the one that is open when its call ends.
    pub offline : (i a v : ℕ) → i < length calls → slice_index_or calls i Sweep ≡ Read a → slice_index_or (all_answers calls) i Passed ≡ Value v →
        ((j : ℕ) → j ≤ length (epochs (history (take (suc i) calls))) →
        (j < length (epochs (history calls))) × Same (slice_index_or (epochs (history calls)) j no_bags).got (slice_index_or (epochs (history calls)) j no_bags).put) →
        v ≡ slice_index (ideal (take i calls)) a
    -- One lie shows: a sweep up to whose end exactly one word read was not the one last written to its cell does not pass.
    pub one_lie : (i : ℕ) → i < length calls → slice_index_or calls i Sweep ≡ Sweep → misread (history (take (suc i) calls)) ≡ 1 →
        (f : Fault) × (slice_index_or (all_answers calls) i Passed ≡ Failed f)
    -- This holds of the sweeps at the clock's end too: no call is accepted after such a sweep.
    pub one_lie_ends : (i : ℕ) → i < length calls → (before since : List Event) → history (take (suc i) calls) ≡ before ++ sweep_ends ∷ since →
        misread before ≡ 1 → accepted (slice_index_or (all_answers calls) i Passed) → ⊥
    -- No false alarm: over a loyal store every sweep passes, and every read answers what was last written.
    pub no_alarm : m.loyal s → stamp_bits < m.width s →
        all_answers calls ≡ ideal_answers (min 255 (m.height s + 1)) (m.size s) (m.width s - stamp_bits) (replicate (m.size s) 0) calls
    -- Every sweep that ended took each cell once, from 0 up: it was read, and then written.
    pub whole_sweeps : (before since : List Event) → history calls ≡ before ++ sweep_ends ∷ since →
        (earlier : List Event) × (words : List (ℕ × ℕ)) × (length words ≡ cells) × (before ≡ earlier ++ (sweep_begins ∷ taken 0 words))
