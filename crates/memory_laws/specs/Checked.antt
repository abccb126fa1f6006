-- The checked memory over any store, as a machine of plain values.
use Rattle.std.specs.Prelude.{◌≡◌, ℕ, zero, suc, ◌+◌, ◌-◌, ◌*◌, ◌/◌, ◌%◌, ◌^◌, ◌<◌, ◌≤◌, min, Bool, cond, ◌&&◌, List, map, replicate, Some, None, Ok, Err, Option, ◌==◌, nat_le, nat_lt, slice_index}
use Rattle.std.specs.Option.{unwrap_or}
use Rattle.parts.specs.declared.fault.Fault.{Fault}
use Rattle.parts.specs.declared.fault.Cause.TheVariants.{NoSuchCell, WordTooWide, WiderThanStore, StampAhead, TalliesDiffer}
use Rattle.parts.specs.Outcomes.{Outcome, and_then, up_to, settled, unless_broken}
use Rattle.parts.specs.Meaning.{Meaning, Holds, fault, most_cells, most_bits}
use Rattle.parts.specs.Tallying.{Tallying}

-- how many bits of a word are its stamp, and the largest stamp and time
abbrev pub stamp_bits : ℕ
stamp_bits = 20

abbrev pub clock_end : ℕ
clock_end = 1048575

-- the record of a word in a cell
abbrev pub record_of : ℕ → ℕ → ℕ
record_of a x = a * 281474976710656 + x

-- the stamp and the value of a word, at values of w bits
abbrev pub stamp_of : ℕ → ℕ → ℕ
stamp_of w x = x / 2 ^ w

abbrev pub value_of : ℕ → ℕ → ℕ
value_of w x = x % 2 ^ w

abbrev pub word_of : ℕ → ℕ → ℕ → ℕ
word_of w c v = c * 2 ^ w + v

-- whether a store of n cells and w bits can be checked
abbrev pub checkable : ℕ → ℕ → Bool
checkable n w = nat_le 1 n && nat_le n most_cells && nat_le (stamp_bits + 1) w && nat_le w most_bits

-- The store below, as a check uses it: its calls, and what is left of it where a sweep of the check begins and ends.
-- A store does not notice a sweep; whoever watches the calls notes it there.
pub record Base : Type 1 where
  pub State : Type 0
  pub height : State → ℕ
  pub read : State → ℕ → Outcome Fault ℕ State
  pub write : State → ℕ → ℕ → Outcome Fault (Unit {0}) State
  pub begins : State → State
  pub ends : State → State

abbrev pub plain : Meaning → Base
plain m = record { State = m.State; height = m.height; read = m.read; write = m.write; begins = λ s. s; ends = λ s. s }

-- The store below, the tally, the size and the width of the values, the clock, the tallies of the records read and
-- of those written, and the first fault.
pub record Memory (S T V : Type 0) : Type 0 where
  pub store : S
  pub rule : T
  pub size : ℕ
  pub width : ℕ
  pub clock : ℕ
  pub read : V
  pub written : V
  pub broken : Option Fault

module _ {S T V : Type 0} (s : Memory S T V) where
  abbrev pub at_store : S → Memory S T V
  at_store x = record { store = x; rule = s.rule; size = s.size; width = s.width; clock = s.clock; read = s.read; written = s.written; broken = s.broken }

  abbrev pub at_read : V → Memory S T V
  at_read x = record { store = s.store; rule = s.rule; size = s.size; width = s.width; clock = s.clock; read = x; written = s.written; broken = s.broken }

  abbrev pub at_written : V → Memory S T V
  at_written x = record { store = s.store; rule = s.rule; size = s.size; width = s.width; clock = s.clock; read = s.read; written = x; broken = s.broken }

  abbrev pub at_clock : ℕ → Memory S T V
  at_clock x = record { store = s.store; rule = s.rule; size = s.size; width = s.width; clock = x; read = s.read; written = s.written; broken = s.broken }

  -- a new epoch: nothing read, and written what the sweep wrote
  abbrev pub at_epoch : V → V → Memory S T V
  at_epoch r x = record { store = s.store; rule = s.rule; size = s.size; width = s.width; clock = 0; read = r; written = x; broken = s.broken }

abbrev pub at_broken : {S T V : Type 0} → Fault → Memory S T V → Memory S T V
at_broken f s = record { store = s.store; rule = s.rule; size = s.size; width = s.width; clock = s.clock; read = s.read; written = s.written; broken = Some f }

module _ (b : Base) {T V : Type 0} (l : T → Tallying V) where
  abbrev pub Mem : Type 0
  Mem = Memory b.State T V

  abbrev pub height : Mem → ℕ
  height s = min 255 (b.height s.store + 1)

  abbrev pub on_store : {A : Type 0} → Mem → Outcome Fault A b.State → Outcome Fault A Mem
  on_store s o = (o.0, at_store s o.1)

  -- a word read is tested, its record is added to those read, and its value answered
  abbrev pub examined : ℕ → ℕ → Mem → Outcome Fault ℕ Mem
  examined a x s =
      cond (nat_lt x (2 ^ (s.width + stamp_bits)))
      (cond (nat_le (stamp_of s.width x) s.clock)
      (Ok (value_of s.width x), at_read s ((l s.rule).add s.read (record_of a x)))
      (Err (fault StampAhead (height s) a), s))
      (Err (fault WiderThanStore (height s) a), s)

  abbrev pub fetch : ℕ → Mem → Outcome Fault ℕ Mem
  fetch a s = and_then (on_store s (b.read s.store a)) (examined a)

  -- a word is written below, and its record added to those written
  abbrev pub counted : ℕ → ℕ → Unit {0} → Mem → Outcome Fault (Unit {0}) Mem
  counted a x _ s = (Ok tt, at_written s ((l s.rule).add s.written (record_of a x)))

  abbrev pub put : ℕ → ℕ → Mem → Outcome Fault (Unit {0}) Mem
  put a x s = and_then (on_store s (b.write s.store a x)) (counted a x)

  -- A sweep's step at one cell: the word is read, its value written back with stamp 0, and that record added to the new tally.
  abbrev pub retallied : ℕ → V → ℕ → Unit {0} → Mem → Outcome Fault V Mem
  retallied a fresh v _ s = (Ok ((l s.rule).add fresh (record_of a v)), s)

  abbrev pub rewritten : ℕ → V → ℕ → Mem → Outcome Fault V Mem
  rewritten a fresh v s = and_then (on_store s (b.write s.store a v)) (retallied a fresh v)

  abbrev pub renewed : ℕ → V → Mem → Outcome Fault V Mem
  renewed a fresh s = and_then (fetch a s) (rewritten a fresh)

  -- the first k cells of a sweep; the answer is the new tally
  abbrev pub swept : ℕ → Mem → Outcome Fault V Mem
  swept k s = up_to renewed k (l s.rule).start s

  -- at a sweep's end the tallies are compared, and a new epoch starts where they are one
  abbrev pub compared : V → Mem → Outcome Fault (Unit {0}) Mem
  compared fresh s =
      cond ((l s.rule).same s.read s.written)
      (Ok tt, at_epoch s (l s.rule).start fresh)
      (Err (fault TalliesDiffer (height s) 0), s)

  abbrev pub closed : V → Mem → Outcome Fault (Unit {0}) Mem
  closed fresh s = compared fresh (at_store s (b.ends s.store))

  abbrev pub sweep_all : Mem → Outcome Fault (Unit {0}) Mem
  sweep_all s = and_then (swept s.size (at_store s (b.begins s.store))) closed

  -- a sweep comes first if the clock is at its end
  abbrev pub ready : Mem → Outcome Fault (Unit {0}) Mem
  ready s = cond (s.clock == clock_end) (sweep_all s) (Ok tt, s)

  -- The clock is raised, and the new value, or else the one read, is written with that stamp.
  abbrev pub answered : ℕ → Unit {0} → Mem → Outcome Fault ℕ Mem
  answered v _ s = (Ok v, s)

  abbrev pub restamped : ℕ → Option ℕ → ℕ → Mem → Outcome Fault ℕ Mem
  restamped a new v s =
      and_then (put a (word_of s.width (s.clock + 1) (unwrap_or new v)) (at_clock s (s.clock + 1))) (answered (unwrap_or new v))

  abbrev pub turn : ℕ → Option ℕ → Mem → Outcome Fault ℕ Mem
  turn a new s = and_then (fetch a s) (restamped a new)

  abbrev pub turned : ℕ → Option ℕ → Unit {0} → Mem → Outcome Fault ℕ Mem
  turned a new _ s = turn a new s

  abbrev pub visit : ℕ → Option ℕ → Mem → Outcome Fault ℕ Mem
  visit a new s = and_then (ready s) (turned a new)

  -- a visit that puts a new value
  abbrev pub done : ℕ → Mem → Outcome Fault (Unit {0}) Mem
  done _ s = (Ok tt, s)

  abbrev pub replaced : ℕ → ℕ → Mem → Outcome Fault (Unit {0}) Mem
  replaced a v s = and_then (visit a (Some v) s) done

  -- the calls
  abbrev pub reads : ℕ → Mem → Outcome Fault ℕ Mem
  reads a s = unless_broken s.broken s (cond (nat_lt a s.size) (settled at_broken (visit a None s)) (Err (fault NoSuchCell (height s) a), s))

  abbrev pub writes : ℕ → ℕ → Mem → Outcome Fault (Unit {0}) Mem
  writes a v s = unless_broken s.broken s (cond (nat_lt a s.size)
      (cond (nat_lt v (2 ^ s.width)) (settled at_broken (replaced a v s)) (Err (fault WordTooWide (height s) a), s))
      (Err (fault NoSuchCell (height s) a), s))

  abbrev pub sweeps : Mem → Outcome Fault (Unit {0}) Mem
  sweeps s = unless_broken s.broken s (settled at_broken (sweep_all s))

  -- The making writes value 0 with stamp 0 to the first k cells.
  abbrev pub cleared : ℕ → Mem → Outcome Fault (Unit {0}) Mem
  cleared k s = up_to (λ a _ s'. put a 0 s') k tt s

  abbrev pub blank : T → ℕ → ℕ → b.State → Mem
  blank t n w s = record { store = s; rule = t; size = n; width = w; clock = 0; read = (l t).start; written = (l t).start; broken = None }

  -- a memory made over a store that tells the size n and the width w
  abbrev pub opened : ℕ → ℕ → b.State → T → Mem
  opened n w s t =
      cond (checkable n w)
      (settled at_broken (cleared n (blank t n (w - stamp_bits) s))).1
      (blank t 0 0 s)

-- v with the record of the present word of each of the first k cells added
unfoldable pub with_records : {V : Type 0} → Tallying V → V → List ℕ → ℕ → V
with_records l v xs zero = v
with_records l v xs (suc k) = l.add (with_records l v xs k) (record_of k (slice_index xs k))

module _ (m : Meaning) {T V : Type 0} (l : T → Tallying V) where
  abbrev pub made : m.State → T → Mem (plain m) l
  made s t = opened (plain m) l (m.size s) (m.width s) s t

  -- It is fit and unbroken, the store below is loyal and still has the size and the width that it told, no stamp is
  -- ahead of the clock, and what was read with each cell's present record added is what was written.
  pub record Loyal (s : Mem (plain m) l) : Type 0 where
    pub fit : (1 ≤ s.size) × (1 ≤ s.width)
    pub unbroken : s.broken ≡ None
    pub in_range : s.clock ≤ clock_end
    pub loyal : m.loyal s.store
    pub size_is : m.size s.store ≡ s.size
    pub width_is : m.width s.store ≡ s.width + stamp_bits
    pub stamps : (a : ℕ) → a < s.size → stamp_of s.width (slice_index (m.cells s.store) a) ≤ s.clock
    pub tallied : with_records (l s.rule) s.read (m.cells s.store) s.size ≡ s.written

  abbrev pub checked : Meaning
  checked = record {
    State = Mem (plain m) l;
    loyal = Loyal;
    cells = λ s. map (value_of s.width) (m.cells s.store);
    size = λ s. s.size;
    width = λ s. s.width;
    height = height (plain m) l;
    read = λ s a. reads (plain m) l a s;
    write = λ s a v. writes (plain m) l a v s;
  }

  -- x, made over the store s, is loyal and holds zeros, where s is loyal and its words leave bits for a value
  abbrev pub StartsLoyal : m.State → Mem (plain m) l → Type 0
  StartsLoyal s x = m.loyal s → stamp_bits < m.width s → Holds checked (m.width s - stamp_bits) (min 255 (m.height s + 1)) (replicate (m.size s) 0) x
