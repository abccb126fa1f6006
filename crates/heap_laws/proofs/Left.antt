-- The heap that a call leaves, told by the words that its store holds then.
use Rattle.std.proofs.Common.{◌≡◌, ℕ, ◌+◌, ◌<◌, ◌≤◌, min, Bool, cond, eqb, List, length, Some, None, Ok, Err, Result, sym, refl, ap, ◌∙◌, subst, ap₂, subst₂, ⊎_elim, arith}
use mathlib.Core.Path.{fun_ext}
use Rattle.std.proofs.lemmas.Bool.{cases_lt, lt-ltb, le-ltb}
use Rattle.std.proofs.lemmas.Bool.Decides.{nat_tests}
use Rattle.parts.specs.declared.fault.QueueFault.{QueueFault}
use Rattle.parts.specs.declared.fault.Cause.{Cause}
use Rattle.parts.specs.Meaning.{Meaning, Keeps, Holds}
use Rattle.parts.specs.Queues.{found, Entries, QueueMeaning, Unaltered, Owes, Holds as Keeping}
use Rattle.parts.proofs.Clauses.{loyal_holds, size_is}
use Rattle.heap_laws.specs.Cells.{room, tree_in, Sound, Ordered, held}
use Rattle.heap_laws.specs.HeapMachine.{Heap, On, counted, capacity, Loyal, heap}
use Rattle.heap_laws.proofs.Ends.{Ends}
use Rattle.heap_laws.proofs.Words.{Fits}
use Rattle.heap_laws.proofs.Holes.{Filled}
use Rattle.heap_laws.proofs.Waiting.{cut}

-- what a capacity that is not 0 says of the size and the width
room_fits : (n w : ℕ) → 1 ≤ room n w → Fits w (room n w) n
room_fits n w h = record { wide = grind (arith, nat_tests); few = grind (arith, nat_tests); cells = grind (arith, nat_tests) }

module _ (m : Meaning) (keeps : Keeps m) (before : ℕ → ℕ → Bool) (s : Heap m.State) (fit : 1 ≤ capacity m before s) (loyal : m.loyal s.store) where
  abbrev xs : List ℕ
  xs = m.cells s.store

  abbrev w : ℕ
  w = m.width s.store

  abbrev h : ℕ
  h = m.height s.store

  abbrev cap : ℕ
  cap = capacity m before s

  pub here : Holds m w h xs s.store
  here = loyal_holds m s.store loyal

  size : m.size s.store ≡ length xs
  size = size_is m keeps w h xs s.store here

  pub cells_fit : Fits w cap (length xs)
  cells_fit = subst (Fits w cap) size (room_fits (m.size s.store) w fit)

  -- a heap of n entries over a store that holds ys
  module _ {n : ℕ} {told : Entries} {ys : List ℕ} {z : m.State} (d : Holds m w h ys z) (f : Filled before cap (length xs) told n ys) where
    abbrev r : Heap m.State
    r = record { store = z; count = n }

    same_capacity : capacity m before r ≡ cap
    same_capacity = ap₂ room (size_is m keeps w h ys z d ∙ f.long ∙ sym size) d.width_is

    told_below : (t : ℕ) → cut cap (held (tree_in ys)) t ≡ cut cap told t
    told_below t =
        ⊎_elim (λ (l : t < cap). rw (lt-ltb t cap l) (f.holds t l)) (λ (l : cap ≤ t). rw (le-ltb t cap l)) (cases_lt t cap)

    pub left : Keeping (heap m before) s (cut cap told) r
    left = record {
      loyal = record {
        fit = rw same_capacity fit;
        loyal = d.loyal;
        sound = subst₂ (λ (c : ℕ) (zs : List ℕ). Sound c n (tree_in zs)) (sym same_capacity) (sym d.cells_are) f.sound;
        ordered = subst (λ (zs : List ℕ). Ordered before n (tree_in zs).key) (sym d.cells_are) f.ordered;
      };
      same_capacity = same_capacity;
      same_height = ap (λ (g : ℕ). min 255 (g + 1)) d.height_is;
      entries_are = ap₂ (λ (c : ℕ) (zs : List ℕ). cut c (held (tree_in zs))) same_capacity d.cells_are ∙ fun_ext told_below;
    }

module _ (m : Meaning) (keeps : Keeps m) (before : ℕ → ℕ → Bool) (s : Heap m.State) (b : Loyal m before s) where
  abbrev words : List ℕ
  words = m.cells s.store

  abbrev q : QueueMeaning
  q = heap m before

  abbrev Called : (m.State → On m (Unit {0})) → Result (Unit {0}) QueueFault → List ℕ → Type 0
  Called f r ys = Ends m (m.width s.store) (m.height s.store) f words r ys

  -- a store that holds the same words
  pub unaltered : {z : m.State} → Holds m (m.width s.store) (m.height s.store) words z → Unaltered q s (record { store = z; count = s.count })
  unaltered d = record {
    holds = left m keeps before s b.fit b.loyal d (record { long = refl; sound = b.sound; ordered = b.ordered; holds = λ t l. refl });
    same_named = ap (λ (ys : List ℕ). cond (eqb s.count 0) None (Some ((tree_in ys).ticket 0))) d.cells_are;
  }

  -- a call f that leaves n entries where it is answered
  module _ (f : m.State → On m (Unit {0})) (n t : ℕ) where
    abbrev outcome : Result (Unit {0}) QueueFault → Result (Unit {0}) QueueFault × Heap m.State
    outcome x = counted m before n s (x, (f s.store).1)

    pub declined : (c : Cause) (e : Entries) → Called f (Err (found c (q.height s) t)) words → Owes q s (Some c) t e (outcome (f s.store).0)
    declined c e p =
        let d = p s.store (loyal_holds m s.store b.loyal) in
        subst (λ (x : Result (Unit {0}) QueueFault). Owes q s (Some c) t e (outcome x)) (sym d.0) (refl, unaltered d.1)

    pub accepted : (e told : Entries) → cut (capacity m before s) told ≡ e →
        (ys : List ℕ) × Called f (Ok tt) ys × Filled before (capacity m before s) (length words) told n ys →
        Owes q s None t e (outcome (f s.store).0)
    accepted e told is p =
        let d = p.1 s.store (loyal_holds m s.store b.loyal) in
        subst₂ (λ (x : Result (Unit {0}) QueueFault) (e : Entries). Owes q s None t e (outcome x)) (sym d.0) is
        (refl, left m keeps before s b.fit b.loyal d.1 p.2)
