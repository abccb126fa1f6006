-- The history of a memory check: the calls of the store below that were answered, and the sweeps. Its epochs, and its false words.
use Rattle.std.specs.Prelude.{◌≡◌, ℕ, suc, ◌+◌, Bool, true, false, cond, List, [], ◌∷◌, ◌++◌, Ok, Err, ◌==◌}
use Rattle.parts.specs.declared.fault.Fault.{Fault}
use Rattle.parts.specs.Outcomes.{Outcome}
use Rattle.parts.specs.Meaning.{Meaning}
use Rattle.memory_laws.specs.Checked.{Base, record_of}

-- a word read in a cell, a word written to a cell, and where a sweep begins and ends
pub data Event : Type 0 where
  did_read : ℕ → ℕ → Event
  did_write : ℕ → ℕ → Event
  sweep_begins : Event
  sweep_ends : Event

-- the cells from k up, each read with the one word and then written with the other
abbrev pub taken : ℕ → List (ℕ × ℕ) → List Event
taken k [] = []
taken k (w ∷ ws) = did_read k w.0 ∷ did_write k w.1 ∷ taken (suc k) ws

-- a store, and its history so far, oldest first
pub record Watched (S : Type 0) : Type 0 where
  pub below : S
  pub history : List Event

abbrev pub noted : {S : Type 0} → Event → Watched S → Watched S
noted e s = record { below = s.below; history = s.history ++ e ∷ [] }

-- a call that is answered is noted
abbrev pub watching : {A S : Type 0} → List Event → (A → Event) → Outcome Fault A S → Outcome Fault A (Watched S)
watching h e o = (o.0, record { below = o.1; history = elim o.0 [ Ok x ↦ h ++ e x ∷ [] | Err f ↦ h ] })

-- The same store, watched: its calls are those of the store.
abbrev pub watched : Meaning → Base
watched m = record {
  State = Watched m.State;
  height = λ s. m.height s.below;
  read = λ s a. watching s.history (did_read a) (m.read s.below a);
  write = λ s a x. watching s.history (λ _. did_write a x) (m.write s.below a x);
  begins = noted sweep_begins;
  ends = noted sweep_ends;
}

-- the words last written to the cells, after one more
abbrev pub update : (ℕ → ℕ) → ℕ → ℕ → ℕ → ℕ
update f a x b = cond (b == a) x (f b)

-- How many words read are not the one last written to their cell. f has the words last written before. (A check
-- writes each cell before it reads any, so what f says at first does not matter.)
abbrev pub misread_from : (ℕ → ℕ) → List Event → ℕ
misread_from f [] = 0
misread_from f (did_read a x ∷ h) = cond (x == f a) 0 1 + misread_from f h
misread_from f (did_write a x ∷ h) = misread_from (update f a x) h
misread_from f (sweep_begins ∷ h) = misread_from f h
misread_from f (sweep_ends ∷ h) = misread_from f h

abbrev pub misread : List Event → ℕ
misread = misread_from (λ _. 0)

-- how often r stands in a list
abbrev pub count : ℕ → List ℕ → ℕ
count r [] = 0
count r (x ∷ xs) = cond (x == r) 1 0 + count r xs

-- two lists of records are one bag
abbrev pub Same : List ℕ → List ℕ → Type 0
Same xs ys = (r : ℕ) → count r xs ≡ count r ys

-- the bag of the records read in an epoch, and that of those written
pub record Bags : Type 0 where
  pub got : List ℕ
  pub put : List ℕ

abbrev pub no_bags : Bags
no_bags = record { got = []; put = [] }

-- The epochs that ended. An epoch lasts to the end of the next sweep; that sweep's writes begin the epoch after it.
-- A sweep is on its way or not, e has the bags of the open epoch so far, and next the records that the sweep wrote.
abbrev pub epochs_from : Bool → Bags → List ℕ → List Event → List Bags
epochs_from sweeping e next [] = []
epochs_from sweeping e next (did_read a x ∷ h) = epochs_from sweeping (record { got = e.got ++ record_of a x ∷ []; put = e.put }) next h
epochs_from true e next (did_write a x ∷ h) = epochs_from true e (next ++ record_of a x ∷ []) h
epochs_from false e next (did_write a x ∷ h) = epochs_from false (record { got = e.got; put = e.put ++ record_of a x ∷ [] }) next h
epochs_from sweeping e next (sweep_begins ∷ h) = epochs_from true e next h
epochs_from sweeping e next (sweep_ends ∷ h) = e ∷ epochs_from false (record { got = []; put = next }) [] h

abbrev pub epochs : List Event → List Bags
epochs = epochs_from false no_bags []
