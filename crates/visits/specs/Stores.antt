-- The card of a section.
use Rattle.std.specs.Prelude.{ℕ, min, List, replicate}
use Rattle.script.specs.declared.cells.Cells.{Cells}
use Rattle.store.specs.declared.altering.Altering.{Altering}
use Rattle.store.specs.declared.array.Array.{Array}
use Rattle.store_laws.specs.AlteringMachine.{Altered}
use Rattle.store_laws.specs.ArrayMachine.{Words}
use Rattle.store_laws.specs.declared.Alteration.{Alteration}

-- the words of its cells, all of them 0
abbrev pub words_of : Cells → List ℕ
words_of cells = replicate (min cells.size 4097) 0

-- those words, with the alterations to come
abbrev pub altered_card : Cells → List Alteration → Altered Words
altered_card cells alterations = record {
  store = record { words = words_of cells; wide = min cells.width 4294967295 };
  coming = alterations;
  count = 0;
}

-- the state that an altering store over an array is in
abbrev pub state_of : Altering Array → Altered Words
state_of s = record { store = record { words = s.store.words.now; wide = s.store.width }; coming = s.coming.now; count = s.count }
