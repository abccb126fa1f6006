-- The array: a bottom store over handed words.
use Rattle.std.specs.Prelude.{◌≡◌, ℕ, ◌^◌, ◌<◌, Bool, true, cond, List, length, slice_index}
use Rattle.parts.specs.Meaning.{Meaning, fit, reading, writing, written}

-- the handed words, and the given width
pub record Words : Type 0 where
  pub words : List ℕ
  pub wide : ℕ

abbrev pub fits : Words → Bool
fits s = fit (length s.words) s.wide

-- An unfit array tells the size 0, so that it declines every call, and the width 0.
abbrev pub array_size : Words → ℕ
array_size s = cond (fits s) (length s.words) 0

abbrev pub array_width : Words → ℕ
array_width s = cond (fits s) s.wide 0

abbrev pub array_meaning : Meaning
array_meaning = record {
  State = Words;
  loyal = λ s. (fits s ≡ true) × ((a : ℕ) → a < length s.words → slice_index s.words a < 2 ^ s.wide);
  cells = λ s. s.words;
  size = array_size;
  width = array_width;
  height = λ _. 0;
  read = λ s a. (reading 0 (array_size s) s.words a, s);
  write = λ s a v. (writing 0 (array_size s) s.wide a v, record { words = written (array_size s) s.wide s.words a v; wide = s.wide });
}
