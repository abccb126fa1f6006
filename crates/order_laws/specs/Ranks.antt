-- The two orders.
use Rattle.std.specs.Prelude.{ℕ, ◌/◌, ◌%◌, ◌^◌, Bool, ◌&&◌, ◌||◌, List, [], ◌∷◌, ◌==◌, nat_lt, slice_index}

-- smaller keys first
abbrev pub earlier : ℕ → ℕ → Bool
earlier a b = nat_lt a b

-- the ranks of the classes from 0 up
abbrev pub ranks : List ℕ
ranks = 8 ∷ 0 ∷ 1 ∷ 1 ∷ 2 ∷ 3 ∷ 3 ∷ 2 ∷ 2 ∷ 6 ∷ 6 ∷ 1 ∷ 7 ∷ 7 ∷ 9 ∷ 5 ∷ []

-- A key is a class of 0 to 15 times 2 ^ 24, plus a minute. (Of a number that is no key, the class is taken modulo 16.)
abbrev pub class_of : ℕ → ℕ
class_of k = (k / 2 ^ 24) % 16

abbrev pub minute_of : ℕ → ℕ
minute_of k = k % 2 ^ 24

abbrev pub rank_of : ℕ → ℕ
rank_of k = slice_index ranks (class_of k)

-- the first number decides, and where it is equal the second
abbrev pub lexical : (ℕ → ℕ) → (ℕ → ℕ) → ℕ → ℕ → Bool
lexical first second a b = nat_lt (first a) (first b) || (first a == first b && nat_lt (second a) (second b))

-- the smaller rank first, at equal rank the smaller minute
abbrev pub by_fault : ℕ → ℕ → Bool
by_fault = lexical rank_of minute_of
