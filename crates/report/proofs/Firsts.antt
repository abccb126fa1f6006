-- Looking for the first, element by element.
use Rattle.std.proofs.Common.{◌≡◌, ℕ, ◌<◌, zero, suc, List, [], ◌∷◌, length, Some, None, Option, MatchOption, sym, refl, ap, ◌∙◌, arith}
use Rattle.std.specs.List.{AllWithin, HoldsAt}
use Rattle.report.specs.Shown.{first_of, or_later}

skipped : {X Y : Type 0} (f : X → Option Y) (x : X) (xs : List X) → f x ≡ None → first_of f (x ∷ xs) ≡ first_of f xs
skipped f x xs none = ap (λ o. or_later o (first_of f xs)) none

all_none : {X Y : Type 0} (f : X → Option Y) (xs : List X) → AllWithin (λ x. f x ≡ None) xs 0 (length xs) → first_of f xs ≡ None
all_none f [] none = refl
all_none f (x ∷ xs) none = skipped f x xs (none 0 x (omega arith) (omega arith)) ∙ all_none f xs (λ k d a b. none (suc k) d (omega arith) (omega arith))

found_at : {X Y : Type 0} (f : X → Option Y) (xs : List X) (y : Y) (i : ℕ) → i < length xs → HoldsAt (λ x. f x ≡ Some y) xs i → AllWithin (λ x. f x ≡ None) xs 0 i → first_of f xs ≡ Some y
found_at f [] y i lt some none = absurd (omega arith)
found_at f (x ∷ xs) y zero lt some none = ap (λ o. or_later o (first_of f xs)) (some x)
found_at f (x ∷ xs) y (suc i) lt some none = skipped f x xs (none 0 x (omega arith) (omega arith)) ∙ found_at f xs y i (omega arith) some (λ k d a b. none (suc k) d (omega arith) (omega arith))

-- what f gives of the first element of which it gives something, or nothing where it gives nothing of any
pub first_found : {X Y : Type 0} (f : X → Option Y) (xs : List X) (r : Option Y) → MatchOption r (AllWithin (λ x. f x ≡ None) xs 0 (length xs)) (λ y. (i : ℕ) × (i < length xs) × HoldsAt (λ x. f x ≡ Some y) xs i × AllWithin (λ x. f x ≡ None) xs 0 i) → r ≡ first_of f xs
first_found f xs None h = sym (all_none f xs h)
first_found f xs (Some y) h = sym (found_at f xs y h.0 h.1 h.2 h.3)
