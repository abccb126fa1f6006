use Rattle.std.proofs.Common.{◌≡◌, ℕ, ◌<◌, ◌-◌, List, [], ◌∷◌, ◌++◌, length, slice_set, slice_index_or, refl, ap, sym, ◌∙◌, arith, Bor, vec_len}
use Rattle.std.proofs.lemmas.Result.{on_ok_weaker}
use Rattle.words.specs.Taken.{left}
use Rattle.script.specs.Sections.{Outcome, Took, Goes}
use Rattle.script.proofs.section.go_on.Goals as goal

-- what a list holds before its last element, and that element
last_of : (x : Outcome) (xs : List Outcome) (d new : Outcome) → (others : List Outcome) × (x ∷ xs ≡ others ++ slice_index_or (x ∷ xs) (length xs) d ∷ []) × (slice_set (x ∷ xs) (length xs) new ≡ others ++ new ∷ [])
last_of x [] d new = ([], refl, refl)
last_of x (y ∷ ys) d new =
    let rest = last_of y ys d new in
    (x ∷ rest.0, ap (λ (zs : List Outcome). x ∷ zs) rest.1, ap (λ (zs : List Outcome). x ∷ zs) rest.2)

goes : (line : ℕ) (name : List ℕ) (ws : List (List ℕ)) (text : Bor (List ℕ)) (before : List Outcome) (n : ℕ) (old new : Outcome) → n ≡ length before - 1 → 0 < length before → old ≡ slice_index_or before n old → Took line name ws text old new → Goes line name ws text before (slice_set before n new)
goes line name ws text [] n old new e lt is h = absurd (omega arith)
goes line name ws text (x ∷ xs) n old new e lt is h =
    let m : n ≡ length xs = omega arith in
    let last = last_of x xs old new in
    let same : old ≡ slice_index_or (x ∷ xs) (length xs) old = is ∙ ap (λ (i : ℕ). slice_index_or (x ∷ xs) i old) m in
    (last.0, old, new, last.1 ∙ ap (λ (y : Outcome). last.0 ++ y ∷ []) (sym same), h, ap (λ (i : ℕ). slice_set (x ∷ xs) i new) m ∙ last.2)

pub returns-in-Some : goal.returns-in-Some
returns-in-Some c =
    let line = c.args.line.now in let last = c.in-Some.ensures in
    on_ok_weaker c.hand_on.result (λ took.
    goes line.number line.said.name.now (left line.said.words) line.text c.args.sections.now.items (vec_len c.args.sections.now - 1) c.in-Some.section.now c.hand_on.new.section
    (omega arith) (omega (arith, last.variant.0 refl)) last.value took)
    c.hand_on.ensures
