-- Bags of records, and their tallies.
use Rattle.std.proofs.Common.{◌≡◌, ℕ, ◌+◌, ◌<◌, cond, nat_eq, List, [], ◌∷◌, ◌++◌, sym, refl, ap, ◌∙◌, arith, eq-eqb}
use Rattle.parts.specs.Tallying.{Tallying, Laws}
use Rattle.memory_laws.specs.History.{count, Same}

-- the value after a list of records was added to v
abbrev pub tallied : {V : Type 0} → Tallying V → V → List ℕ → V
tallied l v [] = v
tallied l v (x ∷ xs) = tallied l (l.add v x) xs

pub count_append : (r : ℕ) (xs ys : List ℕ) → count r (xs ++ ys) ≡ count r xs + count r ys
count_append r [] ys = omega arith
count_append r (x ∷ xs) ys = omega (arith, count_append r xs ys)

pub same_append : (xs ys zs : List ℕ) → Same xs ys → Same (xs ++ zs) (ys ++ zs)
same_append xs ys zs h r = omega (arith, h r, count_append r xs zs, count_append r ys zs)

pub tallied_more : {V : Type 0} (l : Tallying V) (v : V) (xs : List ℕ) (x : ℕ) → tallied l v (xs ++ x ∷ []) ≡ l.add (tallied l v xs) x
tallied_more l v [] x = refl
tallied_more l v (y ∷ xs) x = tallied_more l (l.add v y) xs x

-- xs without the first r
abbrev less : ℕ → List ℕ → List ℕ
less r [] = []
less r (x ∷ xs) = cond (nat_eq x r) xs (x ∷ less r xs)

count_less : (a r : ℕ) (xs : List ℕ) → 0 < count a xs → count r xs ≡ cond (nat_eq a r) 1 0 + count r (less a xs)
count_less a r [] h = absurd (omega arith)
count_less a r (x ∷ xs) h =
    let ih : 0 < count a xs → count r xs ≡ cond (nat_eq a r) 1 0 + count r (less a xs) = count_less a r xs in
    grind arith

tallied_less : {V : Type 0} (l : Tallying V) → Laws l → (v : V) (a : ℕ) (xs : List ℕ) → 0 < count a xs → tallied l v xs ≡ tallied l (l.add v a) (less a xs)
tallied_less l t v a [] h = absurd (omega arith)
tallied_less l t v a (x ∷ xs) h =
    let ih : 0 < count a xs → tallied l (l.add v x) xs ≡ tallied l (l.add (l.add v x) a) (less a xs) = tallied_less l t (l.add v x) a xs in
    let s : l.add (l.add v x) a ≡ l.add (l.add v a) x = t.swap v x a in
    grind arith

count_none : (xs : List ℕ) → ((r : ℕ) → count r xs ≡ 0) → xs ≡ []
count_none [] h = refl
count_none (x ∷ xs) h = let z : count x (x ∷ xs) ≡ 0 = h x in let e = eq-eqb x x refl in grind arith

-- one bag has one value
pub one_value : {V : Type 0} (l : Tallying V) → Laws l → (v : V) (xs ys : List ℕ) → Same xs ys → tallied l v xs ≡ tallied l v ys
one_value l t v [] ys same = ap (tallied l v) (sym (count_none ys (λ r. sym (same r))))
one_value l t v (x ∷ xs) ys same =
    let here : 0 < count x ys = let e = eq-eqb x x refl in let z : count x (x ∷ xs) ≡ count x ys = same x in grind arith in
    one_value l t (l.add v x) xs (less x ys) (λ r. omega (arith, same r, count_less x r ys here)) ∙ sym (tallied_less l t v x ys here)

-- a record added first or last
pub tallied_add : {V : Type 0} (l : Tallying V) → Laws l → (v : V) (a : ℕ) (xs : List ℕ) → tallied l (l.add v a) xs ≡ l.add (tallied l v xs) a
tallied_add l t v a [] = refl
tallied_add l t v a (x ∷ xs) = rw (t.swap v a x) (tallied_add l t (l.add v x) a xs)
