-- What a loyal store that holds known words does, way by way.
use Rattle.std.proofs.Common.{◌≡◌, ℕ, ◌^◌, ◌<◌, ◌≤◌, true, List, length, get_or, set, Ok, refl, ap, ◌∙◌, arith}
use Rattle.std.proofs.lemmas.Bool.{lt-ltb}
use Rattle.std.proofs.lemmas.Bool.Decides.{nat_tests}
use Rattle.parts.specs.Meaning.{Meaning, Keeps, Holds, fit, written}

pub fit_says : (n w : ℕ) → fit n w ≡ true → (1 ≤ n) × (n ≤ 4096) × (1 ≤ w) × (w ≤ 48)
fit_says n w h = grind (arith, nat_tests)

pub says_fit : (n w : ℕ) → 1 ≤ n → n ≤ 4096 → 1 ≤ w → w ≤ 48 → fit n w ≡ true
says_fit n w a b c d = grind (arith, nat_tests)

pub loyal_holds : (m : Meaning) (s : m.State) → m.loyal s → Holds m (m.width s) (m.height s) (m.cells s) s
loyal_holds m s h = record { loyal = h; cells_are = refl; width_is = refl; height_is = refl }

-- what holds after a call, told by the words before it
pub holds_on : (m : Meaning) {w h w' h' : ℕ} {ys zs : List ℕ} {s : m.State} → Holds m w' h' ys s → w' ≡ w → h' ≡ h → ys ≡ zs → Holds m w h zs s
holds_on m d p q r = record { loyal = d.loyal; cells_are = d.cells_are ∙ r; width_is = d.width_is ∙ p; height_is = d.height_is ∙ q }

module _ (m : Meaning) (k : Keeps m) (w h : ℕ) (xs : List ℕ) (s : m.State) (d : Holds m w h xs s) where
  pub size_is : m.size s ≡ length xs
  size_is = (k.sized s d.loyal).0 ∙ ap length d.cells_are

  module _ (a : ℕ) where
    pub read_holds : Holds m w h xs (m.read s a).1
    read_holds = holds_on m (k.read_leaves s d.loyal a) d.width_is d.height_is d.cells_are

    module _ (lt : a < length xs) where
      inside : a < m.size s
      inside = rw size_is lt

      pub read_is : (m.read s a).0 ≡ Ok (get_or xs a 0)
      read_is = k.reads s d.loyal a ∙ rw (lt-ltb a (m.size s) inside) (ap (λ (ys : List ℕ). Ok (get_or ys a 0)) d.cells_are)

      pub word_below : get_or xs a 0 < 2 ^ w
      word_below = rw (← d.cells_are, ← d.width_is) (k.below s d.loyal a inside)

      module _ (v : ℕ) (lv : v < 2 ^ w) where
        narrow : v < 2 ^ m.width s
        narrow = rw d.width_is lv

        pub write_is : (m.write s a v).0 ≡ Ok tt
        write_is = k.writes s d.loyal a v ∙ rw (lt-ltb a (m.size s) inside, lt-ltb v (2 ^ m.width s) narrow)

        pub write_holds : Holds m w h (set xs a v) (m.write s a v).1
        write_holds =
            let e : written (m.size s) (m.width s) (m.cells s) a v ≡ set xs a v =
            rw (lt-ltb a (m.size s) inside, lt-ltb v (2 ^ m.width s) narrow) (ap (λ (ys : List ℕ). set ys a v) d.cells_are) in
            holds_on m (k.write_leaves s d.loyal a v) d.width_is d.height_is e
