-- The two laws, of each order.
use Rattle.std.specs.Prelude.{◌≡◌, ℕ, true, false, ◌&&◌, ◌||◌, ◌==◌, nat_lt}
use Rattle.std.proofs.Common.{arith}
use Rattle.std.proofs.lemmas.Bool.Decides.{nat_tests}
use Rattle.parts.specs.Orders.{OrderLaws}
use Rattle.order_laws.specs.Ranks.{earlier, lexical}

pub earlier_laws : OrderLaws earlier
earlier_laws = record {
  asymmetric = λ a b h. grind (arith, nat_tests);
  chains = λ a b c h k. grind (arith, nat_tests);
}

-- whatever the two numbers are that are compared one after the other
pub lexical_laws : (first second : ℕ → ℕ) → OrderLaws (lexical first second)
lexical_laws first second = record {
  asymmetric = λ a b h. asymmetric (first a) (second a) (first b) (second b) h;
  chains = λ a b c h k. chains (first a) (second a) (first b) (second b) (first c) (second c) h k;
}
  where
    asymmetric : (r m s n : ℕ) → (nat_lt r s || (r == s && nat_lt m n)) ≡ true → (nat_lt s r || (s == r && nat_lt n m)) ≡ false
    asymmetric r m s n h = grind (arith, nat_tests)

    chains : (r m s n t o : ℕ) → (nat_lt r s || (r == s && nat_lt m n)) ≡ false → (nat_lt s t || (s == t && nat_lt n o)) ≡ false → (nat_lt r t || (r == t && nat_lt m o)) ≡ false
    chains r m s n t o h k = grind (arith, nat_tests)
