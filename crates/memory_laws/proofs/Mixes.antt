-- The mix is one to one on numbers below 2 ^ 64, so both tallies keep their laws.
use Rattle.std.proofs.Common.{◌≡◌, ℕ, ◌+◌, ◌*◌, ◌/◌, ◌%◌, ◌^◌, ◌<◌, sym, ap, ◌∙◌, mod-lt, mod-eq_of_lt, mul_assoc, mul_comm, add-mul, div-add-mod', mul-one, arith}
use native.Mathlib.Nat.{div-eq_of_lt, mul-add-mod_self_right, mod-add-mod, div-div-eq-div-mul}
use lib.Bits.{bit_xor, xor_zero_r, xor_self, xor_assoc, xor_comm, xor_shr, xor_mod, xor_lt}
use Rattle.std.proofs.lemmas.Bool.Decides.{Decides-eqb}
use Rattle.std.proofs.lemmas.Nat.{pow_pos}
use Rattle.parts.specs.Tallying.{Laws}
use Rattle.memory_laws.specs.Mix.{multiplied, folded, mix, sum_tally, xor_tally}

mod_mul : (x y n : ℕ) → (x % n * y) % n ≡ (x * y) % n
mod_mul x y n =
    let parts : x * y ≡ (x / n * y) * n + x % n * y =
    ap (λ z. z * y) (sym (div-add-mod' x n)) ∙ add-mul (x / n * n) (x % n) y ∙ ap (λ z. z + x % n * y) (mul_assoc (x / n) n y ∙ ap (λ z. x / n * z) (mul_comm n y) ∙ sym (mul_assoc (x / n) y n)) in
    sym (ap (λ z. z % n) parts ∙ mul-add-mod_self_right (x / n * y) n (x % n * y))

-- M times this number is 1 modulo 2 ^ 64
unmultiplied : (x : ℕ) → (multiplied x * 17428512612931826493) % 2 ^ 64 ≡ x % 2 ^ 64
unmultiplied x =
    let N : ℕ = 2 ^ 64 in
    mod_mul (x * 0x9E3779B97F4A7C15) 17428512612931826493 N
    ∙ ap (λ z. z % N) (mul_assoc x 0x9E3779B97F4A7C15 17428512612931826493 ∙ mul_comm x (0x9E3779B97F4A7C15 * 17428512612931826493))
    ∙ sym (mod_mul (0x9E3779B97F4A7C15 * 17428512612931826493) x N) ∙ ap (λ z. z % N) (mul_comm 1 x ∙ mul-one x)

multiplied_tells : (x y : ℕ) → multiplied x ≡ multiplied y → x % 2 ^ 64 ≡ y % 2 ^ 64
multiplied_tells x y e = sym (unmultiplied x) ∙ ap (λ z. (z * 17428512612931826493) % 2 ^ 64) e ∙ unmultiplied y

xor_cancel : (x k : ℕ) → bit_xor (bit_xor x k) k ≡ x
xor_cancel x k = xor_assoc x k k ∙ ap (bit_xor x) (xor_self k) ∙ xor_zero_r x

folded_twice : (y : ℕ) → y < 2 ^ 64 → folded (folded y) ≡ y
folded_twice y lt =
    let high : folded y / 2 ^ 32 ≡ y / 2 ^ 32 =
    xor_shr y (y / 2 ^ 32) 32 ∙ ap (bit_xor (y / 2 ^ 32)) (div-div-eq-div-mul y (2 ^ 32) (2 ^ 32) ∙ div-eq_of_lt lt) ∙ xor_zero_r (y / 2 ^ 32) in
    ap (bit_xor (folded y)) high ∙ xor_cancel y (y / 2 ^ 32)

folded_lt : (y : ℕ) → y < 2 ^ 64 → folded y < 2 ^ 64
folded_lt y lt = xor_lt 64 y (y / 2 ^ 32) lt (omega arith)

multiplied_lt : (x : ℕ) → multiplied x < 2 ^ 64
multiplied_lt x = mod-lt (x * 0x9E3779B97F4A7C15) (pow_pos 64)

pub mix_lt : (k r : ℕ) → mix k r < 2 ^ 64
mix_lt k r = multiplied_lt (folded (multiplied (bit_xor r k)))

pub mix_tells : (k a b : ℕ) → a < 2 ^ 64 → b < 2 ^ 64 → mix k a ≡ mix k b → a ≡ b
mix_tells k a b la lb e =
    let y : ℕ = multiplied (bit_xor a k) in let z : ℕ = multiplied (bit_xor b k) in
    let ly : y < 2 ^ 64 = multiplied_lt (bit_xor a k) in let lz : z < 2 ^ 64 = multiplied_lt (bit_xor b k) in
    let f : folded y ≡ folded z = sym (mod-eq_of_lt (folded_lt y ly)) ∙ multiplied_tells (folded y) (folded z) e ∙ mod-eq_of_lt (folded_lt z lz) in
    let s : y ≡ z = sym (folded_twice y ly) ∙ ap folded f ∙ folded_twice z lz in
    let t : bit_xor a k % 2 ^ 64 ≡ bit_xor b k % 2 ^ 64 = multiplied_tells (bit_xor a k) (bit_xor b k) s in
    let back : (r : ℕ) → r < 2 ^ 64 → bit_xor (bit_xor r k % 2 ^ 64) (k % 2 ^ 64) ≡ r =
    λ r lr. sym (xor_mod (bit_xor r k) k 64) ∙ ap (λ x. x % 2 ^ 64) (xor_cancel r k) ∙ mod-eq_of_lt lr in
    sym (back a la) ∙ ap (λ x. bit_xor x (k % 2 ^ 64)) t ∙ back b lb

add_tells : (v x y : ℕ) → x < 2 ^ 64 → y < 2 ^ 64 → (v + x) % 2 ^ 64 ≡ (v + y) % 2 ^ 64 → x ≡ y
add_tells v x y lx ly e = omega arith

pub sum_laws : (k : ℕ) → Laws (sum_tally k)
sum_laws k = record {
  swap = λ v a b. mod-add-mod (v + mix k a) (2 ^ 64) (mix k b) ∙ ap (λ x. x % 2 ^ 64) (omega arith) ∙ sym (mod-add-mod (v + mix k b) (2 ^ 64) (mix k a));
  apart = λ v a b la lb e. mix_tells k a b la lb (add_tells v (mix k a) (mix k b) (mix_lt k a) (mix_lt k b) e);
  same_tells = Decides-eqb;
}

pub xor_laws : (k : ℕ) → Laws (xor_tally k)
xor_laws k = record {
  swap = λ v a b. xor_assoc v (mix k a) (mix k b) ∙ ap (bit_xor v) (xor_comm (mix k a) (mix k b)) ∙ sym (xor_assoc v (mix k b) (mix k a));
  apart = λ v a b la lb e. mix_tells k a b la lb (sym (freed v (mix k a)) ∙ ap (bit_xor v) e ∙ freed v (mix k b));
  same_tells = Decides-eqb;
}
  where
    freed : (v x : ℕ) → bit_xor v (bit_xor v x) ≡ x
    freed v x = sym (xor_assoc v v x) ∙ ap (λ z. bit_xor z x) (xor_self v)
