-- The mix of a record under a key, and the two tallies.
use Rattle.std.specs.Prelude.{ℕ, ◌+◌, ◌*◌, ◌/◌, ◌%◌, ◌^◌, bit_xor, nat_eq}
use Rattle.parts.specs.Tallying.{Tallying}

abbrev pub multiplied : ℕ → ℕ
multiplied x = (x * 0x9E3779B97F4A7C15) % 2 ^ 64

-- x, and x shifted right by 32 bits
abbrev pub folded : ℕ → ℕ
folded x = bit_xor x (x / 2 ^ 32)

abbrev pub mix : ℕ → ℕ → ℕ
mix k r = multiplied (folded (multiplied (bit_xor r k)))

abbrev pub sum_tally : ℕ → Tallying ℕ
sum_tally k = record { start = 0; add = λ v r. (v + mix k r) % 2 ^ 64; same = nat_eq }

abbrev pub xor_tally : ℕ → Tallying ℕ
xor_tally k = record { start = 0; add = λ v r. bit_xor v (mix k r); same = nat_eq }
