-- The fading box: what it does to each PDU, from a seed of 32 bits.
use Rattle.std.specs.Prelude.{cond, List, ℕ, ◌+◌, ◌*◌, ◌/◌, ◌%◌, ◌^◌, eqb, ltb, get_or, set}
use Rattle.std.specs.Int.Bits.{bit_xor}
use Rattle.fading.specs.declared.fade.Fade.{Fade}
use Rattle.fading.specs.declared.fade.Fade.TheVariants.{Heard, Lost, Doubled, Turned}

-- Ten bytes with one bit turned; bit 0 is the highest bit of byte 0.
abbrev pub bit_turned : ℕ → List ℕ → List ℕ
bit_turned bit bs = cond (ltb (bit / 8) 10) (set bs (bit / 8) (bit_xor (get_or bs (bit / 8) 0) (128 / 2 ^ (bit % 8)))) bs

-- One step of the generator.
abbrev pub stepped : ℕ → ℕ
stepped n = (n * 1664525 + 1013904223) % 4294967296

-- The fade by the top three bits of a step, and the bit turned by the step after it.
abbrev pub fade_by : ℕ → ℕ → Fade
fade_by top next = cond (eqb top 0) Lost (cond (eqb top 1) Doubled (cond (eqb top 2) (Turned (next / 65536 % 80)) Heard))

abbrev pub fade_after : ℕ → Fade
fade_after n = fade_by (stepped n / 2 ^ 29) (stepped (stepped n))

-- The state after a fade: two steps where a bit was turned, and else one.
abbrev pub state_after : ℕ → ℕ
state_after n = cond (eqb (stepped n / 2 ^ 29) 2) (stepped (stepped n)) (stepped n)
