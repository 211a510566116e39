-- How many elements a payload has.
use Rattle.std.proofs.Common.{◌≡◌, ℕ, ◌+◌, ◌*◌, List, [], ◌∷◌, length, refl, ap, ◌∙◌, nat_lt, arith}
use Rattle.std.proofs.lemmas.Bool.{le-ltb, lt-ltb}
use Rattle.std.proofs.lemmas.List.Sums.{sum_by-append}
use Rattle.std.proofs.lemmas.List.{length-append}
use Rattle.std.proofs.Math.Nat.{mul-suc}
use Rattle.std.specs.Int.{Width, byte_len}
use Rattle.std.specs.Prelude.{count_by}
use Rattle.wire_base.specs.Varint.{IsSpelling, IsEnded}
use Rattle.wire_scalar.specs.Packed.{SpellsEach}
use Rattle.wire_base.specs.Fixed.{IsFixed}

abbrev ends : List ℕ → ℕ
ends bytes = count_by (λ byte. nat_lt byte 128) bytes

-- one byte of a varint is below 128
one_end : (bytes : List ℕ) → IsEnded bytes → ends bytes ≡ 1
one_end [] h = absurd h
one_end (b ∷ []) h = rw (lt-ltb b 128 h) refl
one_end (b ∷ c ∷ bytes) h = rw (le-ltb b 128 h.0) (one_end (c ∷ bytes) h.1)

pub varints_counted : (numbers text : List ℕ) → SpellsEach IsSpelling numbers text
    → ends text ≡ length numbers
varints_counted [] text s = ap ends s
varints_counted (x ∷ xs) text s =
    let parts : ends text ≡ ends s.0 + ends s.1 = ap ends s.2 ∙ sum_by-append _ s.0 s.1 in
    omega (arith, parts, one_end s.0 s.3.ended, varints_counted xs s.1 s.4)

pub fixed_counted : (width : Width) (numbers text : List ℕ)
    → SpellsEach (IsFixed width) numbers text → length text ≡ byte_len width * length numbers
fixed_counted width [] text s = omega (arith, ap length s)
fixed_counted width (x ∷ xs) text s =
    omega (
      arith,
      ap length s.2,
      length-append s.0 s.1,
      s.3.0,
      fixed_counted width xs s.1 s.4,
      mul-suc (byte_len width) (length xs),
    )
