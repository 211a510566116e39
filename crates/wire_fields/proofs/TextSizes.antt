-- How many bytes the texts of numbers have at least.
use Rattle.std.proofs.Common.{◌≡◌, ℕ, suc, zero, ◌^◌, ◌<◌, ◌≤◌, List, [], ◌∷◌, length, refl, arith}
use Rattle.std.proofs.lemmas.Bool.{lt-ltb}
use Rattle.std.specs.Int.{w32, w64, to_le_bytes}
use Rattle.std.specs.Prelude.{Bool, true, false, nat_lt, replicate, if◌then◌else◌}
use Rattle.wire_codec.specs.Varint.{digits, shortest_varint}
use Rattle.wire_fields.specs.declared.form.Form.{Form}
use Rattle.wire_fields.specs.declared.form.Form.TheVariants.{Varint, Fixed64, Fixed32}
use Rattle.wire_fields.specs.Packed.{number_text}

-- either of two lists that have some bytes has some
some_of : (test : Bool) (a b : List ℕ) → 1 ≤ length a → 1 ≤ length b
    → 1 ≤ length (if test then a else b)
some_of true a b some_a some_b = some_a
some_of false a b some_a some_b = some_b

some_digits : (more v : ℕ) → 1 ≤ length (digits more v)
some_digits zero v = omega arith
some_digits (suc more) v = some_of (nat_lt v 128) (v ∷ []) _ (omega arith) (omega arith)

-- a varint has some bytes, and one where its number is below 128
pub some_varint : (v : ℕ) → 1 ≤ length (shortest_varint v)
unfolding shortest_varint
some_varint v = some_of (nat_lt v (2 ^ 64)) (digits 9 v) (replicate 10 255) (some_digits 9 v)
    (omega arith)

pub one_byte : (v : ℕ) → v < 128 → length (shortest_varint v) ≡ 1
unfolding shortest_varint
one_byte v h = rw (lt-ltb v (2 ^ 64) (omega arith), lt-ltb v 128 h) refl

-- and so has any number
pub some_text : (form : Form) (x : ℕ) → 1 ≤ length (number_text form x)
some_text Varint x = some_varint x
some_text Fixed64 x = let e : length (to_le_bytes w64 x) ≡ 8 = refl in omega (arith, e)
some_text Fixed32 x = let e : length (to_le_bytes w32 x) ≡ 4 = refl in omega (arith, e)
