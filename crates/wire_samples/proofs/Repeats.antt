-- The text of a `Repeat`.
use Rattle.std.proofs.Common.{◌≡◌, ℕ, zero, suc, ◌+◌, ◌*◌, ◌-◌, ◌<◌, ◌≤◌, ◌^◌, min, ◌⊎◌, inl, inr}
use Rattle.std.proofs.Common.{Bool, true, false, List, [], ◌∷◌, ◌++◌, length, refl, sym, ap, ◌∙◌}
use Rattle.std.proofs.Common.{append_assoc, arith}
use Rattle.std.proofs.lemmas.List.{append-nil}
use Rattle.wire_codec.specs.Field.{Payload}
use Rattle.wire_codec.specs.Tag.{tag_text}
use Rattle.wire_codec.specs.Text.{record_text}
use Rattle.wire_codec.specs.Varint.{shortest_varint}
use Rattle.wire_codec.specs.WireType.TheVariants.{Varint}
use Rattle.wire_codec.specs.Records.{Records, field, varint, joined_records, text, text_size}
use Rattle.wire_codec.specs.Sizes.{sizes, cut}
use Rattle.wire_samples.specs.Repeat.{zeros, extra_record}

-- two bytes for each
one_more : (rest : Records) → text (field 1 (varint 0) rest) ≡ 8 ∷ 0 ∷ text rest
unfolding shortest_varint
one_more rest = refl

-- three bytes, or none
pub size-extra : text_size (extra_record true) ≡ 3
unfolding shortest_varint
size-extra = refl

pub size-repeated : (times : ℕ) (rest : Records)
    → text_size (joined_records (zeros times) rest) ≡ 2 * times + text_size rest
size-repeated zero rest = omega arith
size-repeated (suc times) rest =
    omega
    (arith, ap length (one_more (joined_records (zeros times) rest)), size-repeated times rest)

sizes-repeated : (times : ℕ) (rest : Records) → sizes rest ≡ []
    → sizes (joined_records (zeros times) rest) ≡ []
sizes-repeated zero rest none_there = none_there
sizes-repeated (suc times) rest none_there = sizes-repeated times rest none_there

sizes-extra : (extra : Bool) → sizes (extra_record extra) ≡ []
sizes-extra false = refl
sizes-extra true = refl

pub sizes-repeat : (times : ℕ) (extra : Bool)
    → sizes (joined_records (zeros times) (extra_record extra)) ≡ []
sizes-repeat times extra = sizes-repeated times (extra_record extra) (sizes-extra extra)

pub extra_size : (extra : Bool) (n : ℕ) → (extra ≡ true) × (n ≡ 3) ⊎ (extra ≡ false) × (n ≡ 0)
    → n ≡ text_size (extra_record extra)
extra_size extra n (inl is) = is.1 ∙ sym size-extra
    ∙ ap (λ (b : Bool). text_size (extra_record b)) (sym is.0)
extra_size extra n (inr is) = is.1 ∙ ap (λ (b : Bool). text_size (extra_record b)) (sym is.0)

-- the sum of 64 bits, cut to 32
pub repeat_size : (times n all : ℕ) (extra : Bool) → n ≡ text_size (extra_record extra)
    → all ≡ min (min (times * 2) (2 ^ 64 - 1) + n) (2 ^ 64 - 1)
    → cut all ≡ cut (text_size (joined_records (zeros times) (extra_record extra)))
repeat_size times n all extra is sum = omega (arith, size-repeated times (extra_record extra))

-- the record that is written next
pub next_record : (times done : ℕ) (rest : Records) → done < times
    → text (joined_records (zeros (times - done)) rest)
    ≡ record_text 1 (Payload.varint 0) ++ text (joined_records (zeros (times - (done + 1))) rest)
next_record times done rest more =
    let left : times - done ≡ suc (times - (done + 1)) = omega arith in
    ap (λ (n : ℕ). text (joined_records (zeros n) rest)) left
    ∙ sym (append_assoc (tag_text 1 Varint) (shortest_varint 0)
    (text (joined_records (zeros (times - (done + 1))) rest)))

-- no record of field 1 is left
pub no_more : (times done : ℕ) (rest : Records) → times ≤ done
    → text (joined_records (zeros (times - done)) rest) ≡ text rest
no_more times done rest all =
    let none_left : times - done ≡ 0 = omega arith in
    ap (λ (n : ℕ). text (joined_records (zeros n) rest)) none_left

pub extra_text : (extra : Bool) → extra ≡ true
    → text (extra_record extra) ≡ record_text 2 (Payload.varint 128)
extra_text extra is = ap (λ (b : Bool). text (extra_record b)) is
    ∙ ap (λ (t : List ℕ). tag_text 2 Varint ++ t) (append-nil (shortest_varint 128))

pub no_extra_text : (extra : Bool) → extra ≡ false → text (extra_record extra) ≡ []
no_extra_text extra is = ap (λ (b : Bool). text (extra_record b)) is
