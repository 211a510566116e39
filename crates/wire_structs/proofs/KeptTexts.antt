-- What is written of a struct, with unknown fields behind it.
use Rattle.std.proofs.Common.{◌≡◌, ℕ, ◌+◌, ◌-◌, ◌^◌, min, ◌++◌, length, ap, sym, ◌∙◌}
use Rattle.std.proofs.Common.{length-append}
use Rattle.wire_base.specs.Text.{size, text_of}
use Rattle.wire_codec.proofs.RecordsLaws.{plain-of_fields, text-joined}
use Rattle.wire_codec.specs.Field.{Fields}
use Rattle.wire_codec.specs.Records.{Records, of_fields, text, text_size}
use Rattle.wire_fields.specs.Numbers.{in_64_bits}
use Rattle.wire_structs.proofs.UnknownSizes.{counted_both}
use Rattle.wire_structs.specs.Unknown.{with_fields}

pub text-with_fields : (rs : Records) (fs : Fields)
    → text (with_fields rs fs) ≡ text rs ++ text_of fs
text-with_fields rs fs =
    text-joined rs (of_fields fs) ∙ ap (λ gs. text rs ++ text_of gs) (plain-of_fields fs)

pub size-with_fields : (rs : Records) (fs : Fields)
    → text_size (with_fields rs fs) ≡ text_size rs + size fs
size-with_fields rs fs =
    ap length (text-with_fields rs fs) ∙ length-append (text rs) (text_of fs)

pub counted_with : (rs : Records) (fs : Fields) (len k sum : ℕ) → len ≡ in_64_bits (text_size rs)
    → k ≡ in_64_bits (size fs) → sum ≡ min (len + k) (2 ^ 64 - 1)
    → sum ≡ in_64_bits (text_size (with_fields rs fs))
counted_with rs fs len k sum one other is =
    counted_both (text_size rs) (size fs) len k sum one other is
    ∙ ap in_64_bits (sym (size-with_fields rs fs))
