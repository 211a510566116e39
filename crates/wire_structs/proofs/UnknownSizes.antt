-- How many bytes the shortest form of records takes, counted record by record.
use Rattle.std.proofs.Common.{◌≡◌, ℕ, ◌+◌, ◌-◌, ◌^◌, min, List, ◌++◌, length, ap, sym, ◌∙◌, arith, refl, subst}
use Rattle.std.proofs.Common.{length-append, append-nil}
use Rattle.wire_base.proofs.JoinedLaws.{text_of-joined}
use Rattle.wire_base.specs.Field.{Payload, Fields, none, field, group, push, type_of}
use Rattle.wire_base.specs.Tag.{tag_text}
use Rattle.wire_base.specs.Text.{payload_text, record_text, text_of, size}
use Rattle.wire_base.specs.declared.tag.WireType.TheVariants.{StartGroup, EndGroup}
use Rattle.wire_fields.specs.Numbers.{in_64_bits}
use Rattle.std.specs.Prelude.{Result}
use Rattle.wire_codec.specs.EncodeError.{EncodeError}
use Rattle.wire_codec.specs.Records.{text}
use Rattle.wire_codec.specs.Writes.{Held, Writes}
use Rattle.wire_structs.specs.Payloads.{payload_record, scalar_payload}
use Rattle.wire_structs.specs.declared.payload.ScalarPayload.{ScalarPayload}
use Rattle.wire_structs.specs.declared.payload.ScalarPayload.TheVariants as payloads
use Rattle.wire_base.specs.Charge.{payload_charge}
use Rattle.wire_base.specs.Limits.{uncounted}
use Rattle.wire_base.specs.Read.{Reads}
use Rattle.wire_base.specs.Spells.{IsPayload}
use Rattle.wire_base.specs.Taken.{TakesPayload}
use Rattle.wire_base.specs.declared.tag.WireType.{WireType}

-- two texts that were counted each
pub counted_both : (a b len k sum : ℕ) → len ≡ in_64_bits a → k ≡ in_64_bits b
    → sum ≡ min (len + k) (2 ^ 64 - 1) → sum ≡ in_64_bits (a + b)
counted_both a b len k sum one other is = omega (arith, one, other, is)

-- a record is as long as its text
pub one_text : (n : ℕ) (p : Payload) → text_of (field n p none) ≡ record_text n p
one_text n p = ap (λ t. tag_text n (type_of p) ++ t) (append-nil (payload_text n p))

pub text_of-push : (fs : Fields) (n : ℕ) (p : Payload)
    → text_of (push fs n p) ≡ text_of fs ++ record_text n p
text_of-push fs n p =
    text_of-joined fs (field n p none) ∙ ap (λ t. text_of fs ++ t) (one_text n p)

size-push : (fs : Fields) (n : ℕ) (p : Payload)
    → size (push fs n p) ≡ size fs + length (record_text n p)
size-push fs n p = ap length (text_of-push fs n p) ∙ length-append (text_of fs) (record_text n p)

-- one record more is counted
pub counted_push : (fs : Fields) (n : ℕ) (p : Payload) (len k sum : ℕ) → len ≡ in_64_bits (size fs)
    → k ≡ in_64_bits (length (record_text n p)) → sum ≡ min (len + k) (2 ^ 64 - 1)
    → sum ≡ in_64_bits (size (push fs n p))
counted_push fs n p len k sum one other is =
    counted_both (size fs) (length (record_text n p)) len k sum one other is
    ∙ ap in_64_bits (sym (size-push fs n p))

-- the end tag of a group behind its records
pub counted_body : (n : ℕ) (fs : Fields) (len k sum : ℕ) → len ≡ in_64_bits (size fs)
    → k ≡ length (tag_text n EndGroup) → sum ≡ min (len + k) (2 ^ 64 - 1)
    → sum ≡ in_64_bits (length (payload_text n (group fs)))
counted_body n fs len k sum one is total =
    omega (arith, one, is, total, length-append (text_of fs) (tag_text n EndGroup))

-- its start tag before all
pub counted_group : (n : ℕ) (fs : Fields) (len k sum : ℕ)
    → len ≡ in_64_bits (length (payload_text n (group fs)))
    → k ≡ length (tag_text n StartGroup) → sum ≡ min (len + k) (2 ^ 64 - 1)
    → sum ≡ in_64_bits (length (record_text n (group fs)))
counted_group n fs len k sum one is total =
    omega (
      arith,
      one,
      is,
      total,
      length-append (tag_text n StartGroup) (payload_text n (group fs)),
    )

-- a payload that is no group takes no level
scalar_levels : (s : ScalarPayload) → (payload_charge (scalar_payload s)).depth ≡ 0
scalar_levels (payloads.Varint x) = refl
scalar_levels (payloads.Fixed64 x) = refl
scalar_levels (payloads.Fixed32 x) = refl
scalar_levels (payloads.Bytes b) = refl

pub takes_scalar : (levels n : ℕ) (w : WireType) (s : ScalarPayload) (old new : List ℕ)
    → Reads old (IsPayload n w (scalar_payload s)) new
    → TakesPayload (payload_charge (scalar_payload s)) (uncounted levels) n w (scalar_payload s)
    old new
takes_scalar levels n w s old new h = record {
  read = h;
  fits = record {
    depth = omega (arith, scalar_levels s);
    counts = record { unknown_fields = tt; element_memory = tt; unknown_bytes = tt };
  };
}

-- the record of a scalar value, as a record of the grammar
pub payload_text_of : (n : ℕ) (s : ScalarPayload)
    → text (payload_record n s) ≡ record_text n (scalar_payload s)
payload_text_of n (payloads.Varint x) = one_text n (Payload.varint x)
payload_text_of n (payloads.Fixed64 x) = one_text n (Payload.fixed64 x)
payload_text_of n (payloads.Fixed32 x) = one_text n (Payload.fixed32 x)
payload_text_of n (payloads.Bytes b) = one_text n (Payload.bytes b.now)

-- what is written of a scalar value is written of its record
pub scalar_put : (n : ℕ) (s : ScalarPayload) (old new : Held) (r : Result (Unit {0}) EncodeError)
    → Writes (text (payload_record n s)) old new r
    → Writes (record_text n (scalar_payload s)) old new r
scalar_put n s old new r h = subst (λ t. Writes t old new r) (payload_text_of n s) h
