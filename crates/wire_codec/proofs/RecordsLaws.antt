-- Records one behind another, and records of the grammar among those of a value.
use Rattle.std.proofs.Common.{◌≡◌, ℕ, List, [], ◌++◌, refl, sym, ap, ◌∙◌, append_assoc}
use Rattle.wire_base.specs.Field.{Payload, Fields, type_of}
use Rattle.wire_base.specs.Tag.{tag_text}
use Rattle.wire_base.specs.Text.{payload_text}
use Rattle.wire_codec.specs.Records.{Records, none, field, plain, plain_payload, text, joined_records}
use Rattle.wire_codec.specs.Records.{of_payload, of_fields}
use Rattle.wire_codec.specs.Sizes.{payload_sizes, sizes}

pub text-joined : (rs qs : Records) → text (joined_records rs qs) ≡ text rs ++ text qs
text-joined none qs = refl
text-joined (field n p rest) qs =
    let tag = tag_text n (type_of (plain_payload p)) in
    let payload = payload_text n (plain_payload p) in
    ap (λ (t : List ℕ). tag ++ (payload ++ t)) (text-joined rest qs)
    ∙ ap (λ (t : List ℕ). tag ++ t) (sym (append_assoc payload (text rest) (text qs)))
    ∙ sym (append_assoc tag (payload ++ text rest) (text qs))

pub sizes-joined : (rs qs : Records) → sizes (joined_records rs qs) ≡ sizes rs ++ sizes qs
sizes-joined none qs = refl
sizes-joined (field n p rest) qs =
    ap (λ (ns : List ℕ). payload_sizes p ++ ns) (sizes-joined rest qs)
    ∙ sym (append_assoc (payload_sizes p) (sizes rest) (sizes qs))

mutual
  plain-of_payload : (p : Payload) → plain_payload (of_payload p) ≡ p
  plain-of_payload (Payload.varint v) = refl
  plain-of_payload (Payload.fixed64 v) = refl
  plain-of_payload (Payload.fixed32 v) = refl
  plain-of_payload (Payload.bytes b) = refl
  plain-of_payload (Payload.group fs) = ap Payload.group (plain-of_fields fs)

  pub plain-of_fields : (fs : Fields) → plain (of_fields fs) ≡ fs
  plain-of_fields Fields.none = refl
  plain-of_fields (Fields.field n p rest) =
      ap (λ (q : Payload). Fields.field n q (plain (of_fields rest))) (plain-of_payload p)
      ∙ ap (Fields.field n p) (plain-of_fields rest)

mutual
  sizes-of_payload : (p : Payload) → payload_sizes (of_payload p) ≡ []
  sizes-of_payload (Payload.varint v) = refl
  sizes-of_payload (Payload.fixed64 v) = refl
  sizes-of_payload (Payload.fixed32 v) = refl
  sizes-of_payload (Payload.bytes b) = refl
  sizes-of_payload (Payload.group fs) = sizes-of_fields fs

  pub sizes-of_fields : (fs : Fields) → sizes (of_fields fs) ≡ []
  sizes-of_fields Fields.none = refl
  sizes-of_fields (Fields.field n p rest) =
      ap (λ (ns : List ℕ). ns ++ sizes (of_fields rest)) (sizes-of_payload p) ∙ sizes-of_fields rest
