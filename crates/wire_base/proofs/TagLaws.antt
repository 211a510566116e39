-- Laws of tags: one reading, a shortest text, and a fault exactly where there is no reading.
use Rattle.std.proofs.Common.{◌≡◌, ℕ, zero, suc, ◌/◌, ◌%◌, ◌^◌, ◌<◌, ◌≤◌, ◌⊎◌, inl, inr, List, Some, None, refl, sym, ap, ◌∙◌, subst, arith, ⊎_elim, le-leb}
use Rattle.std.proofs.lemmas.Bool.{cases_lt}
use Rattle.std.proofs.lemmas.Bool.Decides.{nat_tests}
use Rattle.wire_base.specs.declared.error.DecodeError.{DecodeError}
use Rattle.wire_base.specs.declared.tag.WireType.{WireType}
use Rattle.wire_base.specs.declared.tag.WireType.TheVariants.{Varint, Fixed64, LengthDelimited, StartGroup, EndGroup, Fixed32}
use Rattle.wire_base.specs.declared.error.DecodeError.TheVariants.{InvalidWireType, InvalidFieldNumber}
use Rattle.wire_base.specs.FieldNumber.{IsFieldNumber}
use Rattle.wire_base.specs.TagLaws.{OneTag, NoTagBesideFault, TagTextReadsBack, NoTagTextIsShorter, OneTagFault, TagOrFault, TagOrFaultStands}
use Rattle.wire_base.specs.VarintLaws.{VarintOrFault}
use Rattle.wire_base.specs.Read.{Reads}
use Rattle.wire_base.specs.Tag.{wire_number, tag_value, IsTagSpelling, tag_text, tag_error, no_varint, no_tag}
use Rattle.wire_base.specs.Varint.{IsSpelling}
use Rattle.wire_base.proofs.VarintLaws.{same_varint, no_varint_beside_fault_lemma, one_varint_fault_lemma, varint_or_fault_lemma, IsSpelling-shortest_varint, shortest_at_most}

-- ---- wire types and their numbers

-- the wire type of a number
abbrev numbered : ℕ → WireType
numbered zero = Varint
numbered (suc zero) = Fixed64
numbered (suc (suc zero)) = LengthDelimited
numbered (suc (suc (suc zero))) = StartGroup
numbered (suc (suc (suc (suc zero)))) = EndGroup
numbered (suc (suc (suc (suc (suc n))))) = Fixed32

-- the wire type of its own number
numbered-wire_number : (w : WireType) → numbered (wire_number w) ≡ w
numbered-wire_number Varint = refl
numbered-wire_number Fixed64 = refl
numbered-wire_number LengthDelimited = refl
numbered-wire_number StartGroup = refl
numbered-wire_number EndGroup = refl
numbered-wire_number Fixed32 = refl

-- the number of its own wire type
pub wire_number-numbered : (n : ℕ) → n < 6 → wire_number (numbered n) ≡ n
wire_number-numbered zero h = refl
wire_number-numbered (suc zero) h = refl
wire_number-numbered (suc (suc zero)) h = refl
wire_number-numbered (suc (suc (suc zero))) h = refl
wire_number-numbered (suc (suc (suc (suc zero)))) h = refl
wire_number-numbered (suc (suc (suc (suc (suc zero))))) h = refl
wire_number-numbered (suc (suc (suc (suc (suc (suc n)))))) h = absurd (omega arith)

-- two wire types with one number are one
pub one_wire_type : (w x : WireType) → wire_number w ≡ wire_number x → w ≡ x
one_wire_type w x e = sym (numbered-wire_number w) ∙ ap numbered e ∙ numbered-wire_number x

-- six wire types
pub wire_number-below : (w : WireType) → wire_number w < 6
wire_number-below Varint = omega arith
wire_number-below Fixed64 = omega arith
wire_number-below LengthDelimited = omega arith
wire_number-below StartGroup = omega arith
wire_number-below EndGroup = omega arith
wire_number-below Fixed32 = omega arith

-- ---- a tag's number

-- two tags with one number are one
pub one_tag_value : (n k : ℕ) (w x : WireType) → tag_value n w ≡ tag_value k x → (n ≡ k) × (w ≡ x)
one_tag_value n k w x e =
    let low = wire_number-below w in
    let low2 = wire_number-below x in
    (omega arith, one_wire_type w x (omega arith))

-- a tag's number has 32 bits
pub tag_value-below : (n : ℕ) (w : WireType) → IsFieldNumber n → tag_value n w < 2 ^ 32
tag_value-below n w h = omega (arith, wire_number-below w, h.1)

-- a tag's number is past its three low bits
pub tag_value-at_least : (n : ℕ) (w : WireType) → IsFieldNumber n → 8 ≤ tag_value n w
tag_value-at_least n w h = omega (arith, h.0)

-- the low three bits are the wire type
pub tag_value-type : (n : ℕ) (w : WireType) → tag_value n w % 8 ≡ wire_number w
tag_value-type n w = omega (arith, wire_number-below w)

-- ---- why a number is no tag

-- a number past 32 bits
pub tag_error-large : (v : ℕ) → 2 ^ 32 ≤ v → tag_error v ≡ Some InvalidFieldNumber
tag_error-large v h = rw (le-leb (2 ^ 32) v h) refl

-- a number with no wire type
pub tag_error-type : (v : ℕ) → v < 2 ^ 32 → 6 ≤ v % 8 → tag_error v ≡ Some (InvalidWireType (v % 8))
tag_error-type v h high = grind (arith, nat_tests)

-- a number with the field number 0
pub tag_error-small : (v : ℕ) → v % 8 < 6 → v < 8 → tag_error v ≡ Some InvalidFieldNumber
tag_error-small v h low = grind (arith, nat_tests)

-- a number that is a tag's
pub tag_error-none : (v : ℕ) → v < 2 ^ 32 → v % 8 < 6 → 8 ≤ v → tag_error v ≡ None
tag_error-none v h low high = grind (arith, nat_tests)

-- a number is a tag's, or it has an error
pub tag_or_error : (v : ℕ) → ((n : ℕ) × (w : WireType) × IsFieldNumber n × (tag_value n w ≡ v))
    ⊎ ((e : DecodeError) × (tag_error v ≡ Some e))
tag_or_error v =
    ⊎_elim
    (λ small. ⊎_elim
    (λ typed. ⊎_elim
    (λ low. inr (InvalidFieldNumber, tag_error-small v typed low))
    (λ high. inl (
      v / 8,
      numbered (v % 8),
      (omega arith, omega arith),
      omega
          (arith, wire_number-numbered (v % 8) typed),
    ))
    (cases_lt v 8))
    (λ untyped. inr (InvalidWireType (v % 8), tag_error-type v small untyped))
    (cases_lt (v % 8) 6))
    (λ large. inr (InvalidFieldNumber, tag_error-large v large))
    (cases_lt v (2 ^ 32))

-- ---- the laws

-- the shortest text of a tag is a text of it
pub IsTagSpelling-tag_text : (n : ℕ) (w : WireType) → IsFieldNumber n
    → IsTagSpelling n w (tag_text n w)
IsTagSpelling-tag_text n w h =
    record {
      number = h;
      varint = IsSpelling-shortest_varint (tag_value n w)
          (omega (arith, tag_value-below n w h));
    }

-- two readings of a tag at the front of the same bytes are one
pub record SameTag (t u old_rest new_rest : List ℕ) (n k : ℕ) (w x : WireType) : Type 0 where
  pub text : t ≡ u
  pub number : n ≡ k
  pub kind : w ≡ x
  pub rest : old_rest ≡ new_rest

-- a tag is a varint
abbrev pub varint_of_tag : (bytes rest : List ℕ) (n : ℕ) (w : WireType)
    → Reads bytes (IsTagSpelling n w) rest → Reads bytes (IsSpelling (tag_value n w)) rest
varint_of_tag bytes rest n w p =
    record { text = p.text; parts = p.parts; spelled = p.spelled.varint }

-- two tags at the front of one list are one
pub same_tag : (bytes r s : List ℕ) (n k : ℕ) (w x : WireType)
    (p : Reads bytes (IsTagSpelling n w) r) (q : Reads bytes (IsTagSpelling k x) s)
    → SameTag p.text q.text r s n k w x
same_tag bytes r s n k w x p q =
    let same = same_varint bytes r s _ _ (varint_of_tag bytes r n w p)
    (varint_of_tag bytes s k x q) in
    let parts = one_tag_value n k w x same.value in
    record { text = same.text; number = parts.0; kind = parts.1; rest = same.rest }

pub one_tag_lemma : OneTag
one_tag_lemma bytes r s n k w x p q =
    let same = same_tag bytes r s n k w x p q in (same.number, same.kind, same.rest)

-- the number of a tag has no error
tag_error-tag_value : (n : ℕ) (w : WireType) → IsFieldNumber n → tag_error (tag_value n w) ≡ None
tag_error-tag_value n w h =
    tag_error-none (tag_value n w) (tag_value-below n w h)
    (omega (arith, wire_number-below w, tag_value-type n w)) (tag_value-at_least n w h)

pub no_tag_beside_fault_lemma : NoTagBesideFault
no_tag_beside_fault_lemma bytes rest n w e p (no_varint fault) =
    no_varint_beside_fault_lemma bytes rest (tag_value n w) e (varint_of_tag bytes rest n w p) fault
no_tag_beside_fault_lemma bytes rest n w e p (no_tag v after q error) =
    let same = same_varint bytes rest after _ v (varint_of_tag bytes rest n w p) q in
    let none = tag_error-tag_value n w p.spelled.number in
    let wrong : Some e ≡ None = sym error ∙ ap tag_error (sym same.value) ∙ none in
    cc

pub one_tag_fault_lemma : OneTagFault
one_tag_fault_lemma bytes e f (no_varint p) (no_varint q) = one_varint_fault_lemma bytes e f p q
one_tag_fault_lemma bytes e f (no_varint p) (no_tag v after q error) =
    absurd (no_varint_beside_fault_lemma bytes after v e q p)
one_tag_fault_lemma bytes e f (no_tag v after q error) (no_varint p) =
    absurd (no_varint_beside_fault_lemma bytes after v f q p)
one_tag_fault_lemma bytes e f (no_tag v after p error) (no_tag u after2 q error2) =
    let same = same_varint bytes after after2 v u p q in
    let both : Some e ≡ Some f = sym error ∙ ap tag_error same.value ∙ error2 in
    cc

pub tag_text_reads_back_lemma : TagTextReadsBack
tag_text_reads_back_lemma n w rest h =
    record { text = tag_text n w; parts = refl; spelled = IsTagSpelling-tag_text n w h }

pub no_tag_text_is_shorter_lemma : NoTagTextIsShorter
no_tag_text_is_shorter_lemma n w t h = shortest_at_most t (tag_value n w) h.varint

-- a varint is a tag or none
tag_or_fault_from_value : (bytes : List ℕ) (v : ℕ) (rest : List ℕ) → Reads bytes (IsSpelling v) rest
    → ((n : ℕ) × (w : WireType) × IsFieldNumber n × (tag_value n w ≡ v))
    ⊎ ((e : DecodeError) × (tag_error v ≡ Some e)) → TagOrFault bytes
tag_or_fault_from_value bytes v rest p (inl (n, w, h, same)) =
    inl (
      n,
      w,
      rest,
      record {
        text = p.text;
        parts = p.parts;
        spelled = record {
          number = h;
          varint = subst (λ v. IsSpelling v p.text) (sym same) p.spelled;
        };
      },
    )
tag_or_fault_from_value bytes v rest p (inr (e, error)) = inr (e, no_tag v rest p error)

-- a varint or a fault is a tag or a fault
tag_or_fault_from_varint : (bytes : List ℕ) → VarintOrFault bytes → TagOrFault bytes
tag_or_fault_from_varint bytes (inl (v, rest, p)) =
    tag_or_fault_from_value bytes v rest p (tag_or_error v)
tag_or_fault_from_varint bytes (inr (e, fault)) = inr (e, no_varint fault)

pub tag_or_fault_lemma : TagOrFaultStands
tag_or_fault_lemma bytes = tag_or_fault_from_varint bytes (varint_or_fault_lemma bytes)
