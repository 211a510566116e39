-- Faults, and bytes that follow them.
use Rattle.std.proofs.Common.{◌≡◌, ◌⊎◌, ℕ, List, [], ◌∷◌, ◌++◌, None, inl, inr, refl, ap, ◌∙◌, subst, ⊎_elim, append_assoc, arith, length-append}
use Rattle.wire_base.specs.declared.error.DecodeError.{DecodeError}
use Rattle.wire_base.specs.declared.error.DecodeError.TheVariants.{UnexpectedEof}
use Rattle.wire_base.specs.declared.tag.WireType.{WireType}
use Rattle.wire_base.specs.declared.tag.WireType.TheVariants as types
use Rattle.wire_base.specs.AgreementLaws.{FaultsStay, CutIsShort}
use Rattle.wire_base.specs.Charge.{payload_charge, charge}
use Rattle.wire_base.specs.Delimited.{IsDelimited, DelimitedFault}
use Rattle.wire_base.specs.Ending.{Ending, by_tag}
use Rattle.wire_base.specs.Fault.{NextTagFault, bad_tag, other_end, PayloadFault, RecordFault, ListFault}
use Rattle.wire_base.specs.Field.{Payload}
use Rattle.wire_base.specs.Limits.{Limits, one_field, left_after, inner}
use Rattle.wire_base.specs.Read.{Reads}
use Rattle.wire_base.specs.Spells.{Spells, IsPayload}
use Rattle.wire_base.specs.Tag.{IsTagSpelling, TagFault}
use Rattle.wire_base.specs.Taken.{TakesPayload}
use Rattle.wire_base.specs.Varint.{IsSpelling, VarintFault}
use Rattle.wire_base.proofs.FaultLaws.{no_payload_beside_fault_lemma}
use Rattle.wire_base.proofs.FieldLaws.{one_payload_lemma}
use Rattle.wire_base.proofs.PlainReader.{payload_or_fault_lemma}
use Rattle.wire_base.proofs.Takes.{goes_on_before}

-- what follows a text may be longer
Reads-longer : (IsText : List ℕ → Type 0) (old new more : List ℕ) → Reads old IsText new
    → Reads (old ++ more) IsText (new ++ more)
Reads-longer IsText old new more h = record {
  text = h.text;
  parts = ap (λ t. t ++ more) h.parts ∙ append_assoc h.text new more;
  spelled = h.spelled;
}

varint_stays : (old more : List ℕ) (e : DecodeError) → VarintFault old e
    → (e ≡ UnexpectedEof) ⊎ VarintFault (old ++ more) e
varint_stays old more e (VarintFault.cut_short all few) = inl refl
varint_stays old more e (VarintFault.too_long front tenth rest parts all nine high) =
    inr (VarintFault.too_long front tenth (rest ++ more)
    (ap (λ t. t ++ more) parts ∙ append_assoc front (tenth ∷ rest) more) all nine high)

delimited_stays : (old more : List ℕ) (e : DecodeError) → DelimitedFault None old e
    → (e ≡ UnexpectedEof) ⊎ DelimitedFault None (old ++ more) e
delimited_stays old more e (DelimitedFault.no_length fault) =
    ⊎_elim inl (λ stays. inr (DelimitedFault.no_length stays)) (varint_stays old more e fault)
delimited_stays old more e (DelimitedFault.too_large len rest h full) =
    inr (DelimitedFault.too_large len (rest ++ more)
    (Reads-longer (IsSpelling len) old rest more h) full)
delimited_stays old more e (DelimitedFault.cut_short len rest h room few) = inl refl

tag_stays : (old more : List ℕ) (e : DecodeError) → TagFault old e
    → (e ≡ UnexpectedEof) ⊎ TagFault (old ++ more) e
tag_stays old more e (TagFault.no_varint fault) =
    ⊎_elim inl (λ stays. inr (TagFault.no_varint stays)) (varint_stays old more e fault)
tag_stays old more e (TagFault.no_tag v rest h is) =
    inr (TagFault.no_tag v (rest ++ more) (Reads-longer (IsSpelling v) old rest more h) is)

next_tag_stays : (ending : Ending) (old more : List ℕ) (e : DecodeError)
    → NextTagFault ending old e → (e ≡ UnexpectedEof) ⊎ NextTagFault ending (old ++ more) e
next_tag_stays ending old more e (bad_tag fault) =
    ⊎_elim inl (λ stays. inr (bad_tag stays)) (tag_stays old more e fault)
next_tag_stays ending old more e (other_end k behind tag other) =
    inr (other_end k (behind ++ more)
    (Reads-longer (IsTagSpelling k types.EndGroup) old behind more tag) other)

mutual
  payload_stays : (l : Limits) (n : ℕ) (w : WireType) (old more : List ℕ) (e : DecodeError)
      → PayloadFault l n w old e → (e ≡ UnexpectedEof) ⊎ PayloadFault l n w (old ++ more) e
  payload_stays l n w old more e (PayloadFault.no_slot full) = inr (PayloadFault.no_slot full)
  payload_stays l n w old more e (PayloadFault.no_varint slot fault) =
      ⊎_elim inl (λ stays. inr (PayloadFault.no_varint slot stays)) (varint_stays old more e fault)
  payload_stays l n w old more e (PayloadFault.short_fixed64 slot short) = inl refl
  payload_stays l n w old more e (PayloadFault.short_fixed32 slot short) = inl refl
  payload_stays l n w old more e (PayloadFault.no_bytes slot fault) =
      ⊎_elim inl (λ stays. inr (PayloadFault.no_bytes slot stays))
      (delimited_stays old more e fault)
  payload_stays l n w old more e (PayloadFault.no_room b rest slot h full) =
      inr (PayloadFault.no_room b (rest ++ more) slot
      (Reads-longer (IsDelimited b) old rest more h) full)
  payload_stays l n w old more e (PayloadFault.end_outside slot) =
      inr (PayloadFault.end_outside slot)
  payload_stays l n w old more e (PayloadFault.no_level slot flat) =
      inr (PayloadFault.no_level slot flat)
  payload_stays l n w old more e (PayloadFault.in_group slot level fault) =
      ⊎_elim inl (λ stays. inr (PayloadFault.in_group slot level stays))
      (list_stays (inner (left_after l one_field)) (by_tag n) old more e fault)

  record_stays : (l : Limits) (ending : Ending) (old more : List ℕ) (e : DecodeError)
      → RecordFault l ending old e → (e ≡ UnexpectedEof) ⊎ RecordFault l ending (old ++ more) e
  record_stays l ending old more e (RecordFault.no_tag fault) =
      ⊎_elim inl (λ stays. inr (RecordFault.no_tag stays)) (next_tag_stays ending old more e fault)
  record_stays l ending old more e (RecordFault.bad_payload n w behind tag is fault) =
      ⊎_elim inl
      (λ stays. inr (RecordFault.bad_payload n w (behind ++ more)
      (Reads-longer (IsTagSpelling n w) old behind more tag) is stays))
      (payload_stays l n w behind more e fault)

  list_stays : (l : Limits) (ending : Ending) (old more : List ℕ) (e : DecodeError)
      → ListFault l ending old e → (e ≡ UnexpectedEof) ⊎ ListFault l ending (old ++ more) e
  list_stays l ending old more e (ListFault.past fs rest taken goes fault) =
      ⊎_elim inl
      (λ stays. inr (ListFault.past fs (rest ++ more)
      (record { read = Reads-longer (Spells fs) old rest more taken.read; fits = taken.fits })
      (goes_on_before ending (rest ++ more) rest (omega (arith, length-append rest more)) goes)
      stays))
      (record_stays (left_after l (charge fs)) ending rest more e fault)

-- ---- a payload that is cut off

-- no payload stands in what was cut off a payload
none_in_front : (l : Limits) (n : ℕ) (w : WireType) (p q : Payload) (front more new : List ℕ)
    → TakesPayload (payload_charge p) l n w p (front ++ more) []
    → Reads front (IsPayload n w q) new → more ≡ []
none_in_front l n w p q front more new whole h =
    let same = one_payload_lemma n w q p (front ++ more) (new ++ more) []
    (Reads-longer (IsPayload n w q) front new more h) whole.read in
    last_empty new more same.1
  where
    last_empty : (a b : List ℕ) → a ++ b ≡ [] → b ≡ []
    last_empty [] b e = e
    last_empty (x ∷ a) b e = absurd cc

-- ---- the laws

pub faults_stay_lemma : FaultsStay
faults_stay_lemma = record { payload = payload_stays; list = list_stays }

pub cut_is_short_lemma : CutIsShort
cut_is_short_lemma l n w p front more some whole =
    ⊎_elim
    (λ there. absurd (some (none_in_front l n w p there.0 front more there.1 whole there.2.read)))
    (λ fault. ⊎_elim (λ short. subst (PayloadFault l n w front) short fault.1)
    (λ stays. absurd (no_payload_beside_fault_lemma l n w (front ++ more) [] fault.0 p stays whole))
    (payload_stays l n w front more fault.0 fault.1))
    (payload_or_fault_lemma l n w front)
