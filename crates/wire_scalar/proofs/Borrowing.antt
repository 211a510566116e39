-- The body of a group, taken record by record.
use Rattle.std.proofs.Common.{◌≡◌, ◌≢◌, ℕ, ◌+◌, ◌-◌, ◌≤◌, List, [], ◌++◌, length, take, Option, Some, None, refl, sym, ap, ◌∙◌, subst, ⊎_elim, append_assoc, arith}
use Rattle.std.specs.Prelude.{IfNone}
use Rattle.std.proofs.Math.Seq.{take-append_seam}
use Rattle.std.proofs.lemmas.List.{append-nil, length-append}
use Rattle.wire_base.specs.declared.error.DecodeError.{DecodeError}
use Rattle.wire_base.specs.declared.error.DecodeError.TheVariants.{UnexpectedEof}
use Rattle.wire_base.specs.declared.tag.WireType.{WireType}
use Rattle.wire_base.specs.declared.tag.WireType.TheVariants.{StartGroup}
use Rattle.wire_base.specs.AgreementLaws.{SkippedWhereDecoded, FaultsStay, CutIsShort}
use Rattle.wire_base.specs.Charge.{charge, payload_charge, total}
use Rattle.wire_base.specs.Ending.{by_tag, Ends}
use Rattle.wire_base.specs.Fault.{PayloadFault, ListFault}
use Rattle.wire_base.specs.FaultLaws.{NoPayloadBesideFault, OnePayloadFault}
use Rattle.wire_base.specs.Field.{Payload, group, Fields, none, field, push}
use Rattle.wire_base.specs.Limits.{Limits, Charge, both, uncounted}
use Rattle.wire_base.specs.LimitsLaws.{ChargesAddUp}
use Rattle.wire_base.specs.Read.{Reads}
use Rattle.wire_base.specs.RecordLaws.{OnePayload, RecordsOneByOne}
use Rattle.wire_base.specs.Spells.{Spells, IsPayload}
use Rattle.wire_base.specs.Tag.{IsTagSpelling}
use Rattle.wire_base.specs.Taken.{TakesFields, TakesPayload}
use Rattle.wire_scalar.specs.Borrow.{BorrowsBody}

-- what is charged for one unknown field more
charge-push : ChargesAddUp → (fs : Fields) (n : ℕ) (p : Payload)
    → charge (push fs n p) ≡ both (charge fs) (payload_charge p)
charge-push law fs n p =
    let unknown : ℕ → Payload → Charge = λ n p. payload_charge p in
    law.kept_records (push fs n p) ∙ law.lists unknown fs (field n p none)
    ∙ ap (λ c. both c (total unknown (field n p none))) (sym (law.kept_records fs))
    ∙ ap (both (charge fs)) (law.nothing_last (payload_charge p))

-- one record more, where no count is kept
pub one_more : ChargesAddUp → RecordsOneByOne
    → (depth : ℕ) (fs : Fields) (n : ℕ) (w : WireType) (p : Payload) (old mid behind new : List ℕ)
    → TakesFields (charge fs) (uncounted depth) fs old mid → Reads mid (IsTagSpelling n w) behind
    → TakesPayload (payload_charge p) (uncounted depth) n w p behind new
    → TakesFields (charge (push fs n p)) (uncounted depth) (push fs n p) old new
one_more charges records depth fs n w p old mid behind new h tag payload =
    subst (λ c. TakesFields c (uncounted depth) (push fs n p) old new)
    (sym (charge-push charges fs n p))
    (records.more (charge fs) (payload_charge p)
    (uncounted depth) fs n w p old mid behind new h tag payload)

-- the body that was taken, before its end tag
pub borrows : (l : Limits) (n len : ℕ) (fs : Fields) (old end new : List ℕ)
    → TakesFields (charge fs) l fs old end
    → len + length end ≡ length old → Ends (by_tag n) end new
    → BorrowsBody l n (take len old) old new
borrows l n len fs old end new h same ended =
    let text = h.read.text in
    let whole : len ≡ length text = omega (
      arith,
      ap length h.read.parts
          ∙ length-append text end,
    ) in
    let front : take len old ≡ text = ap (λ k. take k old) whole
    ∙ ap (take (length text)) h.read.parts ∙ take-append_seam text end in
    record {
      fields = fs;
      end = end;
      parts = h.read.parts ∙ ap (λ t. t ++ end) (sym front);
      taken = record {
        read = record {
          text = text;
          parts = front
              ∙ sym (append-nil text);
          spelled = h.read.spelled;
        };
        fits = h.fits;
      };
      ended = ended;
    }

-- where an option has nothing, what is said of that case holds
pub at_none : {T : Type 0} (o : Option T) (P : Type 0) → ((x : T) → o ≡ Some x → ⊥) → IfNone o P → P
at_none None P full h = h
at_none (Some x) P full h = absurd (full x refl)

-- ---- a body that is borrowed, and the group that is decoded

-- what is borrowed is the payload of a group
payload_borrowed : (l : Limits) (n : ℕ) (body old new : List ℕ) (b : BorrowsBody l n body old new)
    → Reads old (IsPayload n StartGroup (group b.fields)) new
payload_borrowed l n body old new b =
    let read = b.taken.read in
    let all : body ≡ read.text = read.parts ∙ append-nil read.text in
    record {
      text = read.text ++ b.ended.text;
      parts = b.parts ∙ ap (λ t. t ++ b.end) all ∙ ap (λ t. read.text ++ t) b.ended.parts
          ∙ sym (append_assoc read.text b.ended.text new);
      spelled = record {
        kind = refl;
        spelled = (
          b.ended.text,
          record { text = read.text; parts = refl; spelled = read.spelled },
          b.ended.spelled,
        );
      };
    }

-- its records are all of its bytes
body_spelled : (l : Limits) (n : ℕ) (body old new : List ℕ) (b : BorrowsBody l n body old new)
    → Spells b.fields body
body_spelled l n body old new b =
    let read = b.taken.read in
    subst (Spells b.fields) (sym (read.parts ∙ append-nil read.text)) read.spelled

-- a fault of the body is one of the group, one level up
fault_outside : (depth n : ℕ) (old : List ℕ) (e : DecodeError)
    → ListFault (uncounted depth) (by_tag n) old e
    → PayloadFault (uncounted (depth + 1)) n StartGroup old e
fault_outside depth n old e fault =
    let same : depth ≡ depth + 1 - 1 = omega arith in
    PayloadFault.in_group (record {
      depth = omega arith;
      counts = record { unknown_fields = tt; element_memory = tt; unknown_bytes = tt };
    }) (omega arith) (subst (λ d. ListFault (uncounted d) (by_tag n) old e) same fault)

module _ (depth n : ℕ) (old : List ℕ) (fs : Fields) where
  pub body_decoded : OnePayload → (body new rest : List ℕ) (l : Limits)
      → BorrowsBody (uncounted depth) n body old new
      → TakesPayload (payload_charge (group fs)) l n StartGroup (group fs) old rest
      → Spells fs body × (new ≡ rest)
  body_decoded one_payload body new rest l b h =
      let one = one_payload n StartGroup (group b.fields) (group fs) old new rest
      (payload_borrowed (uncounted depth) n body old new b) h.read in
      let records : b.fields ≡ fs = let groups = one.0 in cc in (
        subst (λ gs. Spells gs body) records (body_spelled (uncounted depth) n body old new b),
        one.1,
      )

  pub no_fault_decoded : NoPayloadBesideFault → SkippedWhereDecoded → (rest : List ℕ)
      (e : DecodeError) (l : Limits) → l.depth ≡ depth + 1
      → ListFault (uncounted depth) (by_tag n) old e
      → TakesPayload (payload_charge (group fs)) l n StartGroup (group fs) old rest → ⊥
  no_fault_decoded none_beside skipped rest e l level fault h =
      none_beside (uncounted (depth + 1)) n StartGroup old rest e (group fs)
      (fault_outside depth n old e fault)
      (subst (λ d. TakesPayload (payload_charge (group fs)) (uncounted d) n StartGroup (group fs)
      old rest) level (skipped l n StartGroup (group fs) old rest h))

  module _ (cut : CutIsShort) (missing : List ℕ) (some : missing ≢ [])
      (h : TakesPayload (payload_charge (group fs)) (uncounted (depth + 1)) n StartGroup (group fs)
      (old ++ missing) []) where
    short_outside : PayloadFault (uncounted (depth + 1)) n StartGroup old UnexpectedEof
    short_outside = cut (uncounted (depth + 1)) n StartGroup (group fs) old missing some h

    pub not_borrowed_cut : NoPayloadBesideFault → (body new : List ℕ)
        → BorrowsBody (uncounted depth) n body old new → ⊥
    not_borrowed_cut none_beside body new b =
        let level : depth ≤ depth + 1 - 1 = omega arith in
        let fits = b.taken.fits in
        none_beside (uncounted (depth + 1)) n StartGroup old new UnexpectedEof (group b.fields)
        short_outside
        (record {
          read = payload_borrowed (uncounted depth) n body old new b;
          fits = record {
            depth = omega (arith, fits.depth);
            counts = record { unknown_fields = tt; element_memory = tt; unknown_bytes = tt };
          };
        })

    pub short_where_cut : OnePayloadFault → (e : DecodeError)
        → ListFault (uncounted depth) (by_tag n) old e → e ≡ UnexpectedEof
    short_where_cut one_fault e fault =
        one_fault (uncounted (depth + 1)) n StartGroup old e UnexpectedEof
        (fault_outside depth n old e fault) short_outside

-- a refusal but for short input stays
pub stays_refused : FaultsStay → (depth n : ℕ) (old more : List ℕ) (e : DecodeError)
    → ListFault (uncounted depth) (by_tag n) old e → e ≢ UnexpectedEof
    → ListFault (uncounted depth) (by_tag n) (old ++ more) e
stays_refused law depth n old more e fault other =
    ⊎_elim (λ short. absurd (other short)) (λ stays. stays)
    (law.list (uncounted depth) (by_tag n) old more e fault)
