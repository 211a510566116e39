-- The records that are not owned, given one after another.
use Rattle.std.proofs.Common.{◌≡◌, ℕ, ◌-◌, List, ◌++◌, length, take, refl, sym, ap, ◌∙◌, append_assoc, arith, length-append}
use Rattle.std.proofs.Math.Seq.{take-append_seam}
use Rattle.std.specs.Prelude.{true, false}
use Rattle.wire_base.specs.Charge.{charge, payload_charge}
use Rattle.wire_base.specs.Field.{Payload, Fields, none, field, joined, push}
use Rattle.wire_base.specs.Limits.{Limits}
use Rattle.wire_base.specs.Read.{Reads}
use Rattle.wire_base.specs.RecordLaws.{PayloadIsField}
use Rattle.wire_base.specs.Tag.{IsTagSpelling}
use Rattle.wire_base.specs.Taken.{TakesFields, TakesPayload}
use Rattle.wire_base.specs.declared.tag.WireType.{WireType}
use Rattle.wire_fields.specs.Shape.{Owns}
use Rattle.wire_structs.proofs.UnknownKept.{unowned-push}
use Rattle.wire_structs.specs.Unknown.{unowned, unless_owned}
use Rattle.wire_structs.specs.UnknownWalks.{GivesUnknown}

-- one owned record more
pub still_owned : (owns : Owns) (fs : Fields) (n : ℕ) (p : Payload) → unowned owns fs ≡ none
    → owns n p ≡ true → unowned owns (push fs n p) ≡ none
still_owned owns fs n p owned is =
    unowned-push owns fs n p
    ∙ ap (λ gs. joined gs (unowned owns (field n p none))) owned
    ∙ ap (λ b. unless_owned b n p none) is

-- the record behind those that are owned
pub given : PayloadIsField → (owns : Owns) (fs : Fields) (n : ℕ) (w : WireType) (p : Payload)
    (l k : Limits) (old now behind new : List ℕ)
    → TakesFields (charge fs) l fs old now → unowned owns fs ≡ none
    → Reads now (IsTagSpelling n w) behind → TakesPayload (payload_charge p) k n w p behind new
    → owns n p ≡ false → GivesUnknown owns old (take (length now - length new) now) new
given law owns fs n w p l k old now behind new h owned tag payload is =
    let text = tag.text ++ payload.read.text in
    let whole : now ≡ text ++ new =
    tag.parts ∙ ap (λ t. tag.text ++ t) payload.read.parts
    ∙ sym (append_assoc tag.text payload.read.text new) in
    let cut : take (length now - length new) now ≡ text = cut_is now text new whole in
    let kind = payload.read.spelled.kind in
    rw cut (record {
      passed = h.read.text;
      before = fs;
      number = n;
      payload = p;
      parts = h.read.parts ∙ ap (λ t. h.read.text ++ t) whole
          ∙ sym (append_assoc h.read.text text new);
      spelled_before = h.read.spelled;
      owned = owned;
      spelled = (law n p text).1 (
        payload.read.text,
        record { text = tag.text; parts = refl; spelled = rw kind tag.spelled },
        rw kind payload.read.spelled,
      );
      is_unowned = is;
    })
  where
    cut_is : (xs text rest : List ℕ) → xs ≡ text ++ rest → take (length xs - length rest) xs ≡ text
    cut_is xs text rest e =
        let long = ap length e ∙ length-append text rest in
        let less : length xs - length rest ≡ length text = omega (arith, long) in
        ap (λ ys. take (length xs - length rest) ys) e
        ∙ ap (λ k. take k (text ++ rest)) less ∙ take-append_seam text rest
