-- Unknown fields stay in range, and none of the numbers of the type's table, as records are kept.
use Rattle.std.proofs.Common.{ℕ}
use Rattle.wire_codec.specs.Field.{Payload, Fields, none, field, push}
use Rattle.wire_codec.specs.FieldNumber.{IsFieldNumber}
use Rattle.wire_codec.specs.InRange.{IsPayloadFitting, IsPayloadNumbered}
use Rattle.wire_fields.specs.Sound.{fitting_more, numbered_more}
use Rattle.wire_samples.specs.Kept.{NumbersAre, AreUnknown}

others_more : (IsOther : ℕ → Type 0) (fs : Fields) (n : ℕ) (p : Payload) → NumbersAre IsOther fs
    → IsOther n → NumbersAre IsOther (push fs n p)
others_more IsOther none n p h k = (k, tt)
others_more IsOther (field m q fs) n p h k = (h.0, others_more IsOther fs n p h.1 k)

pub kept_more : (IsOther : ℕ → Type 0) (fs : Fields) (n : ℕ) (p : Payload) → AreUnknown IsOther fs
    → IsOther n → IsFieldNumber n → IsPayloadFitting p → IsPayloadNumbered p
    → AreUnknown IsOther (push fs n p)
kept_more IsOther fs n p h other number fits numbered = record {
  fitting = fitting_more fs n p h.fitting fits;
  numbered = numbered_more fs n p h.numbered number numbered;
  others = others_more IsOther fs n p h.others other;
}

pub none_kept : (IsOther : ℕ → Type 0) → AreUnknown IsOther none
none_kept IsOther = record { fitting = tt; numbered = tt; others = tt }
