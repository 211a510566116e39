-- What decoding of unknown fields tells, step by step.
use Rattle.std.proofs.Common.{◌≡◌, ◌<◌, ◌≤◌, inl, inr, ℕ, List, [], length, take, drop, Result, Ok, Err, refl, sym, ap, ◌∙◌, subst, ⊎_elim, length-take-le}
use Rattle.std.specs.Prelude.{IfOk, IfErr, MatchResult}
use Rattle.wire_base.specs.declared.error.DecodeError.{DecodeError}
use Rattle.wire_base.specs.declared.error.DecodeError.TheVariants.{OutOfMemory, UnknownFieldLimitExceeded}
use Rattle.wire_base.specs.declared.tag.WireType.{WireType}
use Rattle.wire_base.specs.declared.tag.WireType.TheVariants as types
use Rattle.wire_base.specs.Charge.{charge, payload_charge}
use Rattle.wire_base.specs.Ending.{Ending, by_input, by_tag, GoesOn, IsRecordTag}
use Rattle.wire_base.specs.Fault.{NextTagFault, PayloadFault, no_tag, bad_payload, past, in_group, no_room}
use Rattle.wire_base.specs.Field.{Payload, Fields, none, field, push}
use Rattle.wire_base.specs.Limits.{Limits, Fits, both, left_after, one_field, bytes_charge, inner}
use Rattle.wire_base.specs.Read.{Reads}
use Rattle.wire_base.specs.Refusal.{PayloadWantsMemory, FieldsWantMemory, for_bytes, for_field, for_payload, in_group as memory_in_group, PayloadRefusal, ListRefusal}
use Rattle.wire_base.specs.Spells.{Spells}
use Rattle.wire_base.specs.Tag.{IsTagSpelling}
use Rattle.wire_base.specs.Taken.{TakesFields, TakesPayload}
use Rattle.wire_base.specs.Varint.{IsSpelling}
use Rattle.wire_base.proofs.DelimitedLaws.{delimited_at}
use Rattle.wire_base.proofs.FieldLaws.{one_spelled_lemma, none_takes_nothing}
use Rattle.wire_base.proofs.FaultLaws.{no_list_beside_fault_lemma}
use Rattle.wire_base.proofs.LimitsLaws.{left_after-both, left_after-nothing}
use Rattle.wire_base.proofs.Payloads.{takes_bytes}
use Rattle.wire_base.proofs.Takes.{takes_field, whole_input_lemma}

-- ---- one payload

-- memory for a payload that is there
pub no_memory_for_bytes : (l : Limits) (n len : ℕ) (old mid : List ℕ) → Fits one_field l
    → Reads old (IsSpelling len) mid → len ≤ length mid
    → Fits (bytes_charge len) (left_after l one_field)
    → PayloadRefusal l n types.LengthDelimited old OutOfMemory
no_memory_for_bytes l n len old mid slot h there room =
    inr (
      refl,
      for_bytes (take len mid) (drop len mid)
          (takes_bytes l n slot len old mid (drop len mid) h there refl room).fits
          (delimited_at len old mid (drop len mid) h there refl),
    )

-- a payload that is there, and more than the bytes that are left
pub no_room_for_bytes : (l : Limits) (n len : ℕ) (old mid : List ℕ) → Fits one_field l
    → Reads old (IsSpelling len) mid → len ≤ length mid
    → ¬ Fits (bytes_charge len) (left_after l one_field)
    → PayloadFault l n types.LengthDelimited old UnknownFieldLimitExceeded
no_room_for_bytes l n len old mid slot h there full =
    no_room (take len mid) (drop len mid) slot
    (delimited_at len old mid (drop len mid) h there refl)
    (λ room. full (subst (λ k. Fits (bytes_charge k) (left_after l one_field))
    (length-take-le len mid there) room))

-- what a payload leaves, behind its slot
pub left_after-bytes : (l slot now : Limits) (len : ℕ) (b mid : List ℕ)
    → slot ≡ left_after l one_field → now ≡ left_after slot (bytes_charge len)
    → b ≡ take len mid → len ≤ length mid → now ≡ left_after l (payload_charge (Payload.bytes b))
left_after-bytes l slot now len b mid first second is there =
    second ∙ ap (λ m. left_after m (bytes_charge len)) first
    ∙ left_after-both l one_field (bytes_charge len)
    ∙ ap (λ k. left_after l (both one_field (bytes_charge k)))
    (sym (ap length is ∙ length-take-le len mid there))

-- a refusal in a group, under the limits that are left there
pub refused_in_group : (l left : Limits) (n k : ℕ) (old : List ℕ) (e : DecodeError)
    → Fits one_field l → 0 < l.depth → left ≡ inner (left_after l one_field) → k ≡ n
    → ListRefusal left (by_tag k) old e → PayloadRefusal l n types.StartGroup old e
refused_in_group l left n k old e slot level is same (inl fault) =
    inl (in_group slot level (rw (is, same) at fault))
refused_in_group l left n k old e slot level is same (inr memory) =
    inr (memory.0, memory_in_group slot level (rw is at memory.1))

-- ---- one record of a list

-- one record more is not none
push_not_none : (gs : Fields) (n : ℕ) (p : Payload) → push gs n p ≡ none → ⊥
push_not_none none n p e = cc
push_not_none (field m q gs) n p e = cc

-- memory that a record wants behind others is wanted in their list
wanted_behind : (l : Limits) (fs : Fields) (old rest : List ℕ) (n : ℕ) (w : WireType)
    (behind : List ℕ) → TakesFields (charge fs) l fs old rest
    → Reads rest (IsTagSpelling n w) behind
    → PayloadWantsMemory (left_after l (charge fs)) w behind → FieldsWantMemory l old
wanted_behind l none old rest n w behind h tag memory =
    let same = none_takes_nothing old rest h.read in
    for_payload n w behind (subst (λ t. Reads t (IsTagSpelling n w) behind) (sym same) tag)
    (subst (λ m. PayloadWantsMemory m w behind) (left_after-nothing l) memory)
wanted_behind l (field m q fs) old rest n w behind h tag memory =
    for_field (field m q fs) rest (λ e. cc) h

module _ (l : Limits) (ending : Ending) (fs : Fields) (old rest : List ℕ)
    (h : TakesFields (charge fs) l fs old rest) where
  -- behind the records that were read, no tag of another
  pub refused_tag : (e : DecodeError) → GoesOn ending rest → NextTagFault ending rest e
      → ListRefusal l ending old e
  refused_tag e goes fault = inl (past fs rest h goes (no_tag fault))

  -- or no payload
  pub refused_payload : (left : Limits) (n : ℕ) (w : WireType) (behind : List ℕ) (e : DecodeError)
      → GoesOn ending rest → Reads rest (IsTagSpelling n w) behind → IsRecordTag ending w
      → left ≡ left_after l (charge fs) → PayloadRefusal left n w behind e
      → ListRefusal l ending old e
  refused_payload left n w behind e goes tag is left_is (inl fault) =
      inl (past fs rest h goes (bad_payload n w behind tag is (rw left_is at fault)))
  refused_payload left n w behind e goes tag is left_is (inr memory) =
      inr (memory.0, wanted_behind l fs old rest n w behind h tag (rw left_is at memory.1))

  -- or no memory to keep it
  pub refused_push : (left : Limits) (n : ℕ) (w : WireType) (p : Payload) (behind new : List ℕ)
      → Reads rest (IsTagSpelling n w) behind → left ≡ left_after l (charge fs)
      → TakesPayload (payload_charge p) left n w p behind new
      → ListRefusal l ending old OutOfMemory
  refused_push left n w p behind new tag left_is payload =
      inr (
        refl,
        for_field (push fs n p) new (push_not_none fs n p)
            (takes_field l fs n w p old rest behind new h tag (rw left_is at payload)),
      )

-- ---- the whole input

-- where bytes spell records within the limits, no reader of them gives others or another error than
-- want of memory
pub only_these : (l : Limits) (bytes : List ℕ) (r : Result Fields DecodeError)
    → IfOk r (λ fs. Spells fs bytes) → IfErr r (ListRefusal l by_input bytes)
    → (fs : Fields) → Spells fs bytes → Fits (charge fs) l
    → MatchResult r (λ read. read ≡ fs) (λ e. e ≡ OutOfMemory)
only_these l bytes (Ok read) spelled refusal fs s fits = one_spelled_lemma read fs bytes spelled s
only_these l bytes (Err e) spelled refusal fs s fits =
    ⊎_elim
    (λ fault. absurd
    (no_list_beside_fault_lemma l by_input bytes [] e fs fault
    ((whole_input_lemma (charge fs) l fs bytes []).1 (s, fits, refl))))
    (λ memory. memory.0)
    refusal
