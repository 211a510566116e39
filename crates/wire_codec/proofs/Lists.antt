-- Records that a message type takes from the front of bytes, one by one.
use Rattle.std.proofs.Common.{◌≡◌, ℕ, ◌<◌, List, refl, sym, ap, ◌∙◌, subst, arith}
use Rattle.std.specs.Prelude.{Option, Some, None, IfNone}
use Rattle.wire_base.specs.declared.error.DecodeError.{DecodeError}
use Rattle.wire_base.specs.declared.tag.WireType.{WireType}
use Rattle.wire_base.specs.declared.tag.WireType.TheVariants as types
use Rattle.wire_base.specs.Ending.{Ending, by_limit, by_tag, GoesOn, Ends, IsRecordTag}
use Rattle.wire_base.specs.Fault.{NextTagFault, bad_tag, other_end}
use Rattle.wire_base.specs.Field.{Payload, varint, fixed64, fixed32, bytes, group}
use Rattle.wire_base.specs.Field.{Fields, none, field, type_of}
use Rattle.wire_base.specs.Limits.{Limits, Charge, Fits, left_after, both, no_charge, inner, outer}
use Rattle.wire_base.specs.LimitsLaws.{LevelsAddUp}
use Rattle.wire_base.specs.Read.{Reads}
use Rattle.wire_base.specs.Spells.{IsPayload}
use Rattle.wire_base.specs.Tag.{IsTagSpelling, TagFault}
use Rattle.wire_base.specs.Taken.{TakesUntil}
use Rattle.wire_codec.specs.Folds.{Step, IsSingle, Folds}
use Rattle.wire_codec.specs.Nested.{TakesGroup}
use Rattle.wire_codec.specs.Taking.{TakesRecord, TakesList, IsCharged, NotTaken}
use Rattle.wire_codec.specs.TakingLaws.{RecordsInOrder}

-- no end of the list stands here
abbrev pub NotEnded : Ending → List ℕ → Type 0
NotEnded ending now = (new : List ℕ) → Ends ending now new → ⊥

-- the first of the records, and the others
pub record Head {V : Type 0} (takes : Step V) (l : Limits) (ending : Ending) (m : V)
    (old : List ℕ) (c : Charge) (z : V) (new : List ℕ) : Type 0 where
  pub n : ℕ
  pub payload : Payload
  pub behind : List ℕ
  pub next : List ℕ
  pub mid : V
  pub first : Charge
  pub others : Charge
  pub tag : Reads old (IsTagSpelling n (type_of payload)) behind
  pub read : Reads behind (IsPayload n (type_of payload) payload) next
  pub fits : Fits first l
  pub step : takes m n payload first mid
  pub rest : TakesList takes (left_after l first) ending mid next others z new

-- what is taken from here on is what is taken from the start
pub record Follows {V : Type 0} (takes : Step V) (ending : Ending) (l : Limits) (m : V)
    (old : List ℕ) (k : Limits) (v : V) (now : List ℕ) : Type 0 where
  pub charge : Charge
  pub left : k ≡ left_after l charge
  pub on : (c : Charge) (z : V) (new : List ℕ) → TakesList takes k ending v now c z new
      → TakesList takes l ending m old (both charge c) z new
  pub back : (c : Charge) (z : V) (new : List ℕ) → TakesList takes l ending m old c z new
      → (d : Charge) × TakesList takes k ending v now d z new

module _ (order : RecordsInOrder) where
  -- where a record's tag stands and the list goes on, no end of it stands
  pub not_ended : (ending : Ending) (n : ℕ) (w : WireType) (now behind : List ℕ)
      → GoesOn ending now → Reads now (IsTagSpelling n w) behind → IsRecordTag ending w
      → NotEnded ending now
  not_ended (by_limit most) n w now behind goes tag is new ended = omega (arith, ended.0)
  not_ended (by_tag k) n w now behind goes tag is new ended =
      is (order.reading.tag now behind new n k w types.EndGroup tag ended).1

module _ (order : RecordsInOrder) {V : Type 0} (takes : Step V) where
  -- one record more in front
  pub with_front : (l : Limits) (ending : Ending) (n : ℕ) (w : WireType) (m mid z : V)
      (old behind next new : List ℕ) (c d : Charge)
      → GoesOn ending old → Reads old (IsTagSpelling n w) behind
      → TakesRecord takes l n w m behind d mid next
      → TakesList takes (left_after l d) ending mid next c z new
      → TakesList takes l ending m old (both d c) z new
  with_front l ending n w m mid z old behind next new c d goes tag h rest = record {
    fields = field n h.payload rest.fields;
    read = order.front.more c d l ending n w h.payload rest.fields old behind next new goes tag
        h.read rest.read;
    folded = (mid, d, c, h.step, rest.folded, refl);
  }

  -- the first record, where the list does not end
  pub head : (l : Limits) (ending : Ending) (m z : V) (old new : List ℕ) (c : Charge)
      → NotEnded ending old → TakesList takes l ending m old c z new
      → Head takes l ending m old c z new
  head l ending m z old new c some h = head_of h.fields h.read h.folded
    where
      head_of : (fs : Fields) → TakesUntil c l ending fs old new → Folds takes m fs c z
          → Head takes l ending m old c z new
      head_of none read folded = absurd (some new (order.front.none c l ending old new read))
      head_of (field n p others) read (mid, first, behind_charge, step, folded, sum) =
          let (behind, next, goes, tag, payload, rest) =
          order.front.first behind_charge first l ending n p others old new
          (subst (λ x. TakesUntil x l ending (field n p others) old new) sum read) in
          record {
            n = n;
            payload = p;
            behind = behind;
            next = next;
            mid = mid;
            first = first;
            others = behind_charge;
            tag = tag;
            read = payload.read;
            fits = payload.fits;
            step = step;
            rest = record { fields = others; read = rest; folded = folded };
          }

  -- at the start
  pub at_start : (ending : Ending) (l : Limits) (m : V) (old : List ℕ)
      → Follows takes ending l m old l m old
  at_start ending l m old = record {
    charge = no_charge;
    left = sym (order.limits.left_after_nothing l);
    on = λ c z new h. subst (λ x. TakesList takes l ending m old x z new)
        (sym (order.charges.nothing_first c)) h;
    back = λ c z new h. (c, h);
  }

  -- at the end
  pub at_end : (ending : Ending) (l k : Limits) (m v : V) (old now new : List ℕ)
      → Follows takes ending l m old k v now → Ends ending now new
      → IsCharged l k (λ c. TakesList takes l ending m old c v new)
  at_end ending l k m v old now new h ended = record {
    charge = h.charge;
    taken = subst (λ x. TakesList takes l ending m old x v new)
        (order.charges.nothing_last h.charge)
        (h.on no_charge v new (record {
          fields = none;
          read = order.front.ended k ending now new ended;
          folded = (refl, refl);
        }));
    left = h.left;
  }

  -- no tag stands here
  pub no_tag : (ending : Ending) (l k : Limits) (m v : V) (old now : List ℕ) (e : DecodeError)
      → Follows takes ending l m old k v now → NotEnded ending now → TagFault now e
      → NotTaken (TakesList takes l ending m old)
  no_tag ending l k m v old now e h some fault = λ c z new taken.
      let here = h.back c z new taken in
      let first = head k ending v z now new here.0 some here.1 in
      order.tag_fault now first.behind first.n (type_of first.payload) e first.tag fault

-- the first record, where its tag is read
pub record HeadBehind {V : Type 0} (takes : Step V) (l : Limits) (ending : Ending) (n : ℕ)
    (w : WireType) (m : V) (behind : List ℕ) (z : V) (new : List ℕ) : Type 0 where
  pub next : List ℕ
  pub mid : V
  pub first : Charge
  pub others : Charge
  pub taken : TakesRecord takes l n w m behind first mid next
  pub rest : TakesList takes (left_after l first) ending mid next others z new

-- the same record, and what follows it, where the record is read
pub record Rest {V : Type 0} (takes : Step V) (l : Limits) (ending : Ending) (m : V)
    (old : List ℕ) (z : V) (new : List ℕ) : Type 0 where
  pub charge : Charge
  pub taken : TakesList takes l ending m old charge z new

module _ (order : RecordsInOrder) {V : Type 0} (takes : Step V) where
  pub head_behind : (l : Limits) (ending : Ending) (n : ℕ) (w : WireType) (m z : V)
      (now behind new : List ℕ) (c : Charge) → Reads now (IsTagSpelling n w) behind
      → NotEnded ending now → TakesList takes l ending m now c z new
      → HeadBehind takes l ending n w m behind z new
  head_behind l ending n w m z now behind new c tag some h =
      let first = head order takes l ending m z now new c some h in
      let same = order.reading.tag now behind first.behind n first.n w (type_of first.payload)
      tag first.tag in
      record {
        next = first.next;
        mid = first.mid;
        first = first.first;
        others = first.others;
        taken = rw (same.0, same.1, same.2) (record {
          payload = first.payload;
          read = record { read = first.read; fits = first.fits };
          step = first.step;
        });
        rest = first.rest;
      }

  -- no record is taken here
  pub no_record : (ending : Ending) (l k : Limits) (n : ℕ) (w : WireType) (m v : V)
      (old now behind : List ℕ) → Follows takes ending l m old k v now
      → Reads now (IsTagSpelling n w) behind → NotEnded ending now
      → NotTaken (TakesRecord takes k n w v behind) → NotTaken (TakesList takes l ending m old)
  no_record ending l k n w m v old now behind h tag some untaken = λ c z new taken.
      let here = h.back c z new taken in
      let first = head_behind k ending n w v z now behind new here.0 tag some here.1 in
      untaken first.first first.mid first.next first.taken

  module _ (single : IsSingle takes) where
    -- a record is taken in one way
    pub rest_of : (l : Limits) (ending : Ending) (n : ℕ) (w : WireType) (m u z : V)
        (behind next new : List ℕ) (d : Charge) → TakesRecord takes l n w m behind d u next
        → HeadBehind takes l ending n w m behind z new
        → Rest takes (left_after l d) ending u next z new
    rest_of l ending n w m u z behind next new d h k =
        let same = order.reading.payload n w h.payload k.taken.payload behind next k.next
        h.read.read k.taken.read.read in
        let one = single m m u k.mid n h.payload d k.first h.step
        (subst (λ p. takes m n p k.first k.mid) (sym same.0) k.taken.step) in
        record {
          charge = k.others;
          taken = rw (one.0, one.1 refl, same.1) k.rest;
        }

    -- one record more
    pub one_more : (ending : Ending) (l k left : Limits) (n : ℕ) (w : WireType) (m v u : V)
        (old now behind next : List ℕ) (d : Charge) → Follows takes ending l m old k v now
        → GoesOn ending now → Reads now (IsTagSpelling n w) behind → IsRecordTag ending w
        → TakesRecord takes k n w v behind d u next → left ≡ left_after k d
        → Follows takes ending l m old left u next
    one_more ending l k left n w m v u old now behind next d h goes tag is taken left_is = record {
      charge = both h.charge d;
      left = left_is ∙ ap (λ (x : Limits). left_after x d) h.left
          ∙ order.limits.left_after_both l h.charge d;
      on = λ c z new rest. subst (λ x. TakesList takes l ending m old x z new)
          (sym (order.charges.assoc h.charge d c))
          (h.on (both d c) z new (with_front order takes k ending n w v u z now behind next new c d
          goes tag taken (subst (λ x. TakesList takes x ending u next c z new) left_is rest)));
      back = λ c z new whole.
          let here = h.back c z new whole in
          let some = not_ended order ending n w now behind goes tag is in
          let first = head_behind k ending n w v z now behind new here.0 tag some here.1 in
          let rest = rest_of k ending n w v u z behind next new d taken first in (
            rest.charge,
            subst (λ x. TakesList takes x ending u next rest.charge z new) (sym left_is) rest.taken,
          );
    }

-- ---- groups

-- no record has the wire type of an end
not_end_type : (p : Payload) → types.EndGroup ≡ type_of p → ⊥
not_end_type (varint v) e = cc
not_end_type (fixed64 v) e = cc
not_end_type (fixed32 v) e = cc
not_end_type (bytes b) e = cc
not_end_type (group fs) e = cc

-- an option that has nothing
pub at_none : {T : Type 0} (o : Option T) (P : Type 0) → ((x : T) → o ≡ Some x → ⊥) → IfNone o P → P
at_none None P full h = h
at_none (Some x) P full h = absurd (full x refl)

module _ (order : RecordsInOrder) {V : Type 0} (takes : Step V) where
  -- neither a record's tag nor the group's end tag stands here
  pub no_next_tag : (number : ℕ) (l k : Limits) (m v : V) (old now : List ℕ) (e : DecodeError)
      → Follows takes (by_tag number) l m old k v now → NextTagFault (by_tag number) now e
      → NotTaken (TakesList takes l (by_tag number) m old)
  no_next_tag number l k m v old now e h (bad_tag fault) c z new taken =
      no_tag order takes (by_tag number) l k m v old now e h
      (λ r ended. order.tag_fault now r number types.EndGroup e ended fault) fault c z new taken
  no_next_tag number l k m v old now e h (other_end j behind tag other) c z new taken =
      let here = h.back c z new taken in
      let some : NotEnded (by_tag number) now = λ r ended.
      other (order.reading.tag now behind r j number types.EndGroup types.EndGroup tag ended).0 in
      let first = head order takes k (by_tag number) v z now new here.0 some here.1 in
      not_end_type first.payload (order.reading.tag now behind first.behind j first.n types.EndGroup
      (type_of first.payload) tag first.tag).1

  -- a level, the body of a group, and the level again
  pub group_end : (levels : LevelsAddUp) (number : ℕ) (l k : Limits) (m v : V)
      (old now new : List ℕ) → 0 < l.depth
      → Follows takes (by_tag number) (inner l) m old k v now → Ends (by_tag number) now new
      → IsCharged l (outer k) (λ c. TakesGroup takes l number m old c v new)
  group_end levels number l k m v old now new level h ended =
      let whole = at_end order takes (by_tag number) (inner l) k m v old now new h ended in
      record {
        charge = whole.charge;
        taken = record { level = level; taken = whole.taken };
        left = ap outer whole.left ∙ levels.left_after_nested l whole.charge level;
      }
