-- Where a reader is, event by event.
use Rattle.std.proofs.Common.{◌≡◌, ◌≢◌, ℕ, ◌<◌, List, [], ◌∷◌, ◌++◌, length, refl, sym, ap, ◌∙◌, subst, append-nil, arith, length-append, take, drop}
use Rattle.std.proofs.lemmas.List.{length-take-le}
use Rattle.wire_base.specs.declared.error.DecodeError.{DecodeError}
use Rattle.wire_base.specs.declared.tag.WireType.{WireType}
use Rattle.wire_base.specs.declared.tag.WireType.TheVariants.{StartGroup, EndGroup}
use Rattle.wire_base.specs.Charge.{charge, payload_charge}
use Rattle.wire_base.specs.Ending as endings
use Rattle.wire_base.specs.Fault.{RecordFault, PayloadFault, bad_tag, other_end}
use Rattle.wire_base.specs.Delimited.{DelimitedFault}
use Rattle.wire_base.specs.Field.{Payload, varint, fixed64, fixed32, bytes, group, Fields, none, type_of, push}
use Rattle.wire_base.specs.Items.{Item, start, end, whole}
use Rattle.wire_base.specs.Limits.{Limits, Fits, bytes_charge, one_field, left_after, outer}
use Rattle.wire_base.specs.LimitsLaws.{ChargesAddUp, LimitsAddUp, LevelsAddUp}
use Rattle.wire_base.specs.Read.{Reads}
use Rattle.wire_base.specs.RecordLaws.{RecordsOneByOne}
use Rattle.wire_base.specs.Spells.{Spells}
use Rattle.wire_base.specs.Tag.{IsTagSpelling}
use Rattle.wire_base.specs.Varint.{IsEnded}
use Rattle.wire_base.specs.Taken.{TakesPayload}
use Rattle.wire_read.specs.declared.event.Part.{Part}
use Rattle.wire_read.specs.Laws.{ReaderBegins, ReaderGoesOn, ReaderIsDone, ReaderIsStuck}
use Rattle.wire_read.specs.Opened.{Group, Opens, TakesOpen, numbers, left_open, items_of, payload_items, items_open, in_group, ending_of}
use Rattle.wire_read.specs.PartFault.{PartFault, PayloadPart}
use Rattle.wire_read.specs.Reading.{At, IsAt}
use Rattle.wire_read.proofs.Payloads.{delimited_there}
use Rattle.wire_read.proofs.Opened.{fault_of_all, opened, more, left-more, closed, left-closed, items-more, items-closed}

pub begins : RecordsOneByOne → LimitsAddUp → ReaderBegins
begins records limits l r all h = record {
  levels = [];
  fields = none;
  taken = records.none l all;
  items_are = refl;
  groups = h.groups;
  limits = h.limits ∙ sym (limits.left_after_nothing l);
}

-- the item of a record that is no group
flat_items : (n : ℕ) (p : Payload) → type_of p ≢ StartGroup → whole n p ∷ [] ≡ payload_items n p
flat_items n (varint v) flat = refl
flat_items n (fixed64 v) flat = refl
flat_items n (fixed32 v) flat = refl
flat_items n (bytes b) flat = refl
flat_items n (group fs) flat = absurd (flat refl)

module _ (charges : ChargesAddUp) (records : RecordsOneByOne) (limits : LimitsAddUp)
    (levels : LevelsAddUp) where
  -- the group that an end tag closes
  ends : (l : Limits) (all : List ℕ) (items : List Item) (n : ℕ) (s t : At) (open_groups : List Group)
      (fs : Fields) → TakesOpen l open_groups fs all s.rest → items ≡ items_open open_groups fs
      → s.groups ≡ numbers open_groups → s.limits ≡ left_open l open_groups fs
      → Reads s.rest (IsTagSpelling n EndGroup) t.rest
      → s.groups ≡ n ∷ t.groups → t.limits ≡ outer s.limits
      → IsAt l all (items ++ end n ∷ []) t
  ends l all items n s t [] fs taken is groups left tag closes out =
      let none_open : n ∷ t.groups ≡ [] = sym closes ∙ groups in absurd cc
  ends l all items n s t (g ∷ outside) fs taken is groups left tag closes out =
      let both_are : n ∷ t.groups ≡ g.number ∷ numbers outside = sym closes ∙ groups in
      let number : n ≡ g.number = cc in
      let others : t.groups ≡ numbers outside = cc in
      let (here, behind, before, opens, body) = taken in
      record {
        levels = outside;
        fields = push g.before g.number (group fs);
        taken = closed charges records limits levels l g outside fs all s.rest t.rest taken
            (subst (λ k. Reads s.rest (IsTagSpelling k EndGroup) t.rest) number tag);
        items_are = ap (λ is. is ++ end n ∷ []) is
            ∙ ap (λ k. items_open (g ∷ outside) fs ++ end k ∷ []) number
            ∙ items-closed g outside fs;
        groups = others;
        limits = out ∙ ap outer left
            ∙ left-closed charges limits levels l g outside fs opens.level;
      }

  pub goes_on : ReaderGoesOn
  goes_on l all items (start n) s t behind h (opens, same_place, groups, left) = record {
    levels = record { before = h.fields; number = n } ∷ h.levels;
    fields = none;
    taken = opened records l h.levels h.fields n all s.rest t.rest h.taken
        (subst (λ m. Opens m n s.rest t.rest) h.limits opens);
    items_are = ap (λ is. is ++ start n ∷ []) h.items_are;
    groups = groups ∙ ap (λ gs. n ∷ gs) h.groups;
    limits = left ∙ ap in_group h.limits
        ∙ sym (limits.left_after_nothing (in_group (left_open l h.levels h.fields)));
  }
  goes_on l all items (end n) s t behind h (tag, same_place, groups, left) =
      ends l all items n s t h.levels h.fields h.taken h.items_are h.groups h.limits tag
      groups left
  goes_on l all items (whole n p) s t behind h (tag, payload, flat, groups, left) = record {
    levels = h.levels;
    fields = push h.fields n p;
    taken = more charges records l h.levels h.fields n (type_of p) p all s.rest behind t.rest h.taken
        tag
        (subst (λ m. TakesPayload (payload_charge p) m n (type_of p) p behind t.rest) h.limits
        payload);
    items_are = ap (λ is. is ++ whole n p ∷ []) h.items_are
        ∙ ap (λ is. items_open h.levels h.fields ++ is) (flat_items n p flat)
        ∙ items-more h.levels h.fields n p;
    groups = groups ∙ h.groups;
    limits = left ∙ ap (λ m. left_after m (payload_charge p)) h.limits
        ∙ left-more charges limits l h.levels h.fields n p;
  }

-- ---- the end

all_of : (l : Limits) (all rest : List ℕ) (items : List Item) (open_groups : List Group) (fs : Fields)
    → TakesOpen l open_groups fs all rest → items ≡ items_open open_groups fs
    → numbers open_groups ≡ [] → rest ≡ []
    → (fs : Fields) × Spells fs all × Fits (charge fs) l × (items ≡ items_of fs)
all_of l all rest items [] fs taken is none_open empty = (
  fs,
  subst (Spells fs)
      (sym (taken.read.parts ∙ ap (λ t. taken.read.text ++ t) empty ∙ append-nil taken.read.text))
      taken.read.spelled,
  taken.fits,
  is,
)
all_of l all rest items (g ∷ outside) fs taken is none_open empty = absurd cc

pub is_done : ReaderIsDone
is_done l all items s h done =
    all_of l all s.rest items h.levels h.fields h.taken h.items_are (sym h.groups ∙ done.groups)
    done.rest

-- ---- a fault

-- a tag is some bytes
some_there : (old behind : List ℕ) (n : ℕ) → Reads old (IsTagSpelling n StartGroup) behind
    → 0 < length old
some_there old behind n h = past_tag h.text h.spelled.varint.ended h.parts
  where
    past_tag : (text : List ℕ) → IsEnded text → old ≡ text ++ behind → 0 < length old
    past_tag [] ended e = absurd ended
    past_tag (b ∷ text) ended e = omega (arith, ap length e ∙ length-append (b ∷ text) behind)

-- a payload's part at fault, as the fault of the payload
pub part_of_payload : (l : Limits) (n : ℕ) (w : WireType) (old place : List ℕ) (part : Part)
    (e : DecodeError) → Fits one_field l → PayloadPart l w old part place e
    → PayloadFault l n w old e
part_of_payload l n w old place part e slot (PayloadPart.bad_varint fault) =
    PayloadFault.no_varint slot fault
part_of_payload l n w old place part e slot (PayloadPart.short_fixed64 short) =
    PayloadFault.short_fixed64 slot short
part_of_payload l n w old place part e slot (PayloadPart.short_fixed32 short) =
    PayloadFault.short_fixed32 slot short
part_of_payload l n w old place part e slot (PayloadPart.bad_length fault) =
    PayloadFault.no_bytes slot (DelimitedFault.no_length fault)
part_of_payload l n w old place part e slot (PayloadPart.short_payload len mid h short) =
    PayloadFault.no_bytes slot (DelimitedFault.cut_short len place h tt short)
part_of_payload l n w old place part e slot (PayloadPart.no_room len mid h there over) =
    let few : length (take len place) ≡ len = length-take-le len place there in
    PayloadFault.no_room (take len place) (drop len place) slot
    (delimited_there len old place (take len place) (drop len place) h there refl refl)
    (λ fits. over (subst (λ k. Fits (bytes_charge k) (left_after l one_field)) few fits))

-- no payload is at fault behind the tag of a group's end
pub end_is_no_payload : (l : Limits) (w : WireType) (old place : List ℕ) (part : Part) (e : DecodeError)
    → PayloadPart l w old part place e → (w ≢ EndGroup) × (w ≢ StartGroup)
end_is_no_payload l w old place part e (PayloadPart.bad_varint fault) =
    (λ is. absurd cc, λ is. absurd cc)
end_is_no_payload l w old place part e (PayloadPart.short_fixed64 short) =
    (λ is. absurd cc, λ is. absurd cc)
end_is_no_payload l w old place part e (PayloadPart.short_fixed32 short) =
    (λ is. absurd cc, λ is. absurd cc)
end_is_no_payload l w old place part e (PayloadPart.bad_length fault) =
    (λ is. absurd cc, λ is. absurd cc)
end_is_no_payload l w old place part e (PayloadPart.short_payload len mid h short) =
    (λ is. absurd cc, λ is. absurd cc)
end_is_no_payload l w old place part e (PayloadPart.no_room len mid h there over) =
    (λ is. absurd cc, λ is. absurd cc)

-- a part at fault is the fault of the record
record_tag : (ending : endings.Ending) (w : WireType) → w ≢ EndGroup → endings.IsRecordTag ending w
record_tag (endings.by_limit most) w other = tt
record_tag (endings.by_tag n) w other = other

pub part_of_record : (l : Limits) (ending : endings.Ending) (old place : List ℕ) (part : Part)
    (e : DecodeError) → PartFault l ending old part place e → RecordFault l ending old e
part_of_record l ending old place part e (PartFault.bad_tag bad) = RecordFault.no_tag (bad_tag bad)
part_of_record l ending old place part e (PartFault.no_slot n w behind tag is full) =
    RecordFault.bad_payload n w behind tag is (PayloadFault.no_slot full)
part_of_record l ending old place part e (PartFault.no_level n behind tag fits level) =
    RecordFault.bad_payload n StartGroup behind tag
    (record_tag ending StartGroup (λ is. absurd cc)) (PayloadFault.no_level fits level)
part_of_record l ending old place part e (PartFault.end_outside n behind tag fits) =
    RecordFault.bad_payload n EndGroup behind tag tt (PayloadFault.end_outside fits)
part_of_record l ending old place part e (PartFault.other_end k behind tag other) =
    RecordFault.no_tag (other_end k behind tag other)
part_of_record l ending old place part e (PartFault.in_payload n w behind p q tag fits bad) =
    RecordFault.bad_payload n w behind tag
    (record_tag ending w (end_is_no_payload l w behind place part e bad).0)
    (part_of_payload l n w behind place part e fits bad)

pub is_stuck : ReaderIsStuck
is_stuck l all items s part place e h goes fault =
    fault_of_all l h.levels h.fields all s.rest e some_there h.taken
    (subst (λ gs. endings.GoesOn (ending_of gs) s.rest) h.groups goes)
    (subst (λ m. RecordFault m (ending_of (numbers h.levels)) s.rest e) h.limits
    (subst (λ gs. RecordFault s.limits (ending_of gs) s.rest e) h.groups
    (part_of_record s.limits (ending_of s.groups) s.rest place part e fault)))
