-- The longest front, and the fault behind it.
use Rattle.std.proofs.Common.{◌≡◌, ◌≢◌, ℕ, List, [], ◌++◌, append-nil, length, refl, sym, ap, ◌∙◌, subst, arith}
use Rattle.wire_base.specs.declared.error.DecodeError.{DecodeError}
use Rattle.wire_base.specs.declared.tag.WireType.TheVariants.{StartGroup, EndGroup}
use Rattle.wire_base.specs.Charge.{payload_charge}
use Rattle.wire_base.specs.Ending.{Ending, by_limit, by_tag}
use Rattle.wire_base.specs.Fault.{PayloadFault}
use Rattle.wire_base.specs.FaultLaws.{NoPayloadBesideFault}
use Rattle.wire_base.specs.Field.{Payload, type_of}
use Rattle.wire_base.specs.Items.{Item, start, end, whole}
use Rattle.wire_base.specs.Limits.{Limits}
use Rattle.wire_base.specs.LimitsLaws.{LimitsAddUp, LevelsAddUp}
use Rattle.wire_base.specs.Read.{Reads}
use Rattle.wire_base.specs.RecordLaws.{OnePayload}
use Rattle.wire_base.specs.Tag.{IsTagSpelling}
use Rattle.wire_base.specs.TagLaws.{OneTag, NoTagBesideFault}
use Rattle.wire_base.specs.Taken.{TakesPayload}
use Rattle.wire_read.specs.declared.event.Part.{Part}
use Rattle.wire_read.specs.Laws.{EventsAreInFront, FaultIsBehindLongest, OneLongestFront}
use Rattle.wire_read.specs.Opened.{Opens, TakesOpen, numbers, ending_of, items_of, items_open, left_open}
use Rattle.wire_read.specs.PartFault.{PartFault}
use Rattle.wire_read.specs.Reading.{At, Moves}
use Rattle.wire_read.specs.Rebuilt.{rebuilt}
use Rattle.wire_read.proofs.Places.{end_is_no_payload, part_of_payload}
use Rattle.wire_read.proofs.Rebuilding.{items_tell}
use Rattle.wire_read.proofs.Walks.{at_with, open_walks, walked_on, walks-append, same_walk, shorter, falls, not_end}

module _ (tags : OneTag) (tag_fault : NoTagBesideFault) (payload_fault : NoPayloadBesideFault) where
  -- no start tag with a slot and a level stands where a part is at fault
  beside_start : (l : Limits) (ending : Ending) (rest place : List ℕ) (part : Part)
      (e : DecodeError) → PartFault l ending rest part place e
      → (n : ℕ) (new : List ℕ) → Opens l n rest new → ⊥
  beside_start l ending rest place part e (PartFault.bad_tag bad) n new h =
      tag_fault rest new n StartGroup e h.tag bad
  beside_start l ending rest place part e (PartFault.no_slot m w behind tag is full) n new h =
      full h.slot
  beside_start l ending rest place part e (PartFault.no_level m behind tag fits level) n new h =
      let some = h.level in omega (arith, level, some)
  beside_start l ending rest place part e (PartFault.end_outside m behind tag fits) n new h =
      let same = tags rest new behind n m StartGroup EndGroup h.tag tag in
      let bad : StartGroup ≡ EndGroup = same.1 in absurd cc
  beside_start l ending rest place part e (PartFault.other_end k behind tag other) n new h =
      let same = tags rest new behind n k StartGroup EndGroup h.tag tag in
      let bad : StartGroup ≡ EndGroup = same.1 in absurd cc
  beside_start l ending rest place part e (PartFault.in_payload m w behind p q tag fits bad) n new h =
      let same = tags rest new behind n m StartGroup w h.tag tag in
      (end_is_no_payload l w behind place part e bad).1 (sym same.1)

  -- nor does the end tag of the group
  beside_end : (l : Limits) (ending : Ending) (rest place : List ℕ) (part : Part)
      (e : DecodeError) → PartFault l ending rest part place e
      → (n : ℕ) (new : List ℕ) → ending ≡ by_tag n → Reads rest (IsTagSpelling n EndGroup) new → ⊥
  beside_end l ending rest place part e (PartFault.bad_tag bad) n new is h =
      tag_fault rest new n EndGroup e h bad
  beside_end l ending rest place part e (PartFault.no_slot m w behind tag inside full) n new is h =
      let same = tags rest new behind n m EndGroup w h tag in
      (subst (λ x. Rattle.wire_base.specs.Ending.IsRecordTag x w) is inside) (sym same.1)
  beside_end l ending rest place part e (PartFault.no_level m behind tag fits level) n new is h =
      let same = tags rest new behind n m EndGroup StartGroup h tag in
      let bad : EndGroup ≡ StartGroup = same.1 in absurd cc
  beside_end l ending rest place part e (PartFault.end_outside m behind tag fits) n new is h =
      absurd cc
  beside_end l ending rest place part e (PartFault.other_end {n = m} k behind tag other) n new is h =
      let same = tags rest new behind n k EndGroup EndGroup h tag in
      let number : m ≡ n = cc in
      other (sym same.0 ∙ sym number)
  beside_end l ending rest place part e (PartFault.in_payload m w behind p q tag fits bad) n new is h =
      let same = tags rest new behind n m EndGroup w h tag in
      (end_is_no_payload l w behind place part e bad).0 (sym same.1)

  -- nor a record that is no group
  beside_whole : (l : Limits) (ending : Ending) (rest place : List ℕ) (part : Part)
      (e : DecodeError) → PartFault l ending rest part place e
      → (n : ℕ) (p : Payload) (after new : List ℕ) → Reads rest (IsTagSpelling n (type_of p)) after
      → TakesPayload (payload_charge p) l n (type_of p) p after new → type_of p ≢ StartGroup → ⊥
  beside_whole l ending rest place part e (PartFault.bad_tag bad) n p after new h taken flat =
      tag_fault rest after n (type_of p) e h bad
  beside_whole l ending rest place part e
      (PartFault.no_slot m w behind tag is full) n p after new h taken flat =
      payload_fault l n (type_of p) after new _ p (PayloadFault.no_slot full) taken
  beside_whole l ending rest place part e
      (PartFault.no_level m behind tag fits level) n p after new h taken flat =
      flat (tags rest after behind n m (type_of p) StartGroup h tag).1
  beside_whole l ending rest place part e
      (PartFault.end_outside m behind tag fits) n p after new h taken flat =
      not_end p (tags rest after behind n m (type_of p) EndGroup h tag).1
  beside_whole l ending rest place part e
      (PartFault.other_end k behind tag other) n p after new h taken flat =
      not_end p (tags rest after behind n k (type_of p) EndGroup h tag).1
  beside_whole l ending rest place part e
      (PartFault.in_payload m w behind r q tag fits bad) n p after new h taken flat =
      let same = tags rest after behind n m (type_of p) w h tag in
      payload_fault l n (type_of p) after new e p
      (subst (λ x. PayloadFault l n (type_of p) x e) (sym same.2)
      (subst (λ v. PayloadFault l n v behind e) (sym same.1)
      (part_of_payload l n w behind place part e fits bad))) taken

  no_move : (l : Limits) (groups : List ℕ) (rest place : List ℕ) (part : Part) (e : DecodeError)
      → PartFault l (ending_of groups) rest part place e
      → (i : Item) (b : List ℕ) (v : At) → Moves i (at_with rest groups l) b v → ⊥
  no_move l groups rest place part e fault (start n) b v (h, hb, hg, hl) =
      beside_start l (ending_of groups) rest place part e fault n v.rest h
  no_move l groups rest place part e fault (end n) b v (h, hb, hg, hl) =
      beside_end l (ending_of groups) rest place part e fault n v.rest (ap ending_of hg) h
  no_move l groups rest place part e fault (whole n p) b v (h, taken, flat, hg, hl) =
      beside_whole l (ending_of groups) rest place part e fault n p b v.rest h taken flat

pub behind_longest : OneTag → NoTagBesideFault → NoPayloadBesideFault → OnePayload → LimitsAddUp
    → LevelsAddUp → FaultIsBehindLongest
behind_longest tags tag_fault payload_fault payloads limits depths l all levels fs rest part place e
    h fault = record {
      taken = h;
      longest = λ outer gs other k.
          let on = walked_on tags payloads (items_open levels fs) (items_open outer gs) _ _ _
          (no_move tags tag_fault payload_fault (left_open l levels fs) (numbers levels) rest place part e
          fault)
          (open_walks limits depths l levels fs all rest h)
          (open_walks limits depths l outer gs all other k) in
          falls on.0 _ _ on.1;
    }

pub one_front : OneTag → OnePayload → LimitsAddUp → LevelsAddUp → OneLongestFront
one_front tags payloads limits depths l all levels outer fs gs rest other h k =
    let count : length rest ≡ length other =
    omega (arith, h.longest outer gs other k.taken, k.longest levels fs rest h.taken) in
    let same = same_walk tags payloads (items_open levels fs) (items_open outer gs) _ _ _ count
    (λ i x y b move. shorter i x y b move) falls
    (open_walks limits depths l levels fs all rest h.taken)
    (open_walks limits depths l outer gs all other k.taken) in
    let records = sym (items_tell levels fs) ∙ ap rebuilt same.0 ∙ items_tell outer gs in
    (ap (λ r. r.levels) records, ap (λ r. r.fields) records, ap (λ s. s.rest) same.1)

pub in_front : OneTag → OnePayload → LimitsAddUp → LevelsAddUp → EventsAreInFront
in_front tags payloads limits depths l all items s fs h spelled fits =
    let taken : TakesOpen l [] fs all [] = record {
      read = record { text = all; parts = sym (append-nil all); spelled = spelled };
      fits = fits;
    } in
    let records = open_walks limits depths l [] fs all [] taken in
    let here = open_walks limits depths l h.levels h.fields all s.rest h.taken in
    let on = walked_on tags payloads (items_of fs) (items_open h.levels h.fields) _ _ _
    (λ i b v move. let less = shorter i _ v b move in omega (arith, less)) records here in
    let same = same_walk tags payloads (items_of fs) (items_open h.levels h.fields ++ on.0) _ _ _
    refl (λ i x y b move. shorter i x y b move) falls records
    (walks-append (items_open h.levels h.fields) on.0 _ _ _ here on.1) in
    (on.0, same.0 ∙ ap (λ x. x ++ on.0) (sym h.items_are))
