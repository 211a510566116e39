-- One step of a reader.
use Rattle.std.proofs.Common.{◌≡◌, ◌≢◌, ℕ, ◌-◌, ◌<◌, ◌≤◌, List, [], ◌∷◌, ◌++◌, length, length-append, append_assoc, take, drop, min, Option, None, refl, sym, ap, ◌∙◌, subst, arith}
use Rattle.std.proofs.Math.Seq.{drop-append_seam}
use Rattle.std.proofs.lemmas.List.{take-append-drop, drop_min, take_all, length-drop}
use Rattle.wire_base.specs.declared.error.DecodeError.{DecodeError}
use Rattle.wire_base.specs.declared.error.DecodeError.TheVariants.{UnknownFieldLimitExceeded, InvalidWireType, InvalidEndGroup}
use Rattle.wire_base.specs.declared.tag.WireType.{WireType}
use Rattle.wire_base.specs.declared.tag.WireType.TheVariants.{StartGroup, EndGroup}
use Rattle.wire_base.specs.Charge.{payload_charge}
use Rattle.wire_base.specs.Ending.{Ending, GoesOn, IsRecordTag}
use Rattle.wire_base.specs.Field.{Payload, type_of, varint, fixed64, fixed32, bytes, group}
use Rattle.wire_base.specs.Items.{Item, whole, start, end}
use Rattle.wire_base.specs.Limits.{Charge, Fits, HasRoom, Limits, less, one_field, left_after}
use Rattle.wire_base.specs.Read.{Reads}
use Rattle.wire_base.specs.Tag.{IsTagSpelling}
use Rattle.wire_read.specs.declared.event.Part.{Part}
use Rattle.wire_read.specs.declared.event.Part.TheVariants as parts
use Rattle.wire_read.specs.declared.event.Event.{Event}
use Rattle.wire_read.specs.declared.payload.Found.{Found}
use Rattle.wire_read.specs.declared.reader.Reader.{Reader}
use Rattle.wire_read.specs.Budget.{budget, Spends}
use Rattle.wire_read.specs.Opened.{ending_of}
use Rattle.wire_read.specs.PartFault.{PartFault, PayloadPart}
use Rattle.wire_read.specs.Reading.{At, Moves, Stands, Gives, at, facing, groups_of, levels_in, limits_in, item, place_of}
use Rattle.wire_read.proofs.Budgets.{room_none}

-- ---- faults

pub slot : (r : Reader) → HasRoom (budget r.unknown_fields) 1 → Fits one_field (limits_in r)
slot r room = record {
  depth = omega arith;
  counts = record {
    unknown_fields = room;
    element_memory = tt;
    unknown_bytes = room_none (budget r.unknown_bytes);
  };
}

pub record_tag : (groups : List ℕ) (w : WireType) → w ≢ EndGroup → IsRecordTag (ending_of groups) w
record_tag [] w other = tt
record_tag (n ∷ groups) w other = other

pub full_here : (r : Reader) (rest behind : List ℕ) (n : ℕ) (w : WireType)
    → Reads rest (IsTagSpelling n w) behind → w ≢ EndGroup
    → ¬ HasRoom (budget r.unknown_fields) 1
    → PartFault (limits_in r) (ending_of (groups_of r)) rest parts.Tag rest UnknownFieldLimitExceeded
full_here r rest behind n w tag other full =
    PartFault.no_slot n w behind tag (record_tag (groups_of r) w other)
    (λ fits. full fits.counts.unknown_fields)

pub full_at_end : (l : Limits) (groups : List ℕ) (rest behind : List ℕ) (n : ℕ)
    → Reads rest (IsTagSpelling n EndGroup) behind → length groups ≡ 0
    → ¬ HasRoom l.counts.unknown_fields 1
    → PartFault l (ending_of groups) rest parts.Tag rest UnknownFieldLimitExceeded
full_at_end l [] rest behind n tag empty full =
    PartFault.no_slot n EndGroup behind tag tt (λ fits. full fits.counts.unknown_fields)
full_at_end l (g ∷ groups) rest behind n tag empty full = absurd (omega (arith, empty))

pub outside_at_end : (l : Limits) (groups : List ℕ) (rest behind : List ℕ) (n : ℕ)
    → Reads rest (IsTagSpelling n EndGroup) behind → length groups ≡ 0 → Fits one_field l
    → PartFault l (ending_of groups) rest parts.EndTag rest (InvalidWireType 4)
outside_at_end l [] rest behind n tag empty fits = PartFault.end_outside n behind tag fits
outside_at_end l (g ∷ groups) rest behind n tag empty fits = absurd (omega (arith, empty))

pub other_at_end : (l : Limits) (groups others : List ℕ) (g n : ℕ) (rest behind : List ℕ)
    → groups ≡ g ∷ others → g ≢ n → Reads rest (IsTagSpelling n EndGroup) behind
    → PartFault l (ending_of groups) rest parts.EndTag rest (InvalidEndGroup n)
other_at_end l groups others g n rest behind is other tag =
    subst (λ gs. PartFault l (ending_of gs) rest parts.EndTag rest (InvalidEndGroup n)) (sym is)
    (PartFault.other_end n behind tag (λ same. other (sym same)))

-- a part at fault stands in the rest
behind_text : (old text new : List ℕ) → old ≡ text ++ new → length new ≤ length old
behind_text old text new parts = omega (arith, ap length parts ∙ length-append text new)

payload_inside : (l : Limits) (w : WireType) (old place : List ℕ) (part : Part) (e : DecodeError)
    → PayloadPart l w old part place e → length place ≤ length old
payload_inside l w old place part e (PayloadPart.bad_varint fault) = omega arith
payload_inside l w old place part e (PayloadPart.short_fixed64 short) = omega arith
payload_inside l w old place part e (PayloadPart.short_fixed32 short) = omega arith
payload_inside l w old place part e (PayloadPart.bad_length fault) = omega arith
payload_inside l w old place part e (PayloadPart.short_payload len mid h short) =
    behind_text old h.text place h.parts
payload_inside l w old place part e (PayloadPart.no_room len mid h there over) =
    behind_text old h.text place h.parts

pub part_inside : (l : Limits) (ending : Ending) (rest place : List ℕ) (part : Part)
    (e : DecodeError) → PartFault l ending rest part place e → length place ≤ length rest
part_inside l ending rest place part e (PartFault.bad_tag bad) = omega arith
part_inside l ending rest place part e (PartFault.no_slot n w behind tag is full) = omega arith
part_inside l ending rest place part e (PartFault.no_level n behind tag fits level) = omega arith
part_inside l ending rest place part e (PartFault.end_outside n behind tag fits) = omega arith
part_inside l ending rest place part e (PartFault.other_end k behind tag other) = omega arith
part_inside l ending rest place part e (PartFault.in_payload n w behind p q tag fits bad) =
    omega (
      arith,
      behind_text rest tag.text behind tag.parts,
      payload_inside l w behind place part e bad,
    )

pub goes : (groups rest : List ℕ) → (length groups ≡ 0 → length rest ≢ 0)
    → GoesOn (ending_of groups) rest
goes [] rest h = some_left (length rest) (h refl)
  where
    some_left : (k : ℕ) → k ≢ 0 → 0 < k
    some_left k h = omega (arith, h)
goes (g ∷ groups) rest h = tt

-- ---- moves

abbrev limits_with : ℕ → Option ℕ → Option ℕ → Limits
limits_with d fields payloads = record {
  depth = d;
  counts = record { unknown_fields = fields; element_memory = None; unknown_bytes = payloads };
}

limits_are : (d e : ℕ) (a b x y : Option ℕ) → d ≡ e → a ≡ b → x ≡ y
    → limits_with d a x ≡ limits_with e b y
limits_are d e a b x y p q r = rw (p, q, r) refl

-- a record that is no group takes one slot, and the bytes of its payload
abbrev slot_and_bytes : ℕ → Charge
slot_and_bytes count = record {
  depth = 0;
  counts = record { unknown_fields = 1; element_memory = 0; unknown_bytes = count };
}

flat_charge : (p : Payload) → type_of p ≢ StartGroup
    → payload_charge p ≡ slot_and_bytes (payload_charge p).counts.unknown_bytes
flat_charge (varint v) flat = refl
flat_charge (fixed64 v) flat = refl
flat_charge (fixed32 v) flat = refl
flat_charge (bytes b) flat = refl
flat_charge (group fs) flat = absurd (flat refl)

pub moved_whole : (r t : Reader) (n : ℕ) (w : WireType) (rest behind : List ℕ) (found : Found)
    → Reads rest (IsTagSpelling n w) behind → w ≢ StartGroup
    → Stands r.unknown_bytes w behind found
    → Spends 1 r.unknown_fields t.unknown_fields → t.unknown_bytes ≡ found.unknown_bytes
    → groups_of t ≡ groups_of r → t.depth ≡ r.depth
    → Moves (item n found.value) (facing r rest) behind (facing t found.rest.now)
moved_whole r t n w rest behind found tag other h spent same groups depth =
    let p = h.payload in
    let flat : type_of p ≢ StartGroup = λ start. other (sym h.kind ∙ start) in
    let count = (payload_charge p).counts.unknown_bytes in
    let charged : payload_charge p ≡ slot_and_bytes count = flat_charge p flat in
    subst (λ i. Moves i (facing r rest) behind (facing t found.rest.now)) (sym (h.is n)) (
      subst (λ w. Reads rest (IsTagSpelling n w) behind) (sym h.kind) tag,
      record {
        read = record {
          text = (h.read n).text;
          parts = (h.read n).parts;
          spelled = record { kind = refl; spelled = (h.read n).spelled };
        };
        fits = subst (λ c. Fits c (limits_in r)) (sym charged) (record {
          depth = omega arith;
          counts = record {
            unknown_fields = spent.0;
            element_memory = tt;
            unknown_bytes = h.spent.0;
          };
        });
      },
      flat,
      groups,
      limits_are (levels_in t - length (groups_of t)) (levels_in r - length (groups_of r))
          (budget t.unknown_fields) (less (budget r.unknown_fields) 1)
          (budget t.unknown_bytes) (less (budget r.unknown_bytes) count)
          (omega (arith, depth, ap length groups))
          spent.1
          (ap budget same ∙ h.spent.1)
          ∙ ap (left_after (limits_in r)) (sym charged),
    )

-- ---- events

-- the rest of a slice from a place on, or nothing past its end
pub rest_is : (all : List ℕ) (place k : ℕ) → k ≡ min place (length all)
    → take (length all - k) (drop k all) ≡ drop place all
rest_is all place k is =
    take_all (length all - k) (drop k all) (omega (arith, length-drop k all))
    ∙ ap (λ j. drop j all) is ∙ drop_min place all

-- what is left behind a move is the end of what was left
left_behind : (i : Item) (s t : At) (behind : List ℕ) → Moves i s behind t
    → (text : List ℕ) × (s.rest ≡ text ++ t.rest)
left_behind (start n) s t behind (opens, same, groups, left) = (opens.tag.text, opens.tag.parts)
left_behind (end n) s t behind (tag, same, groups, left) = (tag.text, tag.parts)
left_behind (whole n p) s t behind (tag, taken, flat, groups, left) = (
  tag.text ++ taken.read.text,
  tag.parts ∙ ap (λ u. tag.text ++ u) taken.read.parts
      ∙ sym (append_assoc tag.text taken.read.text t.rest),
)

end_of : (all front text rest next : List ℕ) → all ≡ front ++ rest → rest ≡ text ++ next
    → next ≡ drop (length all - length next) all
end_of all front text rest next first then =
    let parts : all ≡ (front ++ text) ++ next =
    first ∙ ap (λ u. front ++ u) then ∙ sym (append_assoc front text next) in
    let count : length all - length next ≡ length (front ++ text) =
    omega (arith, ap length parts ∙ length-append (front ++ text) next) in
    sym (ap (λ k. drop k all) count ∙ ap (drop (length (front ++ text))) parts
    ∙ drop-append_seam (front ++ text) next)

pub gives : (event : Event) (all : List ℕ) (r t : Reader) (rest behind next : List ℕ)
    → rest ≡ drop r.place all
    → Moves (item event.number event.value) (facing r rest) behind (facing t next)
    → event.start ≡ place_of all rest → event.payload ≡ place_of all behind
    → event.end ≡ place_of all next
    → Gives event all (at r all) (facing t (drop (place_of all next) all))
gives event all r t rest behind next is moves first second third =
    let left = left_behind (item event.number event.value) (facing r rest) (facing t next) behind
    moves in
    let next_is : next ≡ drop (place_of all next) all =
    end_of all (take r.place all) left.0 rest next
    (sym (take-append-drop r.place all) ∙ ap (λ u. take r.place all ++ u) (sym is)) left.1 in
    record {
      behind = behind;
      moves = subst
          (λ u. Moves (item event.number event.value) (at r all) behind (facing t u)) next_is
          (subst (λ u. Moves (item event.number event.value) (facing r u) behind (facing t next)) is
          moves);
      start = first ∙ ap (place_of all) is;
      payload = second;
      end = third ∙ ap (place_of all) next_is;
    }
