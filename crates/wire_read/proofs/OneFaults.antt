-- The fault of bytes, where a reader stops.
use Rattle.std.proofs.Common.{◌≡◌, ℕ, List, refl, sym, ap, ◌∙◌, subst}
use Rattle.wire_base.specs.declared.error.DecodeError.{DecodeError}
use Rattle.wire_base.specs.Field.{Fields}
use Rattle.wire_base.specs.Limits.{Limits}
use Rattle.wire_read.specs.declared.event.Fault.{Fault}
use Rattle.wire_read.specs.declared.event.Part.{Part}
use Rattle.wire_read.specs.Faults.{IsFault}
use Rattle.wire_read.specs.Laws.{FaultIsBehindLongest, OneFault, OneLongestFront, OnePartFault, ReaderIsStuck, ReaderStops}
use Rattle.wire_read.specs.Opened.{Group, ending_of, left_open, numbers}
use Rattle.wire_read.specs.PartFault.{PartFault}
use Rattle.wire_read.specs.Reading.{place_of}

-- a part is at fault behind these records, in these groups
abbrev PartBehind : Limits → List Group → Fields → List ℕ → Part → List ℕ → DecodeError → Type 0
PartBehind l levels fs rest part place e =
    PartFault (left_open l levels fs) (ending_of (numbers levels)) rest part place e

pub stops : ReaderIsStuck → FaultIsBehindLongest → ReaderStops
stops stuck behind l all items s f here stop =
    let levels = here.levels in
    let fields = here.fields in
    let part : PartBehind l levels fields s.rest f.part stop.place f.error =
    subst (λ (x : List ℕ). PartFault (left_open l levels fields) (ending_of x) s.rest f.part
    stop.place f.error) here.groups
    (subst (λ (x : Limits). PartFault x (ending_of s.groups) s.rest f.part stop.place f.error)
    here.limits stop.part) in
    let is : IsFault l all f = record {
      levels = levels;
      fields = fields;
      rest = s.rest;
      place = stop.place;
      longest = behind l all levels fields s.rest f.part stop.place f.error here.taken part;
      part = part;
      of_list = stuck l all items s f.part stop.place f.error here stop.goes_on stop.part;
      record_place = stop.record_place;
      part_place = stop.part_place;
    } in
    (is, refl, here.groups, here.items_are)

-- faults that say the same are the same
abbrev told : DecodeError → ℕ → Part → ℕ → Fault
told e record_place part part_place =
    record { error = e; record_place = record_place; part = part; part_place = part_place }

same : (f g : Fault) → f.error ≡ g.error → f.record_place ≡ g.record_place → f.part ≡ g.part
    → f.part_place ≡ g.part_place → f ≡ g
same f g errors places parts part_places =
    ap (λ (x : DecodeError). told x f.record_place f.part f.part_place) errors
    ∙ ap (λ (x : ℕ). told g.error x f.part f.part_place) places
    ∙ ap (λ (x : Part). told g.error g.record_place x f.part_place) parts
    ∙ ap (λ (x : ℕ). told g.error g.record_place g.part x) part_places

pub one_fault : OneLongestFront → OnePartFault → OneFault
one_fault fronts part_faults l all f g h k =
    let (levels, fields, rest) = fronts l all h.levels k.levels h.fields k.fields h.rest k.rest
    h.longest k.longest in
    let there : PartBehind l h.levels h.fields h.rest g.part k.place g.error =
    subst (λ (x : List Group). PartBehind l x h.fields h.rest g.part k.place g.error) (sym levels)
    (subst (λ (x : Fields). PartBehind l k.levels x h.rest g.part k.place g.error) (sym fields)
    (subst (λ (x : List ℕ). PartBehind l k.levels k.fields x g.part k.place g.error) (sym rest)
    k.part)) in
    let (parts, places, errors) = part_faults (left_open l h.levels h.fields) (numbers h.levels)
    h.rest f.part g.part h.place k.place f.error g.error h.part there in
    same f g errors (h.record_place ∙ ap (place_of all) rest ∙ sym k.record_place) parts
    (h.part_place ∙ ap (place_of all) places ∙ sym k.part_place)
