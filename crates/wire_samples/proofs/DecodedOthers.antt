-- What a `Person` decodes has unknown fields, and it keeps just these.
use Rattle.std.proofs.Common.{◌≡◌, ℕ, ◌≤◌, List, [], Option, Some, None, Result, Ok, Err, refl, sym, ap, subst, arith}
use Rattle.std.specs.Prelude.{MatchResult}
use Rattle.wire_codec.specs.DecodeError.{DecodeError}
use Rattle.wire_codec.specs.DecodeError.TheVariants.{OutOfMemory}
use Rattle.wire_codec.specs.Charge.{payload_charge, charge, count}
use Rattle.wire_codec.specs.Field.{Payload, Fields, none, field}
use Rattle.wire_codec.specs.Limits.{Limits, Fits, HasRoom}
use Rattle.wire_codec.specs.RecordLaws.{WholeInput}
use Rattle.wire_codec.specs.Spans.{SpellEach}
use Rattle.wire_codec.specs.Taking.{Decodes}
use Rattle.wire_codec.specs.TakingLaws.{RecordsInOrder}
use Rattle.wire_samples.proofs.Others.{others_depth, keeps_others}
use Rattle.wire_samples.specs.Person.{PersonValue, PersonTakes, default_person}
use Rattle.wire_samples.specs.PersonUnknowns.{others_of, HasOthers}

mutual
  payload_elements : (p : Payload) → (payload_charge p).counts.element_memory ≡ 0
  payload_elements (Payload.varint v) = refl
  payload_elements (Payload.fixed64 v) = refl
  payload_elements (Payload.fixed32 v) = refl
  payload_elements (Payload.bytes b) = refl
  payload_elements (Payload.group fs) = omega (arith, no_elements fs)

  no_elements : (fs : Fields) → (charge fs).counts.element_memory ≡ 0
  no_elements none = refl
  no_elements (field n p fs) = omega (arith, payload_elements p, no_elements fs)

no_room_wanted : (left : Option ℕ) (taken : ℕ) → taken ≡ 0 → HasRoom left taken
no_room_wanted None taken is = tt
no_room_wanted (Some left) taken is = omega (arith, is)

-- what decodes has its others, and keeps just these
pub decodes_others : RecordsInOrder → WholeInput → (k l : Limits) (bytes : List ℕ) (z : PersonValue)
    → l.depth ≡ k.depth → l.counts.unknown_fields ≡ k.counts.unknown_fields
    → ((b : ℕ) → HasRoom l.counts.unknown_bytes b → HasRoom k.counts.unknown_bytes b)
    → Decodes PersonTakes l default_person bytes z
    → (fs : Fields) × HasOthers k bytes fs × (z.unknown ≡ others_of fs)
decodes_others laws whole k l bytes z levels counts room (c, taken) =
    let fs = taken.fields in
    let kept = keeps_others laws.charges default_person z fs c taken.folded in
    let read = taken.read in
    let within : Fits (charge (others_of fs)) l =
    subst (λ d. Fits d l) kept.charged read.fields.fits in (
      fs,
      record {
        spelled = ((whole c l fs bytes []).0 read).0;
        depth = omega (arith, kept.depth, within.depth, levels);
        slots = record {
          unknown_fields = subst (λ x. HasRoom x (count (others_of fs))) counts
              within.counts.unknown_fields;
          element_memory = no_room_wanted k.counts.element_memory _
              (no_elements (others_of fs));
          unknown_bytes = room _ within.counts.unknown_bytes;
        };
      },
      kept.unknown,
    )

-- where a `Person` decodes within as many levels and slots and no more bytes, a reader of the
-- others gives just those that it keeps
pub as_decoded : RecordsInOrder → WholeInput → (k : Limits) (bytes : List ℕ)
    (r : Result (List (List ℕ)) DecodeError)
    → ((fs : Fields) → HasOthers k bytes fs
    → MatchResult r (λ view. SpellEach view (others_of fs)) (λ e. e ≡ OutOfMemory))
    → (l : Limits) (z : PersonValue) → l.depth ≡ k.depth
    → l.counts.unknown_fields ≡ k.counts.unknown_fields
    → ((b : ℕ) → HasRoom l.counts.unknown_bytes b → HasRoom k.counts.unknown_bytes b)
    → Decodes PersonTakes l default_person bytes z
    → MatchResult r (λ view. SpellEach view z.unknown × ((charge z.unknown).depth ≤ l.depth))
    (λ e. e ≡ OutOfMemory)
as_decoded laws whole k bytes r only l z levels counts room decoded =
    let (fs, has, unknown) = decodes_others laws whole k l bytes z levels counts room decoded in
    let shallow : (charge z.unknown).depth ≤ l.depth = omega (
      arith,
      ap (λ (gs : Fields). (charge gs).depth) unknown,
      others_depth fs,
      has.depth,
      levels,
    ) in
    by_result fs r (only fs has) unknown shallow
  where
    by_result : (fs : Fields) (r : Result (List (List ℕ)) DecodeError)
        → MatchResult r (λ view. SpellEach view (others_of fs)) (λ e. e ≡ OutOfMemory)
        → z.unknown ≡ others_of fs → (charge z.unknown).depth ≤ l.depth
        → MatchResult r (λ view. SpellEach view z.unknown × ((charge z.unknown).depth ≤ l.depth))
        (λ e. e ≡ OutOfMemory)
    by_result fs (Ok view) found unknown shallow =
        (subst (SpellEach view) (sym unknown) found, shallow)
    by_result fs (Err e) found unknown shallow = found
