-- How many levels the entry of a map takes that bytes are read as: those of the groups among its
-- other fields.
use Rattle.std.proofs.Common.{◌≡◌, inl, inr, ℕ, suc, ◌≤◌, max, Bool, true, false, refl, sym, ap, ◌∙◌, arith, List, [], length, length-append}
use Rattle.std.specs.Prelude.{◌==◌, ◌||◌}
use Rattle.wire_base.proofs.FaultLaws.{no_list_beside_fault_lemma}
use Rattle.wire_base.proofs.FieldLaws.{rest_below}
use Rattle.wire_base.proofs.PlainReader.{list_or_fault_lemma}
use Rattle.wire_base.proofs.Takes.{whole_input_lemma}
use Rattle.wire_base.specs.Ending.{by_input}
use Rattle.wire_base.specs.FaultLaws.{ListOrFault}
use Rattle.wire_codec.specs.Charge.{payload_charge, charge, total}
use Rattle.wire_codec.specs.Field.{Payload, Fields, varint, fixed64, fixed32, bytes, group, none, field}
use Rattle.wire_codec.specs.Folds.{Folds}
use Rattle.wire_codec.specs.Limits.{Charge, both, no_charge, nested, element_of, uncounted}
use Rattle.wire_codec.specs.Spells.{SpellsPayload, Spells}
use Rattle.wire_codec.specs.TakingLaws.{OneReading}
use Rattle.wire_fields.specs.Dropped.{drops, levels_of}
use Rattle.wire_fields.specs.Maps.{EntryOf, entry_takes, entry_default, reads_entry}
use Rattle.wire_fields.specs.Presence.{sets}
use Rattle.wire_fields.specs.Scalar.{ScalarType}
use Rattle.wire_fields.specs.Shape.{on, either, FieldKind}

-- ---- the records that bytes spell

abbrev pub records_found : {b : List ℕ} → ListOrFault (uncounted (length b)) by_input b → Fields
records_found (inl found) = found.0
records_found (inr fault) = none

-- the records that all of the bytes spell, of which there is one list at most (`found_is`); none
-- where they spell none
abbrev pub spelled_by : List ℕ → Fields
spelled_by b = records_found (list_or_fault_lemma (uncounted (length b)) by_input b)

abbrev pub spelled_in : Payload → Fields
spelled_in (varint v) = none
spelled_in (fixed64 v) = none
spelled_in (fixed32 v) = none
spelled_in (bytes b) = spelled_by b
spelled_in (group fs) = none

-- ---- what the fields of an entry are charged

abbrev pub charge_where : Bool → Charge → Charge → Charge
charge_where true here there = here
charge_where false here there = there

-- nothing for the key and the value, and levels for the groups in any other
abbrev pub field_levels : ℕ → Payload → Charge
field_levels n p = charge_where (n == 1 || n == 2) no_charge (levels_of p)

abbrev pub entry_levels : Payload → Charge
entry_levels p = total field_levels (spelled_in p)

-- ---- bytes have a byte for each level

max_below : (a b c : ℕ) → a ≤ c → b ≤ c → max a b ≤ c
max_below a b c h k = grind arith

mutual
  payload_depth : (p : Payload) (n : ℕ) (t : List ℕ) → SpellsPayload n p t
      → (payload_charge p).depth ≤ suc (length t)
  payload_depth (varint v) n t h = omega arith
  payload_depth (fixed64 v) n t h = omega arith
  payload_depth (fixed32 v) n t h = omega arith
  payload_depth (bytes b) n t h = omega arith
  payload_depth (group fs) n t (end, body, tag) =
      let inside = list_depth fs body.text body.spelled in
      omega (arith, inside, ap length body.parts, length-append body.text end)

  list_depth : (fs : Fields) (t : List ℕ) → Spells fs t → (charge fs).depth ≤ length t
  list_depth none t h = omega arith
  list_depth (field n p others) t (behind, rest, tag, payload, more) =
      let here = payload_depth p n payload.text payload.spelled in
      let there = list_depth others rest more in
      let below = rest_below n _ t behind tag in
      max_below (payload_charge p).depth (charge others).depth (length t)
      (omega (arith, here, below, ap length payload.parts, length-append payload.text rest))
      (omega (arith, there, below, ap length payload.parts, length-append payload.text rest))

-- ---- the reader finds what the bytes spell

pub found_is : OneReading → (fs : Fields) (b : List ℕ) → Spells fs b
    → (o : ListOrFault (uncounted (length b)) by_input b) → records_found o ≡ fs
found_is reading fs b spelled (inl (gs, new, h)) =
    reading.records gs fs b
    ((whole_input_lemma (charge gs) (uncounted (length b)) gs b new).0 h).0 spelled
found_is reading fs b spelled (inr (e, fault)) =
    absurd (no_list_beside_fault_lemma (uncounted (length b)) by_input b [] e fs fault
    ((whole_input_lemma (charge fs) (uncounted (length b)) fs b []).1 (
      spelled,
      record {
        depth = list_depth fs b spelled;
        counts = record { unknown_fields = tt; element_memory = tt; unknown_bytes = tt };
      },
      refl,
    )))

-- ---- what reading an entry is charged

module _ {K V : Type 0} (key : ScalarType K) (value : FieldKind V)
    (uncharged : (n : ℕ) (p : Payload) (c : Charge) (m z : V) → value.takes m n p c z
    → c ≡ no_charge) where
  key_or_value : (n : ℕ) (p : Payload) (c : Charge) (m z : K × V) (b : Bool)
      → on b (sets key m.0 n p c z.0 × (z.1 ≡ m.1)) (value.takes m.1 n p c z.1 × (z.0 ≡ m.0))
      → c ≡ no_charge
  key_or_value n p c m z true taken = taken.0.0
  key_or_value n p c m z false taken = uncharged n p c m.1 z.1 taken.0

  entry_or_other : (n : ℕ) (p : Payload) (c : Charge) (m z : EntryOf K V) (b : Bool)
      → on b (either (λ n p. n == 1) (sets key) value.takes m.0 n p c z.0 × (z.1 ≡ m.1))
      (drops m.1 n p c z.1 × (z.0 ≡ m.0)) → c ≡ charge_where b no_charge (levels_of p)
  entry_or_other n p c m z true taken = key_or_value n p c m.0 z.0 (n == 1) taken.0
  entry_or_other n p c m z false taken = taken.0

  levels_are : (fs : Fields) (m z : EntryOf K V) (c : Charge) → Folds (entry_takes key value) m fs c z
      → c ≡ total field_levels fs
  levels_are none m z c h = h.0
  levels_are (field n p others) m z c (mid, first, rest, step, more, sum) =
      sum ∙ ap (λ x. both x rest) (entry_or_other n p first m mid (n == 1 || n == 2) step)
      ∙ ap (both (field_levels n p)) (levels_are others mid z rest more)

  -- the place of an entry, and a level more than its fields take
  pub reading_charge : OneReading → (place n : ℕ) (p : Payload) (c : Charge) (e : EntryOf K V)
      → reads_entry place key value (entry_default key value) n p c e
      → c ≡ both (element_of place) (nested (entry_levels p))
  reading_charge reading place n p c e (after, one, (fs, within, has, folded, nests), charged, same) =
      let levels = levels_are fs (entry_default key value) after within folded in
      let found = found_is reading fs has.text has.spelled
      (list_or_fault_lemma (uncounted (length has.text)) by_input has.text) in
      charged
      ∙ ap (both (element_of place)) (nests ∙ ap nested (levels ∙ ap (total field_levels)
      (sym found ∙ ap spelled_in (sym has.is))))
