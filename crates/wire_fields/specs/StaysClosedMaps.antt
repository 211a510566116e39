-- What decoding leaves of maps of closed enums is in range: entries whose values the enum has, and
-- among the unknown fields the record of each other entry.
use Rattle.std.proofs.Common.{◌≡◌, ℕ, Bool, true, false, refl, sym, ap, subst, List, [], ◌∷◌}
use Rattle.std.proofs.lemmas.Bool.{eqb-true}
use Rattle.std.proofs.lemmas.Cmp.{nat_cmp_total, int_cmp_total, nat_list_cmp_total}
use Rattle.std.specs.Cmp.{IsTotalOrder, bool_cmp_total}
use Rattle.std.specs.Prelude.{ℤ, Option, Some, None, ◌==◌}
use Rattle.std.specs.declared.cmp.Ordering.{Ordering}
use Rattle.wire_codec.specs.Charge.{payload_charge}
use Rattle.wire_codec.specs.EnumValue.{EnumValue}
use Rattle.wire_codec.specs.EnumValue.TheVariants.{Known, Unknown}
use Rattle.wire_codec.specs.Enumeration.{known_or}
use Rattle.wire_codec.specs.Field.{Payload, Fields}
use Rattle.wire_codec.specs.Limits.{Charge}
use Rattle.wire_codec.specs.ValueMap.{ValueMap, bool}
use Rattle.wire_fields.specs.declared.form.Form.{Form}
use Rattle.wire_fields.specs.declared.form.Form.TheVariants.{Varint}
use Rattle.wire_fields.specs.ClosedMaps.{closed_value, closed_map_of, closes_entry, entry_or_kept}
use Rattle.wire_fields.specs.ClosedMaps.{closed_text_map, closed_unsigned_map, closed_signed_map}
use Rattle.wire_fields.specs.ClosedMaps.{closed_bool_map, with_found}
use Rattle.wire_fields.specs.ClosedMapsBack.{left_charge, entries_left, closed_map_leaves}
use Rattle.wire_fields.specs.EntryLevels.{charge_where}
use Rattle.wire_fields.specs.Enums.{open_enum}
use Rattle.wire_fields.specs.Grounds.{Grounds}
use Rattle.wire_fields.specs.Leaving.{Leaving}
use Rattle.wire_fields.specs.LeavingBack.{LeavesFor}
use Rattle.wire_fields.specs.Maps.{EntryOf, each_entry, entry_default, reads_entry}
use Rattle.wire_fields.specs.MapsBack.{AreEntries}
use Rattle.wire_fields.specs.Numbers.{numeric}
use Rattle.wire_fields.specs.Ranges.{Range, IsOpen, IsClosed, closed_range, enum_range, map_range}
use Rattle.wire_fields.specs.Ranges.{string_range, bool_range, text_map_range}
use Rattle.wire_fields.specs.Ranges.{unsigned_map_range, signed_map_range, bool_map_range}
use Rattle.wire_fields.specs.Presence.{always}
use Rattle.wire_fields.specs.Scalar.{ScalarType}
use Rattle.wire_fields.specs.ScalarBack.{AllHold}
use Rattle.wire_fields.specs.Shape.{FieldKind}
use Rattle.wire_fields.specs.Short.{AreShort}
use Rattle.wire_fields.specs.Sound.{IsSound}
use Rattle.wire_fields.specs.Stays.{KindStays, kept_more}
use Rattle.wire_fields.specs.StaysKinds.{ScalarStays, always_stays, enum_stays, numeric_stays}
use Rattle.wire_fields.specs.StaysLeaving.{StandsBeside, LeavingStays, ChargesOthers}
use Rattle.wire_fields.specs.StaysMaps.{AreEntriesOf, entries_more, read_entry_is}
use Rattle.wire_fields.specs.StaysMessages.{not_both}
use Rattle.wire_fields.specs.Texts.{string}

-- ---- what records are charged

-- entries that are left at this field number are charged as such
abbrev pub ChargesEntries : (ℕ → Payload → Charge) → ℕ → ℕ → Type 0
ChargesEntries charge_of place n = (p : Payload) → charge_of n p ≡ left_charge place p

other_number : {V : Type 0} (s : Leaving V) (place k : ℕ) (others : ℕ → Payload → Charge) (n : ℕ)
    (p : Payload) → s.owns k p ≡ true → s.owns n p ≡ false → others n p ≡ payload_charge p
    → (b : Bool) → (n == k) ≡ b
    → charge_where b (left_charge place p) (others n p) ≡ payload_charge p
other_number s place k others n p owned free charged true is =
    absurd (not_both (s.owns n p)
    (subst (λ j. s.owns j p ≡ true) (sym (eqb-true n k is)) owned) free)
other_number s place k others n p owned free charged false is = charged

-- a record that no field owns is charged as before where one field more has such entries
pub entries_others : {V : Type 0} (s : Leaving V) (place k : ℕ) (others : ℕ → Payload → Charge)
    → ((p : Payload) → s.owns k p ≡ true) → ChargesOthers s others
    → ChargesOthers s (entries_left place k others)
entries_others s place k others owned charged n p free =
    other_number s place k others n p (owned p) free (charged n p free) (n == k) refl

-- ---- a map

module _ (g : Grounds) {K E : Type 0} (place : ℕ) {order : K → K → Ordering}
    (total : IsTotalOrder order) {key : ScalarType K} {r : Range K} (k : ScalarStays key r)
    (number : E → ℤ) (of_number : ℤ → Option E)
    (keeps : (n : ℤ) (e : E) → of_number n ≡ Some e → number e ≡ n) where
  abbrev value : FieldKind (EnumValue E)
  value = closed_value number of_number

  values : KindStays value (enum_range number of_number)
  values = always_stays (numeric_stays (enum_stays number of_number keeps))

  same_known : (x e : E) → Known x ≡ Known e → x ≡ e
  same_known x e is = cc

  known_found : (o : Option E) (i : ℤ) (e : E) → known_or o i ≡ Known e → o ≡ Some e
  known_found None i e is = absurd cc
  known_found (Some x) i e is = ap Some (same_known x e is)

  -- a value that is known is one that the enum has
  known_is_closed : (e : E) → IsOpen number of_number (Known e) → IsClosed number of_number (Known e)
  known_is_closed e h = record {
    value = e;
    is = refl;
    fits = h.fits;
    found = known_found (of_number (number e)) (number e) e h.is;
  }

  entries_hold : (n : ℕ) (es : List (K × EnumValue E))
      → AllHold (λ e. r.Holds e.0 × IsClosed number of_number e.1) es
      → AreShort (each_entry key value n es)
      → AreEntries key value r.Holds (IsClosed number of_number)
      (closed_range number of_number).charge_of es
  entries_hold n [] h short = tt
  entries_hold n (e ∷ es) h short = (
    record { key_held = h.0.0; value_held = h.0.1; short = short.0.0 },
    entries_hold n es h.1 short.1,
  )

  abbrev Are : List (K × EnumValue E) → Type 0
  Are = AreEntriesOf order r.Holds (IsClosed number of_number)

  abbrev this : ℕ → Leaving (List (K × EnumValue E))
  this = closed_map_of place order key number of_number

  module _ (charge_of : ℕ → Payload → Charge) (n : ℕ) (charged : ChargesEntries charge_of place n)
    where
      found_or_left : (Left : ℕ → Payload → Type 0) (j : ℕ) (p : Payload) → (j == n) ≡ true
          → ((q : Payload) → LeavesFor (this n) (charge_of j q) j q → Left j q) → IsSound j p
          → (m : List (K × EnumValue E) × Fields) → StandsBeside Are Left m → (one : Charge) (a : K)
          (v : EnumValue E) → r.Holds a → IsOpen number of_number v
          → reads_entry place key value (entry_default key value) j p one ((a, v), tt)
          → StandsBeside Are Left (
            with_found order m.0 (entry_or_kept j p m.1 a v).0,
            (entry_or_kept j p m.1 a v).1,
          )
      found_or_left Left j p own on_left sound m h one a (Known e) key_is held read = (
        entries_more order r.Holds (IsClosed number of_number) total m.0 a (Known e) h.0 key_is
            (known_is_closed e held),
        h.1,
      )
      found_or_left Left j p own on_left sound m h one a (Unknown i) key_is held read =
          let same = eqb-true j n own in
          let leaves = closed_map_leaves g.reading place order key number of_number n p one a i
          (subst (λ x. reads_entry place key value (entry_default key value) x p one
          ((a, Unknown i), tt)) same read) in (
            h.0,
            kept_more Left m.1 j p sound h.1 (on_left p
                (subst (λ x. LeavesFor (this n) (charge_of x p) x p) (sym same)
                (subst (λ d. LeavesFor (this n) d n p) (sym (charged p)) leaves))),
          )

      closes_stands : (Left : ℕ → Payload → Type 0) (j : ℕ) (p : Payload) → (j == n) ≡ true
          → ((q : Payload) → LeavesFor (this n) (charge_of j q) j q → Left j q) → IsSound j p
          → (c : Charge) (m z : List (K × EnumValue E) × Fields) → StandsBeside Are Left m
          → closes_entry place order key value m j p c z → StandsBeside Are Left z
      closes_stands Left j p own on_left sound c m z h
          (found, (e, one, (after, within, read, charge, after_is), total_is, found_is), is) =
          let entry = read_entry_is g k values j p within after sound read in
          let same : after ≡ e = sym after_is in
          subst (StandsBeside Are Left) (sym is)
          (subst (λ (f : Option (K × EnumValue E) × Fields).
          StandsBeside Are Left (with_found order m.0 f.0, f.1)) (sym found_is)
          (found_or_left Left j p own on_left sound m h one e.0.0 e.0.1
          (subst (λ (x : EntryOf K (EnumValue E)). r.Holds x.0.0) same entry.0)
          (subst (λ (x : EntryOf K (EnumValue E)). IsOpen number of_number x.0.1) same
          (values.holds 2 after.0.1 entry.1 (tt, tt)))
          (after, within, read, charge, after_is)))

  pub closed_map_stays : {charge_of : ℕ → Payload → Charge} {Here : ℕ → Type 0} (n : ℕ)
      → ChargesEntries charge_of place n → LeavingStays (this n)
      (map_range place order key value r (closed_range number of_number)) charge_of Here
  closed_map_stays {charge_of} n charged = record {
    Is = Are;
    start = (tt, tt);
    step = λ Left j p on_left c m z sound here own h.
        closes_stands charge_of n charged Left j p own on_left sound c m z h;
    holds = λ es h short. (entries_hold n es h.0 short, h.1);
    by_number = λ j p q. refl;
  }

-- by the type of their keys
module _ (g : Grounds) {E : Type 0} (place : ℕ) (number : E → ℤ) (of_number : ℤ → Option E)
    (keeps : (n : ℤ) (e : E) → of_number n ≡ Some e → number e ≡ n)
    {charge_of : ℕ → Payload → Charge} {Here : ℕ → Type 0} (n : ℕ)
    (charged : ChargesEntries charge_of place n) where
  pub closed_text_map_stays : ScalarStays string string_range
      → LeavingStays (closed_text_map place number of_number n)
      (text_map_range place (always (numeric Varint (open_enum number of_number)))
      (closed_range number of_number)) charge_of Here
  closed_text_map_stays k =
      closed_map_stays g place nat_list_cmp_total k number of_number keeps n charged

  pub closed_unsigned_map_stays : {form : Form} {values : ValueMap ℕ} {r : Range ℕ}
      → ScalarStays (numeric form values) r
      → LeavingStays (closed_unsigned_map place form values number of_number n)
      (unsigned_map_range place form values (always (numeric Varint (open_enum number of_number))) r
      (closed_range number of_number)) charge_of Here
  closed_unsigned_map_stays k =
      closed_map_stays g place nat_cmp_total k number of_number keeps n charged

  pub closed_signed_map_stays : {form : Form} {values : ValueMap ℤ} {r : Range ℤ}
      → ScalarStays (numeric form values) r
      → LeavingStays (closed_signed_map place form values number of_number n)
      (signed_map_range place form values (always (numeric Varint (open_enum number of_number))) r
      (closed_range number of_number)) charge_of Here
  closed_signed_map_stays k =
      closed_map_stays g place int_cmp_total k number of_number keeps n charged

  pub closed_bool_map_stays : ScalarStays (numeric Varint bool) bool_range
      → LeavingStays (closed_bool_map place number of_number n)
      (bool_map_range place (always (numeric Varint (open_enum number of_number)))
      (closed_range number of_number)) charge_of Here
  closed_bool_map_stays k =
      closed_map_stays g place bool_cmp_total k number of_number keeps n charged
