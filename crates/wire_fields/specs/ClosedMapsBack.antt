-- Maps with the values of a closed enum are read back: no entry whose value the enum has goes to
-- the unknown fields, and the record of any other is left there once more.
use Rattle.std.proofs.Common.{◌≡◌, ℕ, ◌^◌, ◌<◌, ◌≤◌, refl, sym, ap, ◌∙◌, subst, arith}
use Rattle.std.specs.declared.cmp.Ordering.{Ordering}
use Rattle.std.specs.Prelude.{ℤ, Bool, Option, Some, None, ◌==◌}
use Rattle.wire_codec.specs.Charge.{payload_charge}
use Rattle.wire_codec.specs.EnumValue.{EnumValue}
use Rattle.wire_codec.specs.EnumValue.TheVariants.{Unknown}
use Rattle.wire_codec.specs.Field.{Payload, Fields, push}
use Rattle.wire_codec.specs.Limits.{Charge, both, nested, no_charge, element_of}
use Rattle.wire_codec.specs.Records.{plain_payload, embedded}
use Rattle.wire_codec.specs.TakingLaws.{OneReading}
use Rattle.wire_fields.specs.Back.{same_owned}
use Rattle.wire_fields.specs.ClosedBack.{closed_back}
use Rattle.wire_fields.specs.ClosedMaps.{closed_value, closed_map_of, closes_entry, entry_or_kept}
use Rattle.wire_fields.specs.ClosedMaps.{kept_charge}
use Rattle.wire_fields.specs.EntryLevels.{entry_levels, charge_where, reading_charge}
use Rattle.wire_fields.specs.Grounds.{Grounds, numeric_back, enum_back}
use Rattle.wire_fields.specs.LeavingBack.{beside_unknown, ReturnedBeside, LeavesFor}
use Rattle.wire_fields.specs.Maps.{entry_records, entry_default, reads_entry}
use Rattle.wire_fields.specs.MapsBack.{PutsEntries, IsEntry, all_folded, entries_have, entry_read}
use Rattle.wire_fields.specs.OneofBack.{AlwaysBack}
use Rattle.wire_fields.specs.Ranges.{Range, IsClosed, closed_range, enum_range, map_range}
use Rattle.wire_fields.specs.Returned.{always_returned}
use Rattle.wire_fields.specs.Scalar.{ScalarType}
use Rattle.wire_fields.specs.ScalarBack.{ScalarBack}
use Rattle.wire_fields.specs.Shape.{FieldKind}

-- ---- entries that are left

-- what the record of an entry that is left is charged: the place of an entry, a level, with those of
-- the groups among its other fields, and as an unknown field
abbrev pub left_charge : ℕ → Payload → Charge
left_charge place p = both (both (element_of place) (nested (entry_levels p))) (payload_charge p)

-- what each record is charged: one of number k as such an entry, any other as `others` says
abbrev pub entries_left : ℕ → ℕ → (ℕ → Payload → Charge) → ℕ → Payload → Charge
entries_left place k others n p = charge_where (n == k) (left_charge place p) (others n p)

-- what is charged in the message that a field leads to, or in others
abbrev pub account_where : Bool → (ℕ → Payload → Charge) → (ℕ → Payload → Charge) → ℕ → Payload
    → Charge
account_where b here others n p = charge_where b (here n p) (others n p)

-- the value of an entry is charged nothing
pub value_uncharged : {E : Type 0} (number : E → ℤ) (of_number : ℤ → Option E) (n : ℕ)
    (p : Payload) (c : Charge) (m z : EnumValue E)
    → (closed_value number of_number).takes m n p c z → c ≡ no_charge
value_uncharged number of_number n p c m z taken = taken.0

-- the record of any entry whose value the enum does not have is left
pub closed_map_leaves : {K E : Type 0} (reading : OneReading) (place : ℕ)
    (order : K → K → Ordering) (key : ScalarType K) (number : E → ℤ) (of_number : ℤ → Option E)
    (n : ℕ) (p : Payload) (c : Charge) (k : K) (i : ℤ)
    → reads_entry place key (closed_value number of_number)
    (entry_default key (closed_value number of_number)) n p c ((k, Unknown i), tt)
    → LeavesFor (closed_map_of place order key number of_number n) (left_charge place p) n p
closed_map_leaves reading place order key number of_number n p c k i read = record {
  own = same_owned n n refl;
  left = λ m u. (
    (None, push u n p),
    (
      ((k, Unknown i), tt),
      c,
      read,
      ap (λ x. both x (payload_charge p)) (sym
          (reading_charge key (closed_value number of_number) (value_uncharged number of_number)
          reading place n p c ((k, Unknown i), tt) read)),
      refl,
    ),
    refl,
  );
}

-- ---- what is written

module _ (g : Grounds) {K E : Type 0} (place : ℕ) (order : K → K → Ordering) (key : ScalarType K)
    (number : E → ℤ) (of_number : ℤ → Option E) (r : Range K)
    (key_back : ScalarBack key r.Holds) where
  abbrev value : FieldKind (EnumValue E)
  value = closed_value number of_number

  abbrev values : Range (EnumValue E)
  values = closed_range number of_number

  abbrev value_back : AlwaysBack value values.Holds values.charge_of
  value_back = always_returned g _ _ (numeric_back (closed_back g number of_number))

  found : (n : ℕ) (p : Payload) (u : Fields) (k : K) (v : EnumValue E)
      → IsClosed number of_number v → entry_or_kept n p u k v ≡ (Some (k, v), u)
  found n p u k v h =
      subst (λ (x : EnumValue E). entry_or_kept n p u k x ≡ (Some (k, x), u)) (sym h.is) refl

  uncharged : (p : Payload) (c : Charge) (v : EnumValue E) → IsClosed number of_number v
      → c ≡ both c (kept_charge p v)
  uncharged p c v h =
      sym (ap (λ (x : EnumValue E). both c (kept_charge p x)) h.is ∙ g.charges.nothing_last c)

  pub puts : (u : Fields) → PutsEntries key value r.Holds values.Holds values.charge_of place order
      (beside_unknown u (closes_entry place order key value))
  puts u n bs e p c is read = (
    (Some (e.0, e.1), u),
    ((e, tt), c, read, uncharged p c e.1 is.value_held, sym (found n p u e.0 e.1 is.value_held)),
    refl,
  )

  abbrev pub closed_map_returned : (n : ℕ) → 1 ≤ n → n < 2 ^ 29
      → ReturnedBeside (closed_map_of place order key number of_number n)
      (map_range place order key value r values)
  closed_map_returned n low high = record {
    Has = λ j. j ≡ n;
    back = λ u. record {
      back = all_folded key value r.Holds values.Holds values.charge_of g.plain g.charges g.spells
          key_back value_back place order (λ k below above. g.number k below (omega (arith, above)))
          (beside_unknown u (closes_entry place order key value)) (puts u) n (g.number n low high);
      has = λ es h. entries_have key value n es;
      own = λ j p. same_owned n j;
    };
  }

  -- the same of the record that is written of such an entry
  pub written_entry_leaves : (n : ℕ) (k : K) (i : ℤ)
      → IsEntry key value r.Holds (enum_range number of_number).Holds
      (enum_range number of_number).charge_of (k, Unknown i)
      → let p = plain_payload (embedded (entry_records key value (k, Unknown i))) in
      LeavesFor (closed_map_of place order key number of_number n) (left_charge place p) n p
  written_entry_leaves n k i h =
      closed_map_leaves g.reading place order key number of_number n
      (plain_payload (embedded (entry_records key value (k, Unknown i))))
      (both (element_of place) (nested no_charge)) k i
      (entry_read key value r.Holds (enum_range number of_number).Holds
      (enum_range number of_number).charge_of g.plain g.charges g.spells key_back
      (always_returned g _ _ (numeric_back (enum_back g number of_number)))
      (λ j below above. g.number j below (omega (arith, above))) place n (k, Unknown i) h)
