-- What decoding leaves of maps is in range: their keys ascend.
use Rattle.std.proofs.Common.{◌≡◌, ℕ, Bool, true, false, refl, sym, ap, ◌∙◌, subst, List, [], ◌∷◌}
use Rattle.std.proofs.lemmas.Cmp.{nat_cmp_total, int_cmp_total, nat_list_cmp_total}
use Rattle.std.specs.BTreeMap.{insert_entry}
use Rattle.std.specs.Cmp.{IsTotalOrder, bool_cmp_total}
use Rattle.std.specs.Prelude.{ℤ, ◌==◌, ◌||◌}
use Rattle.std.specs.Ordering.{ordering_reverse, match_ordering}
use Rattle.std.specs.declared.cmp.Ordering.{Ordering}
use Rattle.std.specs.declared.cmp.Ordering.TheVariants.{Less, Equal, Greater}
use Rattle.wire_codec.specs.Field.{Payload}
use Rattle.wire_codec.specs.Limits.{Charge}
use Rattle.wire_codec.specs.ValueMap.{ValueMap, bool}
use Rattle.wire_codec.specs.Records.{none, joined_records}
use Rattle.wire_fields.specs.Dropped.{drops}
use Rattle.wire_fields.specs.Grounds.{Grounds}
use Rattle.wire_fields.specs.Maps.{EntryOf, entry_takes, entry_default, each_entry, map_kind}
use Rattle.wire_fields.specs.Maps.{text_map, unsigned_map, signed_map, bool_map}
use Rattle.wire_fields.specs.MapsBack.{AreAbove, Ascend, AreEntries}
use Rattle.wire_fields.specs.Messages.{length_prefixed, inside}
use Rattle.wire_fields.specs.Numbers.{numeric}
use Rattle.wire_fields.specs.declared.form.Form.{Form}
use Rattle.wire_fields.specs.declared.form.Form.TheVariants.{Varint}
use Rattle.wire_fields.specs.Texts.{string}
use Rattle.wire_fields.specs.Ranges.{Range, map_range}
use Rattle.wire_fields.specs.Ranges.{text_map_range, unsigned_map_range, signed_map_range}
use Rattle.wire_fields.specs.Ranges.{bool_map_range, bool_range, string_range}
use Rattle.wire_fields.specs.Scalar.{ScalarType, scalar_record}
use Rattle.wire_fields.specs.ScalarBack.{AllHold}
use Rattle.wire_fields.specs.Presence.{sets}
use Rattle.wire_fields.specs.Shape.{on, either, FieldKind, Lawful}
use Rattle.wire_fields.specs.Sound.{IsSound}
use Rattle.wire_fields.specs.Short.{AreShort, first_short, second_short}
use Rattle.wire_fields.specs.Stays.{KindStays, folds_stay}
use Rattle.wire_fields.specs.StaysKinds.{ScalarStays}
use Rattle.wire_fields.specs.StaysMessages.{prefixed_stays}

module _ {K : Type 0} (order : K → K → Ordering) (total : IsTotalOrder order) where
  -- what is above the later of two keys is above the earlier
  above_both : (a b c : K) → order b a ≡ Greater → order c b ≡ Greater → order c a ≡ Greater
  above_both a b c h k =
      total.antisymm c a ∙ ap ordering_reverse
      (total.trans a b c (total.antisymm a b ∙ ap ordering_reverse h)
      (total.antisymm b c ∙ ap ordering_reverse k))

  module _ {V : Type 0} where
    all_above : (a b : K) (es : List (K × V)) → order b a ≡ Greater → AreAbove order b es
        → AreAbove order a es
    all_above a b [] h k = tt
    all_above a b (e ∷ es) h k = (above_both a b e.0 h k.0, all_above a b es h k.1)

    above_at : (a k : K) (v : V) (e : K × V) (es more : List (K × V)) (o : Ordering)
        → AreAbove order a (e ∷ es) → order k a ≡ Greater → AreAbove order a more
        → AreAbove order a (match_ordering o ((k, v) ∷ e ∷ es) ((e.0, v) ∷ es) (e ∷ more))
    above_at a k v e es more Less h is rest = (is, h)
    above_at a k v e es more Equal h is rest = h
    above_at a k v e es more Greater h is rest = (h.0, rest)

    -- what was above a key is so with an entry more whose key is above it too
    above_more : (a : K) (es : List (K × V)) (k : K) (v : V) → AreAbove order a es
        → order k a ≡ Greater → AreAbove order a (insert_entry order es k v)
    above_more a [] k v h is = (is, tt)
    above_more a (e ∷ es) k v h is =
        above_at a k v e es (insert_entry order es k v) (order k e.0) h is
        (above_more a es k v h.1 is)

    ascend_at : (k : K) (v : V) (e : K × V) (es more : List (K × V)) (o : Ordering)
        → order k e.0 ≡ o → Ascend order (e ∷ es)
        → (order k e.0 ≡ Greater → AreAbove order e.0 more) → Ascend order more
        → Ascend order (match_ordering o ((k, v) ∷ e ∷ es) ((e.0, v) ∷ es) (e ∷ more))
    ascend_at k v e es more Less found h above rest =
        let below = total.antisymm e.0 k ∙ ap ordering_reverse found in
        ((below, all_above k e.0 es below h.0), h)
    ascend_at k v e es more Equal found h above rest = h
    ascend_at k v e es more Greater found h above rest = (above found, rest)

    -- an entry more stands in its place
    pub ascend_more : (es : List (K × V)) (k : K) (v : V) → Ascend order es
        → Ascend order (insert_entry order es k v)
    ascend_more [] k v h = (tt, tt)
    ascend_more (e ∷ es) k v h =
        ascend_at k v e es (insert_entry order es k v) (order k e.0) refl h
        (above_more e.0 es k v h.0) (ascend_more es k v h.1)

-- ---- entries

module _ {K V : Type 0} (order : K → K → Ordering) (IsKey : K → Type 0) (IsValue : V → Type 0) where
  -- each entry, where all keys ascend
  abbrev pub AreEntriesOf : List (K × V) → Type 0
  AreEntriesOf es = AllHold (λ e. IsKey e.0 × IsValue e.1) es × Ascend order es

  entry_at : (es more : List (K × V)) (e : K × V) (a : K) (b : V) (o : Ordering)
      → AllHold (λ e. IsKey e.0 × IsValue e.1) (e ∷ es) → IsKey a → IsValue b
      → AllHold (λ e. IsKey e.0 × IsValue e.1) more
      → AllHold (λ e. IsKey e.0 × IsValue e.1)
      (match_ordering o ((a, b) ∷ e ∷ es) ((e.0, b) ∷ es) (e ∷ more))
  entry_at es more e a b Less h key value rest = ((key, value), h)
  entry_at es more e a b Equal h key value rest = ((h.0.0, value), h.1)
  entry_at es more e a b Greater h key value rest = (h.0, rest)

  entry_more : (es : List (K × V)) (a : K) (b : V)
      → AllHold (λ e. IsKey e.0 × IsValue e.1) es → IsKey a → IsValue b
      → AllHold (λ e. IsKey e.0 × IsValue e.1) (insert_entry order es a b)
  entry_more [] a b h key value = ((key, value), tt)
  entry_more (e ∷ es) a b h key value =
      entry_at es (insert_entry order es a b) e a b (order a e.0) h key value
      (entry_more es a b h.1 key value)

  pub entries_more : IsTotalOrder order → (es : List (K × V)) (a : K) (b : V) → AreEntriesOf es
      → IsKey a → IsValue b → AreEntriesOf (insert_entry order es a b)
  entries_more total es a b h key value =
      (entry_more es a b h.0 key value, ascend_more order total es a b h.1)

module _ (g : Grounds) {K V : Type 0} {key : ScalarType K} {value : FieldKind V} {r : Range K}
    {q : Range V} (k : ScalarStays key r) (v : KindStays value q) where
  abbrev IsEntryOf : K × V → Type 0
  IsEntryOf e = r.Holds e.0 × v.Is e.1

  value_or_key : (n : ℕ) (p : Payload) (c : Charge) (m z : K × V) → IsSound n p → IsEntryOf m
      → (b : Bool) → on b (sets key m.0 n p c z.0 × (z.1 ≡ m.1))
      (value.takes m.1 n p c z.1 × (z.0 ≡ m.0)) → IsEntryOf z
  value_or_key n p c m z sound h true taken =
      (k.sets p z.0 sound.fits taken.0.1, subst v.Is (sym taken.1) h.1)
  value_or_key n p c m z sound h false taken =
      (subst r.Holds (sym taken.1) h.0, v.step n p c m.1 z.1 sound h.1 taken.0)

  entry_or_other : (n : ℕ) (p : Payload) (c : Charge) (m z : EntryOf K V) → IsSound n p
      → IsEntryOf m.0 → (b : Bool)
      → on b (either (λ n p. n == 1) (sets key) value.takes m.0 n p c z.0 × (z.1 ≡ m.1))
      (drops m.1 n p c z.1 × (z.0 ≡ m.0)) → IsEntryOf z.0
  entry_or_other n p c m z sound h true taken =
      value_or_key n p c m.0 z.0 sound h (n == 1) taken.0
  entry_or_other n p c m z sound h false taken = subst IsEntryOf (sym taken.1) h

  -- an entry that is read
  pub read_entry_is : (n : ℕ) (p : Payload) (c : Charge) (e : EntryOf K V) → IsSound n p
      → inside length_prefixed (entry_takes key value) (entry_default key value) n p c e
      → r.Holds e.0.0 × v.Is e.0.1
  read_entry_is n p c e sound (fs, within, has, folded, nested) =
      folds_stay (entry_takes key value) (λ e. IsEntryOf e.0)
      (λ n p c m z sound h. entry_or_other n p c m z sound h (n == 1 || n == 2))
      fs (entry_default key value) e within ((prefixed_stays g).sound n p fs sound has)
      (k.start, v.start) folded

  map_holds : (n : ℕ) (es : List (K × V)) → AllHold IsEntryOf es
      → AreShort (each_entry key value n es)
      → AreEntries key value r.Holds q.Holds q.charge_of es
  map_holds n [] h short = tt
  map_holds n (e ∷ es) h short =
      let fields = first_short (joined_records (scalar_record key 1 e.0) (value.records 2 e.1)) none
      short.0.1 in (
        record {
          key_held = h.0.0;
          value_held = v.holds 2 e.1 h.0.1
              (second_short (scalar_record key 1 e.0) (value.records 2 e.1) fields);
          short = short.0.0;
        },
        map_holds n es h.1 short.1,
      )

  pub map_stays : (place : ℕ) {order : K → K → Ordering} → IsTotalOrder order
      → KindStays (map_kind place order key value) (map_range place order key value r q)
  map_stays place {order} total = record {
    Is = AreEntriesOf order r.Holds v.Is;
    start = (tt, tt);
    step = λ n p c m z sound h (after, one, read, charged, same).
        let entry = read_entry_is n p one after sound read in
        subst (AreEntriesOf order r.Holds v.Is) (sym same)
        (entries_more order r.Holds v.Is total m after.0.0 after.0.1 h entry.0 entry.1);
    holds = λ n es h short. (map_holds n es h.0 short, h.1);
  }

-- by the type of their keys
module _ (g : Grounds) {V : Type 0} (place : ℕ) (value : Lawful V) {q : Range V} where
  pub text_map_stays : ScalarStays string string_range → KindStays value.kind q
      → KindStays (text_map place value).kind (text_map_range place value q)
  text_map_stays k v = map_stays g k v place nat_list_cmp_total

  pub unsigned_map_stays : {form : Form} {values : ValueMap ℕ} {r : Range ℕ}
      → ScalarStays (numeric form values) r → KindStays value.kind q
      → KindStays (unsigned_map place form values value).kind
      (unsigned_map_range place form values value r q)
  unsigned_map_stays k v = map_stays g k v place nat_cmp_total

  pub signed_map_stays : {form : Form} {values : ValueMap ℤ} {r : Range ℤ}
      → ScalarStays (numeric form values) r → KindStays value.kind q
      → KindStays (signed_map place form values value).kind
      (signed_map_range place form values value r q)
  signed_map_stays k v = map_stays g k v place int_cmp_total

  pub bool_map_stays : ScalarStays (numeric Varint bool) bool_range → KindStays value.kind q
      → KindStays (bool_map place value).kind (bool_map_range place value q)
  bool_map_stays k v = map_stays g k v place bool_cmp_total
