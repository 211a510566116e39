-- Entries with the values of a closed enum: what is found of them, and why nothing is.
use Rattle.std.proofs.Common.{◌≡◌, ℕ, ℤ, ◌<◌, ◌≤◌, List, [], length, refl, sym, ap, ◌∙◌, subst}
use Rattle.std.specs.declared.cmp.Ordering.{Ordering}
use Rattle.std.specs.Prelude.{Option, Some, None, option_map}
use Rattle.wire_codec.specs.Charge.{payload_charge}
use Rattle.wire_codec.specs.EnumValue.{EnumValue}
use Rattle.wire_codec.specs.EnumValue.TheVariants.{Known, Unknown}
use Rattle.wire_codec.specs.Field.{Fields, bytes, push}
use Rattle.wire_codec.specs.Folds.{IsSingle, Folds}
use Rattle.wire_codec.specs.Limits.{Limits, Charge, Fits, left_after, both, nested, inner, outer}
use Rattle.wire_codec.specs.Limits.{element_of}
use Rattle.wire_codec.specs.LimitsLaws.{LimitsAddUp, LevelsAddUp, ChargesAddUp}
use Rattle.wire_codec.specs.Read.{Reads}
use Rattle.wire_codec.specs.RecordLaws.{WholeInput}
use Rattle.wire_codec.specs.Spells.{IsPayload, Spells}
use Rattle.wire_codec.specs.Taking.{TakesRecord, TakesAll, IsCharged, NotTaken, NotDecoded}
use Rattle.wire_codec.specs.TakingLaws.{OneReading}
use Rattle.wire_codec.specs.WireType.{WireType}
use Rattle.wire_fields.specs.ClosedMaps.{IsEntryOf, finds_entry, closes_entry, entry_or_kept}
use Rattle.wire_fields.specs.ClosedMaps.{kept_charge, with_found}
use Rattle.wire_fields.specs.Maps.{EntryOf, entry_default, entry_takes, entry_single, reads_entry}
use Rattle.wire_fields.specs.Maps.{viewed}
use Rattle.wire_fields.specs.Messages.{length_prefixed, same_text, gathers_single}
use Rattle.wire_fields.specs.Scalar.{ScalarType, ReadsScalar, NoScalar}
use Rattle.wire_fields.specs.Shape.{FieldKind}
use Rattle.wire_fields.specs.Texts.{any_bytes}
use Rattle.wire_fields.proofs.Maps.{viewed_insert}

-- ---- an entry of bytes

module _ {K E : Type 0} (place : ℕ) (key : ScalarType K) (value : FieldKind (EnumValue E))
    (limits : LimitsAddUp) (levels : LevelsAddUp) (whole : WholeInput) (b : List ℕ)
    (l one low : Limits) (charged : one ≡ left_after l (element_of place)) (down : low ≡ inner one)
    (start : EntryOf K (EnumValue E)) (from : start ≡ entry_default key value) where
  pub entry_parsed : Fits (element_of place) l → 0 < one.depth → length b ≤ 2147483647
      → (left up : Limits) (e : EntryOf K (EnumValue E))
      → IsCharged low left (λ c. TakesAll (entry_takes key value) low start b c e)
      → up ≡ outer left
      → (c : Charge) × Fits c l × (up ≡ left_after l c) × IsEntryOf place key value b c e.0.0 e.0.1
  entry_parsed room level short left up e h back =
      let c = h.charge in
      let all = (whole c low h.taken.fields b []).0 h.taken.read in
      let fits = (levels.nested_fits one c).1 (level, subst (Fits c) down all.1) in (
        both (element_of place) (nested c),
        (limits.both_fit l (element_of place) (nested c)).1
            (room, subst (Fits (nested c)) charged fits),
        back ∙ ap outer h.left ∙ ap (λ (x : Limits). outer (left_after x c)) down
            ∙ levels.left_after_nested one c level
            ∙ ap (λ (x : Limits). left_after x (nested c)) charged
            ∙ limits.left_after_both l (element_of place) (nested c),
        (
          e,
          nested c,
          (
            h.taken.fields,
            c,
            record { text = b; is = refl; short = short; spelled = all.0 },
            subst (λ (x : EntryOf K (EnumValue E)).
                Folds (entry_takes key value) x h.taken.fields c e) from h.taken.folded,
            refl,
          ),
          refl,
          refl,
        ),
      )

  pub entry_unparsed : NotDecoded (entry_takes key value) low start b → (c : Charge) → Fits c l
      → (k : K) (v : EnumValue E) → IsEntryOf place key value b c k v → ⊥
  entry_unparsed none c fits k v (after, up, (fs, within, has, folded, is), sum, same) =
      let fits_both =
      (limits.both_fit l (element_of place) up).0 (subst (λ x. Fits x l) sum fits) in
      let fits_one = subst (Fits up) (sym charged) fits_both.1 in
      let level = (levels.nested_fits one within).0 (subst (λ x. Fits x one) is fits_one) in
      none after (
        within,
        record {
          fields = fs;
          read = (whole within low fs b []).1 (
            subst (Spells fs) (same_text (bytes b) has.text b has.is refl) has.spelled,
            subst (Fits within) (sym down) level.1,
            refl,
          );
          folded = subst (λ (x : EntryOf K (EnumValue E)).
              Folds (entry_takes key value) x fs within after) (sym from) folded;
        },
      )

-- ---- the record of an entry

module _ {K E : Type 0} (place : ℕ) (key : ScalarType K) (value : FieldKind (EnumValue E))
    (l : Limits) (n : ℕ) (w : WireType) (m : Option (K × EnumValue E) × Fields) (old : List ℕ) where
  -- no payload of bytes
  pub no_payload : NoScalar any_bytes n w old
      → NotTaken (TakesRecord (finds_entry place key value) l n w m old)
  no_payload none c z new h =
      let (e, one, (after, up, (fs, within, has, folded, nest), sum, same), total, is) = h.step in
      none has.text new (record {
        payload = h.payload;
        read = h.read.read;
        sets = record { has = has.is; holds = tt };
      })

  module _ (limits : LimitsAddUp) (reading : OneReading) (b new : List ℕ)
      (read : ReadsScalar any_bytes n w b old new) where
    -- the payload of such a record is these bytes
    same_bytes : (c : Charge) (z : Option (K × EnumValue E) × Fields) (rest : List ℕ)
        (h : TakesRecord (finds_entry place key value) l n w m old c z rest) → h.payload ≡ bytes b
    same_bytes c z rest h =
        (reading.payload n w h.payload read.payload old rest new h.read.read read.read).0
        ∙ read.sets.has

    -- which are no entry
    pub no_parsed : ((c : Charge) → Fits c l → (k : K) (v : EnumValue E)
        → IsEntryOf place key value b c k v → ⊥)
        → NotTaken (TakesRecord (finds_entry place key value) l n w m old)
    no_parsed none c z rest h =
        let (e, one, entry, total, is) = h.step in
        none one ((limits.both_fit l one (kept_charge h.payload e.0.1)).0
        (subst (λ x. Fits x l) total h.read.fits)).0 e.0.0 e.0.1
        (subst (λ p. reads_entry place key value (entry_default key value) 0 p one e)
        (same_bytes c z rest h) entry)

    -- which are an entry with a value that the enum has
    pub entry_found : ChargesAddUp → (k : Limits) (c : Charge) → Fits c l → k ≡ left_after l c
        → (x : K) (y : EnumValue E) (v : E) → y ≡ Known v → IsEntryOf place key value b c x y
        → IsCharged l k (λ d. TakesRecord (finds_entry place key value) l n w m old d
        (Some (x, y), m.1) new)
    entry_found charges k c fits left x y v is entry = record {
      charge = c;
      taken = record {
        payload = bytes b;
        read = record {
          read = subst (λ p. Reads old (IsPayload n w p) new) read.sets.has read.read;
          fits = fits;
        };
        step = (
          ((x, y), tt),
          c,
          entry,
          sym (ap (λ (z : EnumValue E). both c (kept_charge (bytes b) z)) is
              ∙ charges.nothing_last c),
          ap (λ (z : EnumValue E). (Some (x, z), m.1)) is
              ∙ sym (ap (entry_or_kept n (bytes b) m.1 x) is),
        );
      };
      left = left;
    }

    -- which are an entry with another value, and are kept
    pub entry_kept : (u up : Limits) (c : Charge) → Fits c l → u ≡ left_after l c
        → (x : K) (y : EnumValue E) (i : ℤ) → y ≡ Unknown i → IsEntryOf place key value b c x y
        → up ≡ left_after u (payload_charge (bytes b)) → Fits (payload_charge (bytes b)) u
        → (fs : Fields) → fs ≡ push m.1 n (bytes b)
        → IsCharged l up (λ d. TakesRecord (finds_entry place key value) l n w m old d
        (None, fs) new)
    entry_kept u up c fits left x y i is entry last room fs pushed = record {
      charge = both c (payload_charge (bytes b));
      taken = record {
        payload = bytes b;
        read = record {
          read = subst (λ p. Reads old (IsPayload n w p) new) read.sets.has read.read;
          fits = (limits.both_fit l c (payload_charge (bytes b))).1
              (fits, subst (Fits (payload_charge (bytes b))) left room);
        };
        step = (
          ((x, y), tt),
          c,
          entry,
          sym (ap (λ (z : EnumValue E). both c (kept_charge (bytes b) z)) is),
          ap (λ (v : Fields). (None, v)) pushed ∙ sym (ap (entry_or_kept n (bytes b) m.1 x) is),
        );
      };
      left = last ∙ ap (λ (v : Limits). left_after v (payload_charge (bytes b))) left
          ∙ limits.left_after_both l c (payload_charge (bytes b));
    }

    -- for which there is no room
    pub no_room_kept : IsSingle value.takes → (u : Limits) (c : Charge) → u ≡ left_after l c
        → (x : K) (v : EnumValue E) (i : ℤ) → v ≡ Unknown i → IsEntryOf place key value b c x v
        → (Fits (payload_charge (bytes b)) u → ⊥)
        → NotTaken (TakesRecord (finds_entry place key value) l n w m old)
    no_room_kept single u c left x v i is entry none d z rest h =
        let (e, one, found, total, after) = h.step in
        let p = same_bytes d z rest h in
        let start = entry_default key value in
        let mine = subst (λ q. reads_entry place key value start 0 q one e) p found in
        let same = gathers_single length_prefixed (entry_takes key value) reading
        (entry_single key value single) place start (λ v w. w) start start e ((x, v), tt) 0
        (bytes b) one c mine entry in
        let fits = (limits.both_fit l one (kept_charge h.payload e.0.1)).0
        (subst (λ y. Fits y l) total h.read.fits) in
        none (subst (Fits (payload_charge (bytes b))) (sym left)
        (subst (λ y. Fits (payload_charge (bytes b)) (left_after l y)) same.0
        (subst (λ (y : EnumValue E). Fits (kept_charge (bytes b) y) (left_after l one))
        (ap (λ (y : EntryOf K (EnumValue E)). y.0.1) (same.1 refl) ∙ is)
        (subst (λ q. Fits (kept_charge q e.0.1) (left_after l one)) p fits.1))))

-- ---- the map

module _ {K E : Type 0} (place : ℕ) (order : K → K → Ordering) (key : ScalarType K)
    (value : FieldKind (EnumValue E)) (l : Limits) (n : ℕ) (w : WireType)
    (m : List (K × EnumValue E) × Fields) (old : List ℕ) where
  pub no_found : NotTaken (TakesRecord (finds_entry place key value) l n w (None, m.1) old)
      → NotTaken (TakesRecord (closes_entry place order key value) l n w m old)
  no_found none c z new h =
      let (found, step, is) = h.step in
      none c found new (record { payload = h.payload; read = h.read; step = step })

  pub found_put : (k : Limits) (found : Option (K × EnumValue E)) (u : Fields)
      (z : List (K × EnumValue E)) (new : List ℕ) → z ≡ with_found order m.0 found
      → IsCharged l k (λ c. TakesRecord (finds_entry place key value) l n w (None, m.1) old c
      (found, u) new)
      → IsCharged l k (λ c. TakesRecord (closes_entry place order key value) l n w m old c (z, u)
      new)
  found_put k found u z new is h = record {
    charge = h.charge;
    taken = record {
      payload = h.taken.payload;
      read = h.taken.read;
      step = ((found, u), h.taken.step, ap (λ (x : List (K × EnumValue E)). (x, u)) is);
    };
    left = h.left;
  }

-- an entry that is found is put in the same place in either
pub viewed_found : {A S T K V : Type 0} (key : S → K) (value : T → V) (cmp : S → S → Ordering)
    (order : K → K → Ordering) → ((x y : S) → cmp x y ≡ order (key x) (key y)) → (k : A → S)
    (v : A → T) (es : List (S × T)) (found : Option A)
    → viewed key value (with_found cmp es (option_map (λ a. (k a, v a)) found))
    ≡ with_found order (viewed key value es) (option_map (λ a. (key (k a), value (v a))) found)
viewed_found key value cmp order same k v es None = refl
viewed_found key value cmp order same k v es (Some a) =
    viewed_insert key value cmp order same es (k a) (v a)
