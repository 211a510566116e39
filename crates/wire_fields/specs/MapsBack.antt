-- What is written of a map is read back, where its keys ascend.
use Rattle.std.proofs.Common.{◌≡◌, ℕ, ◌≤◌, refl, sym, ap, ◌∙◌, List, [], ◌∷◌, ◌++◌, append_assoc, subst, arith}
use Rattle.std.proofs.lemmas.List.{append-nil}
use Rattle.std.specs.BTreeMap.{insert_entry}
use Rattle.std.specs.declared.cmp.Ordering.{Ordering}
use Rattle.std.specs.declared.cmp.Ordering.TheVariants.{Greater}
use Rattle.wire_codec.specs.Field.{Payload, Fields, none, field, joined}
use Rattle.wire_codec.specs.FieldNumber.{IsFieldNumber}
use Rattle.wire_codec.specs.Folds.{Step, Folds}
use Rattle.wire_codec.specs.Laws.{FieldsArePlain}
use Rattle.wire_codec.specs.Limits.{Charge, both, nested, no_charge, element_of}
use Rattle.wire_codec.specs.LimitsLaws.{ChargesAddUp}
use Rattle.wire_codec.specs.RecordLaws.{ShortestTextSpells}
use Rattle.wire_codec.specs.Records as values
use Rattle.wire_codec.specs.Records.{plain, plain_payload, embedded, text_size, joined_records}
use Rattle.wire_fields.specs.Back.{AllAre, FoldsBack, KindBack, plain_joined}
use Rattle.wire_fields.specs.Maps.{EntryOf, entry_records, entry_takes, entry_default, reads_entry}
use Rattle.wire_fields.specs.Maps.{each_entry, map_kind}
use Rattle.wire_fields.specs.MessageBack.{prefixed_back}
use Rattle.wire_fields.specs.OneofBack.{AlwaysBack}
use Rattle.wire_fields.specs.Scalar.{ScalarType, scalar_record}
use Rattle.wire_fields.specs.ScalarBack.{ScalarBack}
use Rattle.wire_fields.specs.Shape.{FieldKind}

-- ---- the order of the keys

-- each key is above this one
abbrev pub AreAbove : {K V : Type 0} → (K → K → Ordering) → K → List (K × V) → Type 0
AreAbove order k [] = Unit {0}
AreAbove order k (e ∷ es) = (order e.0 k ≡ Greater) × AreAbove order k es

-- each key is above all that stand before it
abbrev pub Ascend : {K V : Type 0} → (K → K → Ordering) → List (K × V) → Type 0
Ascend order [] = Unit {0}
Ascend order (e ∷ es) = AreAbove order e.0 es × Ascend order es

-- the keys of the second list are above those of the first
abbrev Follow : {K V : Type 0} → (K → K → Ordering) → List (K × V) → List (K × V) → Type 0
Follow order [] es = Unit {0}
Follow order (b ∷ bs) es = AreAbove order b.0 es × Follow order bs es

-- an entry whose key is above all others is put behind them
put_last : {K V : Type 0} (order : K → K → Ordering) (bs : List (K × V)) (e : K × V)
    (es : List (K × V)) → Follow order bs (e ∷ es) → insert_entry order bs e.0 e.1 ≡ bs ++ e ∷ []
put_last order [] e es h = refl
put_last order (b ∷ bs) e es h =
    rw h.0.0 (ap (λ x. b ∷ x) (put_last order bs e es h.1))

follow_more : {K V : Type 0} (order : K → K → Ordering) (bs : List (K × V)) (e : K × V)
    (es : List (K × V)) → Follow order bs (e ∷ es) → AreAbove order e.0 es
    → Follow order (bs ++ e ∷ []) es
follow_more order [] e es h above = (above, tt)
follow_more order (b ∷ bs) e es h above = (h.0.1, follow_more order bs e es h.1 above)

-- ---- entries

pub entries_have : {K V : Type 0} (key : ScalarType K) (value : FieldKind V) (n : ℕ)
    (es : List (K × V)) → AllAre (λ j. j ≡ n) (plain (each_entry key value n es))
entries_have key value n [] = tt
entries_have key value n (e ∷ es) = (refl, entries_have key value n es)

module _ {K V : Type 0} (key : ScalarType K) (value : FieldKind V) (HoldsKey : K → Type 0)
    (HoldsValue : V → Type 0) (charge_of : V → Charge) where
  -- an entry whose key and value these hold of, of a size that a message may have
  pub record IsEntry (e : K × V) : Type 0 where
    pub key_held : HoldsKey e.0
    pub value_held : HoldsValue e.1
    pub short : text_size (entry_records key value e) ≤ 2147483647

  abbrev pub AreEntries : List (K × V) → Type 0
  AreEntries [] = Unit {0}
  AreEntries (e ∷ es) = IsEntry e × AreEntries es

  -- so many bytes for each, and what its value is charged a level down
  abbrev pub entries_charge : ℕ → List (K × V) → Charge
  entries_charge place [] = no_charge
  entries_charge place (e ∷ es) =
      both (both (element_of place) (nested (charge_of e.1))) (entries_charge place es)

  -- such an entry, where it is read, is put in its place, for what its reading is charged
  abbrev pub PutsEntries : ℕ → (K → K → Ordering) → Step (List (K × V)) → Type 0
  PutsEntries place order takes =
      (n : ℕ) (bs : List (K × V)) (e : K × V) (p : Payload) (c : Charge) → IsEntry e
      → reads_entry place key value (entry_default key value) n p c (e, tt)
      → takes bs n p c (insert_entry order bs e.0 e.1)

  module _ (same : FieldsArePlain) (charges : ChargesAddUp) (spells : ShortestTextSpells)
      (key_back : ScalarBack key HoldsKey)
      (value_back : AlwaysBack value HoldsValue charge_of) where
    abbrev entry_fields : K × V → Fields
    entry_fields e = field 1 (key.payload e.0) (field 2 (value_back.payload e.1) none)

    plain_entry : (e : K × V) → plain (entry_records key value e) ≡ entry_fields e
    plain_entry e =
        let k = scalar_record key 1 e.0 in
        let v = value.records 2 e.1 in
        plain_joined (joined_records k v) values.none
        ∙ ap (λ fs. joined fs none)
        (plain_joined k v
        ∙ ap (λ fs. joined fs (plain v)) (same.plain (field 1 (key.payload e.0) none))
        ∙ ap (field 1 (key.payload e.0)) (value_back.is 2 e.1))

    entry_back : (number : (n : ℕ) → 1 ≤ n → n ≤ 2 → IsFieldNumber n) (e : K × V) → IsEntry e
        → FoldsBack (entry_takes key value) (entry_default key value)
        (plain (entry_records key value e)) (charge_of e.1) (e, tt)
    entry_back number e h =
        subst (λ fs. FoldsBack (entry_takes key value) (entry_default key value) fs (charge_of e.1)
        (e, tt)) (sym (plain_entry e))
        (record {
          fitting = (key_back.fitting e.0 h.key_held, (value_back.fitting e.1 h.value_held, tt));
          numbered = (
            number 1 (omega arith) (omega arith),
            key_back.numbered e.0 h.key_held,
            (
              number 2 (omega arith) (omega arith),
              value_back.numbered e.1 h.value_held,
              tt,
            ),
          );
          folded = (
            ((e.0, value.default), tt),
            no_charge,
            charge_of e.1,
            (((refl, key_back.sets e.0 h.key_held), refl), refl),
            (
              (e, tt),
              charge_of e.1,
              no_charge,
              ((value_back.takes 2 e.1 h.value_held, refl), refl),
              (refl, refl),
              sym (charges.nothing_last (charge_of e.1)),
            ),
            sym (charges.nothing_first (charge_of e.1)),
          );
        })

    -- the record of an entry is read as that entry, under any field number
    pub entry_read : (number : (n : ℕ) → 1 ≤ n → n ≤ 2 → IsFieldNumber n) (place n : ℕ) (e : K × V)
        → IsEntry e
        → reads_entry place key value (entry_default key value) n
        (plain_payload (embedded (entry_records key value e)))
        (both (element_of place) (nested (charge_of e.1))) (e, tt)
    entry_read number place n e h =
        let rs = entry_records key value e in
        let inner = entry_back number e h in (
          (e, tt),
          nested (charge_of e.1),
          (
            plain rs,
            charge_of e.1,
            (prefixed_back spells).holds rs inner.fitting inner.numbered h.short,
            inner.folded,
            refl,
          ),
          refl,
          refl,
        )

    -- ---- maps

    module _ (place : ℕ) (order : K → K → Ordering)
        (number : (n : ℕ) → 1 ≤ n → n ≤ 2 → IsFieldNumber n) where
      module _ (takes : Step (List (K × V))) (puts : PutsEntries place order takes) where
        entries_folded : (n : ℕ) → IsFieldNumber n → (bs es : List (K × V)) → AreEntries es
            → Ascend order es → Follow order bs es
            → FoldsBack takes bs (plain (each_entry key value n es)) (entries_charge place es)
            (bs ++ es)
        entries_folded n is bs [] holds ascend follow =
            record { fitting = tt; numbered = tt; folded = (refl, append-nil bs) }
        entries_folded n is bs (e ∷ es) holds ascend follow =
            let rs = entry_records key value e in
            let encoded = prefixed_back spells in
            let inner = entry_back number e holds.0 in
            let next = bs ++ e ∷ [] in
            let one = both (element_of place) (nested (charge_of e.1)) in
            let p = plain_payload (embedded rs) in
            let more = entries_folded n is next es holds.1 ascend.1
            (follow_more order bs e es follow ascend.0) in
            record {
              fitting = (encoded.fitting rs inner.fitting holds.0.short, more.fitting);
              numbered = (is, encoded.numbered rs inner.numbered, more.numbered);
              folded = (
                next,
                one,
                entries_charge place es,
                subst (takes bs n p one) (put_last order bs e es follow)
                    (puts n bs e p one holds.0 (entry_read number place n e holds.0)),
                subst (λ z. Folds takes next (plain (each_entry key value n es))
                    (entries_charge place es) z)
                    (append_assoc bs (e ∷ []) es) more.folded,
                refl,
              );
            }

        pub all_folded : (n : ℕ) → IsFieldNumber n → (es : List (K × V))
            → AreEntries es × Ascend order es
            → FoldsBack takes [] (plain (each_entry key value n es)) (entries_charge place es) es
        all_folded n is es h = entries_folded n is [] es h.0 h.1 tt

      pub map_back : KindBack (map_kind place order key value)
          (λ es. AreEntries es × Ascend order es) (entries_charge place)
      map_back = record {
        back = all_folded (map_kind place order key value).takes
            (λ n bs e p c is (after, one, read, charged, same). (
              after,
              one,
              read,
              charged,
              ap (λ (x : EntryOf K V). insert_entry order bs x.0.0 x.0.1) same,
            ));
        has = λ n es h. entries_have key value n es;
      }
