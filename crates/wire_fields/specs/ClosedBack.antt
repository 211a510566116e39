-- Closed enums are read back: of a value that the enum has, the number is the enum's, so that none
-- of what is written goes to the unknown fields.
use Rattle.std.proofs.Common.{◌≡◌, ◌⊎◌, inl, inr, ℕ, ◌^◌, ◌<◌, ◌≤◌, true, false, refl, sym, ap, ◌∙◌, subst}
use Rattle.std.proofs.Common.{List, [], ◌∷◌, ◌++◌, append_assoc}
use Rattle.std.proofs.lemmas.List.{append-nil}
use Rattle.std.specs.Int.{w32}
use Rattle.std.specs.Prelude.{ℤ, FitsSigned, Option, Some, None, map, ◌==◌}
use Rattle.wire_codec.specs.EnumValue.{EnumValue}
use Rattle.wire_codec.specs.Enumeration.{number_of, known_or}
use Rattle.wire_codec.specs.Charge.{payload_charge}
use Rattle.wire_codec.specs.Field.{Payload, Fields, none, field, push, varint}
use Rattle.wire_codec.specs.FieldNumber.{IsFieldNumber}
use Rattle.wire_codec.specs.Folds.{Folds}
use Rattle.wire_codec.specs.Limits.{Charge, both, no_charge}
use Rattle.wire_codec.specs.Records.{Records, plain}
use Rattle.wire_codec.specs.ValueMap.{int32}
use Rattle.wire_fields.specs.declared.form.Form.TheVariants.{Varint}
use Rattle.wire_fields.specs.Back.{AllAre, FoldsBack, fold_lifted, same_owned}
use Rattle.wire_fields.specs.Closed.{closes_by, closes, closes_each, sets_known, adds_known}
use Rattle.wire_fields.specs.Closed.{sorted, sort_charge, all_sorted, all_charge}
use Rattle.wire_fields.specs.Closed.{closed_once, closed_packed, closed_unpacked}
use Rattle.wire_fields.specs.ClosedOneof.{becomes, closing}
use Rattle.wire_fields.specs.Enums.{open_enum}
use Rattle.wire_fields.specs.Grounds.{Grounds, NumberBack, enum_back, numeric_back}
use Rattle.wire_fields.specs.Leaving.{Leaving}
use Rattle.wire_fields.specs.LeavingBack.{beside_unknown, ReturnedBeside, Leaves, LeavesFor}
use Rattle.wire_fields.specs.Numbers.{numeric}
use Rattle.wire_fields.specs.Packed.{packed_records}
use Rattle.wire_fields.specs.PackedBack.{AreNumbers, spelled}
use Rattle.wire_fields.specs.Presence.{optional_records}
use Rattle.wire_fields.specs.Ranges.{Range, IsOpen, IsClosed, closed_range, optional_range}
use Rattle.wire_fields.specs.Ranges.{packed_range, unpacked_range}
use Rattle.wire_fields.specs.Scalar.{ScalarType, scalar_record}
use Rattle.wire_fields.specs.ScalarBack.{IfThere, AllHold, one_back}
use Rattle.wire_fields.specs.ScalarBack.{optional_back, each_folds, each_has}
use Rattle.wire_fields.specs.Shape.{on}

-- the value of a oneof is one of the closed enum, and written as its number, for no charge
pub record IsClosing {E V : Type 0} (number : E → ℤ) (of_number : ℤ → Option E) (n : ℕ)
    (set : EnumValue E → V) (records : V → Records) (r : Range V) (m : V) : Type 0 where
  pub value : EnumValue E
  pub closed : IsClosed number of_number value
  pub is : m ≡ set value
  pub written : plain (records m) ≡ field n (varint (int32.enc (number_of number value))) none
  pub uncharged : r.charge_of m ≡ no_charge

-- or none of its records has the number
abbrev pub ClosingOrApart : {E V : Type 0} → (E → ℤ) → (ℤ → Option E) → ℕ → (EnumValue E → V)
    → (V → Records) → Range V → V → Type 0
ClosingOrApart number of_number n set records r m =
    IsClosing number of_number n set records r m
    ⊎ AllAre (λ j. (j == n) ≡ false) (plain (records m))

module _ (g : Grounds) {E : Type 0} (number : E → ℤ) (of_number : ℤ → Option E) where
  -- as an open one
  is_open : (v : EnumValue E) → IsClosed number of_number v → IsOpen number of_number v
  is_open v h = record {
    fits = subst (λ k. FitsSigned w32 (number_of number k)) (sym h.is) h.fits;
    is = subst (λ k. known_or (of_number (number_of number k)) (number_of number k) ≡ k) (sym h.is)
        (ap (λ k. known_or k (number h.value)) h.found);
  }

  pub closed_back : NumberBack Varint (open_enum number of_number) (closed_range number of_number)
  closed_back =
      let any = enum_back g number of_number in
      record { back = λ v h. any.back v (is_open v h); fits = λ v h. any.fits v (is_open v h) }

  abbrev pub closed_type : ScalarType (EnumValue E)
  closed_type = numeric Varint (open_enum number of_number)

  -- what is written for it is the number of its value
  found : (v : EnumValue E) (h : IsClosed number of_number v)
      → of_number (int32.dec (int32.enc (number_of number v))) ≡ Some h.value
  found v h =
      subst (λ k. of_number (int32.dec (int32.enc (number_of number k))) ≡ Some h.value) (sym h.is)
      (ap of_number (g.int32 (number h.value) h.fits) ∙ h.found)

  -- it is added, and nothing is kept
  closed_step : {M : Type 0} (add : M → EnumValue E → M) (n : ℕ) (m : M) (u : Fields)
      (v : EnumValue E) → IsClosed number of_number v
      → closes_by add of_number (m, u) n (varint (int32.enc (number_of number v))) no_charge
      (add m v, u)
  closed_step {M} add n m u v h = (
    int32.enc (number_of number v),
    refl,
    sym (ap sort_charge (found v h)),
    ap (λ (k : EnumValue E). (add m k, u)) h.is
        ∙ sym (ap (sorted add n (int32.enc (number_of number v)) (m, u)) (found v h)),
  )

  -- ---- once

  pub once_folded : (n : ℕ) → IsFieldNumber n → (u : Fields) (o : Option (EnumValue E))
      → IfThere (IsClosed number of_number) o
      → FoldsBack (beside_unknown u (closes of_number)) None (plain (optional_records closed_type n o))
      no_charge o
  once_folded n is u None h = record { fitting = tt; numbered = tt; folded = (refl, refl) }
  once_folded n is u (Some v) h =
      one_back g.plain g.charges closed_type (IsClosed number of_number) (numeric_back closed_back)
      (beside_unknown u (closes of_number)) None (Some v) n v is h (closed_step sets_known n None u v h)

  abbrev pub closed_once_returned : (n : ℕ) → 1 ≤ n → n < 2 ^ 29
      → ReturnedBeside (closed_once number of_number n)
      (optional_range (closed_range number of_number))
  closed_once_returned n low high = record {
    Has = λ j. j ≡ n;
    back = λ u. record {
      back = once_folded n (g.number n low high) u;
      has = (optional_back g.plain g.charges closed_type (IsClosed number of_number)
          (numeric_back closed_back)).has n;
      own = λ j p. same_owned n j;
    };
  }

  -- ---- each in a record

  pub adds_one : (n : ℕ) (u : Fields) (before : List (EnumValue E)) (v : EnumValue E)
      → IsClosed number of_number v
      → beside_unknown u (closes_each of_number) before n (varint (int32.enc (number_of number v)))
      no_charge (before ++ v ∷ [])
  adds_one n u before v h =
      let (x, has, charged, is) = closed_step adds_known n before u v h in (
        int32.enc (number_of number v) ∷ [],
        refl,
        sym (ap (λ k. both (sort_charge k) no_charge) (found v h)
            ∙ g.charges.nothing_first no_charge),
        ap (λ (k : EnumValue E). (adds_known before k, u)) h.is
            ∙ sym (ap (sorted adds_known n (int32.enc (number_of number v)) (before, u))
            (found v h)),
      )

  abbrev pub closed_unpacked_returned : (n : ℕ) → 1 ≤ n → n < 2 ^ 29
      → ReturnedBeside (closed_unpacked number of_number n)
      (unpacked_range (closed_range number of_number))
  closed_unpacked_returned n low high =
      let scalar = numeric_back closed_back in
      record {
        Has = λ j. j ≡ n;
        back = λ u. record {
          back = λ vs holds. each_folds g.plain closed_type (IsClosed number of_number) scalar
              (beside_unknown u (closes_each of_number)) (λ xs. no_charge) no_charge n
              (g.number n low high) refl
              (λ v xs. sym (g.charges.nothing_first no_charge)) (adds_one n u) [] vs holds;
          has = λ vs holds.
              each_has g.plain closed_type (IsClosed number of_number) scalar n vs;
          own = λ j p. same_owned n j;
        };
      }

  -- ---- packed

  abbrev numbers_of : List (EnumValue E) → List ℕ
  numbers_of = map (λ v. int32.enc (number_of number v))

  uncharged_all : (vs : List (EnumValue E)) → AllHold (IsClosed number of_number) vs
      → all_charge of_number (numbers_of vs) ≡ no_charge
  uncharged_all [] h = refl
  uncharged_all (v ∷ vs) h =
      ap (λ k. both (sort_charge k) (all_charge of_number (numbers_of vs))) (found v h.0)
      ∙ g.charges.nothing_first (all_charge of_number (numbers_of vs)) ∙ uncharged_all vs h.1

  added_all : (n : ℕ) (u : Fields) (before vs : List (EnumValue E))
      → AllHold (IsClosed number of_number) vs
      → all_sorted adds_known of_number n (before, u) (numbers_of vs) ≡ (before ++ vs, u)
  added_all n u before [] h = ap (λ (x : List (EnumValue E)). (x, u)) (sym (append-nil before))
  added_all n u before (v ∷ vs) h =
      let rest = numbers_of vs in
      ap (λ k. all_sorted adds_known of_number n k rest)
      (ap (sorted adds_known n (int32.enc (number_of number v)) (before, u)) (found v h.0)
      ∙ ap (λ (k : EnumValue E). (before ++ k ∷ [], u)) (sym h.0.is))
      ∙ added_all n u (before ++ v ∷ []) vs h.1
      ∙ ap (λ (x : List (EnumValue E)). (x, u)) (append_assoc before (v ∷ []) vs)

  pub packed_folded : (n : ℕ) → IsFieldNumber n → (u : Fields) (vs : List (EnumValue E))
      → AreNumbers Varint (open_enum number of_number) (IsClosed number of_number) vs
      → FoldsBack (beside_unknown u (closes_each of_number)) []
      (plain (packed_records Varint (open_enum number of_number) n vs)) no_charge vs
  packed_folded n is u [] h = record { fitting = tt; numbered = tt; folded = (refl, refl) }
  packed_folded n is u (v ∷ vs) h = record {
    fitting = (h.short, tt);
    numbered = (is, tt, tt);
    folded = (
      v ∷ vs,
      no_charge,
      no_charge,
      (
        numbers_of (v ∷ vs),
        spelled g.shortest g.charges Varint (open_enum number of_number)
            (IsClosed number of_number) closed_back.back closed_back.fits (v ∷ vs) h.each,
        sym (uncharged_all (v ∷ vs) h.each),
        sym (added_all n u [] (v ∷ vs) h.each),
      ),
      (refl, refl),
      sym (g.charges.nothing_first no_charge),
    );
  }

  pub packed_has : (n : ℕ) (vs : List (EnumValue E))
      → AllAre (λ j. j ≡ n) (plain (packed_records Varint (open_enum number of_number) n vs))
  packed_has n [] = tt
  packed_has n (v ∷ vs) = (refl, tt)

  abbrev pub closed_packed_returned : (n : ℕ) → 1 ≤ n → n < 2 ^ 29
      → ReturnedBeside (closed_packed number of_number n)
      (packed_range Varint (open_enum number of_number) (closed_range number of_number))
  closed_packed_returned n low high = record {
    Has = λ j. j ≡ n;
    back = λ u. record {
      back = packed_folded n (g.number n low high) u;
      has = λ vs h. packed_has n vs;
      own = λ j p. same_owned n j;
    };
  }

  -- ---- in a oneof

  pub closing_value : {V : Type 0} (n : ℕ) (set : EnumValue E → V) (records : V → Records)
      (r : Range V) (v : EnumValue E) → records (set v) ≡ scalar_record closed_type n v
      → IsClosed number of_number v → r.charge_of (set v) ≡ no_charge
      → ClosingOrApart number of_number n set records r (set v)
  closing_value {V} n set records r v same h uncharged = inl (record {
    value = v;
    closed = h;
    is = refl;
    written = ap plain same
        ∙ g.plain.plain (field n (varint (int32.enc (number_of number v))) none);
    uncharged = uncharged;
  })

  module _ {V : Type 0} (n : ℕ) (set : EnumValue E → V) (s : Leaving V) (r : Range V)
      (x : ReturnedBeside s r)
      (apart : (m : V) → r.Holds m → ClosingOrApart number of_number n set s.records r m) where
    pub closing_folded : (u : Fields) (m : V) → r.Holds m → ClosingOrApart number of_number n set s.records r m
        → Folds (beside_unknown u (closing n of_number set s).takes) s.default (plain (s.records m))
        (r.charge_of m) m
    closing_folded u m h (inl k) =
        let t = beside_unknown u (closing n of_number set s).takes in
        let p = varint (int32.enc (number_of number k.value)) in
        subst (λ fs. Folds t s.default fs (r.charge_of m) m) (sym k.written)
        (subst (λ c. Folds t s.default (field n p none) c m) (sym k.uncharged)
        (subst (λ z. Folds t s.default (field n p none) no_charge z) (sym k.is) (
          set k.value,
          no_charge,
          no_charge,
          subst (λ b. on b
              (closes_by (becomes set) of_number (s.default, u) n p no_charge (set k.value, u))
              (s.takes (s.default, u) n p no_charge (set k.value, u))) (sym (same_owned n n refl))
              (closed_step (becomes set) n s.default u k.value k.closed),
          (refl, refl),
          sym (g.charges.nothing_first no_charge),
        )))
    closing_folded u m h (inr k) =
        fold_lifted (λ j p. (j == n) ≡ false) (beside_unknown u s.takes)
        (beside_unknown u (closing n of_number set s).takes) (λ v. v)
        (λ v z j p c is step. subst
        (λ b. on b (closes_by (becomes set) of_number (v, u) j p c (z, u))
        (s.takes (v, u) j p c (z, u))) (sym is) step)
        (plain (s.records m)) s.default m (r.charge_of m)
        k
        ((x.back u).back m h).folded

    abbrev pub closing_returned : ReturnedBeside (closing n of_number set s) r
    closing_returned = record {
      Has = x.Has;
      back = λ u. record {
        back = λ m h.
            let inner = (x.back u).back m h in
            record {
              fitting = inner.fitting;
              numbered = inner.numbered;
              folded = closing_folded u m h (apart m h);
            };
        has = (x.back u).has;
        own = (x.back u).own;
      };
    }

-- ---- records that are left

-- a number that the enum does not have
module _ {E : Type 0} (number : E → ℤ) (of_number : ℤ → Option E) (n x : ℕ)
    (lacks : of_number (int32.dec x) ≡ None) where
  pub once_leaves : Leaves (closed_once number of_number n) n (varint x)
  once_leaves = record {
    own = same_owned n n refl;
    left = λ m u. (
      x,
      refl,
      sym (ap sort_charge lacks),
      sym (ap (sorted sets_known n x (m, u)) lacks),
    );
  }

  each_left : (m : List (EnumValue E)) (u : Fields)
      → closes_each of_number (m, u) n (varint x) (payload_charge (varint x))
      (m, push u n (varint x))
  each_left m u = (
    x ∷ [],
    refl,
    sym (ap (λ k. both (sort_charge k) no_charge) lacks),
    sym (ap (sorted adds_known n x (m, u)) lacks),
  )

  pub packed_leaves : Leaves (closed_packed number of_number n) n (varint x)
  packed_leaves = record { own = same_owned n n refl; left = each_left }

  pub unpacked_leaves : Leaves (closed_unpacked number of_number n) n (varint x)
  unpacked_leaves = record { own = same_owned n n refl; left = each_left }

  pub closing_leaves : {V : Type 0} (set : EnumValue E → V) (s : Leaving V)
      → s.owns n (varint x) ≡ true → Leaves (closing n of_number set s) n (varint x)
  closing_leaves set s own = record {
    own = own;
    left = λ m u. subst (λ b. on b
        (closes_by (becomes set) of_number (m, u) n (varint x) (payload_charge (varint x))
        (m, push u n (varint x)))
        (s.takes (m, u) n (varint x) (payload_charge (varint x)) (m, push u n (varint x))))
        (sym (same_owned n n refl)) (
          x,
          refl,
          sym (ap sort_charge lacks),
          sym (ap (sorted (becomes set) n x (m, u)) lacks),
        );
  }

-- and one of another number, where the others leave it
pub closing_leaves_other : {E V : Type 0} {c : Charge} (of_number : ℤ → Option E) (n : ℕ)
    (set : EnumValue E → V) (s : Leaving V) (k : ℕ) (q : Payload) → (k == n) ≡ false
    → LeavesFor s c k q → LeavesFor (closing n of_number set s) c k q
closing_leaves_other {c = c} of_number n set s k q other h = record {
  own = h.own;
  left = λ m u. subst (λ b. on b
      (closes_by (becomes set) of_number (m, u) k q c (m, push u k q))
      (s.takes (m, u) k q c (m, push u k q))) (sym other) (h.left m u);
}
