-- Numbers that a closed enum lacks, one after another.
use Rattle.std.proofs.Common.{◌≡◌, ℕ, ℤ, ◌<◌, List, [], ◌∷◌, ◌++◌, length, refl, sym, ap, ◌∙◌}
use Rattle.std.proofs.Common.{arith, append-nil, subst}
use Rattle.std.specs.Prelude.{Option, Some, None}
use Rattle.wire_base.specs.VarintLaws.{OneVarint, NoVarintBesideFault, OneDelimited}
use Rattle.wire_base.specs.VarintLaws.{NoDelimitedBesideFault}
use Rattle.wire_codec.specs.DecodeError.{DecodeError}
use Rattle.wire_codec.specs.Delimited.{IsDelimited, DelimitedFault}
use Rattle.wire_codec.specs.EnumValue.{EnumValue}
use Rattle.wire_codec.specs.Field.{Payload, Fields, none, field, push}
use Rattle.wire_codec.specs.Field.{varint, fixed64, fixed32, bytes, group}
use Rattle.wire_codec.specs.Limits.{Limits}
use Rattle.wire_codec.specs.Packed.{SpellsEach}
use Rattle.wire_codec.specs.Read.{Reads}
use Rattle.wire_codec.specs.Spells.{IsPayload}
use Rattle.wire_codec.specs.Taking.{TakesRecord, IsCharged, NotTaken}
use Rattle.wire_codec.specs.ValueMap.{int32}
use Rattle.wire_codec.specs.Varint.{IsSpelling, VarintFault}
use Rattle.wire_codec.specs.WireType.{WireType}
use Rattle.wire_codec.specs.WireType.TheVariants.{LengthDelimited}
use Rattle.wire_fields.specs.Closed.{HasNumbers, adds_known, closes_each, all_sorted, sorted}
use Rattle.wire_fields.specs.Packed.{some_bytes}
use Rattle.wire_fields.specs.declared.form.Form.TheVariants as forms
use Rattle.wire_views.specs.Spans.{with_number, with_numbers}

-- ---- where the numbers of a payload stand

delimited_whole : (b text : List ℕ) → IsDelimited b text → Reads text (IsDelimited b) []
delimited_whole b text h = record { text = text; parts = sym (append-nil text); spelled = h }

module _ (n : ℕ) (w : WireType) (payload : List ℕ) where
  pub packed_numbers : OneDelimited → (numbers rest : List ℕ) → w ≡ LengthDelimited
      → Reads payload (IsDelimited numbers) rest → (p : Payload) (xs : List ℕ)
      → IsPayload n w p payload → HasNumbers p xs → SpellsEach IsSpelling xs numbers
  packed_numbers one numbers rest is read (varint x) xs h has = absurd cc
  packed_numbers one numbers rest is read (fixed64 x) xs h has = absurd has
  packed_numbers one numbers rest is read (fixed32 x) xs h has = absurd has
  packed_numbers one numbers rest is read (group fs) xs h has = absurd has
  packed_numbers one numbers rest is read (bytes b) xs h has =
      subst (SpellsEach IsSpelling xs)
      (one b numbers payload [] rest (delimited_whole b payload h.spelled) read).0 has

  pub no_packed : NoDelimitedBesideFault → (e : DecodeError) → w ≡ LengthDelimited
      → DelimitedFault None payload e → (p : Payload) (xs : List ℕ) → IsPayload n w p payload
      → HasNumbers p xs → SpellsEach IsSpelling xs payload
  no_packed beside e is fault (varint x) xs h has = absurd cc
  no_packed beside e is fault (fixed64 x) xs h has = absurd has
  no_packed beside e is fault (fixed32 x) xs h has = absurd has
  no_packed beside e is fault (group fs) xs h has = absurd has
  no_packed beside e is fault (bytes b) xs h has =
      absurd (beside None b payload [] e (delimited_whole b payload h.spelled) tt fault)

-- ---- one number after another

-- what numbers that are left add, where those that were taken added so much
pub record Left {E : Type 0} (of_number : ℤ → Option E) (n : ℕ) (old now : Fields)
    (xs rest : List ℕ) : Type 0 where
  pub numbers : List ℕ
  pub spelled : SpellsEach IsSpelling numbers rest
  pub same : with_numbers of_number n now numbers ≡ with_numbers of_number n old xs

-- the next number, and those behind it
record Next (xs rest : List ℕ) : Type 0 where
  pub number : ℕ
  pub more : List ℕ
  pub behind : List ℕ
  pub is : xs ≡ number ∷ more
  pub read : Reads rest (IsSpelling number) behind
  pub spelled : SpellsEach IsSpelling more behind

next_of : (xs rest : List ℕ) → SpellsEach IsSpelling xs rest → 0 < length rest → Next xs rest
next_of [] rest h some = absurd (omega (arith, some, ap length h))
next_of (x ∷ xs) rest (one, more, parts, is, others) some = record {
  number = x;
  more = xs;
  behind = more;
  is = refl;
  read = record { text = one; parts = parts; spelled = is };
  spelled = others;
}

module _ {E : Type 0} (of_number : ℤ → Option E) (n : ℕ) (old now : Fields) (xs rest : List ℕ)
    (left : Left of_number n old now xs rest) where
  pub number_kept : OneVarint → 0 < length rest → (x : ℕ) (behind : List ℕ)
      → Reads rest (IsSpelling x) behind → (m : ℕ) → m ≡ n → (next : Fields)
      → next ≡ with_number m x now (of_number (int32.dec x))
      → Left of_number n old next xs behind
  number_kept one some x behind read m own next is =
      let front = next_of left.numbers rest left.spelled some in
      let same = one rest front.behind behind front.number x front.read read in
      record {
        numbers = front.more;
        spelled = subst (SpellsEach IsSpelling front.more) same.1 front.spelled;
        same = ap (λ (u : Fields). with_numbers of_number n u front.more)
            (is ∙ ap (λ k. with_number k x now (of_number (int32.dec x))) own
            ∙ ap (λ k. with_number n k now (of_number (int32.dec k))) (sym same.0))
            ∙ ap (with_numbers of_number n now) (sym front.is) ∙ left.same;
      }

  pub no_number : NoVarintBesideFault → 0 < length rest → (e : DecodeError) → VarintFault rest e
      → ⊥
  no_number beside some e fault =
      let front = next_of left.numbers rest left.spelled some in
      beside rest front.behind front.number e front.read fault

  none_more : (ys : List ℕ) → SpellsEach IsSpelling ys rest → length rest ≡ 0 → ys ≡ []
  none_more [] h empty = refl
  none_more (y ∷ ys) (one, more, parts, is, others) empty =
      absurd (one_there one more rest y parts is empty) where
        one_there : (one more rest : List ℕ) (y : ℕ) → rest ≡ one ++ more → IsSpelling y one
            → length rest ≡ 0 → ⊥
        one_there [] more rest y parts is empty = some_bytes forms.Varint y [] is refl
        one_there (b ∷ one) more rest y parts is empty =
            omega (arith, empty, ap length parts)

  pub all_kept : length rest ≡ 0 → now ≡ with_numbers of_number n old xs
  all_kept empty =
      sym (ap (with_numbers of_number n now) (none_more left.numbers left.spelled empty))
      ∙ left.same

-- ---- a record

module _ {E : Type 0} (of_number : ℤ → Option E) where
  -- what is added and what is kept are apart
  kept_apart : (n x : ℕ) (m : List (EnumValue E)) (u : Fields) (o : Option E)
      → sorted adds_known n x (m, u) o
      ≡ ((sorted adds_known n x (m, none) o).0, with_number n x u o)
  kept_apart n x m u None = refl
  kept_apart n x m u (Some e) = refl

  added_alike : (n x : ℕ) (m : List (EnumValue E)) (u v : Fields) (o : Option E)
      → (sorted adds_known n x (m, u) o).0 ≡ (sorted adds_known n x (m, v) o).0
  added_alike n x m u v None = refl
  added_alike n x m u v (Some e) = refl

  all_alike : (n : ℕ) (m : List (EnumValue E)) (u v : Fields) (xs : List ℕ)
      → (all_sorted adds_known of_number n (m, u) xs).0
      ≡ (all_sorted adds_known of_number n (m, v) xs).0
  all_alike n m u v [] = refl
  all_alike n m u v (x ∷ xs) =
      let o = of_number (int32.dec x) in
      let added = (sorted adds_known n x (m, none) o).0 in
      let kept = λ (k : Fields). kept_apart n x m k o in
      ap (λ (z : List (EnumValue E) × Fields). (all_sorted adds_known of_number n z xs).0) (kept u)
      ∙ all_alike n added (with_number n x u o) (with_number n x v o) xs
      ∙ ap (λ (z : List (EnumValue E) × Fields). (all_sorted adds_known of_number n z xs).0)
      (sym (kept v))

  all_apart : (n : ℕ) (m : List (EnumValue E)) (u : Fields) (xs : List ℕ)
      → all_sorted adds_known of_number n (m, u) xs
      ≡ ((all_sorted adds_known of_number n (m, none) xs).0, with_numbers of_number n u xs)
  all_apart n m u [] = refl
  all_apart n m u (x ∷ xs) =
      let o = of_number (int32.dec x) in
      let added = (sorted adds_known n x (m, none) o).0 in
      ap (λ (z : List (EnumValue E) × Fields). all_sorted adds_known of_number n z xs)
      (kept_apart n x m u o)
      ∙ all_apart n added (with_number n x u o) xs
      ∙ ap (λ (z : List (EnumValue E)). (z, with_numbers of_number n (with_number n x u o) xs))
      (all_alike n added none (with_number n x none o) xs
      ∙ ap (λ (z : List (EnumValue E) × Fields). (all_sorted adds_known of_number n z xs).0)
      (sym (kept_apart n x m none o)))

  -- ---- where none is kept

  push_some : (u : Fields) (m : ℕ) (p : Payload) → push u m p ≡ none → ⊥
  push_some none m p e = absurd cc
  push_some (field k q rest) m p e = absurd cc

  kept_some : (n x : ℕ) (u : Fields) (o : Option E) → (u ≡ none → ⊥)
      → with_number n x u o ≡ none → ⊥
  kept_some n x u None some e = push_some u n (varint x) e
  kept_some n x u (Some v) some e = some e

  all_some : (n : ℕ) (u : Fields) (xs : List ℕ) → (u ≡ none → ⊥)
      → with_numbers of_number n u xs ≡ none → ⊥
  all_some n u [] some e = some e
  all_some n u (x ∷ xs) some e =
      let o = of_number (int32.dec x) in
      all_some n (with_number n x u o) xs (kept_some n x u o some) e

  first_known : (n x : ℕ) (u : Fields) (xs : List ℕ) (o : Option E)
      → (with_numbers of_number n none xs ≡ none → with_numbers of_number n u xs ≡ u)
      → with_numbers of_number n (with_number n x none o) xs ≡ none
      → with_numbers of_number n (with_number n x u o) xs ≡ u
  first_known n x u xs None others e =
      absurd (all_some n (push none n (varint x)) xs (push_some none n (varint x)) e)
  first_known n x u xs (Some v) others e = others e

  all_known : (n : ℕ) (u : Fields) (xs : List ℕ) → with_numbers of_number n none xs ≡ none
      → with_numbers of_number n u xs ≡ u
  all_known n u [] e = refl
  all_known n u (x ∷ xs) e =
      first_known n x u xs (of_number (int32.dec x)) (all_known n u xs) e

  module _ (l : Limits) (n : ℕ) (w : WireType) (m : List (EnumValue E)) (u : Fields)
      (old : List ℕ) where
    -- what is not taken beside no unknown fields is not taken beside any
    pub not_closed_each : NotTaken (TakesRecord (closes_each of_number) l n w (m, none) old)
        → NotTaken (TakesRecord (closes_each of_number) l n w (m, u) old)
    not_closed_each none_taken c z new h =
        let (xs, has, charged, is) = h.step in
        none_taken c (all_sorted adds_known of_number n (m, none) xs) new (record {
          payload = h.payload;
          read = h.read;
          step = (xs, has, charged, refl);
        })

    module _ (k : Limits) (z : List (EnumValue E)) (left : Fields) (new : List ℕ)
        (h : IsCharged l k (λ c. TakesRecord (closes_each of_number) l n w (m, none) old c
        (z, left) new)) where
      parts : ◌≡◌ {A = List (EnumValue E) × Fields} (z, left) (
        (all_sorted adds_known of_number n (m, none) h.taken.step.0).0,
        with_numbers of_number n none h.taken.step.0,
      )
      parts = h.taken.step.3 ∙ all_apart n m none h.taken.step.0

      -- the numbers that the enum lacks are kept behind the others
      pub each_kept : (i : ℕ) (next : Fields) → i ≡ n
          → next ≡ with_numbers of_number i u h.taken.step.0
          → IsCharged l k (λ c. TakesRecord (closes_each of_number) l n w (m, u) old c (z, next)
          new)
      each_kept i next own is = record {
        charge = h.charge;
        taken = record {
          payload = h.taken.payload;
          read = h.taken.read;
          step = (
            h.taken.step.0,
            h.taken.step.1,
            h.taken.step.2,
            ap (λ (fs : Fields). (z, fs))
                (is ∙ ap (λ j. with_numbers of_number j u h.taken.step.0) own)
                ∙ ap (λ (p : List (EnumValue E) × Fields).
                (p.0, with_numbers of_number n u h.taken.step.0)) parts
                ∙ sym (all_apart n m u h.taken.step.0),
          );
        };
        left = h.left;
      }

      -- where no number is left all are added
      pub each_known : left ≡ none
          → IsCharged l k (λ c. TakesRecord (closes_each of_number) l n w (m, u) old c (z, u) new)
      each_known empty =
          each_kept n u refl (sym (all_known n u h.taken.step.0
          (sym (ap (λ (p : List (EnumValue E) × Fields). p.1) parts) ∙ empty)))
