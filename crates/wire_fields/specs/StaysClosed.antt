-- What decoding leaves of closed enums is in range: numbers that the enum has, and among the unknown
-- fields a varint for each other number.
use Rattle.std.proofs.Common.{◌≡◌, ℕ, ◌<◌, ◌^◌, true, false, Bool, refl, sym, ap, ◌∙◌, subst, List, [], ◌∷◌}
use Rattle.std.proofs.lemmas.Bool.{eqb-true}
use Rattle.std.specs.Int.{w32}
use Rattle.std.specs.Prelude.{ℤ, FitsSigned, Option, Some, None, ◌==◌}
use Rattle.wire_codec.specs.Charge.{payload_charge}
use Rattle.wire_codec.specs.EnumValue.{EnumValue}
use Rattle.wire_codec.specs.EnumValue.TheVariants.{Known}
use Rattle.wire_codec.specs.Field.{Payload, Fields, varint, fixed64, fixed32, bytes, group}
use Rattle.wire_codec.specs.InRange.{IsPayloadFitting}
use Rattle.wire_codec.specs.Limits.{Charge}
use Rattle.wire_codec.specs.Packed.{SpellsEach}
use Rattle.wire_codec.specs.Records.{Records}
use Rattle.wire_codec.specs.ValueMap.{int32}
use Rattle.wire_codec.specs.Varint.{IsSpelling}
use Rattle.wire_fields.specs.declared.form.Form.TheVariants.{Varint}
use Rattle.wire_fields.specs.Closed.{closes_by, closes_each, sets_known, adds_known, sorted, all_sorted, HasNumbers}
use Rattle.wire_fields.specs.Closed.{closed_once, closed_packed, closed_unpacked}
use Rattle.wire_fields.specs.ClosedBack.{once_leaves, packed_leaves, unpacked_leaves, closing_leaves}
use Rattle.wire_fields.specs.ClosedBack.{closing_leaves_other}
use Rattle.wire_fields.specs.ClosedOneof.{becomes, closing}
use Rattle.wire_fields.specs.Enums.{open_enum}
use Rattle.wire_fields.specs.Leaving.{Leaving, leaving_none}
use Rattle.wire_fields.specs.LeavingBack.{LeavesFor, Leaves}
use Rattle.wire_fields.specs.Oneof.{Variants, oneof}
use Rattle.wire_fields.specs.Ranges.{Range, IsClosed, closed_range, optional_range, packed_range}
use Rattle.wire_fields.specs.Ranges.{unpacked_range}
use Rattle.wire_fields.specs.ScalarBack.{AllHold, IfThere}
use Rattle.wire_fields.specs.Shape.{on}
use Rattle.wire_fields.specs.Short.{AreShort}
use Rattle.wire_fields.specs.Sound.{IsSound}
use Rattle.wire_fields.specs.Stays.{AreKept, kept_more}
use Rattle.wire_fields.specs.StaysKinds.{all_more, int32_fits, packed_short}
use Rattle.wire_fields.specs.StaysLeaving.{StandsBeside, LeavingStays}
use Rattle.wire_fields.specs.StaysMessages.{VariantsStay, all_but}

-- numbers that are left at this field number are charged as any unknown field
abbrev pub ChargesNumbers : (ℕ → Payload → Charge) → ℕ → Type 0
ChargesNumbers charge_of n = (x : ℕ) → charge_of n (varint x) ≡ payload_charge (varint x)

-- the numbers of a payload fit in 64 bits
spelled_fit : (xs b : List ℕ) → SpellsEach IsSpelling xs b → AllHold (λ x. x < 2 ^ 64) xs
spelled_fit [] b h = tt
spelled_fit (x ∷ xs) b (one, more, parts, is, rest) = (is.fits, spelled_fit xs more rest)

numbers_fit : (p : Payload) → IsPayloadFitting p → (xs : List ℕ) → HasNumbers p xs
    → AllHold (λ x. x < 2 ^ 64) xs
numbers_fit (varint x) fits xs has = subst (AllHold (λ x. x < 2 ^ 64)) (sym has) (fits, tt)
numbers_fit (bytes b) fits xs has = spelled_fit xs b has
numbers_fit (fixed64 x) fits xs has = absurd has
numbers_fit (fixed32 x) fits xs has = absurd has
numbers_fit (group fs) fits xs has = absurd has

module _ {E : Type 0} (number : E → ℤ) (of_number : ℤ → Option E)
    (keeps : (n : ℤ) (e : E) → of_number n ≡ Some e → number e ≡ n) where
  abbrev IsIn : EnumValue E → Type 0
  IsIn = IsClosed number of_number

  -- a value that the enum has for a number
  found_is_closed : (x : ℕ) (e : E) → of_number (int32.dec x) ≡ Some e → IsIn (Known e)
  found_is_closed x e found =
      let same = keeps (int32.dec x) e found in
      record {
        value = e;
        is = refl;
        fits = subst (FitsSigned w32) (sym same) (int32_fits x);
        found = ap of_number same ∙ found;
      }

  -- a number that the enum does not have, as a varint, is left
  abbrev LeavesNumbers : (ℕ → Payload → Type 0) → ℕ → Type 0
  LeavesNumbers Left n = (x : ℕ) → of_number (int32.dec x) ≡ None → Left n (varint x)

  module _ {M : Type 0} (add : M → EnumValue E → M) (Is : M → Type 0)
      (more : (m : M) (v : EnumValue E) → Is m → IsIn v → Is (add m v))
      (Left : ℕ → Payload → Type 0) (n : ℕ) (leaves : LeavesNumbers Left n) where
    sorted_stands : (p : Payload) → IsSound n p → (x : ℕ) → x < 2 ^ 64 → (m : M × Fields)
        → StandsBeside Is Left m → (o : Option E) → of_number (int32.dec x) ≡ o
        → StandsBeside Is Left (sorted add n x m o)
    sorted_stands p sound x fits m h None lacks = (
      h.0,
      kept_more Left m.1 n (varint x)
          (record { number = sound.number; fits = fits; numbered = tt; of_bytes = tt }) h.1
          (leaves x lacks),
    )
    sorted_stands p sound x fits m h (Some e) has =
        (more m.0 (Known e) h.0 (found_is_closed x e has), h.1)

    closes_stands : (p : Payload) (c : Charge) (m z : M × Fields) → IsSound n p
        → StandsBeside Is Left m → closes_by add of_number m n p c z → StandsBeside Is Left z
    closes_stands p c m z sound h (x, has, charged, is) =
        subst (StandsBeside Is Left) (sym is)
        (sorted_stands p sound x (subst IsPayloadFitting has sound.fits) m h
        (of_number (int32.dec x)) refl)

    all_stand : (p : Payload) → IsSound n p → (xs : List ℕ) → AllHold (λ x. x < 2 ^ 64) xs
        → (m : M × Fields) → StandsBeside Is Left m
        → StandsBeside Is Left (all_sorted add of_number n m xs)
    all_stand p sound [] fit m h = h
    all_stand p sound (x ∷ xs) fit m h =
        all_stand p sound xs fit.1 (sorted add n x m (of_number (int32.dec x)))
        (sorted_stands p sound x fit.0 m h (of_number (int32.dec x)) refl)

  -- ---- one field

  abbrev AreIn : List (EnumValue E) → Type 0
  AreIn = AllHold IsIn

  each_stands : (Left : ℕ → Payload → Type 0) (n : ℕ) → LeavesNumbers Left n → (p : Payload)
      → IsSound n p → (c : Charge) (m z : List (EnumValue E) × Fields)
      → StandsBeside AreIn Left m → closes_each of_number m n p c z → StandsBeside AreIn Left z
  each_stands Left n leaves p sound c m z h (xs, has, charged, is) =
      subst (StandsBeside AreIn Left) (sym is)
      (all_stand adds_known AreIn (λ vs v all more. all_more IsIn vs (v ∷ []) all (more, tt)) Left n
      leaves p sound xs (numbers_fit p sound.fits xs has) m h)

  -- a number that is left at the field's number is left at this one, which is the same
  on_number : {V : Type 0} (charge_of : ℕ → Payload → Charge) (n : ℕ) → ChargesNumbers charge_of n
      → (s : Leaving V) (Left : ℕ → Payload → Type 0) (k : ℕ) → (k == n) ≡ true
      → ((q : Payload) → LeavesFor s (charge_of k q) k q → Left k q)
      → LeavesNumbers (Leaves s) n → LeavesNumbers Left k
  on_number charge_of n charged s Left k own on_left leaves x lacks =
      on_left (varint x)
      (subst (λ j. LeavesFor s (charge_of j (varint x)) j (varint x)) (sym (eqb-true k n own))
      (subst (λ d. LeavesFor s d n (varint x)) (sym (charged x)) (leaves x lacks)))

  module _ {charge_of : ℕ → Payload → Charge} {Here : ℕ → Type 0} (n : ℕ)
      (charged : ChargesNumbers charge_of n) where
    pub closed_once_stays : LeavingStays (closed_once number of_number n)
        (optional_range (closed_range number of_number)) charge_of Here
    closed_once_stays = record {
      Is = IfThere IsIn;
      start = tt;
      step = λ Left k p on_left c m z sound here own. closes_stands sets_known (IfThere IsIn)
          (λ m v is more. more) Left k
          (on_number charge_of n charged (closed_once number of_number n) Left k own on_left
          (once_leaves number of_number n)) p c m z sound;
      holds = λ m is short. is;
      by_number = λ k p q. refl;
    }

    pub closed_packed_stays : LeavingStays (closed_packed number of_number n)
        (packed_range Varint (open_enum number of_number) (closed_range number of_number)) charge_of
        Here
    closed_packed_stays = record {
      Is = AreIn;
      start = tt;
      step = λ Left k p on_left c m z sound here own. each_stands Left k
          (on_number charge_of n charged (closed_packed number of_number n) Left k own on_left
          (packed_leaves number of_number n)) p sound c m z;
      holds = λ m all short. record {
        each = all;
        short = packed_short Varint (open_enum number of_number) n m short;
      };
      by_number = λ k p q. refl;
    }

    pub closed_unpacked_stays : LeavingStays (closed_unpacked number of_number n)
        (unpacked_range (closed_range number of_number)) charge_of Here
    closed_unpacked_stays = record {
      Is = AreIn;
      start = tt;
      step = λ Left k p on_left c m z sound here own. each_stands Left k
          (on_number charge_of n charged (closed_unpacked number of_number n) Left k own on_left
          (unpacked_leaves number of_number n)) p sound c m z;
      holds = λ m all short. all;
      by_number = λ k p q. refl;
    }

    -- ---- in a oneof

    -- the fields of a oneof, of which the one of this number is of the enum
    module _ {V : Type 0} {s : Leaving V} {r : Range V} (set : EnumValue E → V)
        (x : LeavingStays s r charge_of (all_but n Here))
        (becomes_is : (v : EnumValue E) → IsIn v → x.Is (set v)) where
      pub closed_or_other : (Left : ℕ → Payload → Type 0) (k : ℕ) (p : Payload)
          → ((q : Payload) → LeavesFor (closing n of_number set s) (charge_of k q) k q → Left k q)
          → (c : Charge) (m z : V × Fields) → IsSound k p → Here k → s.owns k p ≡ true
          → StandsBeside x.Is Left m → (b : Bool) → (k == n) ≡ b
          → on b (closes_by (becomes set) of_number m k p c z) (s.takes m k p c z)
          → StandsBeside x.Is Left z
      closed_or_other Left k p on_left c m z sound here own h true is taken =
          closes_stands (becomes set) x.Is (λ m v was more. becomes_is v more) Left k
          (on_number charge_of n charged (closing n of_number set s) Left k is on_left
          (λ y lacks. closing_leaves number of_number n y lacks set s
          (x.by_number n (varint y) p ∙ subst (λ j. s.owns j p ≡ true) (eqb-true k n is) own)))
          p c m z sound h taken
      closed_or_other Left k p on_left c m z sound here own h false other taken =
          x.step Left k p
          (λ q leaves. on_left q (closing_leaves_other of_number n set s k q other leaves)) c m z
          sound (other, here) own h taken

      abbrev pub closing_stays : LeavingStays (closing n of_number set s) r charge_of Here
      closing_stays = record {
        Is = x.Is;
        start = x.start;
        step = λ Left k p on_left c m z sound here own h.
            closed_or_other Left k p on_left c m z sound here own h (k == n) refl;
        holds = x.holds;
        by_number = x.by_number;
      }

-- variants, of which those of closed enums have other numbers than these
abbrev pub closing_variants : {V : Type 0} {r : Range V} {charge_of : ℕ → Payload → Charge}
    {Here : ℕ → Type 0} (default : V) (records : V → Records) (variants : Variants V)
    (Is : V → Type 0) → Is default → VariantsStay variants Is Here
    → ((m : V) → Is m → AreShort (records m) → r.Holds m)
    → LeavingStays (leaving_none (oneof default records variants)) r charge_of Here
closing_variants default records variants Is start x holds = record {
  Is = Is;
  start = start;
  step = λ Left n p on_left c m z sound here own h taken. (
    x.step n p c m.0 z.0 sound here own h.0 taken.0,
    subst (AreKept Left) (sym taken.1) h.1,
  );
  holds = holds;
  by_number = x.by_number;
}
