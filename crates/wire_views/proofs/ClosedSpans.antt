-- Numbers of closed enums that stay where they stand.
use Rattle.std.proofs.Common.{◌≡◌, ℕ, ℤ, List, refl, sym, ap, ◌∙◌, subst, arith, Bool, false, IsTrue}
use Rattle.std.specs.Prelude.{Option, Some, None}
use Rattle.wire_codec.specs.EnumValue.{EnumValue}
use Rattle.wire_codec.specs.Field.{Payload, Fields, none, field, push, varint}
use Rattle.wire_codec.specs.Limits.{Limits}
use Rattle.wire_codec.specs.Taking.{TakesRecord, IsCharged, NotTaken}
use Rattle.wire_codec.specs.ValueMap.{int32}
use Rattle.wire_codec.specs.WireType.{WireType}
use Rattle.wire_fields.specs.Closed.{closes, sets_known, sorted}
use Rattle.wire_views.specs.SpelledOnce.{IsCountable}

module _ {E : Type 0} (of_number : ℤ → Option E) (l : Limits) (n : ℕ) (w : WireType)
    (m : Option (EnumValue E)) (u : Fields) (old : List ℕ) where
  -- what is not taken beside no unknown fields is not taken beside any
  pub not_closed : NotTaken (TakesRecord (closes of_number) l n w (m, none) old)
      → NotTaken (TakesRecord (closes of_number) l n w (m, u) old)
  not_closed none_taken c z new h =
      let (x, has, charged, is) = h.step in
      none_taken c (sorted sets_known n x (m, none) (of_number (int32.dec x))) new (record {
        payload = h.payload;
        read = h.read;
        step = (x, has, charged, refl);
      })

  no_field : (k : ℕ) (p : Payload) (fs : Fields) → none ≡ field k p fs → ⊥
  no_field k p fs e = cc

  is_set : (o : Option E) (x : ℕ) (z : Option (EnumValue E)) (left : Fields) → left ≡ none
      → (z, left) ≡ sorted sets_known n x (m, none) o → (z, u) ≡ sorted sets_known n x (m, u) o
  is_set None x z left empty is = absurd (no_field n (varint x) none (sym empty ∙ ap (λ (p : Option (EnumValue E) × Fields). p.1) is))
  is_set (Some e) x z left empty is = ap (λ (p : Option (EnumValue E) × Fields). (p.0, u)) is

  -- where no number is left it was set
  pub known_set : (k : Limits) (z : Option (EnumValue E)) (left : Fields) (new : List ℕ)
      → left ≡ none
      → IsCharged l k (λ c. TakesRecord (closes of_number) l n w (m, none) old c (z, left) new)
      → IsCharged l k (λ c. TakesRecord (closes of_number) l n w (m, u) old c (z, u) new)
  known_set k z left new empty h =
      let (x, has, charged, is) = h.taken.step in
      record {
        charge = h.charge;
        taken = record {
          payload = h.taken.payload;
          read = h.taken.read;
          step = (x, has, charged, is_set (of_number (int32.dec x)) x z left empty is);
        };
        left = h.left;
      }

  is_left : (o : Option E) (x : ℕ) (z : Option (EnumValue E)) (left : Fields) → (left ≡ none → ⊥)
      → (z, left) ≡ sorted sets_known n x (m, none) o
      → (z, push u n (varint x)) ≡ sorted sets_known n x (m, u) o
  is_left None x z left full is =
      ap (λ (p : Option (EnumValue E) × Fields). (p.0, push u n (varint x))) is
  is_left (Some e) x z left full is =
      absurd (full (ap (λ (p : Option (EnumValue E) × Fields). p.1) is))

  -- where one is left it is kept behind the others
  pub number_kept : (k : Limits) (z : Option (EnumValue E)) (left next : Fields) (new : List ℕ)
      → (left ≡ none → ⊥)
      → (h : IsCharged l k (λ c. TakesRecord (closes of_number) l n w (m, none) old c (z, left) new))
      → next ≡ push u n h.taken.payload
      → IsCharged l k (λ c. TakesRecord (closes of_number) l n w (m, u) old c (z, next) new)
  number_kept k z left next new full h kept =
      let (x, has, charged, is) = h.taken.step in
      record {
        charge = h.charge;
        taken = record {
          payload = h.taken.payload;
          read = h.taken.read;
          step = (
            x,
            has,
            charged,
            ap (λ (fs : Fields). (z, fs)) (kept ∙ ap (push u n) has)
                ∙ is_left (of_number (int32.dec x)) x z left full is,
          );
        };
        left = h.left;
      }

-- a varint is within the limits of every context that has a slot
pub varint_countable : (p : Payload) (x : ℕ) → p ≡ varint x → IsCountable p
varint_countable p x is = subst IsCountable (sym is) (omega arith, omega arith)

pub not_true : (b : Bool) → b ≡ false → IsTrue b → ⊥
not_true b is h = cc
