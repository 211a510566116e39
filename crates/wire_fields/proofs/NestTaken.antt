-- What a message that holds itself or others takes, by the place of the record.
use Rattle.std.proofs.Common.{◌≡◌, ℕ, List, [], refl, sym, ap, ◌∙◌, subst}
use Rattle.std.specs.Prelude.{Result, Ok, Err, OnOk}
use Rattle.wire_codec.specs.Folds.{Step, IsSingle}
use Rattle.wire_codec.specs.Limits.{Limits}
use Rattle.wire_codec.specs.Taking.{TakesRecord, IsCharged, NotTaken}
use Rattle.wire_codec.specs.TakingLaws.{OneReading}
use Rattle.wire_codec.specs.WireType.{WireType}
use Rattle.wire_fields.specs.declared.recursive.Place.{Place}
use Rattle.wire_fields.specs.declared.recursive.Place.TheVariants.{Leaf}
use Rattle.wire_fields.specs.Least.{Steps, rolled, unrolled}
use Rattle.wire_fields.specs.Messages.{Encoding, inside}
use Rattle.wire_fields.specs.Nest.{Nest, nest, end, row_of, leaf_of, rows_of}
use Rattle.wire_fields.specs.Nest.{with_row}
use Rattle.wire_fields.specs.NestRows.{set_again}
use Rattle.wire_fields.specs.NestTable.{Family, level, takes_at, family_takes, owned, grows}

-- ---- rows

-- values that agree beside a row agree with the same row
pub same_beside : {L : Type 0} (i : ℕ) (ms : List (Nest L)) (a b : Nest L)
    → with_row i [] a ≡ with_row i [] b → with_row i ms a ≡ with_row i ms b
same_beside i ms a b e =
    ap (nest (leaf_of a)) (sym (set_again i (row_of ms) end (rows_of a)))
    ∙ ap (with_row i ms) e
    ∙ ap (nest (leaf_of b)) (set_again i (row_of ms) end (rows_of b))

pub both_ok : {T E P Q R : Type 0} (r : Result T E) → (P → Q → R) → OnOk r P → OnOk r Q → OnOk r R
both_ok (Ok x) f p q = f p q
both_ok (Err e) f p q = tt

-- ---- places

module _ {S L : Type 0} (family : Family S L) (reading : OneReading)
    (single : (s : S) → IsSingle (family.table s).takes) (s : S) (l : Limits) (n : ℕ) (w : WireType)
    (m : Nest L) (old : List ℕ) (place : Place) (is : (family.table s).place n ≡ place) where
  pub placed_taken : (k : Limits) (z : Nest L) (new : List ℕ)
      → IsCharged l k (λ c. TakesRecord (takes_at family (family_takes family) s place) l n w m old
      c z new)
      → IsCharged l k (λ c. TakesRecord (family_takes family s) l n w m old c z new)
  placed_taken k z new h = record {
    charge = h.charge;
    taken = record {
      payload = h.taken.payload;
      read = h.taken.read;
      step = rolled (level family) (grows family reading single) s m z n h.taken.payload h.charge
          (subst (λ x. takes_at family (family_takes family) s x m n h.taken.payload h.charge z)
          (sym is)
          h.taken.step);
    };
    left = h.left;
  }

  pub not_placed : NotTaken (TakesRecord (takes_at family (family_takes family) s place) l n w m
      old)
      → NotTaken (TakesRecord (family_takes family s) l n w m old)
  not_placed none c z new h = none c z new (record {
    payload = h.payload;
    read = h.read;
    step = subst (λ x. takes_at family (family_takes family) s x m n h.payload c z) is
        (unrolled (level family) (grows family reading single) s m z n h.payload c h.step);
  })

-- into the leaf
module _ {S L : Type 0} (family : Family S L) (steps : Steps S (Nest L)) (s : S) (l : Limits)
    (n : ℕ)
    (w : WireType) (m : Nest L) (old : List ℕ) where
  pub leaf_taken : (k : Limits) (z : Nest L) (new : List ℕ)
      → rows_of z ≡ (family.table s).rows_beside n (leaf_of z) (rows_of m)
      → IsCharged l k (λ c. TakesRecord (family.table s).takes l n w (leaf_of m) old c
      (leaf_of z) new)
      → IsCharged l k (λ c. TakesRecord (takes_at family steps s Leaf) l n w m old c z new)
  leaf_taken k z new rows h = record {
    charge = h.charge;
    taken = record {
      payload = h.taken.payload;
      read = h.taken.read;
      step = (h.taken.step, rows);
    };
    left = h.left;
  }

  pub no_leaf : NotTaken (TakesRecord (family.table s).takes l n w (leaf_of m) old)
      → NotTaken (TakesRecord (takes_at family steps s Leaf) l n w m old)
  no_leaf none c z new h =
      none c (leaf_of z) new (record { payload = h.payload; read = h.read; step = h.step.0 })

-- into a message, at its own charge
module _ {V : Type 0} (encoding : Encoding) (start : V → V) (put : V → V → V) (step : Step V)
    (l : Limits) (n : ℕ) (w : WireType) (m from : V) (old : List ℕ) (from_is : from ≡ start m) where
  pub owned_taken : (k : Limits) (after z : V) (new : List ℕ) → z ≡ put m after
      → IsCharged l k (λ c. TakesRecord (inside encoding step) l n w from old c after new)
      → IsCharged l k (λ c. TakesRecord (owned encoding start put (λ one. one) step) l n w m old c z
      new)
  owned_taken k after z new is h = record {
    charge = h.charge;
    taken = record {
      payload = h.taken.payload;
      read = h.taken.read;
      step = (
        after,
        h.charge,
        subst (λ x. inside encoding step x n h.taken.payload h.charge after) from_is
            h.taken.step,
        refl,
        is,
      );
    };
    left = h.left;
  }

  pub not_owned : NotTaken (TakesRecord (inside encoding step) l n w from old)
      → NotTaken (TakesRecord (owned encoding start put (λ one. one) step) l n w m old)
  not_owned none c z new h =
      let (after, one, inner, charged, is) = h.step in
      none c after new (record {
        payload = h.payload;
        read = h.read;
        step = subst (λ x. inside encoding step x n h.payload c after) (sym from_is)
            (subst (λ x. inside encoding step (start m) n h.payload x after) (sym charged)
            inner);
      })
