-- Records of messages inside others: what they take, and why they take nothing.
use Rattle.std.proofs.Common.{◌≡◌, ℕ, suc, ◌+◌, ◌<◌, List, [], ◌∷◌, length, get_or, map, drop, add-one, drop-cons, refl, sym, ap, ◌∙◌, subst}
use Rattle.std.specs.Prelude.{Option, Some}
use Rattle.wire_codec.specs.Delimited.{IsDelimited}
use Rattle.wire_codec.specs.Field.{Payload, bytes, group}
use Rattle.wire_codec.specs.Folds.{Step}
use Rattle.wire_codec.specs.Limits.{Limits, Fits, left_after, nested, inner, both, element_of}
use Rattle.wire_codec.specs.LimitsLaws.{LimitsAddUp, LevelsAddUp}
use Rattle.wire_codec.specs.Nested.{TakesEmbedded, TakesGroup}
use Rattle.wire_codec.specs.Read.{Reads}
use Rattle.wire_codec.specs.RecordLaws.{WholeInput, GroupIsList}
use Rattle.wire_codec.specs.Records.{Records}
use Rattle.wire_codec.specs.Spells.{IsPayload}
use Rattle.wire_codec.specs.Taking.{TakesRecord, IsCharged, NotTaken}
use Rattle.wire_codec.specs.WireType.{WireType}
use Rattle.wire_codec.specs.WireType.TheVariants as types
use Rattle.wire_fields.specs.Messages.{Encoding, length_prefixed, delimited, inside, or_else}
use Rattle.wire_fields.specs.Messages.{merges, gathers, message_record, message_each}
use Rattle.wire_fields.proofs.Measuring.{Splits}

-- ---- one message

bytes_read : (n : ℕ) (w : WireType) (b old new : List ℕ) → w ≡ types.LengthDelimited
    → Reads old (IsDelimited b) new → Reads old (IsPayload n w (bytes b)) new
bytes_read n w b old new is h = record {
  text = h.text;
  parts = h.parts;
  spelled = record { kind = sym is; spelled = h.spelled };
}

bytes_back : (n : ℕ) (w : WireType) (p : Payload) (b old new : List ℕ) → p ≡ bytes b
    → Reads old (IsPayload n w p) new → Reads old (IsDelimited b) new
bytes_back n w p b old new is h =
    let k = subst (λ q. Reads old (IsPayload n w q) new) is h in
    record { text = k.text; parts = k.parts; spelled = k.spelled.spelled }

-- behind a length
module _ {V : Type 0} (takes : Step V) (whole : WholeInput) (levels : LevelsAddUp) (l : Limits)
    (n : ℕ) (w : WireType) (m : V) (old : List ℕ) where
  pub embedded_taken : (k : Limits) (z : V) (new : List ℕ) → w ≡ types.LengthDelimited
      → IsCharged l k (λ c. TakesEmbedded takes l m old c z new)
      → IsCharged l k (λ c. TakesRecord (inside length_prefixed takes) l n w m old c z new)
  embedded_taken k z new is h =
      let t = h.taken.taken in
      let all = (whole h.charge (inner l) t.taken.fields t.payload []).0 t.taken.read in
      record {
        charge = nested h.charge;
        taken = record {
          payload = bytes t.payload;
          read = record {
            read = bytes_read n w t.payload old new is t.read;
            fits = (levels.nested_fits l h.charge).1 (h.taken.level, all.1);
          };
          step = (
            t.taken.fields,
            h.charge,
            record { text = t.payload; is = refl; short = t.short; spelled = all.0 },
            t.taken.folded,
            refl,
          );
        };
        left = h.left;
      }

  pub no_embedded : NotTaken (TakesEmbedded takes l m old)
      → NotTaken (TakesRecord (inside length_prefixed takes) l n w m old)
  no_embedded none c z new h =
      let (fs, within, has, folded, charged) = h.step in
      let fits = (levels.nested_fits l within).0 (subst (λ x. Fits x l) charged h.read.fits) in
      none within z new (record {
        level = fits.0;
        taken = record {
          payload = has.text;
          read = bytes_back n w h.payload has.text old new has.is h.read.read;
          short = has.short;
          taken = record {
            fields = fs;
            read = (whole within (inner l) fs has.text []).1 (has.spelled, fits.1, refl);
            folded = folded;
          };
        };
      })

-- in a group
module _ {V : Type 0} (takes : Step V) (lists : GroupIsList) (levels : LevelsAddUp) (l : Limits)
    (n : ℕ) (w : WireType) (m : V) (old : List ℕ) (is : w ≡ types.StartGroup) where
  pub group_taken : (k : Limits) (z : V) (new : List ℕ)
      → IsCharged l k (λ c. TakesGroup takes l n m old c z new)
      → IsCharged l k (λ c. TakesRecord (inside delimited takes) l n w m old c z new)
  group_taken k z new h =
      let t = h.taken.taken in
      let all = (lists h.charge (inner l) n t.fields old new).0 t.read in
      record {
        charge = nested h.charge;
        taken = record {
          payload = group t.fields;
          read = record {
            read = subst (λ x. Reads old (IsPayload n x (group t.fields)) new) (sym is) all.0;
            fits = (levels.nested_fits l h.charge).1 (h.taken.level, all.1);
          };
          step = (t.fields, h.charge, refl, t.folded, refl);
        };
        left = h.left;
      }

  pub no_group : NotTaken (TakesGroup takes l n m old)
      → NotTaken (TakesRecord (inside delimited takes) l n w m old)
  no_group none c z new h =
      let (fs, within, has, folded, charged) = h.step in
      let fits = (levels.nested_fits l within).0 (subst (λ x. Fits x l) charged h.read.fits) in
      let read = subst (λ q. Reads old (IsPayload n w q) new) has h.read.read in
      none within z new (record {
        level = fits.0;
        taken = record {
          fields = fs;
          read = (lists within (inner l) n fs old new).1
              (subst (λ x. Reads old (IsPayload n x (group fs)) new) is read, fits.1);
          folded = folded;
        };
      })

-- ---- once

module _ {V : Type 0} (encoding : Encoding) (takes : Step V) (start : V) (l : Limits) (n : ℕ)
    (w : WireType) (m : Option V) (from : V) (old : List ℕ) (from_is : from ≡ or_else start m) where
  pub once_taken : (k : Limits) (after : V) (z : Option V) (new : List ℕ) → z ≡ Some after
      → IsCharged l k (λ c. TakesRecord (inside encoding takes) l n w from old c after new)
      → IsCharged l k (λ c. TakesRecord (merges encoding takes start) l n w m old c z new)
  once_taken k after z new is h = record {
    charge = h.charge;
    taken = record {
      payload = h.taken.payload;
      read = h.taken.read;
      step = (
        after,
        subst (λ x. inside encoding takes x n h.taken.payload h.charge after) from_is h.taken.step,
        is,
      );
    };
    left = h.left;
  }

  pub no_once : NotTaken (TakesRecord (inside encoding takes) l n w from old)
      → NotTaken (TakesRecord (merges encoding takes start) l n w m old)
  no_once none c z new h =
      let (after, step, is) = h.step in
      none c after new (record {
        payload = h.payload;
        read = h.read;
        step = subst (λ x. inside encoding takes x n h.payload c after) (sym from_is) step;
      })

-- ---- many times

module _ {V M : Type 0} (place : ℕ) (encoding : Encoding) (takes : Step V) (start : V)
    (put : M → V → M) (limits : LimitsAddUp) (l : Limits) (n : ℕ) (w : WireType) (m : M) (from : V)
    (old : List ℕ) (from_is : from ≡ start) where
  pub each_taken : (i k : Limits) (after : V) (z : M) (new : List ℕ)
      → i ≡ left_after l (element_of place) → Fits (element_of place) l → z ≡ put m after
      → IsCharged i k (λ c. TakesRecord (inside encoding takes) i n w from old c after new)
      → IsCharged l k (λ c. TakesRecord (gathers place encoding takes start put) l n w m old c z new)
  each_taken i k after z new i_is fits is h =
      let t = subst (λ x. TakesRecord (inside encoding takes) x n w from old h.charge after new) i_is
      h.taken in
      record {
        charge = both (element_of place) h.charge;
        taken = record {
          payload = t.payload;
          read = record {
            read = t.read.read;
            fits = (limits.both_fit l (element_of place) h.charge).1 (fits, t.read.fits);
          };
          step = (
            after,
            h.charge,
            subst (λ x. inside encoding takes x n t.payload h.charge after) from_is t.step,
            refl,
            is,
          );
        };
        left = h.left ∙ ap (λ (x : Limits). left_after x h.charge) i_is
            ∙ limits.left_after_both l (element_of place) h.charge;
      }

  pub no_room : ¬ Fits (element_of place) l
      → NotTaken (TakesRecord (gathers place encoding takes start put) l n w m old)
  no_room none c z new h =
      let (after, one, step, charged, is) = h.step in
      none ((limits.both_fit l (element_of place) one).0
      (subst (λ x. Fits x l) charged h.read.fits)).0

  pub no_more : (i : Limits) → i ≡ left_after l (element_of place)
      → NotTaken (TakesRecord (inside encoding takes) i n w from old)
      → NotTaken (TakesRecord (gathers place encoding takes start put) l n w m old)
  no_more i i_is none c z new h =
      let (after, one, step, charged, is) = h.step in
      let fits = (limits.both_fit l (element_of place) one).0
      (subst (λ x. Fits x l) charged h.read.fits) in
      none one after new (record {
        payload = h.payload;
        read = record { read = h.read.read; fits = subst (λ x. Fits one x) (sym i_is) fits.1 };
        step = subst (λ x. inside encoding takes x n h.payload one after) (sym from_is) step;
      })

-- the message at i, and those behind it
pub next_message : {T V : Type 0} (encoding : Encoding) (records : V → Records) (view : T → V)
    (n : ℕ) (ms : List T) (i : ℕ) (m : T) → i < length ms → m ≡ get_or ms i m
    → Splits (message_each encoding records n (map view (drop i ms)))
    (message_record encoding n (records (view m)))
    (message_each encoding records n (map view (drop (i + 1) ms)))
next_message {T} encoding records view n ms i m within is =
    let front : drop i ms ≡ m ∷ drop (i + 1) ms = rw (add-one, drop-cons ms i m)
    (ap (λ (x : T). x ∷ drop (suc i) ms) (sym is)) in
    record { is = ap (λ (xs : List T). message_each encoding records n (map view xs)) front }
