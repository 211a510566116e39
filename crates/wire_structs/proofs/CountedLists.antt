-- Counts: what they take, and of which lists they are.
use Rattle.std.proofs.Common.{◌≡◌, ap, ◌∙◌, sym, subst, refl}
use Rattle.std.proofs.Common.{List, [], ◌∷◌, ◌++◌, length-append, arith}
use Rattle.std.specs.Prelude.{ℕ}
use Rattle.wire_codec.specs.Limits.{Limits, Fits, left_after, element_of}
use Rattle.wire_codec.specs.Taking.{TakesRecord, IsCharged, NotTaken}
use Rattle.wire_codec.specs.WireType.{WireType}
use Rattle.wire_fields.specs.Messages.{embedded_each, inside, length_prefixed}
use Rattle.wire_fields.specs.Presence.{repeated}
use Rattle.wire_fields.specs.Scalar.{ScalarType, ReadsScalar, NoScalar}
use Rattle.wire_fields.specs.Shape.{Shape, known}
use Rattle.wire_structs.proofs.Shown.{inside_shown, known_shown}
use Rattle.wire_structs.specs.Counts.{count_more, count_seen, counts_value, embedded_count}
use Rattle.wire_structs.specs.Counts.{repeated_count}
use Rattle.wire_structs.specs.Showing.{ShowsShape, ShowsSteps}

-- ---- what is taken

module _ {V : Type 0} (place : ℕ) (t : ScalarType V) (l : Limits) (n : ℕ) (w : WireType) (m : ℕ)
    (old : List ℕ) where
  pub value_counted : (i : Limits) (v : V) (z : ℕ) (new : List ℕ)
      → i ≡ left_after l (element_of place) → Fits (element_of place) l → z ≡ count_more m v
      → ReadsScalar t n w v old new
      → IsCharged l i (λ c. TakesRecord (counts_value place t) l n w m old c z new)
  value_counted i v z new i_is fits is h = record {
    charge = element_of place;
    taken = record {
      payload = h.payload;
      read = record { read = h.read; fits = fits };
      step = (refl, v, h.sets, is);
    };
    left = i_is;
  }

  pub no_place_to_count : ¬ Fits (element_of place) l
      → NotTaken (TakesRecord (counts_value place t) l n w m old)
  no_place_to_count full c z new h = full (subst (λ x. Fits x l) h.step.0 h.read.fits)

  pub no_value_to_count : NoScalar t n w old
      → NotTaken (TakesRecord (counts_value place t) l n w m old)
  no_value_to_count absent c z new h =
      absent h.step.1 new (record { payload = h.payload; read = h.read.read; sets = h.step.2 })

-- ---- of which lists they are

count_append : {V : Type 0} (vs : List V) (v : V)
    → count_seen (vs ++ v ∷ []) ≡ count_more (count_seen vs) v
count_append vs v = omega (arith, length-append vs (v ∷ []))

pub repeated_shown : {V : Type 0} (n place : ℕ) (t : ScalarType V)
    → ShowsShape count_seen (known n (repeated place t)) (known n (repeated_count place t))
repeated_shown n place t =
    known_shown count_seen n (repeated place t) (repeated_count place t) refl (record {
      on = λ m k p c z (charged, v, has, is).
          (charged, v, has, ap count_seen is ∙ count_append m v);
      back = λ m k p c w (charged, v, has, is).
          (m ++ v ∷ [], (charged, v, has, refl), is ∙ sym (count_append m v));
    })

module _ {V W : Type 0} (show : V → W) (s : Shape V) (t : Shape W) (h : ShowsShape show s t) where
  within : ShowsSteps show (inside length_prefixed s.takes) (inside length_prefixed t.takes)
  within = inside_shown show length_prefixed s.takes t.takes h.steps

  pub embedded_shown : (n place : ℕ)
      → ShowsShape count_seen (known n (embedded_each place s)) (known n (embedded_count place t))
  embedded_shown n place =
      known_shown count_seen n (embedded_each place s) (embedded_count place t) refl (record {
        on = λ m k p c z (after, one, step, charged, is). (
          show after,
          one,
          subst (λ x. inside length_prefixed t.takes x k p one (show after)) (sym h.default)
              (within.on s.default k p one after step),
          charged,
          ap count_seen is ∙ count_append m after,
        );
        back = λ m k p c w (after, one, step, charged, is).
            let mine = within.back s.default k p one after
            (subst (λ x. inside length_prefixed t.takes x k p one after) h.default step) in (
              m ++ mine.0 ∷ [],
              (mine.0, one, mine.1, charged, refl),
              is ∙ sym (count_append m mine.0),
            );
      })
