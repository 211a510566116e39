-- Entries with values that a closed enum lacks, which stay where they stand.
use Rattle.std.proofs.Common.{◌≡◌, ℕ, List, ap, ◌∙◌, subst}
use Rattle.wire_base.specs.RecordLaws.{OnePayload}
use Rattle.wire_codec.specs.Charge.{payload_charge}
use Rattle.wire_codec.specs.Field.{Fields, bytes, push}
use Rattle.wire_codec.specs.Limits.{Limits, Fits, left_after}
use Rattle.wire_codec.specs.Read.{Reads}
use Rattle.wire_codec.specs.Spells.{IsPayload}
use Rattle.wire_codec.specs.Taking.{TakesRecord, IsCharged, NotTaken}
use Rattle.wire_codec.specs.WireType.{WireType}
use Rattle.wire_fields.specs.Scalar.{ReadsScalar}
use Rattle.wire_fields.specs.Shape.{keeps}
use Rattle.wire_fields.specs.Texts.{any_bytes}

-- what a record of these bytes is charged, and what is kept of it
pub record Kept (u up : Limits) (n : ℕ) (b : List ℕ) (before after : Fields) : Type 0 where
  pub left : up ≡ left_after u (payload_charge (bytes b))
  pub fits : Fits (payload_charge (bytes b)) u
  pub is : after ≡ push before n (bytes b)

module _ (u : Limits) (n : ℕ) (w : WireType) (before : Fields) (old b new : List ℕ)
    (read : ReadsScalar any_bytes n w b old new) where
  there : Reads old (IsPayload n w (bytes b)) new
  there = subst (λ p. Reads old (IsPayload n w p) new) read.sets.has read.read

  pub bytes_kept : OnePayload → (up : Limits) (after : Fields) (rest : List ℕ)
      → IsCharged u up (λ c. TakesRecord keeps u n w before old c after rest)
      → Kept u up n b before after
  bytes_kept one up after rest h =
      let same = (one n w h.taken.payload (bytes b) old rest new h.taken.read.read there).0 in
      let charged = h.taken.step.0 ∙ ap payload_charge same in
      record {
        left = h.left ∙ ap (left_after u) charged;
        fits = subst (λ c. Fits c u) charged h.taken.read.fits;
        is = h.taken.step.1 ∙ ap (push before n) same;
      }

  pub bytes_not_kept : NotTaken (TakesRecord keeps u n w before old)
      → Fits (payload_charge (bytes b)) u → ⊥
  bytes_not_kept none fits =
      none (payload_charge (bytes b)) (push before n (bytes b)) new (record {
        payload = bytes b;
        read = record { read = there; fits = fits };
        step = (λ i. payload_charge (bytes b), λ i. push before n (bytes b));
      })
