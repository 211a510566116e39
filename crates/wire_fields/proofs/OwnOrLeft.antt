-- Records that a field does not take, and does not leave to the unknown fields.
use Rattle.std.proofs.Common.{◌≡◌, ℕ, List, Bool, true, false, ap, ◌∙◌, subst}
use Rattle.wire_codec.specs.Field.{Payload, Fields, type_of}
use Rattle.wire_codec.specs.Folds.{Step}
use Rattle.wire_codec.specs.Limits.{Limits, Charge}
use Rattle.wire_codec.specs.Taking.{TakesRecord, NotTaken}
use Rattle.wire_codec.specs.WireType.{WireType}
use Rattle.wire_fields.specs.Leaving.{or_kept}
use Rattle.wire_fields.specs.Shape.{on, keeps}

-- the wire types that are the field's own
module _ {V : Type 0} (own : WireType → Bool) (takes : Step V) (l : Limits) (n : ℕ) (w : WireType)
    (m : V) (fs : Fields) (old : List ℕ) where
  at_tag : (b : Bool) → own w ≡ b → (p : Payload) → type_of p ≡ w → (c : Charge) (z : V × Fields)
      → or_kept (λ q. own (type_of q)) takes (m, fs) n p c z
      → on b (takes m n p c z.0 × (z.1 ≡ fs)) (keeps fs n p c z.1 × (z.0 ≡ m))
  at_tag b is p kind c z =
      subst (λ x. on x (takes m n p c z.0 × (z.1 ≡ fs)) (keeps fs n p c z.1 × (z.0 ≡ m)))
      (ap own kind ∙ is)

  pub own_untaken : own w ≡ true → NotTaken (TakesRecord takes l n w m old)
      → NotTaken (TakesRecord (or_kept (λ p. own (type_of p)) takes) l n w (m, fs) old)
  own_untaken is none c z new h = none c z.0 new (record {
    payload = h.payload;
    read = h.read;
    step = (at_tag true is h.payload h.read.read.spelled.kind c z h.step).0;
  })

  pub left_untaken : own w ≡ false → NotTaken (TakesRecord keeps l n w fs old)
      → NotTaken (TakesRecord (or_kept (λ p. own (type_of p)) takes) l n w (m, fs) old)
  left_untaken is none c z new h = none c z.1 new (record {
    payload = h.payload;
    read = h.read;
    step = (at_tag false is h.payload h.read.read.spelled.kind c z h.step).0;
  })
