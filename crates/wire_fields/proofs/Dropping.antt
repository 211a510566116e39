-- Records that are passed over.
use Rattle.std.proofs.Common.{◌≡◌, ℕ, List, refl, sym, subst, arith}
use Rattle.wire_codec.specs.Charge.{payload_charge}
use Rattle.wire_codec.specs.DecodeError.{DecodeError}
use Rattle.wire_codec.specs.Fault.{PayloadFault}
use Rattle.wire_codec.specs.FaultLaws.{NoPayloadBesideFault}
use Rattle.wire_codec.specs.Field.{Payload}
use Rattle.wire_codec.specs.Limits.{Limits, uncounted}
use Rattle.wire_codec.specs.LimitsLaws.{LimitsAddUp}
use Rattle.wire_codec.specs.Taken.{TakesPayload}
use Rattle.wire_codec.specs.Taking.{TakesRecord, IsCharged, NotTaken}
use Rattle.wire_codec.specs.WireType.{WireType}
use Rattle.wire_fields.specs.Dropped.{levels_of, drops}

module _ (l : Limits) (n : ℕ) (w : WireType) (old : List ℕ) (levels : ℕ) (all : levels ≡ l.depth)
  where
    pub passed : LimitsAddUp → (p : Payload) (new : List ℕ)
        → TakesPayload (payload_charge p) (uncounted levels) n w p old new
        → IsCharged l l (λ c. TakesRecord drops l n w tt old c tt new)
    passed limits p new h = record {
      charge = levels_of p;
      taken = record {
        payload = p;
        read = record {
          read = h.read;
          fits = record {
            depth = omega (arith, h.fits.depth, all);
            counts = (limits.nothing_fits l).counts;
          };
        };
        step = refl;
      };
      left = sym (limits.left_after_nothing l);
    }

    -- no payload that is passed over stands there
    pub not_passed : NoPayloadBesideFault → (e : DecodeError)
        → PayloadFault (uncounted levels) n w old e → NotTaken (TakesRecord drops l n w tt old)
    not_passed beside e fault c z new h =
        let fits = subst (λ x. TakesPayload x l n w h.payload old new) h.step h.read in
        beside (uncounted levels) n w old new e h.payload fault (record {
          read = h.read.read;
          fits = record {
            depth = omega (arith, fits.fits.depth, all);
            counts = record { unknown_fields = tt; element_memory = tt; unknown_bytes = tt };
          };
        })
