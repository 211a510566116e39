-- Values with a flag beside them.
use Rattle.std.proofs.Common.{◌≡◌, ap, refl}
use Rattle.std.specs.Prelude.{Bool, true, false, Option, Some, None, option_map}

-- the value, where its flag is set
abbrev pub flagged : {V : Type 0} → Bool → V → Option V
flagged true v = Some v
flagged false v = None

-- what is seen of it
pub flagged_seen : {V W : Type 0} (see : V → W) (has : Bool) (v : V) (w : W) → see v ≡ w
    → option_map see (flagged has v) ≡ flagged has w
flagged_seen see true v w e = ap (λ x. Some x) e
flagged_seen see false v w e = refl
