-- The rest decides.
use Rattle.std.proofs.Common.{◌≡◌, drop}
use Rattle.wire_well_known_json.specs.Masks as spec
use Rattle.wire_well_known_json.proofs.masks.has_no_underscore.Given as goal

abbrev pub invariant-loop-byte : goal.invariant-loop-byte
invariant-loop-byte l =
    spec.has_no_underscore (drop l.byte-index l.text) ≡ spec.has_no_underscore l.text
