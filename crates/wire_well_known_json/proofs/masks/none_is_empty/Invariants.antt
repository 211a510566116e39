-- The rest decides.
use Rattle.std.proofs.Common.{◌≡◌, drop, map}
use Rattle.std.specs.Prelude.{string_bytes}
use Rattle.wire_well_known_json.specs.Masks as spec
use Rattle.wire_well_known_json.proofs.masks.none_is_empty.Given as goal

abbrev pub invariant-loop-path : goal.invariant-loop-path
invariant-loop-path l =
    spec.none_is_empty (map string_bytes (drop l.path-index l.paths))
    ≡ spec.none_is_empty (map string_bytes l.paths)
