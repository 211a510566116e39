-- The paths so far, and the front of the next one before what the rest becomes, are those of all.
use Rattle.std.proofs.Common.{◌≡◌, ◌++◌, drop, map}
use Rattle.std.specs.Prelude.{string_bytes}
use Rattle.wire_well_known_json.specs.Masks as spec
use Rattle.wire_well_known_json.specs.Masks.{before_first}
use Rattle.wire_well_known_json.proofs.masks.paths_of.Given as goal

abbrev pub invariant-loop-byte : goal.invariant-loop-byte
invariant-loop-byte l =
    map string_bytes l.paths.items
    ++ before_first l.path.items (spec.paths_of (drop l.byte-index l.bytes))
    ≡ spec.paths_of l.bytes
