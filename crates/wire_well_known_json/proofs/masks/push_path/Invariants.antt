-- What was put and what the rest becomes are what the path becomes.
use Rattle.std.proofs.Common.{◌≡◌, ◌++◌, drop, false}
use Rattle.wire_well_known_json.specs.Camel.{camel}
use Rattle.wire_well_known_json.proofs.masks.push_path.Given as goal

abbrev pub invariant-loop-byte : goal.invariant-loop-byte
invariant-loop-byte l =
    l.text.items ++ camel l.raised (drop l.byte-index l.path)
    ≡ l.initial.text.items ++ camel false l.path
