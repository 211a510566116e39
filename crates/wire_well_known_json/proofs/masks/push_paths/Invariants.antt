-- What was put and what the other paths become are what all become.
use Rattle.std.proofs.Common.{◌≡◌, ◌++◌, drop, map}
use Rattle.std.specs.Prelude.{string_bytes}
use Rattle.wire_well_known_json.specs.Camel.{camel_behind}
use Rattle.wire_well_known_json.proofs.masks.push_paths.Given as goal

abbrev pub invariant-loop-path : goal.invariant-loop-path
invariant-loop-path l =
    l.text.items ++ camel_behind (map string_bytes (drop l.path-index l.paths))
    ≡ l.initial.text.items ++ camel_behind (map string_bytes l.paths)
