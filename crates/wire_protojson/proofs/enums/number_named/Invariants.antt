use Rattle.std.proofs.Common.{◌≡◌, drop}
use Rattle.wire_protojson.specs.Enums.{enum_table}
use Rattle.wire_protojson.proofs.Firsts.{SameFirst}
use Rattle.wire_protojson.proofs.enums.number_named.Given as goal

abbrev pub invariant-loop-entry : goal.invariant-loop-entry
invariant-loop-entry l =
    SameFirst (λ x. x.0 ≡ l.name) (enum_table l.names) (enum_table (drop l.entry-index l.names))
