use Rattle.std.proofs.Common.{◌≡◌, drop}
use Rattle.wire_protojson.specs.Enums.{enum_table}
use Rattle.wire_protojson.proofs.Firsts.{SameFirst}
use Rattle.wire_protojson.proofs.enums.name_of.Given as goal

abbrev pub invariant-loop-entry : goal.invariant-loop-entry
invariant-loop-entry l =
    SameFirst (λ x. x.1 ≡ l.number) (enum_table l.names)
    (enum_table (drop l.entry-index l.names))
