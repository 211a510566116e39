use Rattle.std.proofs.Common.{take}
use Rattle.std.specs.List.{AllZip}
use Rattle.wire_dynamic.specs.Enums.{IsEnum}
use Rattle.wire_dynamic.proofs.schema.enums_of.Given as goal

abbrev pub invariant-loop-of_enum : goal.invariant-loop-of_enum
invariant-loop-of_enum l = AllZip IsEnum (take l.of_enum-index l.fn.declared.enums.items)
    l.enums.items
