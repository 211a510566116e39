use Rattle.std.proofs.Common.{take}
use Rattle.wire_dynamic.specs.Declares.{IsEnumOf}
use Rattle.wire_dynamic.specs.Gained.{GainsAll}
use Rattle.wire_dynamic.proofs.declared.add_enums.Given as goal

abbrev pub invariant-loop-descriptor : goal.invariant-loop-descriptor
invariant-loop-descriptor l = GainsAll IsEnumOf l.fn.scope l.fn.outer
    (take l.descriptor-index l.fn.descriptors) l.fn.enums.items l.enums.items
