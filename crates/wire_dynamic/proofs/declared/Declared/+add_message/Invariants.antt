use Rattle.std.proofs.Common.{◌-◌, take}
use Rattle.wire_dynamic.proofs.Declaring.{NestedTaken}
use Rattle.wire_dynamic.proofs.declared.Declared.+add_message.Given as goal

abbrev pub decreases-add_message : goal.decreases-add_message
decreases-add_message l = 100 - l.message.level

abbrev pub invariant-loop-bytes : goal.invariant-loop-bytes
invariant-loop-bytes l = NestedTaken l.fn.message
    (take l.bytes-index l.fn.message.descriptor.nested_type.items) l.fn.self l.self
