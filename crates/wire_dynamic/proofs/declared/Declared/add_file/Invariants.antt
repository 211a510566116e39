use Rattle.std.proofs.Common.{take}
use Rattle.wire_dynamic.proofs.Declaring.{OutermostTaken}
use Rattle.wire_dynamic.proofs.declared.Declared.add_file.Given as goal

abbrev pub invariant-loop-descriptor : goal.invariant-loop-descriptor
invariant-loop-descriptor l = OutermostTaken l.fn.file l.features
    (take l.descriptor-index l.fn.file.message_type.items) l.initial.self l.self
