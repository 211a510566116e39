use Rattle.std.proofs.Common.{take}
use Rattle.wire_dynamic.specs.Declares.{FilesDeclare}
use Rattle.wire_dynamic.proofs.declared.Declared.of.Given as goal

abbrev pub invariant-loop-file : goal.invariant-loop-file
invariant-loop-file l = FilesDeclare (take l.file-index l.fn.set.file.items) l.declared
