use Rattle.std.proofs.Common.{take}
use Rattle.std.specs.List.{AllZip}
use Rattle.wire_dynamic.specs.Messages.{IsAsDeclared}
use Rattle.wire_dynamic.proofs.schema.messages_of.Given as goal

abbrev pub invariant-loop-message : goal.invariant-loop-message
invariant-loop-message l = AllZip (IsAsDeclared l.fn.declared l.fn.places)
    (take l.message-index l.fn.declared.messages.items) l.messages.items
