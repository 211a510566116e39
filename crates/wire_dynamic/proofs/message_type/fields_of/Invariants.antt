use Rattle.std.specs.BTreeMap.{get}
use Rattle.std.specs.Ordering.{nat_cmp}
use Rattle.std.proofs.Common.{take}
use Rattle.wire_dynamic.specs.Fields.{has_number, AreNumberedApart}
use Rattle.wire_dynamic.specs.Messages.{IsOwnField}
use Rattle.wire_dynamic.specs.Table.{IsTableOf}
use Rattle.wire_dynamic.proofs.message_type.fields_of.Given as goal

abbrev pub invariant-loop-descriptor : goal.invariant-loop-descriptor
invariant-loop-descriptor l = record {
  table : IsTableOf has_number
      (IsOwnField l.fn.declared l.fn.places l.fn.message)
      (take l.descriptor-index l.fn.message.descriptor.field.items) (get nat_cmp l.fields);
  apart : AreNumberedApart (take l.descriptor-index l.fn.message.descriptor.field.items);
}
