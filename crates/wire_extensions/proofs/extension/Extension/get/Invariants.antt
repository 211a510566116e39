use Rattle.std.specs.Slice.Iter.{iter_rest}
use Rattle.wire_codec.specs.InRange.{AreFitting, AreNumbered}
use Rattle.wire_codec.specs.Limits.{NoCountGrew}
use Rattle.wire_codec.specs.UnknownFields.{fields_of}
use Rattle.wire_extensions.proofs.Folding.{Follows}
use Rattle.wire_extensions.specs.Extension.{is_own, picked}
use Rattle.wire_extensions.proofs.extension.Extension.get.Given as goal

-- the value makes of the records that are left what the default makes of all
abbrev pub invariant-loop-record : goal.invariant-loop-record
invariant-loop-record g l =
    let owns = is_own l.fn.self.number l.fn.self.types in
    let rest = fields_of (iter_rest l.record-iterator) in
    record {
      next : (goal.iterator-loop-record g).can_next l.record-iterator;
      finite : (goal.iterator-loop-record g).is_finite l.record-iterator;
      fitting : AreFitting rest;
      follows : AreNumbered (picked owns l.fn.fields)
          → Follows g.K.Kind.kind.takes l.fn.context g.K.Kind.kind.default
          (picked owns l.fn.fields) l.context (g.K.Kind.view l.held) (picked owns rest);
      grew : NoCountGrew l.fn.context l.context;
    }
