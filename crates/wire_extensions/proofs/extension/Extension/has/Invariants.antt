use Rattle.std.proofs.Common.{◌≡◌}
use Rattle.std.specs.Slice.Iter.{iter_rest}
use Rattle.wire_codec.specs.UnknownFields.{fields_of}
use Rattle.wire_extensions.specs.Extension.{is_own, picked}
use Rattle.wire_extensions.proofs.extension.Extension.has.Given as goal

-- no record is the extension's own so far
abbrev pub invariant-loop-field : goal.invariant-loop-field
invariant-loop-field g l =
    let owns = is_own l.fn.self.number l.fn.self.types in
    record {
      next : (goal.iterator-loop-field g).can_next l.field-iterator;
      finite : (goal.iterator-loop-field g).is_finite l.field-iterator;
      same : picked owns l.fn.fields ≡ picked owns (fields_of (iter_rest l.field-iterator));
    }
