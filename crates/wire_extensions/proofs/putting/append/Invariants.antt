use Rattle.std.proofs.Common.{◌≡◌, ◌≤◌}
use Rattle.std.specs.Vec.Iter.{into_iter_items}
use Rattle.wire_codec.specs.Field.{joined, count_top}
use Rattle.wire_codec.specs.UnknownFields.{fields_of}
use Rattle.wire_extensions.proofs.putting.append.Given as goal

-- what is there and what is left make all of it, and nothing was put while all is left
abbrev pub invariant-loop-field : goal.invariant-loop-field
invariant-loop-field l =
    let rest = fields_of (into_iter_items l.field-iterator) in
    record {
      next : goal.iterator-loop-field.can_next l.field-iterator;
      finite : goal.iterator-loop-field.is_finite l.field-iterator;
      all : joined l.fields rest ≡ joined l.fn.fields l.fn.more;
      few : count_top rest ≤ count_top l.fn.more;
      same : count_top rest ≡ count_top l.fn.more → l.fields ≡ l.fn.fields;
    }
