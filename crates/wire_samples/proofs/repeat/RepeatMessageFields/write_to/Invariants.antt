use Rattle.std.proofs.Common.{◌-◌}
use Rattle.wire_codec.specs.Records.{joined_records, text}
use Rattle.wire_codec.specs.Writes.{IsWrittenTo}
use Rattle.wire_samples.specs.Repeat.{zeros, extra_record, repeat_records}
use Rattle.wire_samples.proofs.repeat.RepeatMessageFields.write_to.Given as goal

-- the records so far are written, and those that are left come next
abbrev pub invariant-loop : goal.invariant-loop
invariant-loop g l =
    IsWrittenTo (text (repeat_records l.fn.self))
    (g.S.EncodeSink.held l.fn.sink) (g.S.EncodeSink.held l.sink)
    (text (joined_records (zeros (l.fn.self.times - l.counter)) (extra_record l.fn.self.extra)))
