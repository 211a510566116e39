use Rattle.std.proofs.Common.{◌+◌, ◌*◌, ◌≤◌, ℕ, List, length}
use Rattle.wire_base.proofs.FieldLaws.{Body}
use Rattle.wire_base.specs.Field.{Fields, group}
use Rattle.wire_base.specs.Read.{Reads}
use Rattle.wire_base.specs.Spells.{IsPayload}
use Rattle.wire_base.specs.Text.{payload_text}
use Rattle.wire_base.specs.declared.tag.WireType.TheVariants.{StartGroup}
use Rattle.wire_codec.specs.Writes.{IsWrittenTo}
use Rattle.wire_structs.proofs.unknown_record.+put.Given as goal

abbrev pub decreases-put_unknown_record : goal.decreases-put_unknown_record
decreases-put_unknown_record g l = 2 * length l.buf.now.now + 1

abbrev pub decreases-put_group : goal.decreases-put_group
decreases-put_group g l = 2 * length l.buf.now.now

-- the records so far are written, and those that are left come next
abbrev pub invariant-put_group-loop-tag : goal.invariant-put_group-loop-tag
invariant-put_group-loop-tag g l = record {
  left : (fs : Fields) (rest : List ℕ)
      → Reads l.fn.buf.now (IsPayload l.fn.number StartGroup (group fs)) rest
      → (left : Fields) × Body l.fn.number left l.buf.now rest
      × IsWrittenTo (payload_text l.fn.number (group fs)) (g.E.EncodeSink.held l.fn.sink)
      (g.E.EncodeSink.held l.sink) (payload_text l.fn.number (group left));
  shorter : length l.buf.now ≤ length l.fn.buf.now;
}

abbrev pub decreases-put_group-loop-tag : goal.decreases-put_group-loop-tag
decreases-put_group-loop-tag g l = length l.buf.now
