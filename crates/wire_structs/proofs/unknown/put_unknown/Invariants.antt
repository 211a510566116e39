use Rattle.std.proofs.Common.{◌≤◌, [], length}
use Rattle.wire_base.specs.Charge.{charge}
use Rattle.wire_base.specs.Field.{Fields}
use Rattle.wire_base.specs.Read.{Reads}
use Rattle.wire_base.specs.Spells.{Spells}
use Rattle.wire_base.specs.Text.{text_of}
use Rattle.wire_codec.specs.Writes.{IsWrittenTo}
use Rattle.wire_structs.specs.Unknown.{SpellsShallow, unowned}
use Rattle.wire_structs.proofs.unknown.put_unknown.Given as goal

-- the records so far are written, and those that are left come next
abbrev pub invariant-loop-tag : goal.invariant-loop-tag
invariant-loop-tag g l =
    (fs : Fields) → SpellsShallow l.fn.bytes fs
    → (left : Fields) × Reads l.buf (Spells left) [] × ((charge left).depth ≤ 100)
    × IsWrittenTo (text_of (unowned g.M.FieldNumbers.owns fs)) (g.E.EncodeSink.held l.fn.sink)
    (g.E.EncodeSink.held l.sink) (text_of (unowned g.M.FieldNumbers.owns left))

abbrev pub decreases-loop-tag : goal.decreases-loop-tag
decreases-loop-tag g l = length l.buf
