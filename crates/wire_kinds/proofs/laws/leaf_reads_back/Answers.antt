use Rattle.wire_kinds.specs.Leaf.{leaf-returned}
use Rattle.wire_fields.specs.Returned.{reads_back}
use Rattle.wire_kinds.proofs.laws.leaf_reads_back.Goals as goal

pub returns : goal.returns
returns c = reads_back (leaf-returned c.grounds.ensures) c.text_decodes.ensures
