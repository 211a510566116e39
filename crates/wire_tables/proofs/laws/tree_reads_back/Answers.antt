use Rattle.wire_tables.specs.Tree.{tree-returned}
use Rattle.wire_fields.specs.Returned.{reads_back}
use Rattle.wire_tables.proofs.laws.tree_reads_back.Goals as goal

pub returns : goal.returns
returns c = reads_back (tree-returned c.grounds.ensures) c.text_decodes.ensures
