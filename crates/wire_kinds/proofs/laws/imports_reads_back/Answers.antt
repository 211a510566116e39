use Rattle.wire_kinds.specs.Imports.{imports-returned}
use Rattle.wire_fields.specs.Returned.{reads_back}
use Rattle.wire_kinds.proofs.laws.imports_reads_back.Goals as goal

pub returns : goal.returns
returns c = reads_back (imports-returned c.grounds.ensures) c.text_decodes.ensures
