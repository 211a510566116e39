use Rattle.wire_kinds.specs.Base.{base-returned}
use Rattle.wire_fields.specs.Returned.{reads_back}
use Rattle.wire_kinds.proofs.laws.base_reads_back.Goals as goal

pub returns : goal.returns
returns c = reads_back (base-returned c.grounds.ensures) c.text_decodes.ensures
