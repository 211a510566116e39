use Rattle.wire_well_known.specs.Any.{any-returned}
use Rattle.wire_fields.specs.Returned.{reads_back}
use Rattle.wire_well_known.proofs.laws.any_reads_back.Goals as goal

pub returns : goal.returns
returns c = reads_back (any-returned c.grounds.ensures) c.text_decodes.ensures
