use Rattle.wire_well_known.specs.ListValue.{list_value-returned}
use Rattle.wire_fields.specs.Returned.{reads_back}
use Rattle.wire_well_known.proofs.laws.list_value_reads_back.Goals as goal

pub returns : goal.returns
returns c = reads_back (list_value-returned c.grounds.ensures) c.text_decodes.ensures
