use Rattle.wire_tables.specs.Call.{call-returned}
use Rattle.wire_fields.specs.Returned.{reads_back}
use Rattle.wire_tables.proofs.laws.call_reads_back.Goals as goal

pub returns : goal.returns
returns c = reads_back (call-returned c.grounds.ensures) c.text_decodes.ensures
