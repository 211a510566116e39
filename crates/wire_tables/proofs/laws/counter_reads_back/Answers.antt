use Rattle.wire_tables.specs.Counter.{counter-returned}
use Rattle.wire_fields.specs.Returned.{reads_back}
use Rattle.wire_tables.proofs.laws.counter_reads_back.Goals as goal

pub returns : goal.returns
returns c = reads_back (counter-returned c.grounds.ensures) c.text_decodes.ensures
