use Rattle.wire_tables.specs.CallStays.{call-stays}
use Rattle.wire_fields.specs.Stays.{decodes_in_range}
use Rattle.wire_tables.proofs.laws.call_decodes_in_range.Goals as goal

pub returns : goal.returns
returns c = decodes_in_range c.grounds.ensures (call-stays c.grounds.ensures)
