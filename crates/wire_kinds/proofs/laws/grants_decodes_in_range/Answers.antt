use Rattle.wire_kinds.specs.GrantsStays.{grants-stays}
use Rattle.wire_fields.specs.Stays.{decodes_in_range}
use Rattle.wire_kinds.proofs.laws.grants_decodes_in_range.Goals as goal

pub returns : goal.returns
returns c = decodes_in_range c.grounds.ensures (grants-stays c.grounds.ensures)
