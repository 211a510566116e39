use Rattle.wire_tables.specs.CardStays.{card-stays}
use Rattle.wire_fields.specs.Stays.{decodes_in_range}
use Rattle.wire_tables.proofs.laws.card_decodes_in_range.Goals as goal

pub returns : goal.returns
returns c = decodes_in_range c.grounds.ensures (card-stays c.grounds.ensures)
