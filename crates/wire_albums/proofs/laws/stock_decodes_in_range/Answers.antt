use Rattle.wire_albums.specs.StockStays.{stock-stays}
use Rattle.wire_fields.specs.Stays.{decodes_in_range}
use Rattle.wire_albums.proofs.laws.stock_decodes_in_range.Goals as goal

pub returns : goal.returns
returns c = decodes_in_range c.grounds.ensures (stock-stays c.grounds.ensures)
