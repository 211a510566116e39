use Rattle.wire_albums.specs.Stock.{stock-returned}
use Rattle.wire_fields.specs.Returned.{reads_back}
use Rattle.wire_albums.proofs.laws.stock_reads_back.Goals as goal

pub returns : goal.returns
returns c = reads_back (stock-returned c.grounds.ensures) c.text_decodes.ensures
