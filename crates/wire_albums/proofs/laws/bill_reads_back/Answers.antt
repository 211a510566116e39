use Rattle.wire_albums.specs.Bill.{bill-returned}
use Rattle.wire_fields.specs.Returned.{reads_back}
use Rattle.wire_albums.proofs.laws.bill_reads_back.Goals as goal

pub returns : goal.returns
returns c = reads_back (bill-returned c.grounds.ensures) c.text_decodes.ensures
