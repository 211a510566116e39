use Rattle.wire_tables.specs.Card.{card-returned}
use Rattle.wire_fields.specs.Returned.{reads_back}
use Rattle.wire_tables.proofs.laws.card_reads_back.Goals as goal

pub returns : goal.returns
returns c = reads_back (card-returned c.grounds.ensures) c.text_decodes.ensures
