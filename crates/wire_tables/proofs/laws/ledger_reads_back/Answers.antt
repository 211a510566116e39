use Rattle.wire_tables.specs.Ledger.{ledger-returned}
use Rattle.wire_fields.specs.Returned.{reads_back}
use Rattle.wire_tables.proofs.laws.ledger_reads_back.Goals as goal

pub returns : goal.returns
returns c = reads_back (ledger-returned c.grounds.ensures) c.text_decodes.ensures
