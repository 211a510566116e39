use Rattle.wire_tables.specs.LedgerStays.{ledger-stays}
use Rattle.wire_fields.specs.Stays.{decodes_in_range}
use Rattle.wire_tables.proofs.laws.ledger_decodes_in_range.Goals as goal

pub returns : goal.returns
returns c = decodes_in_range c.grounds.ensures (ledger-stays c.grounds.ensures)
