use Rattle.wire_tables.specs.Signal.{signal-returned}
use Rattle.wire_fields.specs.Returned.{reads_back}
use Rattle.wire_tables.proofs.laws.signal_reads_back.Goals as goal

pub returns : goal.returns
returns c =
    λ charges. reads_back (signal-returned charges c.grounds.ensures) c.text_decodes.ensures
