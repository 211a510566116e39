use Rattle.wire_codec.proofs.Measured.{flat_measured, flat_written}
use Rattle.wire_codec.proofs.laws.flat_messages_have_no_sizes.Goals as goal

pub returns : goal.returns
returns c = record { measured = flat_measured; written = flat_written }
