use Rattle.wire_codec.proofs.laws.levels_and_counts.Goals as goal

pub returns : goal.returns
returns c = record { levels = c.levels_add_up.ensures; counts = c.counts_fall.ensures }
