use Rattle.wire_station_c.proofs.station.station_read_within.Goals as goal

pub returns-clause-err : goal.returns-clause-err
returns-clause-err c = rw c.context_within-context.ensures at c.read_station.ensures.err
