use Rattle.wire_station_c.proofs.station.station_read.Goals as goal

pub returns-clause-err : goal.returns-clause-err
returns-clause-err c = rw c.default_context-context.ensures at c.read_station.ensures.err
