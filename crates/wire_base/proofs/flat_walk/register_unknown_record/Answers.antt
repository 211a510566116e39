use Rattle.wire_base.proofs.RecordWalks.{charges_records}
use Rattle.wire_base.proofs.flat_walk.register_unknown_record.Goals as goal

pub returns-clause-records : goal.returns-clause-records
returns-clause-records c =
    charges_records _ _ _ c.walk.result c.walk.ensures.ok c.walk.ensures.fault
