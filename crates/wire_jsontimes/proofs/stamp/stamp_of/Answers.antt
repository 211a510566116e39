use Rattle.wire_jsontimes.proofs.Calendar.{stamp_back}
use Rattle.wire_jsontimes.proofs.stamp.stamp_of.Goals as goal

pub returns : goal.returns
returns c =
    rw (c.year_of.ensures, c.nanos_of.ensures)
    (stamp_back c.from_days_since_min-date.result c.args.timestamp.seconds c.args.timestamp.nanos
    c.since_first_year-seconds.result c.requires.seconds c.since_first_year-seconds.ensures.value
    c.from_days_since_min-date.ensures c.requires.low c.requires.high)
