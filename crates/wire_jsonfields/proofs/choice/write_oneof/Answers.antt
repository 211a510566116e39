use Rattle.std.proofs.Common.{ap}
use Rattle.wire_jsonfields.specs.Choices.{oneof_seen}
use Rattle.wire_jsonfields.proofs.Membering.{none_chosen}
use Rattle.wire_jsonfields.proofs.choice.write_oneof.Goals as goal

pub returns-in-None-clause-ok : goal.returns-in-None-clause-ok
returns-in-None-clause-ok g c =
    none_chosen g.C.JsonChoice.trees (oneof_seen g.C.JsonChoice.seen c.args.oneof.now)
    (ap (oneof_seen g.C.JsonChoice.seen) c.in-None.is) c.args.first c.args.out.now.items
