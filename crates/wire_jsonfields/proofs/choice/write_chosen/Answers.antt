use Rattle.std.proofs.Common.{ap}
use Rattle.std.specs.Prelude.{option_map}
use Rattle.wire_jsonfields.specs.Oneofs.{IsMemberTree}
use Rattle.wire_jsonfields.proofs.Membering.{none_chosen}
use Rattle.wire_jsonfields.proofs.choice.write_chosen.Goals as goal

pub returns-in-None-clause-ok : goal.returns-in-None-clause-ok
returns-in-None-clause-ok g c =
    none_chosen (IsMemberTree g.V.JsonValue.tree c.args.field.now.json_name.now)
    (option_map (λ h. g.V.JsonValue.view h.now) c.args.held)
    (ap (option_map (λ h. g.V.JsonValue.view h.now)) c.in-None.is) c.args.first
    c.args.out.now.items
