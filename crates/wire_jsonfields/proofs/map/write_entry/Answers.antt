use Rattle.wire_jsonfields.proofs.Membering.{member_put}
use Rattle.wire_jsonfields.proofs.map.write_entry.Goals as goal

pub returns-clause-ok : goal.returns-clause-ok
returns-clause-ok g c =
    member_put g.V.JsonValue.tree (g.V.JsonValue.view c.args.value.now) c.args.first
    (g.K.JsonKey.name (g.K.JsonKey.view c.args.key.now)) c.args.out.now.items
    c.write_comma.new.out.items c.write_key.new.out.items c.in_ok-write_comma.ensures.ok
    c.in_ok-write_key.ensures.ok c.write_json.result c.write_json.new.out.items
    c.write_json.ensures.ok
