use Rattle.wire_jsonfields.proofs.Membering.{field_absent, field_present}
use Rattle.wire_jsonfields.proofs.kind.write_field.Goals as goal

pub returns-then-is_absent-clause-ok : goal.returns-then-is_absent-clause-ok
returns-then-is_absent-clause-ok g c =
    field_absent g.K.JsonValue.absent g.K.JsonValue.tree c.args.field.now.json_name.now
    (g.K.JsonValue.view c.args.held.now) c.args.first c.args.out.now.items c.if-is_absent.ensures

pub returns-clause-ok : goal.returns-clause-ok
returns-clause-ok g c =
    field_present g.K.JsonValue.absent g.K.JsonValue.tree c.args.field.now.json_name.now
    (g.K.JsonValue.view c.args.held.now) c.args.first c.args.out.now.items
    c.write_member.new.out.items c.if-is_absent.ensures c.in_ok-write_member.ensures.ok
