use Rattle.std.proofs.Common.{inl}
use Rattle.wire_jsonfields.specs.Names.{else_named, of_both}
use Rattle.wire_jsonfields.proofs.part.BothJsonPart.is_named.Goals as goal

pub returns-then-is_named : goal.returns-then-is_named
returns-then-is_named g c =
    rw c.if-is_named.true
    (of_both g.A.JsonPart.names g.B.JsonPart.names c.args.name.now (inl c.if-is_named.ensures))

pub returns-else-is_named : goal.returns-else-is_named
returns-else-is_named g c =
    else_named g.A.JsonPart.names g.B.JsonPart.names c.args.name.now c.is_named-else-is_named.result
    c.if-is_named.ensures c.is_named-else-is_named.ensures
