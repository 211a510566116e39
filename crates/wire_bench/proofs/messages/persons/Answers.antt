use Rattle.std.proofs.lemmas.List.Elements.{All-push, All-same}
use Rattle.wire_bench.specs.Encodable.{IsEncodable}
use Rattle.wire_bench.proofs.messages.persons.Goals as goal

pub loop-rest-preserved : goal.loop-rest-preserved
loop-rest-preserved c =
    All-same IsEncodable _ _ c.in_ok-push.ensures.items
    (All-push IsEncodable _ _ c.loop-rest.invariant c.in-Ok.ensures.within)
