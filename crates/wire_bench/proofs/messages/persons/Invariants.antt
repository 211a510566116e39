use Rattle.std.proofs.Common.{All, length}
use Rattle.wire_bench.specs.Encodable.{IsEncodable}
use Rattle.wire_bench.proofs.messages.persons.Given as goal

abbrev pub invariant-loop-rest : goal.invariant-loop-rest
invariant-loop-rest l = All IsEncodable l.persons.items

abbrev pub decreases-loop-rest : goal.decreases-loop-rest
decreases-loop-rest l = length l.rest
