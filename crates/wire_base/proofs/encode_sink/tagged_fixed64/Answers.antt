use Rattle.std.proofs.Common.{rules}
use Rattle.wire_base.proofs.Varints.{shortest_varint-last}
use Rattle.wire_base.proofs.encode_sink.tagged_fixed64.Goals as goal

pub returns : goal.returns
returns c = rw (shortest_varint-last c.args.tag c.requires) (search rules)
