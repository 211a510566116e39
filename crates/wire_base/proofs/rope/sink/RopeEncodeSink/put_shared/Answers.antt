use Rattle.std.proofs.Common.{ap, ◌∙◌}
use Rattle.std.proofs.lemmas.Result.{on_ok_weaker}
use Rattle.wire_base.specs.Rope.{rope_bytes}
use Rattle.wire_base.proofs.Ropes.{rope_bytes-with_segment}
use Rattle.wire_base.proofs.rope.sink.RopeEncodeSink.put_shared.Goals as goal

pub returns-clause-ok : goal.returns-clause-ok
returns-clause-ok c =
    on_ok_weaker c.push_segment.result (λ is. ap rope_bytes is
    ∙ rope_bytes-with_segment c.args.self.now c.args.bytes) c.push_segment.ensures.ok
