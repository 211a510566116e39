use Rattle.std.proofs.Common.{◌≡◌, ◌<◌, ◌∙◌, length, get_or, arith}
use Rattle.std.proofs.lemmas.Grind.{common_steps}
use Rattle.wire_frames.proofs.Prefixes.{grpc_from}
use Rattle.wire_frames.proofs.extent.read_grpc_prefix.Goals as goal

pub returns-clause-some : goal.returns-clause-some
returns-clause-some g c =
    let chunk = c.chunk.result.now in
    let first : c.in-Some.field-0.now ≡ get_or chunk 0 0 = grind (arith, common_steps) in
    let some : 0 < length chunk = grind (arith, common_steps) in
    grpc_from (g.B.Buf.unread c.args.buf.now) (g.B.Buf.unread c.advance.new.self) _ chunk
    c.in-Some.field-0.now _ c.chunk.ensures.front some first
    (omega (arith, c.if-flag-gt1.false))
    (omega (arith, c.remaining.ensures, c.if-remaining-lt-GRPC_PREFIX.false))
    c.advance.ensures.value (c.from.ensures ∙ c.get_u32.ensures.value) c.get_u32.ensures.rest
