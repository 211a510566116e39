use Rattle.std.proofs.Common.{rules, ◌≡◌, ◌+◌, ◌*◌, ◌%◌, ◌∷◌, ◌<◌, length, get_or, arith, refl}
use Rattle.std.proofs.lemmas.Grind.{common_steps}
use Rattle.wire_base.specs.Varint.{IsSpelling}
use Rattle.wire_base.proofs.Varints.{one_byte}
use Rattle.wire_base.proofs.InPlace.{read_in_chunk, fault_in_chunk, two_bytes}
use Rattle.wire_base.proofs.varint.decode_varint.Goals as goal

pub returns-then-byte-lt128-clause-ok : goal.returns-then-byte-lt128-clause-ok
returns-then-byte-lt128-clause-ok g c =
    let byte : g.B.Buf.unread c.args.buf.now
    ≡ c.in-Some.field-0.now ∷ g.B.Buf.unread c.advance.new.self = search rules in
    rw (c.from.ensures) (one_byte _ _ _ byte c.if-byte-lt128.true)

pub returns-then-second-lt128-clause-ok : goal.returns-then-second-lt128-clause-ok
returns-then-second-lt128-clause-ok g c =
    let chunk = c.chunk-chunk.result.now in
    let two : 1 < length chunk = grind (arith, common_steps) in
    let first : c.in-Some.field-0.now ≡ get_or chunk 0 0 = grind (arith, common_steps) in
    rw (
      c.from-then-second-lt128.ensures,
      c.from-then-second-lt128-2.ensures,
      c.advance-then-second-lt128.ensures.value,
    )
    (read_in_chunk (IsSpelling (c.in-Some.field-0.now % 128 + get_or chunk 1 0 * 128)) chunk _ 2
    c.chunk-chunk.ensures.front (omega (arith, two)) (two_bytes chunk _ _ two first refl
    c.if-byte-lt128.false c.if-second-lt128.true))

pub returns-then-len-eq0-clause-fault : goal.returns-then-len-eq0-clause-fault
returns-then-len-eq0-clause-fault g c =
    fault_in_chunk c.chunk-chunk.result.now _ _ c.chunk-chunk.ensures.front
    (c.varint_at_front-value.ensures.fault c.if-len-eq0.true)

pub returns-then-holds_varint-clause-ok : goal.returns-then-holds_varint-clause-ok
returns-then-holds_varint-clause-ok g c =
    let read = c.varint_at_front-value in
    rw (c.advance-then-holds_varint.ensures.value) (read_in_chunk (IsSpelling read.result.0)
    c.chunk-chunk.result.now _ read.result.1 c.chunk-chunk.ensures.front read.ensures.there
    (read.ensures.ok (omega arith)))
