use Rattle.std.proofs.Common.{◌+◌, ◌%◌, [], ◌∷◌, arith}
use Rattle.std.proofs.lemmas.Result.{err_from_is_err_and}
use Rattle.wire_base.proofs.Sinks.{start, more, breaks, last, put_is_a_write}
use Rattle.wire_base.proofs.Varints.{shortest_varint-last, shortest_varint-more}
use Rattle.wire_base.proofs.encode_sink.EncodeSink.put_varint.Goals as goal

pub loop-rest-init : goal.loop-rest-init
loop-rest-init g c = record { fits = omega arith; written = start _ _ }

pub loop-rest-preserved : goal.loop-rest-preserved
loop-rest-preserved g c =
    let next = shortest_varint-more c.loop-rest.rest c.loop-rest-test.true c.loop-rest.invariant.fits in
    record {
      fits = omega arith;
      written = more _ _ _ _ _ ((c.loop-rest.rest % 128 + 128) ∷ []) _ tt
          c.loop-rest.invariant.written next (put_is_a_write _ _ _ _ c.in_ok-put_u8.ensures);
    }

pub returns-in_err-put_u8 : goal.returns-in_err-put_u8
returns-in_err-put_u8 g c =
    let p = err_from_is_err_and c.from_residual.result c.from_residual.ensures.1 in
    let next = shortest_varint-more c.loop-rest.rest c.loop-rest-test.true c.loop-rest.invariant.fits in
    rw (p.1, p.2) (breaks _ _ _ _ _ ((c.loop-rest.rest % 128 + 128) ∷ []) _ _
    c.loop-rest.invariant.written next (put_is_a_write _ _ _ _ c.in_err-put_u8.ensures))

pub returns : goal.returns
returns g c =
    let w = rw
    (shortest_varint-last c.loop-rest.rest c.loop-rest-test.false)
    at c.loop-rest.invariant.written in
    last _ _ _ _ _ c.put_u8-2.result w (put_is_a_write _ _ _ _ c.put_u8-2.ensures)
