use Rattle.std.proofs.Common.{◌+◌, ◌%◌, [], ◌∷◌, Ok, ap, arith}
use Rattle.wire_base.specs.Sink.{Held}
use Rattle.wire_base.proofs.Sinks.{start, more, last, in_vector}
use Rattle.wire_base.proofs.Varints.{shortest_varint-last, shortest_varint-more}
use Rattle.wire_base.proofs.encode_sink.growth.append_varint.Goals as goal

pub loop-rest-init : goal.loop-rest-init
loop-rest-init c = record { fits = omega arith; written = start _ _ }

pub loop-rest-preserved : goal.loop-rest-preserved
loop-rest-preserved c = record {
  fits = omega arith;
  written = more _ _ _ _ _ ((c.loop-rest.rest % 128 + 128) ∷ []) _ tt
      c.loop-rest.invariant.written
      (shortest_varint-more c.loop-rest.rest c.loop-rest-test.true c.loop-rest.invariant.fits)
      (in_vector _ _ _ tt c.in_ok-push.ensures.items);
}

pub returns-clause-ok : goal.returns-clause-ok
returns-clause-ok c =
    let w = rw
    (shortest_varint-last c.loop-rest.rest c.loop-rest-test.false)
    at c.loop-rest.invariant.written in
    ap (λ (held : Held). held.bytes)
    (last _ _ _ _ _ (Ok tt) w (in_vector _ _ _ tt c.in_ok-push-2.ensures.items)).ok
