use Rattle.std.proofs.Common.{◌+◌, ◌/◌, ◌%◌, List, ℕ, [], ◌∷◌, length, sym, ap, ◌∙◌, arith}
use Rattle.wire_base.specs.Sink.{Held, followed_by}
use Rattle.wire_base.specs.Room.{in_room}
use Rattle.wire_base.specs.Varint.{shortest_varint}
use Rattle.wire_base.proofs.Sinks.{followed_by_two}
use Rattle.wire_base.proofs.Varints.{shortest_varint-last, shortest_varint-more}
use Rattle.wire_base.proofs.room.Room.fill_varint.Goals as goal

pub fill_u8-requires : goal.fill_u8-requires
fill_u8-requires c =
    let next = shortest_varint-more c.loop-rest.rest c.loop-rest-test.true c.loop-rest.invariant.fits in
    omega (arith, ap length next, c.loop-rest.invariant.len, c.loop-rest.invariant.place, c.requires)

pub loop-rest-preserved : goal.loop-rest-preserved
loop-rest-preserved c =
    let rest = c.loop-rest.rest in
    let self = c.loop-rest.self in
    let held = in_room self in
    let next = shortest_varint-more rest c.loop-rest-test.true c.loop-rest.invariant.fits in
    record {
      fits = omega arith;
      len = c.fill_u8.ensures.len ∙ c.loop-rest.invariant.len;
      place = omega (
        arith,
        ap length next,
        c.fill_u8.ensures.place,
        c.loop-rest.invariant.place,
      );
      held = ap (λ (h : Held). followed_by h (shortest_varint (rest / 128))) c.fill_u8.ensures.held
          ∙ followed_by_two held ((rest % 128 + 128) ∷ []) (shortest_varint (rest / 128))
          ∙ ap (λ (t : List ℕ). followed_by held t) (sym next)
          ∙ c.loop-rest.invariant.held;
    }

pub fill_u8-requires-2 : goal.fill_u8-requires-2
fill_u8-requires-2 c =
    let last = shortest_varint-last c.loop-rest.rest c.loop-rest-test.false in
    omega (arith, ap length last, c.loop-rest.invariant.len, c.loop-rest.invariant.place, c.requires)

pub returns-clause-held : goal.returns-clause-held
returns-clause-held c =
    let self = c.loop-rest.self in
    let held = in_room self in
    let last = shortest_varint-last c.loop-rest.rest c.loop-rest-test.false in
    c.fill_u8-2.ensures.held ∙ ap (λ (t : List ℕ). followed_by held t) (sym last)
    ∙ c.loop-rest.invariant.held

pub returns-clause-place : goal.returns-clause-place
returns-clause-place c =
    let last = shortest_varint-last c.loop-rest.rest c.loop-rest-test.false in
    omega (arith, ap length last, c.fill_u8-2.ensures.place, c.loop-rest.invariant.place)
