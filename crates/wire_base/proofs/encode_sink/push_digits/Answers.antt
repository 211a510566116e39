use Rattle.std.proofs.Common.{◌+◌, ◌/◌, ◌%◌, ◌^◌, ◌<◌, List, ℕ, [], ◌∷◌, ◌++◌, length, refl, sym, ap, ◌∙◌, append_assoc, arith}
use Rattle.wire_base.specs.Varint.{shortest_varint}
use Rattle.wire_base.proofs.VarintLaws.{IsSpelling-shortest_varint}
use Rattle.wire_base.proofs.Varints.{shortest_varint-last, shortest_varint-more}
use Rattle.wire_base.proofs.encode_sink.push_digits.Goals as goal

pub loop-rest-init : goal.loop-rest-init
loop-rest-init c =
    let fits : c.args.value < 2 ^ 64 = omega arith in
    let few = (IsSpelling-shortest_varint c.args.value fits).at_most_ten in
    record { fits = fits; len = omega (arith, few); capacity = refl; written = refl }

pub push_reserved-requires : goal.push_reserved-requires
push_reserved-requires c =
    let more = ap length
    (shortest_varint-more c.loop-rest.rest c.loop-rest-test.true c.loop-rest.invariant.fits) in
    omega (arith, more, c.loop-rest.invariant.len, c.loop-rest.invariant.capacity, c.requires)

pub loop-rest-preserved : goal.loop-rest-preserved
loop-rest-preserved c =
    let rest = c.loop-rest.rest in
    let more = shortest_varint-more rest c.loop-rest-test.true c.loop-rest.invariant.fits in
    let byte = rest % 128 + 128 in
    record {
      fits = omega arith;
      len = omega (arith, ap length more, c.loop-rest.invariant.len, c.push_reserved.ensures.len);
      capacity = c.push_reserved.ensures.capacity ∙ c.loop-rest.invariant.capacity;
      written = ap (λ (t : List ℕ). t ++ shortest_varint (rest / 128)) c.push_reserved.ensures.items
          ∙ append_assoc c.loop-rest.bytes.items (byte ∷ []) (shortest_varint (rest / 128))
          ∙ ap (λ (t : List ℕ). c.loop-rest.bytes.items ++ t) (sym more)
          ∙ c.loop-rest.invariant.written;
    }

pub push_reserved-requires-2 : goal.push_reserved-requires-2
push_reserved-requires-2 c =
    let last = ap length (shortest_varint-last c.loop-rest.rest c.loop-rest-test.false) in
    omega (arith, last, c.loop-rest.invariant.len, c.loop-rest.invariant.capacity, c.requires)

pub returns-clause-items : goal.returns-clause-items
returns-clause-items c =
    let last = shortest_varint-last c.loop-rest.rest c.loop-rest-test.false in
    c.push_reserved-2.ensures.items
    ∙ ap (λ (t : List ℕ). c.loop-rest.bytes.items ++ t) (sym last) ∙ c.loop-rest.invariant.written

pub returns-clause-len : goal.returns-clause-len
returns-clause-len c =
    let last = ap length (shortest_varint-last c.loop-rest.rest c.loop-rest-test.false) in
    omega (arith, last, c.loop-rest.invariant.len, c.push_reserved-2.ensures.len)

pub returns-clause-capacity : goal.returns-clause-capacity
returns-clause-capacity c = c.push_reserved-2.ensures.capacity ∙ c.loop-rest.invariant.capacity
