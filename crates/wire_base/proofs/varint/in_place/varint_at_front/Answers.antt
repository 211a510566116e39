use Rattle.std.proofs.Common.{◌≡◌, ◌≤◌, add-zero, ◌+◌, ◌-◌, ◌*◌, ◌^◌, refl, ap, ◌∙◌, arith}
use Rattle.wire_base.proofs.InPlace.{one_more_there, low_more, low_ends, low_fits}
use Rattle.wire_base.proofs.InPlace.{continuation_off, last_digit}
use Rattle.wire_base.proofs.InPlace.{middle_more, middle_fits, middle_ends}
use Rattle.wire_base.proofs.InPlace.{ninth_ends, tenth_ends, too_many, two_so_far, four_digits}
use Rattle.wire_base.proofs.varint.in_place.varint_at_front.Goals as goal

pub loop-index-preserved : goal.loop-index-preserved
loop-index-preserved c =
    let h = c.loop-index.invariant.read in
    let i = c.loop-index.index in
    let there = one_more_there _ _ _ _ c.requires.holds h (omega arith) in
    let few : i + 1 ≤ 4 = omega arith in
    let digit : c.loop-index.low + c.digit-low.result - c.digit-low-in-loop-index.result ≡ _ =
    rw (c.digit-low.ensures.value, c.digit-low-in-loop-index.ensures.value)
    (continuation_off c.loop-index.low _ (2 ^ (7 * i)) c.if-byte-lt128.false (omega arith)) in
    let read = low_more c.args.bytes.now _ c.loop-index.low i _ h there refl c.if-byte-lt128.false
    digit in
    record { low = low_fits _ _ _ _ read few; read = read }

pub returns-then-byte-lt128-clause-ok : goal.returns-then-byte-lt128-clause-ok
returns-then-byte-lt128-clause-ok c = λ _.
    let h = c.loop-index.invariant.read in
    let i = c.loop-index.index in
    let there = one_more_there _ _ _ _ c.requires.holds h (omega arith) in
    low_ends c.args.bytes.now _ c.loop-index.low i _ h (omega arith) there refl
    c.if-byte-lt128.true
    (c.from-then-byte-lt128.ensures ∙ ap (λ d. c.loop-index.low + d) c.digit-low.ensures.value
    ∙ last_digit c.loop-index.low _ (2 ^ (7 * i)) c.if-byte-lt128.true)

-- ---- the next four

pub loop-index-2-preserved : goal.loop-index-2-preserved
loop-index-2-preserved c =
    let i = c.loop-index-2.index in
    let h = c.loop-index-2.invariant in
    let there = one_more_there _ _ _ _ c.requires.holds h.read (omega arith) in
    let from : 4 ≤ i = omega arith in
    let few : i ≤ 7 = omega arith in
    let digit : c.loop-index-2.middle + c.digit-middle.result
    - c.digit-middle-in-loop-index-2.result ≡ _ =
    rw (c.digit-middle.ensures.value, c.digit-middle-in-loop-index-2.ensures.value)
    (continuation_off c.loop-index-2.middle _ (2 ^ (7 * (i - 4))) c.if-byte-lt128-2.false
    (omega arith)) in
    record {
      low = h.low;
      middle = middle_fits c.args.bytes.now _ c.loop-index.low c.loop-index-2.middle i _ from few
          digit h.middle;
      read = middle_more c.args.bytes.now _ c.loop-index.low c.loop-index-2.middle i _ from few
          digit h.read there refl c.if-byte-lt128-2.false;
    }

pub returns-then-byte-lt128-2-clause-ok : goal.returns-then-byte-lt128-2-clause-ok
returns-then-byte-lt128-2-clause-ok c = λ _.
    let i = c.loop-index-2.index in
    let h = c.loop-index-2.invariant in
    let there = one_more_there _ _ _ _ c.requires.holds h.read (omega arith) in
    let digit = ap (λ d. c.loop-index-2.middle + d) c.digit-middle.ensures.value
    ∙ last_digit c.loop-index-2.middle _ (2 ^ (7 * (i - 4))) c.if-byte-lt128-2.true in
    rw (c.joined.ensures ∙ add-zero _) (middle_ends c.args.bytes.now _ c.loop-index.low
    c.loop-index-2.middle i _ (omega arith) (omega arith) digit h.read there refl
    c.if-byte-lt128-2.true)

pub returns-then-byte-lt128-2-clause-there : goal.returns-then-byte-lt128-2-clause-there
returns-then-byte-lt128-2-clause-there c =
    let there = one_more_there _ _ _ _ c.requires.holds c.loop-index-2.invariant.read
    (omega arith) in
    omega (arith, there)

-- ---- the ninth and the tenth

pub returns-then-ninth-lt128-clause-ok : goal.returns-then-ninth-lt128-clause-ok
returns-then-ninth-lt128-clause-ok c = λ _.
    let eight : c.loop-index-2.index ≡ 8 = omega arith in
    let read = rw eight at c.loop-index-2.invariant.read in
    let there = one_more_there _ _ _ _ c.requires.holds read (omega arith) in
    rw (c.joined-then-ninth-lt128.ensures, c.from-then-ninth-lt128.ensures)
    (ninth_ends c.args.bytes.now _ _ read there refl c.if-ninth-lt128.true)

pub returns-then-tenth-gt1-clause-fault : goal.returns-then-tenth-gt1-clause-fault
returns-then-tenth-gt1-clause-fault c = λ _.
    let eight : c.loop-index-2.index ≡ 8 = omega arith in
    let read = rw eight at c.loop-index-2.invariant.read in
    let there = one_more_there _ _ _ _ c.requires.holds read (omega arith) in
    too_many c.args.bytes.now _ _ read there refl c.if-ninth-lt128.false c.requires.holds _ refl
    c.if-tenth-gt1.true

pub returns-clause-ok : goal.returns-clause-ok
returns-clause-ok c = λ _.
    let eight : c.loop-index-2.index ≡ 8 = omega arith in
    let read = rw eight at c.loop-index-2.invariant.read in
    let there = one_more_there _ _ _ _ c.requires.holds read (omega arith) in
    rw (c.joined-2.ensures, c.from-3.ensures, c.from-4.ensures)
    (tenth_ends c.args.bytes.now _ _ read there refl c.if-ninth-lt128.false c.requires.holds _ refl
    c.if-tenth-gt1.false)

pub loop-index-init : goal.loop-index-init
loop-index-init c =
    let read = two_so_far c.args.bytes.now _ _ _ c.requires.two refl refl c.requires.first
    c.requires.second (omega arith) in
    record { low = low_fits c.args.bytes.now _ _ 2 read (omega arith); read = read }

pub joined-requires-2-clause-middle : goal.joined-requires-2-clause-middle
joined-requires-2-clause-middle c =
    four_digits c.loop-index-2.middle c.loop-index-2.index c.loop-index-2.invariant.middle
    (omega arith)
