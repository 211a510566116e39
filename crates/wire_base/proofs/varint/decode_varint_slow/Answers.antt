use Rattle.std.proofs.Common.{◌≡◌, ◌∙◌, arith}
use Rattle.std.proofs.lemmas.Result.{err_from_is_err_and}
use Rattle.wire_base.proofs.Varints.{ReadSoFar-more, ReadSoFar-ends, ReadSoFar-fits, ReadSoFar-tenth, ReadSoFar-cut_short, ReadSoFar-too_long, joined_value, tenth_value}
use Rattle.wire_base.proofs.varint.decode_varint_slow.Goals as goal

pub returns-in_err-byte-clause-fault : goal.returns-in_err-byte-clause-fault
returns-in_err-byte-clause-fault g c =
    let p = err_from_is_err_and c.from_residual.result c.from_residual.ensures.1 in
    rw (p.1, p.2, c.in_err-byte.ensures.end.0)
    (ReadSoFar-cut_short _ _ _ _ c.loop-index.invariant.read c.in_err-byte.ensures.end.1
    (omega arith))

pub returns-then-byte-lt128-clause-ok : goal.returns-then-byte-lt128-clause-ok
returns-then-byte-lt128-clause-ok g c =
    let so_far = c.loop-index.invariant.read in
    let b = c.in_ok-byte.byte in
    rw (c.from.ensures, joined_value _ _ _ _ b so_far (omega arith))
    (ReadSoFar-ends _ _ _ _ _ b so_far c.in_ok-byte.ensures.byte c.if-byte-lt128.true
    (omega arith) (ReadSoFar-fits _ _ _ _ b so_far (omega arith)))

pub loop-index-preserved : goal.loop-index-preserved
loop-index-preserved g c =
    let so_far = c.loop-index.invariant.read in
    let b = c.in_ok-byte.byte in
    record {
      read = rw (c.from.ensures, joined_value _ _ _ _ b so_far (omega arith))
          (ReadSoFar-more _ _ _ _ _ b so_far c.in_ok-byte.ensures.byte c.if-byte-lt128.false);
      kept = c.in_ok-byte.ensures.kept ∙ c.loop-index.invariant.kept;
    }

pub returns-in_err-byte-2-clause-fault : goal.returns-in_err-byte-2-clause-fault
returns-in_err-byte-2-clause-fault g c =
    let p = err_from_is_err_and c.from_residual-in_err-byte-2.result
    c.from_residual-in_err-byte-2.ensures.1 in
    rw (p.1, p.2, c.in_err-byte-2.ensures.end.0)
    (ReadSoFar-cut_short _ _ _ _ c.loop-index.invariant.read c.in_err-byte-2.ensures.end.1
    (omega arith))

pub returns-then-byte-gt1-clause-fault : goal.returns-then-byte-gt1-clause-fault
returns-then-byte-gt1-clause-fault g c =
    let nine : c.loop-index.index ≡ 9 = omega arith in
    ReadSoFar-too_long _ _ _ _ _
    (rw nine at c.loop-index.invariant.read) c.in_ok-byte-2.ensures.byte c.if-byte-gt1.true

pub returns-clause-ok : goal.returns-clause-ok
returns-clause-ok g c =
    let nine : c.loop-index.index ≡ 9 = omega arith in
    let so_far = rw nine at c.loop-index.invariant.read in
    let b = c.in_ok-byte-2.byte in
    rw (c.from-2.ensures, tenth_value _ _ _ b so_far (omega arith))
    (ReadSoFar-ends _ _ _ _ 9 b so_far c.in_ok-byte-2.ensures.byte (omega arith) (omega arith)
    (ReadSoFar-tenth _ _ _ b so_far (omega arith)))
