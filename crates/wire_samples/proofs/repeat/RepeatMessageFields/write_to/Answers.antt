use Rattle.std.proofs.Common.{◌∙◌, arith}
use Rattle.std.proofs.lemmas.Result.{err_from_is_err_and, on_ok_weaker}
use Rattle.wire_samples.specs.Repeat.{extra_record, repeat_records}
use Rattle.wire_samples.proofs.Repeats.{sizes-repeat, next_record, no_more, extra_text}
use Rattle.wire_samples.proofs.Repeats.{no_extra_text}
use Rattle.wire_samples.proofs.repeat.RepeatMessageFields.write_to.Goals as goal

pub returns-in_err-put_uint64_field-clause-written
    : goal.returns-in_err-put_uint64_field-clause-written
returns-in_err-put_uint64_field-clause-written g c =
    let p = err_from_is_err_and c.from_residual.result c.from_residual.ensures.1 in
    let m = c.args.self.now in
    rw (p.1, p.2) (c.piece_by_piece.ensures.refused _ _ _ _ _ _ _ _ c.loop.invariant
    (next_record m.times c.loop.counter (extra_record m.extra) (omega arith))
    c.in_err-put_uint64_field.ensures)

pub loop-preserved : goal.loop-preserved
loop-preserved g c =
    let m = c.args.self.now in
    c.piece_by_piece.ensures.more _ _ _ _ _ _ _ tt c.loop.invariant
    (next_record m.times c.loop.counter (extra_record m.extra) (omega arith))
    c.in_ok-put_uint64_field.ensures

pub returns-then-self-clause-written : goal.returns-then-self-clause-written
returns-then-self-clause-written g c =
    let m = c.args.self.now in
    let left = no_more m.times c.loop.counter (extra_record m.extra) (omega arith)
    ∙ extra_text m.extra c.if-self.true in
    c.piece_by_piece.ensures.last _ _ _ _ _ c.put_uint64_field-then-self.result
    (rw left at c.loop.invariant) c.put_uint64_field-then-self.ensures

pub returns-then-self-clause-read : goal.returns-then-self-clause-read
returns-then-self-clause-read g c =
    let m = c.args.self.now in
    on_ok_weaker c.put_uint64_field-then-self.result
    (λ done. c.flat_messages_have_no_sizes.ensures.written (repeat_records m) _
    (sizes-repeat m.times m.extra)) c.put_uint64_field-then-self.ensures.ok

pub returns-clause-written : goal.returns-clause-written
returns-clause-written g c =
    let m = c.args.self.now in
    let left = no_more m.times c.loop.counter (extra_record m.extra) (omega arith)
    ∙ no_extra_text m.extra c.if-self.false in
    c.piece_by_piece.ensures.done _ _ _ (rw left at c.loop.invariant)

pub returns-clause-read : goal.returns-clause-read
returns-clause-read g c =
    let m = c.args.self.now in
    c.flat_messages_have_no_sizes.ensures.written (repeat_records m) _
    (sizes-repeat m.times m.extra)
