use Rattle.std.proofs.lemmas.Result.{err_from_is_err_and}
use Rattle.wire_scalar.proofs.Borrowing.{body_decoded, no_fault_decoded, not_borrowed_cut, short_where_cut, stays_refused}
use Rattle.wire_scalar.proofs.group.borrow_group.Goals as goal

pub returns-in_err-body-clause-decoded : goal.returns-in_err-body-clause-decoded
returns-in_err-body-clause-decoded c l fs rest level h =
    let p = err_from_is_err_and c.from_residual.result c.from_residual.ensures.1 in
    absurd (no_fault_decoded c.args.depth c.args.number c.args.buf.now.now fs
    c.no_payload_beside_fault.ensures c.skipped_where_decoded.ensures rest _ l level
    c.in_err-body.ensures.fault h)

pub returns-in_err-body-clause-cut : goal.returns-in_err-body-clause-cut
returns-in_err-body-clause-cut c fs missing some h =
    let p = err_from_is_err_and c.from_residual.result c.from_residual.ensures.1 in
    rw (p.1, p.2) (short_where_cut c.args.depth c.args.number c.args.buf.now.now fs
    c.cut_is_short.ensures missing some h c.one_payload_fault.ensures _
    c.in_err-body.ensures.fault)

pub returns-clause-decoded : goal.returns-clause-decoded
returns-clause-decoded c l fs rest level h =
    body_decoded c.args.depth c.args.number c.args.buf.now.now fs c.one_payload.ensures _ _ rest l
    c.in_ok-body.ensures.ok h

pub returns-clause-cut : goal.returns-clause-cut
returns-clause-cut c fs missing some h =
    not_borrowed_cut c.args.depth c.args.number c.args.buf.now.now fs c.cut_is_short.ensures
    missing some h c.no_payload_beside_fault.ensures _ _ c.in_ok-body.ensures.ok

pub returns-in_err-body-clause-stays : goal.returns-in_err-body-clause-stays
returns-in_err-body-clause-stays c =
    let p = err_from_is_err_and c.from_residual.result c.from_residual.ensures.1 in
    rw (p.1, p.2) (λ other more. stays_refused c.faults_stay.ensures c.args.depth c.args.number
    c.args.buf.now.now more _ c.in_err-body.ensures.fault other)
