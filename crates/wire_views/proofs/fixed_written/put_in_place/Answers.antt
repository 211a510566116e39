use Rattle.std.proofs.lemmas.Result.{err_from_is_err_and}
use Rattle.wire_fields.proofs.NumberTexts.{packed_parts}
use Rattle.wire_views.specs.FixedNumbers.{values_in}
use Rattle.wire_views.proofs.FixedRecords.{next_text, some_values}
use Rattle.wire_views.proofs.fixed_written.put_in_place.Goals as goal

pub returns-in_err-put_len_delimited_header : goal.returns-in_err-put_len_delimited_header
returns-in_err-put_len_delimited_header g c =
    let p = err_from_is_err_and c.from_residual.result c.from_residual.ensures.1 in
    let parts = packed_parts g.N.Number.form g.N.Number.map c.args.number c.texts_len.result
    (values_in g.N.Number.form g.N.Number.map c.args.payload.now)
    (some_values g.N.Number.map _ _ c.args.payload.now _ c.form-form.ensures c.count.ensures
    c.if-count-eq0.false) c.texts_len.ensures c.requires.fits in
    rw (p.1, p.2) (c.piece_by_piece.ensures.refused _ _ _ _ _ _ _ _
    (c.piece_by_piece.ensures.start _ _) parts c.in_err-put_len_delimited_header.ensures)

pub loop-x-init : goal.loop-x-init
loop-x-init g c =
    let parts = packed_parts g.N.Number.form g.N.Number.map c.args.number c.texts_len.result
    (values_in g.N.Number.form g.N.Number.map c.args.payload.now)
    (some_values g.N.Number.map _ _ c.args.payload.now _ c.form-form.ensures c.count.ensures
    c.if-count-eq0.false) c.texts_len.ensures c.requires.fits in
    let pieces = c.piece_by_piece.ensures in
    pieces.more _ _ _ _ _ _ _ tt (pieces.start _ _) parts
    c.in_ok-put_len_delimited_header.ensures

pub loop-x-preserved : goal.loop-x-preserved
loop-x-preserved g c =
    c.piece_by_piece.ensures.more _ _ _ _ _ _ _ tt c.loop-x.invariant
    (next_text g.N.Number.map _ _ c.in-Some.x _ _ _ _ c.form-form.ensures c.in-Some.ensures.some
    c.value_of.ensures c.number_of.ensures.number) c.in_ok-put_number_text.ensures

pub returns-in_err-put_number_text : goal.returns-in_err-put_number_text
returns-in_err-put_number_text g c =
    let r = c.from_residual-in_err-put_number_text in
    let p = err_from_is_err_and r.result r.ensures.1 in
    rw (p.1, p.2) (c.piece_by_piece.ensures.refused _ _ _ _ _ _ _ _ c.loop-x.invariant
    (next_text g.N.Number.map _ _ c.in-Some.x _ _ _ _ c.form-form.ensures c.in-Some.ensures.some
    c.value_of.ensures c.number_of.ensures.number) c.in_err-put_number_text.ensures)
