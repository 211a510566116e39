use Rattle.std.proofs.Common.{◌∙◌, sym, ap, ◌++◌, ◌+◌, drop, ℕ}
use Rattle.std.proofs.lemmas.Result.{err_from_is_err_and}
use Rattle.wire_fields.specs.Packed.{number_text, packed_text}
use Rattle.wire_fields.proofs.NumberTexts.{packed_parts, next_number}
use Rattle.wire_fields.proofs.packed.put_packed.Goals as goal

pub returns-in_err-put_len_delimited_header : goal.returns-in_err-put_len_delimited_header
returns-in_err-put_len_delimited_header g c =
    let p = err_from_is_err_and c.from_residual.result c.from_residual.ensures.1 in
    let parts = packed_parts g.N.Number.form g.N.Number.map c.args.number c.payload_len.result
    c.args.values.now (sym c.is_empty.ensures ∙ c.if-is_empty.false) c.payload_len.ensures
    c.requires.fits in
    rw (p.1, p.2) (c.piece_by_piece.ensures.refused _ _ _ _ _ _ _ _
    (c.piece_by_piece.ensures.start _ _) parts c.in_err-put_len_delimited_header.ensures)

pub returns-in_err-put_number_text : goal.returns-in_err-put_number_text
returns-in_err-put_number_text g c =
    let r = c.from_residual-in_err-put_number_text in
    let p = err_from_is_err_and r.result r.ensures.1 in
    let form = g.N.Number.form in
    let behind = packed_text form g.N.Number.map
    (drop (c.loop-value.value-index + 1) c.args.values.now) in
    rw (p.1, p.2) (c.piece_by_piece.ensures.refused _ _ _ _ _ _ _ _ c.loop-value.invariant
    (next_number form g.N.Number.map c.args.values.now c.loop-value.value-index _
    c.loop-value-test.true c.value-item.is
    ∙ ap (λ (k : ℕ). number_text form k ++ behind) (sym c.number_of.ensures.number)
    ∙ ap (λ f. number_text f c.number_of.result ++ behind) (sym c.form-form.ensures))
    c.in_err-put_number_text.ensures)

pub loop-value-init : goal.loop-value-init
loop-value-init g c =
    let parts = packed_parts g.N.Number.form g.N.Number.map c.args.number c.payload_len.result
    c.args.values.now (sym c.is_empty.ensures ∙ c.if-is_empty.false) c.payload_len.ensures
    c.requires.fits in
    let pieces = c.piece_by_piece.ensures in
    pieces.more _ _ _ _ _ _ _ tt (pieces.start _ _) parts
    c.in_ok-put_len_delimited_header.ensures

pub loop-value-preserved : goal.loop-value-preserved
loop-value-preserved g c =
    let form = g.N.Number.form in
    let behind = packed_text form g.N.Number.map
    (drop (c.loop-value.value-index + 1) c.args.values.now) in
    c.piece_by_piece.ensures.more _ _ _ _ _ _ _ tt c.loop-value.invariant
    (next_number form g.N.Number.map c.args.values.now c.loop-value.value-index _
    c.loop-value-test.true c.value-item.is
    ∙ ap (λ (k : ℕ). number_text form k ++ behind) (sym c.number_of.ensures.number)
    ∙ ap (λ f. number_text f c.number_of.result ++ behind) (sym c.form-form.ensures))
    c.in_ok-put_number_text.ensures
