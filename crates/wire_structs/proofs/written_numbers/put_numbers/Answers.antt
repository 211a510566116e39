use Rattle.std.proofs.Common.{◌∙◌, ◌++◌, ◌+◌, ℕ, ap, drop, map, sym}
use Rattle.std.proofs.lemmas.Result.{err_from_is_err_and}
use Rattle.wire_fields.specs.Packed.{number_text, packed_text}
use Rattle.wire_structs.proofs.PackedWriting.{next_number, no_number_left, packed_parts, some_mapped}
use Rattle.wire_structs.proofs.written_numbers.put_numbers.Goals as goal

pub returns-in_err-put_len_delimited_header : goal.returns-in_err-put_len_delimited_header
returns-in_err-put_len_delimited_header g c =
    let s = g.S.StructNumber in
    let p = err_from_is_err_and c.from_residual.result c.from_residual.ensures.1 in
    let pieces = c.piece_by_piece.ensures in
    let parts = packed_parts s.form s.map c.args.number (map s.view c.args.values.now) _
    (some_mapped s.view c.args.values.now (sym c.is_empty.ensures ∙ c.if-is_empty.false))
    c.payload_len.ensures c.requires.size in
    rw (p.1, p.2) (pieces.refused _ _ _ _ _ _ _ _ (pieces.start _ _) parts
    c.in_err-put_len_delimited_header.ensures)

pub loop-value-init : goal.loop-value-init
loop-value-init g c =
    let s = g.S.StructNumber in
    let pieces = c.piece_by_piece.ensures in
    let parts = packed_parts s.form s.map c.args.number (map s.view c.args.values.now) _
    (some_mapped s.view c.args.values.now (sym c.is_empty.ensures ∙ c.if-is_empty.false))
    c.payload_len.ensures c.requires.size in
    pieces.more _ _ _ _ _ _ _ tt (pieces.start _ _) parts
    c.in_ok-put_len_delimited_header.ensures

pub returns-in_err-put_number : goal.returns-in_err-put_number
returns-in_err-put_number g c =
    let s = g.S.StructNumber in
    let r = c.from_residual-in_err-put_number in
    let p = err_from_is_err_and r.result r.ensures.1 in
    let behind = packed_text s.form s.map
    (map s.view (drop (c.loop-value.value-index + 1) c.args.values.now)) in
    rw (p.1, p.2) (c.piece_by_piece.ensures.refused _ _ _ _ _ _ _ _ c.loop-value.invariant
    (next_number s.form s.map s.view c.args.values.now c.loop-value.value-index _
    c.loop-value-test.true c.value-item.is
    ∙ ap (λ (k : ℕ). number_text s.form k ++ behind) (sym c.number_of.ensures.number)
    ∙ ap (λ f. number_text f c.number_of.result ++ behind) (sym c.form-form.ensures))
    c.in_err-put_number.ensures)

pub loop-value-preserved : goal.loop-value-preserved
loop-value-preserved g c =
    let s = g.S.StructNumber in
    let behind = packed_text s.form s.map
    (map s.view (drop (c.loop-value.value-index + 1) c.args.values.now)) in
    c.piece_by_piece.ensures.more _ _ _ _ _ _ _ tt c.loop-value.invariant
    (next_number s.form s.map s.view c.args.values.now c.loop-value.value-index _
    c.loop-value-test.true c.value-item.is
    ∙ ap (λ (k : ℕ). number_text s.form k ++ behind) (sym c.number_of.ensures.number)
    ∙ ap (λ f. number_text f c.number_of.result ++ behind) (sym c.form-form.ensures))
    c.in_ok-put_number.ensures

pub returns : goal.returns
returns g c =
    let s = g.S.StructNumber in
    let left = no_number_left s.form s.map s.view c.args.values.now c.loop-value.value-index
    c.loop-value-test.false in
    c.piece_by_piece.ensures.done _ _ _ (rw left at c.loop-value.invariant)
