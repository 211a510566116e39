use Rattle.std.proofs.Common.{◌∙◌}
use Rattle.std.proofs.lemmas.Result.{err_from_is_err_and}
use Rattle.wire_codec.proofs.Delimiting.{unwritten, length_refused, behind_length}
use Rattle.wire_codec.proofs.Measured.{next_are_sizes}
use Rattle.wire_codec.proofs.SizesLaws.{whole_size}
use Rattle.wire_views.proofs.written_view.WrittenView.encode_length_delimited.Goals as goal

pub write_to-requires-clause-sizes : goal.write_to-requires-clause-sizes
write_to-requires-clause-sizes g c =
    next_are_sizes _ _ (rw c.new-cache.ensures at c.in_ok-len.ensures.sizes) c.requires

pub returns-in_err-len : goal.returns-in_err-len
returns-in_err-len g c =
    let p = err_from_is_err_and c.from_residual.result c.from_residual.ensures.1 in
    rw (p.1, p.2, c.in_err-len.ensures.err) (unwritten c.piece_by_piece.ensures _ _)

pub returns-in_err-encode_varint : goal.returns-in_err-encode_varint
returns-in_err-encode_varint g c =
    let p = err_from_is_err_and c.from_residual-in_err-encode_varint.result
    c.from_residual-in_err-encode_varint.ensures.1 in
    let len = c.from.ensures ∙ whole_size _ _ c.in_ok-len.ensures.size c.requires in
    rw (p.1, p.2) (length_refused c.two_parts.ensures _ _ _ _ _ len
    c.in_err-encode_varint.ensures)

pub returns : goal.returns
returns g c =
    let len = c.from.ensures ∙ whole_size _ _ c.in_ok-len.ensures.size c.requires in
    behind_length c.two_parts.ensures _ _ _ _ _ tt c.write_to.result len
    c.in_ok-encode_varint.ensures c.write_to.ensures.written
