use Rattle.std.proofs.Common.{◌≤◌, ◌∙◌, rules}
use Rattle.std.proofs.lemmas.Result.{err_from_is_err_and}
use Rattle.wire_codec.proofs.Delimiting.{tries_unwritten, tries_small}
use Rattle.wire_codec.proofs.Delimiting.{length_refused, behind_length}
use Rattle.wire_codec.proofs.Measured.{next_are_sizes}
use Rattle.wire_codec.proofs.SizesLaws.{uncut_size, whole_size}
use Rattle.wire_views.proofs.written_view.WrittenView.try_encode_length_delimited.Goals as goal

-- that the size was tested is left to `search`, whatever the order of the steps

pub write_to-requires-clause-sizes : goal.write_to-requires-clause-sizes
write_to-requires-clause-sizes g c =
    let tested : c.in_ok-size.size ≤ 2147483647 = search rules in
    let small = uncut_size _ _ c.in_ok-size.ensures.size tested in
    next_are_sizes _ _ (rw c.new-cache.ensures at c.in_ok-size.ensures.sizes) small

pub returns-in_err-size : goal.returns-in_err-size
returns-in_err-size g c =
    let p = err_from_is_err_and c.from_residual.result c.from_residual.ensures.1 in
    rw (p.1, p.2, c.in_err-size.ensures.err) (tries_unwritten c.piece_by_piece.ensures _ _ _)

pub returns-in_err-encode_varint : goal.returns-in_err-encode_varint
returns-in_err-encode_varint g c =
    let p = err_from_is_err_and c.from_residual-in_err-encode_varint.result
    c.from_residual-in_err-encode_varint.ensures.1 in
    let tested : c.in_ok-size.size ≤ 2147483647 = search rules in
    let small = uncut_size _ _ c.in_ok-size.ensures.size tested in
    let len = c.from.ensures ∙ whole_size _ _ c.in_ok-size.ensures.size small in
    rw (p.1, p.2) (tries_small _ _ _ _ _ small
    (length_refused c.two_parts.ensures _ _ _ _ _ len c.in_err-encode_varint.ensures))

pub returns : goal.returns
returns g c =
    let tested : c.in_ok-size.size ≤ 2147483647 = search rules in
    let small = uncut_size _ _ c.in_ok-size.ensures.size tested in
    let len = c.from.ensures ∙ whole_size _ _ c.in_ok-size.ensures.size small in
    tries_small _ _ _ _ _ small (behind_length c.two_parts.ensures _ _ _ _ _ tt c.write_to.result len
    c.in_ok-encode_varint.ensures c.write_to.ensures.written)
