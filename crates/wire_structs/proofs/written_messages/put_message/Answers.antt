use Rattle.std.proofs.lemmas.Result.{err_from_is_err_and}
use Rattle.wire_fields.proofs.Putting.{embedded_parts}
use Rattle.wire_structs.proofs.Writing.{whole_len}
use Rattle.wire_structs.proofs.written_messages.put_message.Goals as goal

pub returns-in_err-put_len_delimited_header : goal.returns-in_err-put_len_delimited_header
returns-in_err-put_len_delimited_header g c =
    let p = err_from_is_err_and c.from_residual.result c.from_residual.ensures.1 in
    let rs = g.M.WrittenStruct.records (g.M.WrittenStruct.value c.args.message.now) in
    let len = whole_len c.args.number _ rs c.written_len-len.ensures c.requires.size in
    let pieces = c.piece_by_piece.ensures in
    rw (p.1, p.2) (pieces.refused _ _ _ _ _ _ _ _ (pieces.start _ _)
    (embedded_parts c.args.number _ rs len) c.in_err-put_len_delimited_header.ensures)

pub returns : goal.returns
returns g c =
    let rs = g.M.WrittenStruct.records (g.M.WrittenStruct.value c.args.message.now) in
    let len = whole_len c.args.number _ rs c.written_len-len.ensures c.requires.size in
    let pieces = c.piece_by_piece.ensures in
    let header = pieces.more _ _ _ _ _ _ _ tt (pieces.start _ _)
    (embedded_parts c.args.number _ rs len) c.in_ok-put_len_delimited_header.ensures in
    pieces.last _ _ _ _ _ c.put_records.result header c.put_records.ensures
