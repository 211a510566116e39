use Rattle.std.proofs.Common.{◌∙◌}
use Rattle.std.proofs.lemmas.Result.{err_from_is_err_and}
use Rattle.wire_fields.proofs.Putting.{embedded_parts, read_size}
use Rattle.wire_views.proofs.encoding.LengthPrefixedViewEncoding.put.Goals as goal

pub returns-in_err-put_len_delimited_header-clause-written :
    goal.returns-in_err-put_len_delimited_header-clause-written
returns-in_err-put_len_delimited_header-clause-written g c =
    let p = err_from_is_err_and c.from_residual.result c.from_residual.ensures.1 in
    let rs = g.M.MessageView.records (g.M.MessageView.view c.args.message.now) in
    let len = c.from.ensures ∙ read_size c.args.number _ rs c.args.cache.now
    c.consume_next-len.new.self c.requires.sizes c.consume_next-len.ensures.next in
    let pieces = c.piece_by_piece.ensures in
    rw (p.1, p.2) (pieces.refused _ _ _ _ _ _ _ _ (pieces.start _ _)
    (embedded_parts c.args.number _ rs len) c.in_err-put_len_delimited_header.ensures)

pub returns-clause-written : goal.returns-clause-written
returns-clause-written g c =
    let rs = g.M.MessageView.records (g.M.MessageView.view c.args.message.now) in
    let len = c.from.ensures ∙ read_size c.args.number _ rs c.args.cache.now
    c.consume_next-len.new.self c.requires.sizes c.consume_next-len.ensures.next in
    let pieces = c.piece_by_piece.ensures in
    let header = pieces.more _ _ _ _ _ _ _ tt (pieces.start _ _)
    (embedded_parts c.args.number _ rs len) c.in_ok-put_len_delimited_header.ensures in
    pieces.last _ _ _ _ _ c.write_to.result header c.write_to.ensures.written
