use Rattle.std.proofs.lemmas.Result.{err_from_is_err_and}
use Rattle.wire_views.proofs.message_view.MessageView.decode_view_length_delimited.Goals as goal

pub returns-in_err-merge_delimited-clause-err : goal.returns-in_err-merge_delimited-clause-err
returns-in_err-merge_delimited-clause-err g c =
    let p = err_from_is_err_and c.from_residual.result c.from_residual.ensures.1 in
    rw (p.1, p.2) (rw c.default_view-message.ensures at c.in_err-merge_delimited.ensures.err)
