use Rattle.std.proofs.lemmas.Result.{err_from_is_err_and}
use Rattle.wire_codec.proofs.decode_options.DecodeOptions.decode_length_delimited.Goals as goal

pub returns-in_err-merge_delimited-clause-err : goal.returns-in_err-merge_delimited-clause-err
returns-in_err-merge_delimited-clause-err g c =
    let p = err_from_is_err_and c.from_residual.result c.from_residual.ensures.1 in
    let limit = c.max_message_size.ensures.value in
    rw (p.1, p.2) (rw (c.context.ensures, c.default_value-message.ensures, limit)
    at c.in_err-merge_delimited.ensures.err)
