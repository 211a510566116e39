use Rattle.std.proofs.lemmas.Result.{err_from_is_err_and, on_err_weaker}
use Rattle.wire_base.specs.Varint.{shortest_varint}
use Rattle.wire_base.proofs.Sinks.{front_of_first, front_behind}
use Rattle.wire_base.proofs.encode_sink.growth.append_varints.Goals as goal

pub returns-in_err-append_varint-clause-err : goal.returns-in_err-append_varint-clause-err
returns-in_err-append_varint-clause-err c =
    let p = err_from_is_err_and c.from_residual.result c.from_residual.ensures.1 in
    rw p.1 (front_of_first _ _ (shortest_varint c.args.second) _ c.in_err-append_varint.ensures.err)

pub returns-clause-err : goal.returns-clause-err
returns-clause-err c =
    on_err_weaker c.append_varint-2.result
    (λ k. front_behind _ (shortest_varint c.args.first) _ _ (rw c.in_ok-append_varint.ensures.ok at k))
    c.append_varint-2.ensures.err
