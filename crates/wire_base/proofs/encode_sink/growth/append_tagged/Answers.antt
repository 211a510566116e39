use Rattle.std.proofs.Common.{◌++◌, List, ℕ, ◌∙◌, ap, append_assoc}
use Rattle.std.proofs.lemmas.Result.{err_from_is_err_and}
use Rattle.wire_base.specs.Varint.{shortest_varint}
use Rattle.wire_base.proofs.Sinks.{front_of_first, only_first}
use Rattle.wire_base.proofs.encode_sink.growth.append_tagged.Goals as goal

pub returns-in_err-push_long-clause-err : goal.returns-in_err-push_long-clause-err
returns-in_err-push_long-clause-err c =
    let p = err_from_is_err_and c.from_residual.result c.from_residual.ensures.1 in
    rw p.1 (front_of_first _ _ c.args.more.now _ c.in_err-push_long.ensures.err)

pub returns-in_err-extend_from_slice-clause-err : goal.returns-in_err-extend_from_slice-clause-err
returns-in_err-extend_from_slice-clause-err c =
    let p = err_from_is_err_and c.from_residual-in_err-extend_from_slice.result
    c.from_residual-in_err-extend_from_slice.ensures.1 in
    rw p.1 (only_first (shortest_varint c.args.first) c.args.more.now _ _
    (c.in_err-extend_from_slice.ensures.items ∙ c.in_ok-push_long.ensures.ok))

pub returns-clause-ok : goal.returns-clause-ok
returns-clause-ok c =
    let old = c.args.bytes.now.items in
    let bytes = c.args.more.now in
    c.in_ok-extend_from_slice.ensures.items
    ∙ ap (λ (t : List ℕ). t ++ bytes) c.in_ok-push_long.ensures.ok
    ∙ append_assoc old (shortest_varint c.args.first) bytes
