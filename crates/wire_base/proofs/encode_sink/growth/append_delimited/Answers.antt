use Rattle.std.proofs.Common.{◌++◌, List, ℕ, ◌∙◌, ap, length, append_assoc, subst}
use Rattle.std.proofs.lemmas.Result.{err_from_is_err_and}
use Rattle.wire_base.specs.Sink.{KeepsFront, in_memory}
use Rattle.wire_base.specs.Varint.{shortest_varint}
use Rattle.wire_base.proofs.Sinks.{front_of_first, only_first}
use Rattle.wire_base.proofs.encode_sink.growth.append_delimited.Goals as goal

pub returns-in_err-push_two-clause-err : goal.returns-in_err-push_two-clause-err
returns-in_err-push_two-clause-err c =
    let p = err_from_is_err_and c.from_residual.result c.from_residual.ensures.1 in
    let bytes = c.args.more.now in
    rw p.1 (subst (λ t. KeepsFront (in_memory c.args.bytes.now.items) t
    (in_memory c.push_two.new.bytes.items))
    (append_assoc (shortest_varint c.args.first) (shortest_varint (length bytes)) bytes)
    (front_of_first _ _ bytes _ c.in_err-push_two.ensures.err))

pub returns-in_err-extend_from_slice-clause-err : goal.returns-in_err-extend_from_slice-clause-err
returns-in_err-extend_from_slice-clause-err c =
    let p = err_from_is_err_and c.from_residual-in_err-extend_from_slice.result
    c.from_residual-in_err-extend_from_slice.ensures.1 in
    let bytes = c.args.more.now in
    let first = shortest_varint c.args.first in
    let len = shortest_varint (length bytes) in
    rw p.1 (subst (λ t. KeepsFront (in_memory c.args.bytes.now.items) t
    (in_memory c.extend_from_slice.new.self.items)) (append_assoc first len bytes)
    (only_first (first ++ len) bytes _ _ (c.in_err-extend_from_slice.ensures.items
    ∙ c.in_ok-push_two.ensures.ok
    ∙ append_assoc c.args.bytes.now.items first len)))

pub returns-clause-ok : goal.returns-clause-ok
returns-clause-ok c =
    let old = c.args.bytes.now.items in
    let bytes = c.args.more.now in
    let first = shortest_varint c.args.first in
    let len = shortest_varint (length bytes) in
    c.in_ok-extend_from_slice.ensures.items
    ∙ ap (λ (t : List ℕ). t ++ bytes) c.in_ok-push_two.ensures.ok
    ∙ append_assoc (old ++ first) len bytes ∙ append_assoc old first (len ++ bytes)
