use Rattle.std.proofs.Common.{◌≡◌, ◌++◌, List, ℕ, ◌∙◌, ap, length, append_assoc, refl, subst}
use Rattle.std.proofs.lemmas.Result.{on_err_weaker}
use Rattle.wire_base.specs.Sink.{KeepsFront, in_memory}
use Rattle.wire_base.specs.Varint.{shortest_varint}
use Rattle.wire_base.proofs.Sinks.{only_first}
use Rattle.wire_base.proofs.encode_sink.push_short.Goals as goal

pub returns-clause-err : goal.returns-clause-err
returns-clause-err c =
    let old = c.args.bytes.now.items in
    let bytes = c.args.more.now in
    let first = shortest_varint c.args.first in
    let len = shortest_varint (length bytes) in
    let new = c.push_bytes-pushed.new.bytes.items in
    let held : c.replace-held.result.items ≡ old = rw c.replace-held.ensures.value refl in
    rw c.replace.ensures.after (on_err_weaker c.push_bytes-pushed.result
    (λ same. subst (λ t. KeepsFront (in_memory old) t (in_memory new))
    (append_assoc first len bytes)
    (only_first (first ++ len) bytes old new (same ∙ c.push_pair.ensures
    ∙ ap (λ (t : List ℕ). (t ++ first) ++ len) held ∙ append_assoc old first len)))
    c.push_bytes-pushed.ensures.err)
