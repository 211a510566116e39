use Rattle.std.proofs.lemmas.Result.{IfErr-weaker}
use Rattle.wire_codec.proofs.message.Message.merge.Goals as goal

pub returns-clause-err : goal.returns-clause-err
returns-clause-err g c =
    IfErr-weaker c.merge_to_limit.result _ _ (λ e untaken. λ other z decoded.
    untaken other decoded.0 z _ decoded.1) c.merge_to_limit.ensures.err
