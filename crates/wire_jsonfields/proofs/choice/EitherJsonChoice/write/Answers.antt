use Rattle.std.proofs.lemmas.Result.{IfErr-weaker}
use Rattle.wire_jsonfields.proofs.Untold.{that_untold, this_untold}
use Rattle.wire_jsonfields.proofs.choice.EitherJsonChoice.write.Goals as goal

pub returns-then-is_chosen-clause-no_text : goal.returns-then-is_chosen-clause-no_text
returns-then-is_chosen-clause-no_text g c =
    let oneof = c.args.oneof.now in
    IfErr-weaker c.write.result _ _ (λ e untold other.
    this_untold g.A.JsonChoice.trees g.B.JsonChoice.trees (g.A.JsonChoice.seen oneof)
    (g.B.JsonChoice.seen oneof) c.if-is_chosen.ensures (untold other)) c.write.ensures.no_text

pub returns-else-is_chosen-clause-no_text : goal.returns-else-is_chosen-clause-no_text
returns-else-is_chosen-clause-no_text g c =
    let oneof = c.args.oneof.now in
    let write = c.write-else-is_chosen in
    IfErr-weaker write.result _ _ (λ e untold other.
    that_untold g.A.JsonChoice.trees g.B.JsonChoice.trees (g.A.JsonChoice.seen oneof)
    (g.B.JsonChoice.seen oneof) c.if-is_chosen.ensures (untold other)) write.ensures.no_text
