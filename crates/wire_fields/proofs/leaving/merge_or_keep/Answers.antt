use Rattle.std.proofs.Common.{sym, ap, ◌∙◌}
use Rattle.std.proofs.lemmas.Result.{IfErr-weaker}
use Rattle.wire_fields.specs.Leaving.{has_type}
use Rattle.wire_fields.proofs.OwnOrLeft.{own_untaken, left_untaken}
use Rattle.wire_fields.proofs.leaving.merge_or_keep.Goals as goal

pub returns-then-has-clause-err : goal.returns-then-has-clause-err
returns-then-has-clause-err g c =
    IfErr-weaker c.merge.result _ _ (λ e none other. own_untaken (has_type c.args.types)
    g.K.Kind.kind.takes _ _ _ _ _ _
    (ap (has_type c.args.types) (sym c.wire_type.ensures) ∙ sym c.has.ensures ∙ c.if-has.true)
    (none other)) c.merge.ensures.err

pub returns-else-has-clause-err : goal.returns-else-has-clause-err
returns-else-has-clause-err g c =
    IfErr-weaker c.keep.result _ _ (λ e none other. left_untaken (has_type c.args.types)
    g.K.Kind.kind.takes _ _ _ _ _ _
    (ap (has_type c.args.types) (sym c.wire_type.ensures) ∙ sym c.has.ensures ∙ c.if-has.false)
    (none other)) c.keep.ensures.err
