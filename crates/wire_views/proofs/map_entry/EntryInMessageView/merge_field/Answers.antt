use Rattle.std.proofs.Common.{rules, sym, ◌∙◌}
use Rattle.std.proofs.lemmas.Result.{IfErr-weaker}
use Rattle.std.specs.Prelude.{◌==◌, ◌||◌}
use Rattle.wire_codec.specs.TagView.{tag_number}
use Rattle.wire_fields.specs.Arms.{arm_err, rest_err, neither, unlike}
use Rattle.wire_fields.specs.Dropped.{drops}
use Rattle.wire_fields.specs.Maps.{entry_takes}
use Rattle.wire_fields.specs.Presence.{sets}
use Rattle.wire_fields.specs.Shape.{either}
use Rattle.wire_views.proofs.map_entry.EntryInMessageView.merge_field.Goals as goal

pub returns-in-1-clause-err : goal.returns-in-1-clause-err
returns-in-1-clause-err g c =
    arm_err (entry_takes g.K.MapKey.scalar g.V.ViewKind.kind) (sets g.K.MapKey.scalar) 1 _
    (sym c.field_number.ensures.number ∙ c.in-1.is) _ _ (λ charge z p h. (z.0.0, h.0.0)) _ _ _
    c.merge_key.result c.merge_key.ensures.err

pub returns-in-2-clause-err : goal.returns-in-2-clause-err
returns-in-2-clause-err g c =
    arm_err (entry_takes g.K.MapKey.scalar g.V.ViewKind.kind) g.V.ViewKind.kind.takes 2 _
    (sym c.field_number.ensures.number ∙ c.in-2.is) _ _ (λ charge z p h. (z.0.1, h.0.0)) _ _ _
    c.merge.result c.merge.ensures.err

pub returns-in_default-clause-err : goal.returns-in_default-clause-err
returns-in_default-clause-err g c =
    let n = tag_number c.args.tag in
    rest_err (λ n p. n == 1 || n == 2)
    (either (λ n p. n == 1) (sets g.K.MapKey.scalar) g.V.ViewKind.kind.takes) drops _
    (λ p. neither _ _ (unlike n 1 (search rules)) (unlike n 2 (search rules))) _ _ _ _
    c.pass_over.result
    (IfErr-weaker c.pass_over.result _ _ (λ e none other. none) c.pass_over.ensures.err)
