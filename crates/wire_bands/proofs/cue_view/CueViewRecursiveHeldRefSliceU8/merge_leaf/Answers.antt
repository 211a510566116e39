use Rattle.std.proofs.Common.{rules, sym, ◌∙◌}
use Rattle.wire_bands.specs.Cue.{Cue-Value, CueNext-Held, cue-at-kind, cue-known, cue-leaf}
use Rattle.wire_bands.specs.Cue.{cue-view_one, cue_next-view_one}
use Rattle.wire_bands.specs.declared.cue_view.CueView.{fold_out-CueView}
use Rattle.wire_codec.specs.TagView.{tag_number}
use Rattle.wire_fields.specs.Arms.{arm_err, rest_err, unlike}
use Rattle.wire_fields.specs.Shape.{keeps}
use Rattle.wire_bands.proofs.cue_view.CueViewRecursiveHeldRefSliceU8.merge_leaf.Goals as goal

pub returns-in-1-clause-err : goal.returns-in-1-clause-err
returns-in-1-clause-err c =
    rw (fold_out-CueView CueNext-Held Cue-Value cue_next-view_one cue-view_one c.args.self.now)
    (arm_err cue-leaf.takes cue-at-kind.kind.takes 1 _
    (sym c.view_fields-field_number.ensures.number ∙ c.in-1.is) _ _
    (λ charge z p h. (z.0, h.0)) _ _ _
    c.view_fields-merge.result c.view_fields-merge.ensures.err)

pub returns-in_default-clause-err : goal.returns-in_default-clause-err
returns-in_default-clause-err c =
    let n = tag_number c.args.tag in
    rw (fold_out-CueView CueNext-Held Cue-Value cue_next-view_one cue-view_one c.args.self.now)
    (rest_err cue-known.owns cue-known.takes keeps _
    (λ p. unlike n 1 (search rules))
    _ _ _ _ c.view_fields-keep_span.result c.view_fields-keep_span.ensures.err)
