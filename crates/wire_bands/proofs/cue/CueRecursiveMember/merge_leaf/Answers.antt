use Rattle.std.proofs.Common.{rules, sym, ◌∙◌}
use Rattle.wire_bands.specs.Cue.{Cue-Value, CueNext-Held, cue-at-kind, cue-known, cue-leaf, cue-one}
use Rattle.wire_bands.specs.Cue.{cue_next-one}
use Rattle.wire_bands.specs.declared.cue.Cue.{fold_out-Cue}
use Rattle.wire_codec.specs.TagView.{tag_number}
use Rattle.wire_fields.specs.Arms.{arm_err, rest_err, unlike}
use Rattle.wire_fields.specs.Shape.{keeps}
use Rattle.wire_bands.proofs.cue.CueRecursiveMember.merge_leaf.Goals as goal

pub returns-in-1-clause-err : goal.returns-in-1-clause-err
returns-in-1-clause-err g c =
    rw (fold_out-Cue CueNext-Held Cue-Value cue_next-one cue-one c.args.self.now)
    (arm_err cue-leaf.takes cue-at-kind.kind.takes 1 _
    (sym c.field_number.ensures.number ∙ c.in-1.is) _ _
    (λ charge z p h. (z.0, h.0)) _ _ _
    c.merge.result c.merge.ensures.err)

pub returns-in_default-clause-err : goal.returns-in_default-clause-err
returns-in_default-clause-err g c =
    let n = tag_number c.args.tag in
    rw (fold_out-Cue CueNext-Held Cue-Value cue_next-one cue-one c.args.self.now)
    (rest_err cue-known.owns cue-known.takes keeps _
    (λ p. unlike n 1 (search rules))
    _ _ _ _ c.keep.result c.keep.ensures.err)
