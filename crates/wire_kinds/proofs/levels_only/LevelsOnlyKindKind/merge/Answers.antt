use Rattle.std.proofs.Common.{refl, rules}
use Rattle.std.proofs.lemmas.Result.{err_from_is_err_and}
use Rattle.wire_codec.specs.TagView.{tag_number}
use Rattle.wire_fields.specs.Arms.{anew_untaken, arm_err}
use Rattle.wire_kinds.specs.LevelsOnly.{levels_only-kind, levels_only-of, single-of-levels_only-as}
use Rattle.wire_kinds.specs.LevelsOnly.{single-of-levels_only-kind}
use Rattle.wire_kinds.proofs.levels_only.LevelsOnlyKindKind.merge.Goals as goal

pub returns-in-Some-Single-variants-clause-err :
    goal.returns-in-Some-Single-variants-clause-err
returns-in-Some-Single-variants-clause-err g c =
    let n = tag_number c.args.tag in
    let one = c.in-Some-Single-variants in
    rw one.is (arm_err levels_only-kind.takes
    single-of-levels_only-kind.takes n n
    refl _ _
    (λ charge z p h. (h.0, h.1)) _ _ _
    c.variants-merge.result c.variants-merge.ensures.err)

pub returns-clause-err : goal.returns-clause-err
returns-clause-err g c =
    let n = tag_number c.args.tag in
    let m = levels_only-of c.args.held.now in
    let r = c.variants-from_residual in
    let p = err_from_is_err_and r.result r.ensures.1 in
    rw (p.1, p.2) (λ other. anew_untaken levels_only-kind.takes
    single-of-levels_only-kind single-of-levels_only-as _ n n
    refl m (search rules)
    (λ charge z p h. h) _ _ _ (c.in_Break-variants-variants.ensures.err other))
