use Rattle.std.proofs.Common.{refl, rules}
use Rattle.std.proofs.lemmas.Result.{err_from_is_err_and}
use Rattle.wire_codec.specs.TagView.{tag_number}
use Rattle.wire_fields.specs.Arms.{anew_untaken, arm_err}
use Rattle.wire_kinds.specs.ChoiceOnly.{choice_only-kind, choice_only-of, single-of-choice_only-as}
use Rattle.wire_kinds.specs.ChoiceOnly.{single-of-choice_only-kind}
use Rattle.wire_kinds.proofs.choice_only.ChoiceOnlyKindKind.merge.Goals as goal

pub returns-in-Some-Single-variants-clause-err :
    goal.returns-in-Some-Single-variants-clause-err
returns-in-Some-Single-variants-clause-err g c =
    let n = tag_number c.args.tag in
    let one = c.in-Some-Single-variants in
    rw one.is (arm_err choice_only-kind.takes
    single-of-choice_only-kind.takes n n
    refl _ _
    (λ charge z p h. (h.0, h.1)) _ _ _
    c.variants-merge.result c.variants-merge.ensures.err)

pub returns-clause-err : goal.returns-clause-err
returns-clause-err g c =
    let n = tag_number c.args.tag in
    let m = choice_only-of c.args.held.now in
    let r = c.variants-from_residual in
    let p = err_from_is_err_and r.result r.ensures.1 in
    rw (p.1, p.2) (λ other. anew_untaken choice_only-kind.takes
    single-of-choice_only-kind single-of-choice_only-as _ n n
    refl m (search rules)
    (λ charge z p h. h) _ _ _ (c.in_Break-variants-variants.ensures.err other))
