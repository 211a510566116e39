use Rattle.std.proofs.Common.{refl, rules, sym, ◌∙◌}
use Rattle.std.proofs.lemmas.Result.{err_from_is_err_and}
use Rattle.wire_codec.specs.TagView.{tag_number}
use Rattle.wire_fields.specs.Arms.{anew_untaken, arm_err, from_last, last_err, neither, unlike}
use Rattle.wire_kinds.specs.LevelsKind.{leaf-of-levels_kind-as, leaf-of-levels_kind-kind}
use Rattle.wire_kinds.specs.LevelsKind.{level-of-levels_kind-as, level-of-levels_kind-kind}
use Rattle.wire_kinds.specs.LevelsKind.{levels_kind-front, levels_kind-kind, levels_kind-of}
use Rattle.wire_kinds.specs.LevelsKind.{number-of-levels_kind-as, number-of-levels_kind-kind}
use Rattle.wire_kinds.specs.LevelsKind.{part-of-levels_kind, part-of-levels_kind-as}
use Rattle.wire_kinds.specs.LevelsKind.{part-of-levels_kind-kind, text-of-levels_kind-as}
use Rattle.wire_kinds.specs.LevelsKind.{text-of-levels_kind-kind}
use Rattle.wire_kinds.proofs.levels_kind.LevelsKindKindKind.merge.Goals as goal

pub returns-in-Some-Number-variants-clause-err :
    goal.returns-in-Some-Number-variants-clause-err
returns-in-Some-Number-variants-clause-err g c =
    let n = tag_number c.args.tag in
    let one = c.in-Some-Number-variants in
    rw (one.is, one.field-0-is) (arm_err levels_kind-kind.takes
    number-of-levels_kind-kind.takes 4 n
    (sym c.variants-field_number.ensures.number ∙ c.in-4.is) _ _
    (λ charge z p h. (h.0, h.1)) _ _ _
    c.variants-merge.result c.variants-merge.ensures.err)

pub returns-in-4-clause-err : goal.returns-in-4-clause-err
returns-in-4-clause-err g c =
    let n = tag_number c.args.tag in
    let m = levels_kind-of c.args.held.now in
    let r = c.variants-from_residual in
    let p = err_from_is_err_and r.result r.ensures.1 in
    rw (p.1, p.2) (λ other. anew_untaken levels_kind-kind.takes
    number-of-levels_kind-kind number-of-levels_kind-as _ 4 n
    (sym c.variants-field_number.ensures.number ∙ c.in-4.is) m (search rules)
    (λ charge z p h. h) _ _ _ ((c.in_Break-variants-variants-in-4).ensures.err other))

pub returns-in-Some-Text_-variants-clause-err :
    goal.returns-in-Some-Text_-variants-clause-err
returns-in-Some-Text_-variants-clause-err g c =
    let n = tag_number c.args.tag in
    let one = c.in-Some-Text_-variants in
    rw (one.is, one.field-0-is) (arm_err levels_kind-kind.takes
    text-of-levels_kind-kind.takes 5 n
    (sym c.variants-field_number.ensures.number ∙ c.in-5.is) _ _
    (λ charge z p h. (h.0, h.1)) _ _ _
    (c.variants-merge-in-5).result (c.variants-merge-in-5).ensures.err)

pub returns-in-5-clause-err : goal.returns-in-5-clause-err
returns-in-5-clause-err g c =
    let n = tag_number c.args.tag in
    let m = levels_kind-of c.args.held.now in
    let r = c.variants-from_residual-in-5 in
    let p = err_from_is_err_and r.result r.ensures.1 in
    rw (p.1, p.2) (λ other. anew_untaken levels_kind-kind.takes
    text-of-levels_kind-kind text-of-levels_kind-as _ 5 n
    (sym c.variants-field_number.ensures.number ∙ c.in-5.is) m (search rules)
    (λ charge z p h. h) _ _ _ ((c.in_Break-variants-variants-in-5).ensures.err other))

pub returns-in-Some-Leaf-variants-clause-err :
    goal.returns-in-Some-Leaf-variants-clause-err
returns-in-Some-Leaf-variants-clause-err g c =
    let n = tag_number c.args.tag in
    let one = c.in-Some-Leaf-variants in
    rw (one.is, one.field-0-is) (arm_err levels_kind-kind.takes
    leaf-of-levels_kind-kind.takes 6 n
    (sym c.variants-field_number.ensures.number ∙ c.in-6.is) _ _
    (λ charge z p h. (h.0, h.1)) _ _ _
    (c.variants-merge-in-6).result (c.variants-merge-in-6).ensures.err)

pub returns-in-6-clause-err : goal.returns-in-6-clause-err
returns-in-6-clause-err g c =
    let n = tag_number c.args.tag in
    let m = levels_kind-of c.args.held.now in
    let r = c.variants-from_residual-in-6 in
    let p = err_from_is_err_and r.result r.ensures.1 in
    rw (p.1, p.2) (λ other. anew_untaken levels_kind-kind.takes
    leaf-of-levels_kind-kind leaf-of-levels_kind-as _ 6 n
    (sym c.variants-field_number.ensures.number ∙ c.in-6.is) m (search rules)
    (λ charge z p h. h) _ _ _ ((c.in_Break-variants-variants-in-6).ensures.err other))

pub returns-in-Some-Level_-variants-clause-err :
    goal.returns-in-Some-Level_-variants-clause-err
returns-in-Some-Level_-variants-clause-err g c =
    let n = tag_number c.args.tag in
    let one = c.in-Some-Level_-variants in
    rw (one.is, one.field-0-is) (arm_err levels_kind-kind.takes
    level-of-levels_kind-kind.takes 7 n
    (sym c.variants-field_number.ensures.number ∙ c.in-7.is) _ _
    (λ charge z p h. (h.0, h.1)) _ _ _
    (c.variants-merge-in-7).result (c.variants-merge-in-7).ensures.err)

pub returns-in-7-clause-err : goal.returns-in-7-clause-err
returns-in-7-clause-err g c =
    let n = tag_number c.args.tag in
    let m = levels_kind-of c.args.held.now in
    let r = c.variants-from_residual-in-7 in
    let p = err_from_is_err_and r.result r.ensures.1 in
    rw (p.1, p.2) (λ other. anew_untaken levels_kind-kind.takes
    level-of-levels_kind-kind level-of-levels_kind-as _ 7 n
    (sym c.variants-field_number.ensures.number ∙ c.in-7.is) m (search rules)
    (λ charge z p h. h) _ _ _ ((c.in_Break-variants-variants-in-7).ensures.err other))

pub returns-in-Some-Part-variants-clause-err :
    goal.returns-in-Some-Part-variants-clause-err
returns-in-Some-Part-variants-clause-err g c =
    let n = tag_number c.args.tag in
    let one = c.in-Some-Part-variants in
    rw (one.is, one.field-0-is) (last_err levels_kind-front.owns levels_kind-front.takes
    part-of-levels_kind.takes n
    (λ p. neither _ _ (neither _ _ (neither _ _ (unlike n 4 (search rules)) (unlike n 5 (search rules))) (unlike n 6 (search rules))) (unlike n 7 (search rules)))
    part-of-levels_kind-kind.takes _ _
    (λ charge z p h. (h.0, h.1)) _ _ _
    c.variants-merge-2.result c.variants-merge-2.ensures.err)

pub returns-clause-err : goal.returns-clause-err
returns-clause-err g c =
    let n = tag_number c.args.tag in
    let m = levels_kind-of c.args.held.now in
    let r = c.variants-from_residual-2 in
    let p = err_from_is_err_and r.result r.ensures.1 in
    rw (p.1, p.2) (λ other. anew_untaken levels_kind-kind.takes
    part-of-levels_kind-kind part-of-levels_kind-as _ n n
    refl m (search rules)
    (λ charge z p h. from_last levels_kind-front.owns levels_kind-front.takes
    part-of-levels_kind.takes n
    (λ p. neither _ _ (neither _ _ (neither _ _ (unlike n 4 (search rules)) (unlike n 5 (search rules))) (unlike n 6 (search rules))) (unlike n 7 (search rules)))
    m z charge p h) _ _ _ (c.in_Break-variants-variants.ensures.err other))
