use Rattle.std.proofs.Common.{refl, rules, sym, ◌∙◌}
use Rattle.std.proofs.lemmas.Result.{err_from_is_err_and}
use Rattle.wire_codec.specs.TagView.{tag_number}
use Rattle.wire_fields.specs.Arms.{anew_untaken, arm_err, from_last, last_err, neither, unlike}
use Rattle.wire_kinds.specs.ChoiceKind.{blob-of-choice_kind-as, blob-of-choice_kind-kind}
use Rattle.wire_kinds.specs.ChoiceKind.{choice_kind-front, choice_kind-kind, choice_kind-of}
use Rattle.wire_kinds.specs.ChoiceKind.{number-of-choice_kind-as, number-of-choice_kind-kind}
use Rattle.wire_kinds.specs.ChoiceKind.{shade-of-choice_kind-as, shade-of-choice_kind-kind}
use Rattle.wire_kinds.specs.ChoiceKind.{text-of-choice_kind-as, text-of-choice_kind-kind}
use Rattle.wire_kinds.specs.ChoiceKind.{widths-of-choice_kind, widths-of-choice_kind-as}
use Rattle.wire_kinds.specs.ChoiceKind.{widths-of-choice_kind-kind}
use Rattle.wire_kinds.proofs.choice_kind.ChoiceKindKindKind.merge.Goals as goal

pub returns-in-Some-Number-variants-clause-err :
    goal.returns-in-Some-Number-variants-clause-err
returns-in-Some-Number-variants-clause-err g c =
    let n = tag_number c.args.tag in
    let one = c.in-Some-Number-variants in
    rw (one.is, one.field-0-is) (arm_err choice_kind-kind.takes
    number-of-choice_kind-kind.takes 1 n
    (sym c.variants-field_number.ensures.number ∙ c.in-1.is) _ _
    (λ charge z p h. (h.0, h.1)) _ _ _
    c.variants-merge.result c.variants-merge.ensures.err)

pub returns-in-1-clause-err : goal.returns-in-1-clause-err
returns-in-1-clause-err g c =
    let n = tag_number c.args.tag in
    let m = choice_kind-of c.args.held.now in
    let r = c.variants-from_residual in
    let p = err_from_is_err_and r.result r.ensures.1 in
    rw (p.1, p.2) (λ other. anew_untaken choice_kind-kind.takes
    number-of-choice_kind-kind number-of-choice_kind-as _ 1 n
    (sym c.variants-field_number.ensures.number ∙ c.in-1.is) m (search rules)
    (λ charge z p h. h) _ _ _ ((c.in_Break-variants-variants-in-1).ensures.err other))

pub returns-in-Some-Text_-variants-clause-err :
    goal.returns-in-Some-Text_-variants-clause-err
returns-in-Some-Text_-variants-clause-err g c =
    let n = tag_number c.args.tag in
    let one = c.in-Some-Text_-variants in
    rw (one.is, one.field-0-is) (arm_err choice_kind-kind.takes
    text-of-choice_kind-kind.takes 2 n
    (sym c.variants-field_number.ensures.number ∙ c.in-2.is) _ _
    (λ charge z p h. (h.0, h.1)) _ _ _
    (c.variants-merge-in-2).result (c.variants-merge-in-2).ensures.err)

pub returns-in-2-clause-err : goal.returns-in-2-clause-err
returns-in-2-clause-err g c =
    let n = tag_number c.args.tag in
    let m = choice_kind-of c.args.held.now in
    let r = c.variants-from_residual-in-2 in
    let p = err_from_is_err_and r.result r.ensures.1 in
    rw (p.1, p.2) (λ other. anew_untaken choice_kind-kind.takes
    text-of-choice_kind-kind text-of-choice_kind-as _ 2 n
    (sym c.variants-field_number.ensures.number ∙ c.in-2.is) m (search rules)
    (λ charge z p h. h) _ _ _ ((c.in_Break-variants-variants-in-2).ensures.err other))

pub returns-in-Some-Blob_-variants-clause-err :
    goal.returns-in-Some-Blob_-variants-clause-err
returns-in-Some-Blob_-variants-clause-err g c =
    let n = tag_number c.args.tag in
    let one = c.in-Some-Blob_-variants in
    rw (one.is, one.field-0-is) (arm_err choice_kind-kind.takes
    blob-of-choice_kind-kind.takes 3 n
    (sym c.variants-field_number.ensures.number ∙ c.in-3.is) _ _
    (λ charge z p h. (h.0, h.1)) _ _ _
    (c.variants-merge-in-3).result (c.variants-merge-in-3).ensures.err)

pub returns-in-3-clause-err : goal.returns-in-3-clause-err
returns-in-3-clause-err g c =
    let n = tag_number c.args.tag in
    let m = choice_kind-of c.args.held.now in
    let r = c.variants-from_residual-in-3 in
    let p = err_from_is_err_and r.result r.ensures.1 in
    rw (p.1, p.2) (λ other. anew_untaken choice_kind-kind.takes
    blob-of-choice_kind-kind blob-of-choice_kind-as _ 3 n
    (sym c.variants-field_number.ensures.number ∙ c.in-3.is) m (search rules)
    (λ charge z p h. h) _ _ _ ((c.in_Break-variants-variants-in-3).ensures.err other))

pub returns-in-Some-Shade_-variants-clause-err :
    goal.returns-in-Some-Shade_-variants-clause-err
returns-in-Some-Shade_-variants-clause-err g c =
    let n = tag_number c.args.tag in
    let one = c.in-Some-Shade_-variants in
    rw (one.is, one.field-0-is) (arm_err choice_kind-kind.takes
    shade-of-choice_kind-kind.takes 4 n
    (sym c.variants-field_number.ensures.number ∙ c.in-4.is) _ _
    (λ charge z p h. (h.0, h.1)) _ _ _
    (c.variants-merge-in-4).result (c.variants-merge-in-4).ensures.err)

pub returns-in-4-clause-err : goal.returns-in-4-clause-err
returns-in-4-clause-err g c =
    let n = tag_number c.args.tag in
    let m = choice_kind-of c.args.held.now in
    let r = c.variants-from_residual-in-4 in
    let p = err_from_is_err_and r.result r.ensures.1 in
    rw (p.1, p.2) (λ other. anew_untaken choice_kind-kind.takes
    shade-of-choice_kind-kind shade-of-choice_kind-as _ 4 n
    (sym c.variants-field_number.ensures.number ∙ c.in-4.is) m (search rules)
    (λ charge z p h. h) _ _ _ ((c.in_Break-variants-variants-in-4).ensures.err other))

pub returns-in-Some-Widths-variants-clause-err :
    goal.returns-in-Some-Widths-variants-clause-err
returns-in-Some-Widths-variants-clause-err g c =
    let n = tag_number c.args.tag in
    let one = c.in-Some-Widths-variants in
    rw (one.is, one.field-0-is) (last_err choice_kind-front.owns choice_kind-front.takes
    widths-of-choice_kind.takes n
    (λ p. neither _ _ (neither _ _ (neither _ _ (unlike n 1 (search rules)) (unlike n 2 (search rules))) (unlike n 3 (search rules))) (unlike n 4 (search rules)))
    widths-of-choice_kind-kind.takes _ _
    (λ charge z p h. (h.0, h.1)) _ _ _
    c.variants-merge-2.result c.variants-merge-2.ensures.err)

pub returns-clause-err : goal.returns-clause-err
returns-clause-err g c =
    let n = tag_number c.args.tag in
    let m = choice_kind-of c.args.held.now in
    let r = c.variants-from_residual-2 in
    let p = err_from_is_err_and r.result r.ensures.1 in
    rw (p.1, p.2) (λ other. anew_untaken choice_kind-kind.takes
    widths-of-choice_kind-kind widths-of-choice_kind-as _ n n
    refl m (search rules)
    (λ charge z p h. from_last choice_kind-front.owns choice_kind-front.takes
    widths-of-choice_kind.takes n
    (λ p. neither _ _ (neither _ _ (neither _ _ (unlike n 1 (search rules)) (unlike n 2 (search rules))) (unlike n 3 (search rules))) (unlike n 4 (search rules)))
    m z charge p h) _ _ _ (c.in_Break-variants-variants.ensures.err other))
