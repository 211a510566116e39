use Rattle.std.proofs.Common.{refl, rules, sym, ◌∙◌}
use Rattle.std.proofs.lemmas.Result.{err_from_is_err_and}
use Rattle.wire_bands.specs.ReleaseMore.{cover-of-release_more, cover-of-release_more-as}
use Rattle.wire_bands.specs.ReleaseMore.{cover-of-release_more-kind, credits-of-release_more-as}
use Rattle.wire_bands.specs.ReleaseMore.{credits-of-release_more-kind, release_more-front}
use Rattle.wire_bands.specs.ReleaseMore.{release_more-kind, release_more-view_of}
use Rattle.wire_codec.specs.TagView.{tag_number}
use Rattle.wire_fields.specs.Arms.{anew_untaken, arm_err, from_last, last_err, unlike}
use Rattle.wire_bands.proofs.release_more_view.ReleaseMoreViewKindViewKind.merge.Goals as goal

pub returns-in-Some-Credits-view_variants-clause-err :
    goal.returns-in-Some-Credits-view_variants-clause-err
returns-in-Some-Credits-view_variants-clause-err c =
    let n = tag_number c.args.tag in
    let one = c.in-Some-Credits-view_variants in
    rw (one.is, one.field-0-is) (arm_err release_more-kind.takes
    credits-of-release_more-kind.takes 5 n
    (sym c.view_variants-field_number.ensures.number ∙ c.in-5.is) _ _
    (λ charge z p h. (h.0, h.1)) _ _ _
    c.view_variants-merge.result c.view_variants-merge.ensures.err)

pub returns-in-5-clause-err : goal.returns-in-5-clause-err
returns-in-5-clause-err c =
    let n = tag_number c.args.tag in
    let m = release_more-view_of c.args.held.now in
    let r = c.view_variants-from_residual in
    let p = err_from_is_err_and r.result r.ensures.1 in
    rw (p.1, p.2) (λ other. anew_untaken release_more-kind.takes
    credits-of-release_more-kind credits-of-release_more-as _ 5 n
    (sym c.view_variants-field_number.ensures.number ∙ c.in-5.is) m (search rules)
    (λ charge z p h. h) _ _ _ (rw c.view_variants-empty.ensures at (c.in_Break-view_variants-view_variants-in-5).ensures.err other))

pub returns-in-Some-Cover-view_variants-clause-err :
    goal.returns-in-Some-Cover-view_variants-clause-err
returns-in-Some-Cover-view_variants-clause-err c =
    let n = tag_number c.args.tag in
    let one = c.in-Some-Cover-view_variants in
    rw (one.is, one.field-0-is) (last_err release_more-front.owns release_more-front.takes
    cover-of-release_more.takes n
    (λ p. unlike n 5 (search rules))
    cover-of-release_more-kind.takes _ _
    (λ charge z p h. (h.0, h.1)) _ _ _
    c.view_variants-merge-2.result c.view_variants-merge-2.ensures.err)

pub returns-clause-err : goal.returns-clause-err
returns-clause-err c =
    let n = tag_number c.args.tag in
    let m = release_more-view_of c.args.held.now in
    let r = c.view_variants-from_residual-2 in
    let p = err_from_is_err_and r.result r.ensures.1 in
    rw (p.1, p.2) (λ other. anew_untaken release_more-kind.takes
    cover-of-release_more-kind cover-of-release_more-as _ n n
    refl m (search rules)
    (λ charge z p h. from_last release_more-front.owns release_more-front.takes
    cover-of-release_more.takes n
    (λ p. unlike n 5 (search rules))
    m z charge p h) _ _ _ (rw c.view_variants-empty-2.ensures at c.in_Break-view_variants-view_variants.ensures.err other))
