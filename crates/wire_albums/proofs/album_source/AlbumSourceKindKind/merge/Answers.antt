use Rattle.std.proofs.Common.{refl, rules, sym, ◌∙◌}
use Rattle.std.proofs.lemmas.Result.{err_from_is_err_and}
use Rattle.wire_albums.specs.AlbumSource.{album_source-front, album_source-kind, album_source-of}
use Rattle.wire_albums.specs.AlbumSource.{catalog-of-album_source-as, catalog-of-album_source-kind}
use Rattle.wire_albums.specs.AlbumSource.{label-of-album_source-as, label-of-album_source-kind}
use Rattle.wire_albums.specs.AlbumSource.{medley-of-album_source, medley-of-album_source-as}
use Rattle.wire_albums.specs.AlbumSource.{medley-of-album_source-kind}
use Rattle.wire_codec.specs.TagView.{tag_number}
use Rattle.wire_fields.specs.Arms.{anew_untaken, arm_err, from_last, last_err, neither, unlike}
use Rattle.wire_albums.proofs.album_source.AlbumSourceKindKind.merge.Goals as goal

pub returns-in-Some-Label-variants-clause-err :
    goal.returns-in-Some-Label-variants-clause-err
returns-in-Some-Label-variants-clause-err g c =
    let n = tag_number c.args.tag in
    let one = c.in-Some-Label-variants in
    rw (one.is, one.field-0-is) (arm_err album_source-kind.takes
    label-of-album_source-kind.takes 14 n
    (sym c.variants-field_number.ensures.number ∙ c.in-14.is) _ _
    (λ charge z p h. (h.0, h.1)) _ _ _
    c.variants-merge.result c.variants-merge.ensures.err)

pub returns-in-14-clause-err : goal.returns-in-14-clause-err
returns-in-14-clause-err g c =
    let n = tag_number c.args.tag in
    let m = album_source-of c.args.held.now in
    let r = c.variants-from_residual in
    let p = err_from_is_err_and r.result r.ensures.1 in
    rw (p.1, p.2) (λ other. anew_untaken album_source-kind.takes
    label-of-album_source-kind label-of-album_source-as _ 14 n
    (sym c.variants-field_number.ensures.number ∙ c.in-14.is) m (search rules)
    (λ charge z p h. h) _ _ _ ((c.in_Break-variants-variants-in-14).ensures.err other))

pub returns-in-Some-Catalog-variants-clause-err :
    goal.returns-in-Some-Catalog-variants-clause-err
returns-in-Some-Catalog-variants-clause-err g c =
    let n = tag_number c.args.tag in
    let one = c.in-Some-Catalog-variants in
    rw (one.is, one.field-0-is) (arm_err album_source-kind.takes
    catalog-of-album_source-kind.takes 15 n
    (sym c.variants-field_number.ensures.number ∙ c.in-15.is) _ _
    (λ charge z p h. (h.0, h.1)) _ _ _
    (c.variants-merge-in-15).result (c.variants-merge-in-15).ensures.err)

pub returns-in-15-clause-err : goal.returns-in-15-clause-err
returns-in-15-clause-err g c =
    let n = tag_number c.args.tag in
    let m = album_source-of c.args.held.now in
    let r = c.variants-from_residual-in-15 in
    let p = err_from_is_err_and r.result r.ensures.1 in
    rw (p.1, p.2) (λ other. anew_untaken album_source-kind.takes
    catalog-of-album_source-kind catalog-of-album_source-as _ 15 n
    (sym c.variants-field_number.ensures.number ∙ c.in-15.is) m (search rules)
    (λ charge z p h. h) _ _ _ ((c.in_Break-variants-variants-in-15).ensures.err other))

pub returns-in-Some-Medley-variants-clause-err :
    goal.returns-in-Some-Medley-variants-clause-err
returns-in-Some-Medley-variants-clause-err g c =
    let n = tag_number c.args.tag in
    let one = c.in-Some-Medley-variants in
    rw (one.is, one.field-0-is) (last_err album_source-front.owns album_source-front.takes
    medley-of-album_source.takes n
    (λ p. neither _ _ (unlike n 14 (search rules)) (unlike n 15 (search rules)))
    medley-of-album_source-kind.takes _ _
    (λ charge z p h. (h.0, h.1)) _ _ _
    c.variants-merge-2.result c.variants-merge-2.ensures.err)

pub returns-clause-err : goal.returns-clause-err
returns-clause-err g c =
    let n = tag_number c.args.tag in
    let m = album_source-of c.args.held.now in
    let r = c.variants-from_residual-2 in
    let p = err_from_is_err_and r.result r.ensures.1 in
    rw (p.1, p.2) (λ other. anew_untaken album_source-kind.takes
    medley-of-album_source-kind medley-of-album_source-as _ n n
    refl m (search rules)
    (λ charge z p h. from_last album_source-front.owns album_source-front.takes
    medley-of-album_source.takes n
    (λ p. neither _ _ (unlike n 14 (search rules)) (unlike n 15 (search rules)))
    m z charge p h) _ _ _ (c.in_Break-variants-variants.ensures.err other))
