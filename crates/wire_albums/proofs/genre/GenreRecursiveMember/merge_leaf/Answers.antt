use Rattle.std.proofs.Common.{refl, rules, sym, ◌∙◌}
use Rattle.wire_albums.specs.Genre.{Genre-Value, genre-known, genre-leaf, genre-mood-kind}
use Rattle.wire_albums.specs.Genre.{genre-name-kind, genre-one, genre-years-kind}
use Rattle.wire_albums.specs.declared.genre.Genre.{fold_out-Genre}
use Rattle.wire_albums.specs.declared.genre.Genre.TheFolds.{fold-roll-Genre}
use Rattle.wire_codec.specs.TagView.{tag_number}
use Rattle.wire_fields.specs.Arms.{arm_err, from_last, neither, unlike}
use Rattle.wire_fields.specs.Leaving.{keeps_beside}
use Rattle.wire_fields.specs.NestArms.{leaf_ok}
use Rattle.wire_fields.specs.Shape.{keeps}
use Rattle.wire_albums.proofs.genre.GenreRecursiveMember.merge_leaf.Goals as goal

pub returns-in-1-clause-err : goal.returns-in-1-clause-err
returns-in-1-clause-err g c =
    rw (fold_out-Genre Genre-Value genre-one c.args.self.now)
    (arm_err genre-leaf.takes genre-name-kind.kind.takes 1 _
    (sym c.field_number.ensures.number ∙ c.in-1.is) _ _
    (λ charge z p h. (z.0.0.0, h.0.0.0)) _ _ _
    c.merge.result c.merge.ensures.err)

pub returns-in-4-clause-err : goal.returns-in-4-clause-err
returns-in-4-clause-err g c =
    rw (fold_out-Genre Genre-Value genre-one c.args.self.now)
    (arm_err genre-leaf.takes genre-mood-kind.takes 4 _
    (sym c.field_number.ensures.number ∙ c.in-4.is) _ _
    (λ charge z p h. ((z.0.0.1, z.1), h.0.0)) _ _ _
    c.merge_closed.result c.merge_closed.ensures.err)

pub returns-in-5-clause-err : goal.returns-in-5-clause-err
returns-in-5-clause-err g c =
    rw (fold_out-Genre Genre-Value genre-one c.args.self.now)
    (arm_err genre-leaf.takes genre-years-kind.kind.takes 5 _
    (sym c.field_number.ensures.number ∙ c.in-5.is) _ _
    (λ charge z p h. (z.0.1, h.0.0)) _ _ _
    (c.merge-in-5).result (c.merge-in-5).ensures.err)

pub returns-in-5-clause-ok : goal.returns-in-5-clause-ok
returns-in-5-clause-ok g c =
    leaf_ok genre-leaf.takes genre-years-kind.kind.takes 5 _
    (sym c.field_number.ensures.number ∙ c.in-5.is) _ _ _ _
    (fold_out-Genre Genre-Value genre-one c.args.self.now)
    (fold-roll-Genre Genre-Value genre-one _) _ _
    (λ charge p h. ((h, refl), refl)) _ _ _ _ _
    (c.merge-in-5).result (c.merge-in-5).ensures.ok

pub returns-in_default-clause-err : goal.returns-in_default-clause-err
returns-in_default-clause-err g c =
    let n = tag_number c.args.tag in
    rw (fold_out-Genre Genre-Value genre-one c.args.self.now)
    (arm_err genre-leaf.takes keeps n n refl _ _
    (λ charge z p h. (
      z.1,
      (from_last genre-known.owns genre-known.takes keeps_beside n
          (λ p. neither _ _ (neither _ _ (unlike n 1 (search rules))
          (unlike n 4 (search rules)))
          (unlike n 5 (search rules)))
          _ z charge p h).0,
    ))
    _ _ _ c.keep.result c.keep.ensures.err)
