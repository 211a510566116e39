use Rattle.std.proofs.Common.{ap, sym, refl, subst, ◌∙◌}
use Rattle.wire_base.specs.Field.{Fields, joined}
use Rattle.wire_base.specs.InRange.{AreNumbered}
use Rattle.wire_base.proofs.FieldLaws.{spelled_are_numbered_lemma, Spells-all}
use Rattle.wire_base.proofs.unknown_fields.UnknownFields.decode_from_slice_within.Goals as goal

pub returns-clause-in_range : goal.returns-clause-in_range
returns-clause-in_range c =
    let kept = c.in_ok-append_from_slice.ensures.ok in (
      c.widths_fit.ensures,
      subst AreNumbered
          (sym (kept.behind ∙ ap (λ (fs : Fields). joined fs kept.fields) c.new-fields.ensures))
          (spelled_are_numbered_lemma kept.fields _
          (Spells-all kept.fields _ _ kept.taken.read refl)),
    )
