use Rattle.std.proofs.Common.{ap, refl, rules, sym, ◌∙◌, ◌≡◌}
use Rattle.std.proofs.lemmas.Result.{err_from_is_err_and}
use Rattle.std.specs.Prelude.{None, Option, Some, option_map}
use Rattle.wire_bands.specs.Programme.{Programme-Value, ProgrammePart-Held, programme-known}
use Rattle.wire_bands.specs.Programme.{programme-leaf, programme-note-kind, programme-one}
use Rattle.wire_bands.specs.Programme.{programme-value, programme_part-none, programme_part-one}
use Rattle.wire_bands.specs.Programme.{programme_part-value}
use Rattle.wire_bands.specs.Silence.{silence-shape, silence-value}
use Rattle.wire_bands.specs.declared.programme.Programme.{Programme, Programme-F}
use Rattle.wire_bands.specs.declared.programme.Programme.{fold_out-Programme, out-Programme}
use Rattle.wire_bands.specs.declared.programme_part.ProgrammePart.{ProgrammePart}
use Rattle.wire_bands.specs.declared.programme_part.ProgrammePart.{fold_out-ProgrammePart}
use Rattle.wire_bands.specs.declared.programme_part.ProgrammePart.TheFolds.{fold-roll-Programme}
use Rattle.wire_bands.specs.declared.programme_part.ProgrammePart.TheFolds.{map-Programme}
use Rattle.wire_bands.specs.declared.programme_part.ProgrammePart.TheViews.{out-roll-Programme}
use Rattle.wire_bands.specs.declared.programme_part.ProgrammePart.TheViews.{roll-Programme}
use Rattle.wire_codec.specs.TagView.{tag_number}
use Rattle.wire_codec.specs.ValueMap.{sint64}
use Rattle.wire_fields.specs.Arms.{arm_err, neither, rest_err, unlike, untaken}
use Rattle.wire_fields.specs.Messages.{embedded_always, or_else}
use Rattle.wire_fields.specs.NestArms.{leaf_ok}
use Rattle.wire_fields.specs.Numbers.{numeric}
use Rattle.wire_fields.specs.Presence.{always}
use Rattle.wire_fields.specs.Shape.{keeps}
use Rattle.wire_fields.specs.Texts.{any_bytes, string}
use Rattle.wire_fields.specs.declared.form.Form.TheVariants.{Varint}
use Rattle.wire_bands.specs.declared.programme_part.ProgrammePart.TheVariants as kinds
use Rattle.wire_bands.proofs.programme.ProgrammeRecursiveMember.merge_leaf.Goals as goal

pub returns-in-1-clause-err : goal.returns-in-1-clause-err
returns-in-1-clause-err g c =
    rw (fold_out-Programme ProgrammePart-Held Programme-Value programme_part-one programme-one c.args.self.now)
    (arm_err programme-leaf.takes programme-note-kind.kind.takes 1 _
    (sym c.field_number.ensures.number ∙ c.in-1.is) _ _
    (λ charge z p h. (z.0.0, h.0.0)) _ _ _
    c.merge.result c.merge.ensures.err)

pub returns-in_err-value-in-2-clause-err : goal.returns-in_err-value-in-2-clause-err
returns-in_err-value-in-2-clause-err g c =
    let r = c.from_residual in
    let p = err_from_is_err_and r.result r.ensures.1 in
    rw (p.1, p.2)
    (rw (fold_out-Programme ProgrammePart-Held Programme-Value programme_part-one programme-one c.args.self.now)
    (λ other. untaken programme-leaf.takes (always (numeric Varint sint64)).kind.takes 2 _
    (sym c.field_number.ensures.number ∙ c.in-2.is) _ _
    (λ charge z p h. (h.0.0.0, h.0.0.1)) _ _ _
    ((c.in_err-value-in-2).ensures.err other)))

pub returns-in_err-value-in-3-clause-err : goal.returns-in_err-value-in-3-clause-err
returns-in_err-value-in-3-clause-err g c =
    let r = c.from_residual-in_err-value-in-3 in
    let p = err_from_is_err_and r.result r.ensures.1 in
    rw (p.1, p.2)
    (rw (fold_out-Programme ProgrammePart-Held Programme-Value programme_part-one programme-one c.args.self.now)
    (λ other. untaken programme-leaf.takes (always string).kind.takes 3 _
    (sym c.field_number.ensures.number ∙ c.in-3.is) _ _
    (λ charge z p h. (h.0.0.0, h.0.0.1)) _ _ _
    ((c.in_err-value-in-3).ensures.err other)))

-- what stands, as in its message and by itself
standing : (m : Programme-F ProgrammePart Programme) (k : Option ProgrammePart)
    → (or_else programme_part-none (map-Programme ProgrammePart Programme ProgrammePart-Held Programme-Value programme_part-value programme-value
    (record m { part = k })).part).0
    ≡ (or_else programme_part-none (option_map programme_part-value k)).0
standing m None = refl
standing m (Some k) = refl

pub returns-in-4-clause-err : goal.returns-in-4-clause-err
returns-in-4-clause-err g c =
    rw (fold_out-Programme ProgrammePart-Held Programme-Value programme_part-one programme-one c.args.self.now)
    (arm_err programme-leaf.takes (embedded_always silence-shape).kind.takes 4 _
    (sym c.field_number.ensures.number ∙ c.in-4.is) _ _
    (λ charge z p h. (h.0.0.0, rw (c.silence_or_new-value.ensures, c.take.ensures.value, ← standing (out-Programme c.args.self.now) (out-Programme c.args.self.now).part) h.0.0.1)) _ _ _
    c.merge-merged.result c.merge-merged.ensures.err)

pub returns-in-4-clause-ok : goal.returns-in-4-clause-ok
unfolding Rattle.wire_bands.specs.declared.programme_part.ProgrammePart.TheViews.out-ProgrammePart denote.Hole.Carrier.out
returns-in-4-clause-ok g c =
    leaf_ok programme-leaf.takes (embedded_always silence-shape).kind.takes 4 _
    (sym c.field_number.ensures.number ∙ c.in-4.is) _ _ _ _
    (fold_out-Programme ProgrammePart-Held Programme-Value programme_part-one programme-one c.args.self.now)
    (fold-roll-Programme ProgrammePart-Held Programme-Value programme_part-one programme-one
    (record (out-Programme (roll-Programme (record (out-Programme c.args.self.now) { part = c.take.new.self }))) { part = Some (kinds.Silence c.merge-merged.new.held) })
    ∙ ap (λ (f : Programme-F ProgrammePart Programme). programme-one
    (map-Programme ProgrammePart Programme ProgrammePart-Held Programme-Value programme_part-value programme-value (record f { part = Some (kinds.Silence c.merge-merged.new.held) })))
    (out-roll-Programme (record (out-Programme c.args.self.now) { part = c.take.new.self })))
    (silence-value c.silence_or_new-value.result) (silence-value c.merge-merged.new.held)
    (λ charge p h. (((silence-value c.merge-merged.new.held, rw (c.silence_or_new-value.ensures, c.take.ensures.value, ← standing (out-Programme c.args.self.now) (out-Programme c.args.self.now).part) at h, ap (λ (x : ProgrammePart-Held). x.0) (fold_out-ProgrammePart ProgrammePart-Held Programme-Value programme_part-one programme-one (kinds.Silence c.merge-merged.new.held))), refl), refl))
    _ _ _ _ _ c.merge-merged.result c.merge-merged.ensures.ok

pub returns-in_err-value-in-6-clause-err : goal.returns-in_err-value-in-6-clause-err
returns-in_err-value-in-6-clause-err g c =
    let r = c.from_residual-in_err-value-in-6 in
    let p = err_from_is_err_and r.result r.ensures.1 in
    rw (p.1, p.2)
    (rw (fold_out-Programme ProgrammePart-Held Programme-Value programme_part-one programme-one c.args.self.now)
    (λ other. untaken programme-leaf.takes (always any_bytes).kind.takes 6 _
    (sym c.field_number.ensures.number ∙ c.in-6.is) _ _
    (λ charge z p h. (h.0.0.0, h.0.0.1)) _ _ _
    ((c.in_err-value-in-6).ensures.err other)))

pub returns-in_default-clause-err : goal.returns-in_default-clause-err
returns-in_default-clause-err g c =
    let n = tag_number c.args.tag in
    rw (fold_out-Programme ProgrammePart-Held Programme-Value programme_part-one programme-one c.args.self.now)
    (rest_err programme-known.owns programme-known.takes keeps _
    (λ p. neither _ _ (unlike n 1 (search rules))
    (neither _ _ (neither _ _ (neither _ _ (unlike n 2 (search rules))
    (unlike n 3 (search rules)))
    (unlike n 4 (search rules)))
    (unlike n 6 (search rules))))
    _ _ _ _ c.keep.result c.keep.ensures.err)
