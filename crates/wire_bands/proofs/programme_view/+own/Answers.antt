use Rattle.std.proofs.Common.{refl, sym, ◌∙◌}
use Rattle.wire_bands.specs.Programme.{Programme-Value, ProgrammePart-Held, programme-one}
use Rattle.wire_bands.specs.Programme.{programme-part-choice, programme-part-view_choice}
use Rattle.wire_bands.specs.Programme.{programme-view_one, programme_part-one}
use Rattle.wire_bands.specs.Programme.{programme_part-view_one}
use Rattle.wire_bands.specs.declared.programme.Programme.{Programme, Programme-F}
use Rattle.wire_bands.specs.declared.programme_part.ProgrammePart.{ProgrammePart}
use Rattle.wire_bands.specs.declared.programme_part.ProgrammePart.TheFolds.{fold-roll-Programme}
use Rattle.wire_bands.specs.declared.programme_view.ProgrammeView.{fold_out-ProgrammeView}
use Rattle.wire_bands.specs.declared.programme_view.ProgrammeView.{out-ProgrammeView}
use Rattle.wire_bands.proofs.programme_view.+own.Goals as goal

pub owned_programme-returns-clause-ok : goal.owned_programme-returns-clause-ok
owned_programme-returns-clause-ok t c =
    let made : Programme-F ProgrammePart Programme = record {
      note = c.in_ok-own_note.own_note;
      part = c.in_ok-own_part.own_part;
      unknown = c.in_ok-own_unknown.own_unknown;
    } in
    fold-roll-Programme ProgrammePart-Held Programme-Value programme_part-one programme-one made
    ∙ rw (
      c.in_ok-own_note.ensures.ok,
      programme-part-choice made made.part refl,
      c.in_ok-own_part.ensures.ok,
      programme-part-view_choice (out-ProgrammeView c.args.view.now)
          (out-ProgrammeView c.args.view.now).part refl,
      c.in_ok-own_unknown.ensures.ok,
      c.deref.ensures.value,
    ) refl
    ∙ sym (fold_out-ProgrammeView ProgrammePart-Held Programme-Value programme_part-view_one programme-view_one c.args.view.now)
