use Rattle.std.proofs.Common.{refl, sym, ◌∙◌}
use Rattle.wire_bands.specs.Cue.{Cue-Value, CueNext-Held, cue-next-choice, cue-next-view_choice}
use Rattle.wire_bands.specs.Cue.{cue-one, cue-view_one, cue_next-one, cue_next-view_one}
use Rattle.wire_bands.specs.declared.cue.Cue.{Cue, Cue-F}
use Rattle.wire_bands.specs.declared.cue_next.CueNext.{CueNext}
use Rattle.wire_bands.specs.declared.cue_next.CueNext.TheFolds.{fold-roll-Cue}
use Rattle.wire_bands.specs.declared.cue_view.CueView.{fold_out-CueView, out-CueView}
use Rattle.wire_bands.proofs.cue_view.+own.Goals as goal

pub owned_cue-returns-clause-ok : goal.owned_cue-returns-clause-ok
owned_cue-returns-clause-ok t c =
    let made : Cue-F CueNext Cue = record {
      at = c.in_ok-own_at.own_at;
      next = c.in_ok-own_next.own_next;
      unknown = c.in_ok-own_unknown.own_unknown;
    } in
    fold-roll-Cue CueNext-Held Cue-Value cue_next-one cue-one made
    ∙ rw (
      c.in_ok-own_at.ensures.ok,
      cue-next-choice made made.next refl,
      c.in_ok-own_next.ensures.ok,
      cue-next-view_choice (out-CueView c.args.view.now)
          (out-CueView c.args.view.now).next refl,
      c.in_ok-own_unknown.ensures.ok,
      c.deref.ensures.value,
    ) refl
    ∙ sym (fold_out-CueView CueNext-Held Cue-Value cue_next-view_one cue-view_one c.args.view.now)
