use Rattle.std.proofs.Common.{ap, ◌∙◌, [], ◌∷◌}
use Rattle.wire_base.specs.Field.{Fields, push}
use Rattle.wire_base.specs.UnknownFields.{payload_of}
use Rattle.wire_base.proofs.UnknownFieldsLemmas.{fields_of-append, AreFitting-append}
use Rattle.wire_base.proofs.unknown_fields.UnknownFields.push.Goals as goal
use Rattle.wire_base.proofs.unknown_fields.UnknownFields.push.Goals.{in-Ok, in-Err}

pub returns-clause-ok : goal.returns-clause-ok
returns-clause-ok c =
    let f = c.args.field in
    elim c.match-push.branch [
      | in-Ok w ↦ rw (w.result-is, w.in-Ok.ensures.items)
          (fields_of-append c.self.inside.fields.items (f ∷ [])
          ∙ ap (λ (fs : Fields). push fs f.number (payload_of f.value)) c.self.view_is)
      | in-Err w ↦ rw w.result-is tt
    ]

pub invariant_of-self : goal.invariant_of-self
invariant_of-self c =
    elim c.match-push.branch [
      | in-Ok w ↦ rw w.in-Ok.ensures.items
          (AreFitting-append c.self.inside.fields.items c.args.field c.self.invariant
          c.widths_fit.ensures)
      | in-Err w ↦ rw w.in-Err.ensures.items c.self.invariant
    ]
