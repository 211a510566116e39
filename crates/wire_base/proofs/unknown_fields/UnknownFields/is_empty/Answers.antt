use Rattle.std.proofs.Common.{ap, ◌∙◌, eqb}
use Rattle.wire_base.proofs.UnknownFieldsLemmas.{is_empty-fields_of}
use Rattle.wire_base.proofs.unknown_fields.UnknownFields.is_empty.Goals as goal

pub returns : goal.returns
returns c =
    rw (← c.self.view_is)
    (is_empty-fields_of c.self.inside.fields.items c.is_empty.result (c.is_empty.ensures
    ∙ ap (λ n. eqb n 0) c.self.inside.fields.ok.0))
