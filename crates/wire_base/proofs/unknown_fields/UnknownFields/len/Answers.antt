use Rattle.std.proofs.Common.{sym, ap, ◌∙◌}
use Rattle.wire_base.specs.Field.{count_top}
use Rattle.wire_base.proofs.UnknownFieldsLemmas.{count_top-fields_of}
use Rattle.wire_base.proofs.unknown_fields.UnknownFields.len.Goals as goal

pub returns : goal.returns
returns c = c.len.ensures ∙ c.self.inside.fields.ok.0
    ∙ sym (count_top-fields_of c.self.inside.fields.items) ∙ ap count_top c.self.view_is
