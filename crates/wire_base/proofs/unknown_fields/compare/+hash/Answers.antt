use Rattle.std.proofs.Common.{refl, sym, ◌∙◌}
use Rattle.wire_base.proofs.UnknownFieldsLemmas.{count_top-fields_of}
use Rattle.wire_base.proofs.unknown_fields.compare.+hash.Goals as goal

pub UnknownFieldsHash::hash-loop-field-init : goal.UnknownFieldsHash::hash-loop-field-init
UnknownFieldsHash::hash-loop-field-init g t c =
    let fields = c.self.inside.fields in
    rw (
      ← c.self.view_is,
      c.deref-field-items.ensures.value,
      c.write_usize.ensures,
      c.len.ensures
          ∙ fields.ok.0 ∙ sym (count_top-fields_of fields.items),
    ) refl
