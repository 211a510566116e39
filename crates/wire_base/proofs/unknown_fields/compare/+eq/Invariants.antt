use Rattle.std.proofs.Common.{◌≡◌, length, drop}
use Rattle.wire_base.specs.FieldsEq.{fields_eq}
use Rattle.wire_base.specs.UnknownFields.{fields_of}
use Rattle.wire_base.proofs.unknown_fields.compare.+eq.Given as goal

-- no two records so far differ, so that the rest decides
abbrev pub invariant-UnknownFieldsPartialEq::eq-loop-index : goal.invariant-UnknownFieldsPartialEq::eq-loop-index
invariant-UnknownFieldsPartialEq::eq-loop-index l = record {
  end : l.index-end ≡ length l.self-inside.fields.items;
  as_long : length l.other-inside.fields.items ≡ length l.self-inside.fields.items;
  rest : fields_eq l.fn.self l.fn.other ≡ fields_eq
      (fields_of (drop l.index l.self-inside.fields.items))
      (fields_of (drop l.index l.other-inside.fields.items));
}
