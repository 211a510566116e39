use Rattle.std.proofs.Common.{refl, sym, ◌∙◌, arith}
use Rattle.wire_base.specs.FieldsEq.{fields_eq}
use Rattle.wire_base.proofs.UnknownFieldsLemmas.{fields_eq-length, fields_eq-more, fields_eq-other, fields_of-end}
use Rattle.wire_base.proofs.unknown_fields.compare.+eq.Goals as goal

pub UnknownFieldsPartialEq::eq-returns-then-len : goal.UnknownFieldsPartialEq::eq-returns-then-len
UnknownFieldsPartialEq::eq-returns-then-len t c =
    let a = c.self.inside.fields in
    let b = c.other.inside.fields in
    let len = c.len.ensures ∙ a.ok.0 in
    let len-2 = c.len-2.ensures ∙ b.ok.0 in
    rw (← c.self.view_is, ← c.other.view_is)
    (sym (fields_eq-length a.items b.items (λ e. c.if-len.true (len ∙ e ∙ sym len-2))))

pub UnknownFieldsPartialEq::eq-loop-index-init : goal.UnknownFieldsPartialEq::eq-loop-index-init
UnknownFieldsPartialEq::eq-loop-index-init t c = record {
  end = c.len-index-end.ensures ∙ c.self.inside.fields.ok.0;
  as_long = sym c.other.inside.fields.ok.0 ∙ sym c.len-2.ensures ∙ sym c.if-len.false
      ∙ c.len.ensures ∙ c.self.inside.fields.ok.0;
  rest = rw (← c.self.view_is, ← c.other.view_is) refl;
}

pub UnknownFieldsPartialEq::eq-returns-then-not-eq : goal.UnknownFieldsPartialEq::eq-returns-then-not-eq
UnknownFieldsPartialEq::eq-returns-then-not-eq t c =
    let i = c.loop-index.invariant in
    let a = c.self.inside.fields.items in
    let b = c.other.inside.fields.items in
    sym (i.rest
    ∙ fields_eq-other a b c.loop-index.index _ _ (omega (arith, i.end))
    (omega (arith, i.end, i.as_long)) c.index.ensures c.index-in-loop-index.ensures
    (sym c.eq.ensures ∙ c.if-not-eq.true))

pub UnknownFieldsPartialEq::eq-loop-index-preserved : goal.UnknownFieldsPartialEq::eq-loop-index-preserved
UnknownFieldsPartialEq::eq-loop-index-preserved t c =
    let i = c.loop-index.invariant in
    let a = c.self.inside.fields.items in
    let b = c.other.inside.fields.items in
    record {
      end = i.end;
      as_long = i.as_long;
      rest = i.rest
          ∙ fields_eq-more a b c.loop-index.index _ _ (omega (arith, i.end))
          (omega (arith, i.end, i.as_long)) c.index.ensures c.index-in-loop-index.ensures
          (sym c.eq.ensures ∙ c.if-not-eq.false);
    }

pub UnknownFieldsPartialEq::eq-returns : goal.UnknownFieldsPartialEq::eq-returns
UnknownFieldsPartialEq::eq-returns t c =
    let i = c.loop-index.invariant in
    let a = c.self.inside.fields.items in
    let b = c.other.inside.fields.items in
    sym (i.rest
    ∙ (λ k. fields_eq (fields_of-end a c.loop-index.index (omega (arith, i.end)) k)
    (fields_of-end b c.loop-index.index (omega (arith, i.end, i.as_long)) k)))
