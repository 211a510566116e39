use Rattle.std.proofs.Common.{◌≡◌, ◌+◌, ◌∷◌, take, ap, ◌∙◌, sym}
use Rattle.std.specs.Prelude.{option_and_then, reverse, slice_index, None}
use Rattle.wire_dynamic.specs.declared.field.Field.{Field}
use Rattle.wire_dynamic.specs.Walks.{type_of_group, innermost}
use Rattle.wire_dynamic.proofs.Open.{all_within, one_more}
use Rattle.wire_dynamic.proofs.schema.Schema.innermost.Goals as goal

pub returns-in_err-place : goal.returns-in_err-place
returns-in_err-place c =
    let s = c.args.self.now in
    let xs = c.args.groups.now in
    let i = c.loop-number.number-index in
    let next : c.group_place.result ≡ innermost s c.args.root (slice_index xs i ∷ reverse (take i xs)) = rw (c.loop-number.invariant) (c.group_place.ensures ∙ ap (option_and_then (λ (f : Field). type_of_group f.kind)) c.field.ensures) in
    let none : innermost s c.args.root (reverse (take (i + 1) xs)) ≡ None = rw (one_more xs i c.loop-number-test.true) (sym next ∙ c.in_err-place.was) in
    c.from_residual.ensures ∙ sym (all_within s c.args.root xs (i + 1) none)

pub loop-number-preserved : goal.loop-number-preserved
loop-number-preserved c =
    let s = c.args.self.now in
    let xs = c.args.groups.now in
    let i = c.loop-number.number-index in
    let next : c.group_place.result ≡ innermost s c.args.root (slice_index xs i ∷ reverse (take i xs)) = rw (c.loop-number.invariant) (c.group_place.ensures ∙ ap (option_and_then (λ (f : Field). type_of_group f.kind)) c.field.ensures) in
    rw (one_more xs i c.loop-number-test.true) (sym next ∙ c.in_ok-place.was)
