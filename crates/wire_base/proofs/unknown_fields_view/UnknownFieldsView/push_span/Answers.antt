use Rattle.std.proofs.Common.{◌≡◌, ℕ, ◌+◌, max, List, [], ◌∷◌, ◌++◌, Bor, ap, rules, sym, subst, ◌∙◌}
use Rattle.std.proofs.lemmas.List.{map_push}
use Rattle.std.proofs.lemmas.Result.{err_from_is_err_and}
use Rattle.wire_base.specs.Items.{slots, item_bytes, greatest_level}
use Rattle.wire_base.specs.Spans.{AreCharged, fields_charge}
use Rattle.wire_base.proofs.SpanLists.{spans_of}
use Rattle.wire_base.proofs.Spans.{charged_more, pushed_records, span_no_memory, taken_alike}
use Rattle.wire_base.proofs.WalkLaws.{no_walk_beside_fault_lemma}
use Rattle.wire_base.proofs.unknown_fields_view.UnknownFieldsView.push_span.Goals as goal

pub returns-in_err-charge-clause-memory : goal.returns-in_err-charge-clause-memory
returns-in_err-charge-clause-memory c =
    let r = c.from_residual-in_err-charge in
    let p = err_from_is_err_and r.result r.ensures.1 in
    rw (p.1, p.2) (λ is. absurd (span_no_memory _ _ _ c.in_err-charge.ensures.fault is))

pub returns-in_err-charge-clause-taken : goal.returns-in_err-charge-clause-taken
returns-in_err-charge-clause-taken c =
    let r = c.from_residual-in_err-charge in
    let p = err_from_is_err_and r.result r.ensures.1 in
    rw (p.1, p.2) (λ items h. absurd
    (no_walk_beside_fault_lemma items _ _ _ c.in_err-charge.ensures.fault h))

pub invariant_of-self-2 : goal.invariant_of-self-2
invariant_of-self-2 c =
    let (items, taken, fields, depth, bytes, left) = c.in_ok-charge.ensures.ok in
    let had = c.self.inside in
    let deepest : c.max-self-inside.result ≡ max had.depth (greatest_level 0 items) =
    c.max-self-inside.ensures ∙ ap (max had.depth) depth in
    let sum : c.in-Some.fields ≡ had.fields + slots items = search rules in
    let total : c.in-Some-checked_add.bytes ≡ had.bytes + item_bytes items = search rules in
    subst (λ t. AreCharged t
    (fields_charge c.max-self-inside.result c.in-Some.fields c.in-Some-checked_add.bytes))
    (sym (ap spans_of c.in_ok-push.ensures.items ∙ map_push (λ x. x.now) _ c.args.span
    ∙ ap (λ (ys : List (Bor (List ℕ))). spans_of ys ++ c.args.span.now ∷ [])
    c.in_ok-reserve.ensures.items))
    (charged_more _ _ _ items had.depth had.fields had.bytes _ _ _ c.self.invariant taken deepest
    sum total)

pub returns-clause-records : goal.returns-clause-records
returns-clause-records c =
    let (items, taken, fields, depth, bytes, left) = c.in_ok-charge.ensures.ok in
    pushed_records _ _ _ items taken left

pub returns-in_default-checked_add-clause-taken : goal.returns-in_default-checked_add-clause-taken
returns-in_default-checked_add-clause-taken c =
    let (items, taken, fields, depth, bytes, left) = c.in_ok-charge.ensures.ok in
    λ others h other. taken_alike _ _ _ items others taken left h

pub returns-in_default-clause-taken : goal.returns-in_default-clause-taken
returns-in_default-clause-taken c =
    let (items, taken, fields, depth, bytes, left) = c.in_ok-charge.ensures.ok in
    λ others h other. taken_alike _ _ _ items others taken left h
