use Rattle.std.proofs.Common.{◌+◌, ◌*◌, ◌<◌, ◌≤◌, ◌++◌, List, map, drop, ap, refl, sym, ◌∙◌, subst, arith}
use Rattle.std.proofs.lemmas.Map.Iter.{rest_all, rest_more}
use Rattle.std.proofs.lemmas.Result.{err_from_is_err_and}
use Rattle.std.specs.List.Sorted.{IsStrictlySortedBy}
use Rattle.std.specs.Map.{keys_of}
use Rattle.wire_json.specs.Compact.{Extends}
use Rattle.wire_jsonfields.specs.Maps.{entries_seen}
use Rattle.wire_jsonfields.proofs.ListPuts.{extends_more, list_begun, list_whole, none_left, put_one, value_next}
use Rattle.wire_jsonfields.proofs.MapPuts.{map_begun, map_more, map_whole}
use Rattle.wire_jsonfields.proofs.Untold as fields
use Rattle.wire_well_known_json.specs.Structs.{IsValueTree, Plain, Plain-Fields, entry-plain, fields_nesting, struct_fields, held_fields, name_order, nesting, value-plain, values_nesting, values_of}
use Rattle.wire_well_known_json.proofs.StructPuts.{field_within, fields_tree, fields_untold, held_names, list_tree, list_untold, never_ok, sorted_seen, value_within}
use Rattle.wire_well_known_json.proofs.structs_write.+writing.Goals as goal

-- ---- lists

pub write_values-loop-value-init : goal.write_values-loop-value-init
write_values-loop-value-init t c =
    list_begun IsValueTree (map value-plain c.args.values.now) c.args.out.now.items
    c.write_mark.new.out.items c.in_ok-write_mark.ensures.ok

pub write_values-returns-in_err-write_value-clause-err : goal.write_values-returns-in_err-write_value-clause-err
write_values-returns-in_err-write_value-clause-err t c =
    let r = c.from_residual-in_err-write_value in
    let p = err_from_is_err_and r.result r.ensures.1 in
    let old = c.args.out.now.items in
    let out = c.loop-value.out.items in
    let mid = c.write_comma.new.out.items in
    let begun : Extends old out = (_, c.loop-value.invariant.text) in
    let comma : Extends out mid = (_, c.in_ok-write_comma.ensures.ok) in
    rw p.1 (extends_more old mid c.write_value.new.out.items (extends_more old out mid begun comma)
    c.in_err-write_value.ensures.err)

pub write_values-returns-in_err-write_value-clause-no_text : goal.write_values-returns-in_err-write_value-clause-no_text
write_values-returns-in_err-write_value-clause-no_text t c =
    let r = c.from_residual-in_err-write_value in
    let p = err_from_is_err_and r.result r.ensures.1 in
    let list = c.args.values.now in
    let i = c.loop-value.value-index in
    let item = c.value-item.result in
    let next = value_next value-plain list i item c.loop-value-test.true c.value-item.is in
    let here = rw next at c.loop-value.invariant in
    rw (p.1, p.2) (λ other. list_untold (map value-plain list) (fields.list_untold IsValueTree
    (map value-plain list) (map value-plain (drop (i + 1) list)) (value-plain item)
    c.args.out.now.items c.loop-value.out.items c.loop-value.first here
    (c.in_err-write_value.ensures.no_text other)))

pub write_values-loop-value-preserved : goal.write_values-loop-value-preserved
write_values-loop-value-preserved t c =
    let list = c.args.values.now in
    let i = c.loop-value.value-index in
    let item = c.value-item.result in
    let left = map value-plain (drop (i + 1) list) in
    let out = c.loop-value.out.items in
    let first = c.loop-value.first in
    let next = value_next value-plain list i item c.loop-value-test.true c.value-item.is in
    let here = rw next at c.loop-value.invariant in
    let (e, is, put) = c.in_ok-write_value.ensures.ok in
    put_one IsValueTree (map value-plain list) c.args.out.now.items left (value-plain item) out
    first here e is c.write_comma.new.out.items c.write_value.new.out.items put first refl
    c.in_ok-write_comma.ensures.ok

pub write_values-returns-clause-ok : goal.write_values-returns-clause-ok
write_values-returns-clause-ok t c =
    let list = c.args.values.now in
    let none = none_left value-plain list c.loop-value.value-index c.loop-value-test.false in
    let whole = rw none at c.loop-value.invariant in
    let (json, tree, put) = list_whole IsValueTree (map value-plain list) c.args.out.now.items
    c.loop-value.out.items c.loop-value.first c.write_mark-2.new.out.items whole
    c.in_ok-write_mark-2.ensures.ok in
    (json, list_tree (map value-plain list) json tree, put)

pub write_values-write_value-requires : goal.write_values-write_value-requires
write_values-write_value-requires t c =
    let list = c.args.values.now in
    let i = c.loop-value.value-index in
    let item = c.value-item.result in
    let next = value_next value-plain list i item c.loop-value-test.true c.value-item.is in
    let here = rw next at c.loop-value.invariant in
    let Within : List Plain → Type 0 = λ l.
    nesting (value-plain item) ≤ values_nesting (values_of l) in
    let deep = subst Within (sym here.parts) (value_within here.done _ (value-plain item)) in
    let less : 4 * nesting (value-plain item) + 1 < t = omega (arith, deep, c.decreases) in
    (less, tt)

-- ---- structs

pub write_fields-write_entry-requires : goal.write_fields-write_entry-requires
write_fields-write_entry-requires t c =
    let seen = entries_seen (λ name. name.now) (λ entry. (entry-plain entry.now).1) in
    let here = ap seen (rest_more (λ p. p) _ _ _ _ c.in-Some.is c.next.ensures.steps) in
    let s = c.loop-name.invariant in
    let is = s.parts ∙ ap (λ (l : Plain-Fields). s.done ++ l) here in
    let value = (entry-plain c.in-Some.entry.now).1 in
    let Within : Plain-Fields → Type 0 = λ l. nesting value ≤ fields_nesting (struct_fields l) in
    let deep : nesting value ≤ fields_nesting (struct_fields (held_fields c.args.entries.now)) =
    subst Within (sym is) (field_within s.done _ _) in
    let less : 4 * nesting value + 2 < t = omega (arith, deep, c.decreases) in
    (less, tt)

pub write_fields-loop-name-init : goal.write_fields-loop-name-init
write_fields-loop-name-init t c =
    let seen = entries_seen (λ name. name.now) (λ entry. (entry-plain entry.now).1) in
    let all = held_fields c.args.entries.now in
    let is = ap seen c.into_iter-name-iterator.ensures.into_iter_gives.0 ∙ c.in_ok-last.ensures in
    rw is (map_begun (λ k. k) IsValueTree all c.args.out.now.items c.write_mark.new.out.items
    c.in_ok-write_mark.ensures.ok)

pub write_fields-returns-in_err-write_entry-clause-err : goal.write_fields-returns-in_err-write_entry-clause-err
write_fields-returns-in_err-write_entry-clause-err t c =
    let r = c.from_residual-in_err-write_entry in
    let p = err_from_is_err_and r.result r.ensures.1 in
    let begun : Extends c.args.out.now.items c.loop-name.out.items =
    (_, c.loop-name.invariant.text.text) in
    rw p.1 (extends_more c.args.out.now.items c.loop-name.out.items c.write_entry.new.out.items begun
    c.in_err-write_entry.ensures.err)

pub write_fields-returns-in_err-write_entry-clause-no_text : goal.write_fields-returns-in_err-write_entry-clause-no_text
write_fields-returns-in_err-write_entry-clause-no_text t c =
    let r = c.from_residual-in_err-write_entry in
    let p = err_from_is_err_and r.result r.ensures.1 in
    let seen = entries_seen (λ name. name.now) (λ entry. (entry-plain entry.now).1) in
    let here = ap seen (rest_more (λ p. p) _ _ _ _ c.in-Some.is c.next.ensures.steps) in
    let s = c.loop-name.invariant in
    rw (p.1, p.2) (λ other. fields_untold (held_fields c.args.entries.now) s.done _ _
    (s.parts ∙ ap (λ (l : Plain-Fields). s.done ++ l) here) (c.in_err-write_entry.ensures.no_text other))

pub write_fields-loop-name-preserved : goal.write_fields-loop-name-preserved
write_fields-loop-name-preserved t c =
    let seen = entries_seen (λ name. name.now) (λ entry. (entry-plain entry.now).1) in
    let (json, tree, put) = c.in_ok-write_entry.ensures.ok in
    map_more (λ k. k) IsValueTree (held_fields c.args.entries.now)
    c.args.out.now.items _ _ _ c.loop-name.out.items c.loop-name.first c.loop-name.invariant
    (ap seen (rest_more (λ p. p) _ _ _ _ c.in-Some.is c.next.ensures.steps)) json tree
    c.write_entry.new.out.items put

pub write_fields-returns-clause-ok : goal.write_fields-returns-clause-ok
write_fields-returns-clause-ok t c =
    let seen = entries_seen (λ name. name.now) (λ entry. (entry-plain entry.now).1) in
    let all = held_fields c.args.entries.now in
    let gives = c.into_iter-name-iterator.ensures.into_iter_gives in
    let (json, tree, put) = map_whole (λ k. k) IsValueTree all c.args.out.now.items
    (seen c.loop-name.name-iterator) c.loop-name.out.items c.loop-name.first c.loop-name.invariant
    (ap seen (rest_all (λ p. p) c.loop-name.name-iterator _ _ c.in-None.is c.next.ensures.steps))
    c.write_mark-2.new.out.items c.in_ok-write_mark-2.ensures.ok in
    let Sorted : Plain-Fields → Type 0 = λ l. IsStrictlySortedBy name_order (keys_of l) in
    let sorted = subst Sorted c.in_ok-last.ensures
    (sorted_seen (λ name. name.now) (λ entry. (entry-plain entry.now).1) _ name_order (λ x y. refl)
    _ gives.5) in
    (json, fields_tree all sorted (held_names c.args.entries.now) json tree, put)

pub write_entry-returns-in-None-clause-ok : goal.write_entry-returns-in-None-clause-ok
write_entry-returns-in-None-clause-ok t c =
    never_ok c.write_nothing.result _ c.write_nothing.ensures.never
