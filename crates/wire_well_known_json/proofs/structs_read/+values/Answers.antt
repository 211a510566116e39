use Rattle.std.proofs.Common.{◌≡◌, ◌+◌, ◌-◌, List, [], None, Some, map, drop, ap, refl, sym, ◌∙◌, subst, arith}
use Rattle.std.proofs.lemmas.Result.{IfErr-weaker}
use Rattle.std.specs.Prelude.{string_bytes}
use Rattle.wire_json.specs.Json.{array, element, no_element, object}
use Rattle.wire_json.specs.Kind.{kind_begun}
use Rattle.wire_json.specs.declared.kind.Kind.TheVariants as kinds
use Rattle.wire_json.proofs.Nested.{behind_further}
use Rattle.wire_json.proofs.OneReading.{shape_begun}
use Rattle.wire_jsonfields.specs.declared.object.PlacedMember.{PlacedMember}
use Rattle.wire_jsonfields.specs.Lists.{elements_joined}
use Rattle.wire_jsonfields.specs.Maps.{MembersPut, entries_seen}
use Rattle.wire_jsonfields.proofs.Listing.{depth_more, element_refused, list_goes_on, list_opened, list_stops, map_more, none_so_deep, one_meant_more}
use Rattle.wire_jsonfields.proofs.MapReads.{MapSofar, map_goes_on, next_member, no_value, none_found, old_key, seen_found, seen_insert}
use Rattle.wire_jsonfields.proofs.MessageReads.{in_slice, no_object, none_said}
use Rattle.wire_well_known_json.specs.Structs.{IsName, MeansValue, held_fields, name_order, put_fields, value-plain}
use Rattle.wire_well_known_json.specs.OnePlain.{one_field_name, one_plain}
use Rattle.wire_well_known_json.proofs.StructReads.{fields_stand, fields_within, list_within, no_fields, no_list, none_begun}
use Rattle.wire_well_known_json.proofs.structs_read.+values.Goals as goal

-- ---- lists

pub read_values-loop-next-init : goal.read_values-loop-next-init
read_values-loop-next-init t c =
    let text = c.args.text.now in
    let (inside, opens, first) = c.in-Ok.ensures.ok in
    record {
      sofar = (
        inside,
        no_element,
        opens,
        list_opened text inside c.in-Ok.next first,
        omega (arith, c.if-levels-eq0.false),
        rw c.new-values.ensures.items tt,
      );
      onward = c.in-Ok.ensures.behind;
    }

pub read_values-returns-then-levels-eq0-clause-err : goal.read_values-returns-then-levels-eq0-clause-err
read_values-returns-then-levels-eq0-clause-err t c = λ other.
    none_so_deep MeansValue c.args.levels (drop c.args.at c.args.text.now) c.if-levels-eq0.true

pub read_values-returns-in-End-clause-ok : goal.read_values-returns-in-End-clause-ok
read_values-returns-in-End-clause-ok t c =
    let (inside, so, opens, state, fits, means) = c.loop-next.invariant.sofar in
    let reads = rw c.in-End.is at state in
    (array so, (inside, opens, reads), fits, means)

pub read_values-returns-in-Err-read_value-clause-err : goal.read_values-returns-in-Err-read_value-clause-err
read_values-returns-in-Err-read_value-clause-err t c = λ other.
    let text = c.args.text.now in
    let (inside, so, opens, state, fits, means) = c.loop-next.invariant.sofar in
    let here = rw c.in-Item.is at state in
    element_refused MeansValue c.args.levels (drop c.args.at text) inside opens so
    (drop c.in-Item.place text) here (c.in-Err-read_value.ensures.err other)

pub read_values-returns-in-Err-next_element-clause-err : goal.read_values-returns-in-Err-next_element-clause-err
read_values-returns-in-Err-next_element-clause-err t c = λ other.
    let text = c.args.text.now in
    let (inside, so, opens, state, fits, means) = c.loop-next.invariant.sofar in
    let here = rw c.in-Item.is at state in
    let (e, reads, shallow, meant) = c.in-Ok-read_value.ensures.ok in
    let fault = c.in-Err-next_element.fault in
    list_stops MeansValue c.args.levels (drop c.args.at text) inside opens so
    (drop c.in-Item.place text) (drop c.in-Ok-read_value.after text) e here reads fault.kind
    (drop fault.at text) c.in-Err-next_element.ensures.fault

pub read_values-loop-next-preserved : goal.read_values-loop-next-preserved
read_values-loop-next-preserved t c =
    let text = c.args.text.now in
    let (inside, so, opens, state, fits, means) = c.loop-next.invariant.sofar in
    let here = rw c.in-Item.is at state in
    let order = rw c.in-Item.is at c.loop-next.invariant.onward in
    let after = c.in-Ok-read_value.after in
    let held = c.in-Ok-read_value.value in
    let (e, reads, shallow, meant) = c.in-Ok-read_value.ensures.ok in
    let next = c.in-Ok-next_element in
    let more = depth_more so e (c.args.levels - 1) (omega (arith, fits)) shallow in
    record {
      sofar = (
        inside,
        elements_joined so (element e no_element),
        opens,
        list_goes_on text inside so c.in-Item.place after e here reads next.next next.ensures.ok,
        omega (arith, fits, more),
        rw (c.in_ok-push_value-in-Ok-read_value.ensures, map_more value-plain c.loop-next.values.items held)
            (one_meant_more MeansValue so (map value-plain c.loop-next.values.items) e
            (value-plain held) means meant),
      );
      onward = behind_further c.args.at after next.next text
          (omega (arith, order, c.in-Ok-read_value.ensures.behind.forward)) next.ensures.behind;
    }

-- ---- structs

pub read_members-returns-then-has_name-clause-err : goal.read_members-returns-then-has_name-clause-err
read_members-returns-then-has_name-clause-err t c = λ other ms are fits.
    let text = c.args.text.now in
    let entries = c.args.members.now in
    let i = c.loop-member.member-index in
    let item = c.member-item.result in
    let map = entries_seen string_bytes value-plain c.loop-member.map.entries in
    let P : List PlacedMember → Type 0 = λ l. MapSofar name_order IsName MeansValue text l map ms in
    let sofar = subst P (next_member entries i item c.loop-member-test.true c.member-item.is)
    (c.loop-member.invariant ms are) in
    let named = sym (c.in-Ok.ensures.ok ∙ c.as_str.ensures.value) in
    old_key name_order IsName MeansValue text item (drop (i + 1) entries) map ms sofar
    one_field_name (string_bytes c.in-Ok.name) named
    (sym (seen_found string_bytes value-plain _ name_order (λ x y. refl) c.loop-member.map.entries
    c.in-Ok.name) ∙ sym c.has_name.ensures ∙ c.if-has_name.true)

pub read_members-returns-in-Err-read_value-clause-err : goal.read_members-returns-in-Err-read_value-clause-err
read_members-returns-in-Err-read_value-clause-err t c = λ other ms are fits.
    let entries = c.args.members.now in
    let i = c.loop-member.member-index in
    let item = c.member-item.result in
    let map = entries_seen string_bytes value-plain c.loop-member.map.entries in
    let P : List PlacedMember → Type 0 = λ l. MapSofar name_order IsName MeansValue c.args.text.now l map ms in
    let sofar = subst P (next_member entries i item c.loop-member-test.true c.member-item.is)
    (c.loop-member.invariant ms are) in
    no_value name_order IsName MeansValue c.args.text.now item (drop (i + 1) entries) map ms sofar
    c.args.levels (c.in-Err-read_value.ensures.err other) fits

pub read_members-loop-member-preserved : goal.read_members-loop-member-preserved
read_members-loop-member-preserved t c = λ ms are.
    let text = c.args.text.now in
    let entries = c.args.members.now in
    let i = c.loop-member.member-index in
    let item = c.member-item.result in
    let held = c.loop-member.map.entries in
    let map = entries_seen string_bytes value-plain held in
    let P : List PlacedMember → Type 0 = λ l. MapSofar name_order IsName MeansValue text l map ms in
    let sofar = subst P (next_member entries i item c.loop-member-test.true c.member-item.is)
    (c.loop-member.invariant ms are) in
    let named = sym (c.in-Ok.ensures.ok ∙ c.as_str.ensures.value) in
    let new = none_found _
    (sym (seen_found string_bytes value-plain _ name_order (λ x y. refl) held c.in-Ok.name)
    ∙ sym c.has_name.ensures ∙ c.if-has_name.false) in
    let next = map_goes_on name_order IsName MeansValue text item (drop (i + 1) entries) map ms
    sofar one_field_name (string_bytes c.in-Ok.name) named one_plain
    c.args.levels (value-plain c.in-Ok-read_value.value) _ c.in-Ok-read_value.ensures.ok new in
    let put = seen_insert string_bytes value-plain _ name_order (λ x y. refl) held
    c.in-Ok.name c.in-Ok-read_value.value in
    rw (c.in_ok-put_value-in-Ok-read_value.ensures, put) next

pub read_fields-returns-in-Ok-read_members-clause-ok : goal.read_fields-returns-in-Ok-read_members-clause-ok
read_fields-returns-in-Ok-read_members-clause-ok t c =
    let text = c.args.text.now in
    let (ms, reads, fits, are) = c.in-Ok.ensures.ok in
    let entries = in_slice text ms c.as_slice.result.now c.in-Ok.object.members.items
    c.as_slice.ensures.value are in
    let put = c.in-Ok-read_members.ensures.ok ms entries in
    let is = ap (put_fields []) c.in_ok-entries_of-in-Ok-read_members.ensures
    ∙ fields_stand ms _ put in
    (object ms, reads, fits, subst (MembersPut name_order IsName MeansValue ms []) (sym is) put)

pub read_fields-returns-in-Ok-clause-err : goal.read_fields-returns-in-Ok-clause-err
read_fields-returns-in-Ok-clause-err t c = λ other.
    let text = c.args.text.now in
    let (ms, reads, fits, are) = c.in-Ok.ensures.ok in
    let entries = in_slice text ms c.as_slice.result.now c.in-Ok.object.members.items
    c.as_slice.ensures.value are in
    none_said (λ xs m. MembersPut name_order IsName MeansValue xs [] m) c.args.levels
    (drop c.args.at text) ms (drop c.in-Ok.object.after text) reads
    (λ m deep says. c.in-Err-read_members.ensures.err other ms entries (omega (arith, fits)) m says)

pub read_fields-returns-clause-err : goal.read_fields-returns-clause-err
read_fields-returns-clause-err t c =
    let text = c.args.text.now in
    no_object (λ xs m. MembersPut name_order IsName MeansValue xs [] m) c.args.levels
    (drop c.args.at text) text c.in-Err.error c.in-Err.ensures.err

-- ---- kinds

pub read_kind-returns-in-None-clause-err : goal.read_kind-returns-in-None-clause-err
read_kind-returns-in-None-clause-err t c = λ other.
    let old = drop c.args.at c.args.text.now in
    let none : kind_begun old ≡ None = cc in
    none_begun old c.args.levels (ap shape_begun none)

pub read_kind-returns-in_ok-list_of-in-Ok-clause-ok : goal.read_kind-returns-in_ok-list_of-in-Ok-clause-ok
read_kind-returns-in_ok-list_of-in-Ok-clause-ok t c =
    let text = c.args.text.now in
    rw c.in_ok-list_of-in-Ok.ensures (list_within (drop c.args.at text) c.args.levels
    (map value-plain c.in-Ok.values.items) (drop c.in-Ok.after text) c.in-Ok.ensures.ok)

pub read_kind-returns-in-Err-clause-err : goal.read_kind-returns-in-Err-clause-err
read_kind-returns-in-Err-clause-err t c = λ other.
    let old = drop c.args.at c.args.text.now in
    let begun : kind_begun old ≡ Some kinds.Array = cc in
    no_list old c.args.levels begun (c.in-Err.ensures.err other)

pub read_kind-returns-in_ok-struct_of-in-Ok-read_fields-clause-ok :
    goal.read_kind-returns-in_ok-struct_of-in-Ok-read_fields-clause-ok
read_kind-returns-in_ok-struct_of-in-Ok-read_fields-clause-ok t c =
    let text = c.args.text.now in
    rw c.in_ok-struct_of-in-Ok-read_fields.ensures (fields_within (drop c.args.at text)
    c.args.levels (held_fields c.in-Ok-read_fields.fields.items) (drop c.in-Ok-read_fields.after text)
    c.in-Ok-read_fields.ensures.ok)

pub read_kind-returns-in-Err-read_fields-clause-err : goal.read_kind-returns-in-Err-read_fields-clause-err
read_kind-returns-in-Err-read_fields-clause-err t c = λ other.
    let old = drop c.args.at c.args.text.now in
    let begun : kind_begun old ≡ Some kinds.Object = cc in
    no_fields old c.args.levels begun (c.in-Err-read_fields.ensures.err other)

pub read_kind-returns-in-Some-Null-clause-err : goal.read_kind-returns-in-Some-Null-clause-err
read_kind-returns-in-Some-Null-clause-err t c =
    IfErr-weaker c.read_null.result _ _ (λ e h other. h other c.args.levels) c.read_null.ensures.err

pub read_kind-returns-in-Some-True-clause-err : goal.read_kind-returns-in-Some-True-clause-err
read_kind-returns-in-Some-True-clause-err t c =
    IfErr-weaker c.read_truth.result _ _ (λ e h other. h other c.args.levels) c.read_truth.ensures.err

pub read_kind-returns-in-Some-False-clause-err : goal.read_kind-returns-in-Some-False-clause-err
read_kind-returns-in-Some-False-clause-err t c =
    IfErr-weaker c.read_truth-in-Some-False.result _ _ (λ e h other. h other c.args.levels)
    c.read_truth-in-Some-False.ensures.err

pub read_kind-returns-in-Some-Number-clause-err : goal.read_kind-returns-in-Some-Number-clause-err
read_kind-returns-in-Some-Number-clause-err t c =
    IfErr-weaker c.read_number.result _ _ (λ e h other. h other c.args.levels)
    c.read_number.ensures.err

pub read_kind-returns-in-Some-String-clause-err : goal.read_kind-returns-in-Some-String-clause-err
read_kind-returns-in-Some-String-clause-err t c =
    IfErr-weaker c.read_text.result _ _ (λ e h other. h other c.args.levels) c.read_text.ensures.err
