use Rattle.std.proofs.Common.{rules, to_z-of_z}
use Rattle.std.proofs.lemmas.Result.{IfOk-weaker, IfErr-weaker}
use Rattle.std.specs.Prelude.{Some}
use Rattle.wire_codec.specs.FieldNumber.{IsFieldNumber}
use Rattle.wire_codec.specs.ValueMap.{int32}
use Rattle.wire_fields.specs.declared.form.Form.TheVariants.{Varint}
use Rattle.wire_fields.specs.Numbers.{numeric}
use Rattle.wire_fields.specs.Presence.{some_single}
use Rattle.wire_callers.proofs.Priorities.{priority_back, same_option}
use Rattle.wire_extensions.specs.ReadBack.{value_read, value_there, others_left}
use Rattle.wire_callers.proofs.priority.put_priority.Goals as goal

pub returns-clause-same : goal.returns-clause-same
returns-clause-same c =
    let own = c.in-Some.ensures.some in
    let back = priority_back c.fields_are_plain.ensures c.charges_add_up.ensures
    c.values_read_back.ensures.int32 in
    let number : IsFieldNumber 100 = search rules in
    let (more, stored, put) =
    rw (own.0, own.1, to_z-of_z c.ranges.priority) at c.in_ok-set.ensures.ok in
    IfOk-weaker c.get.result _ _ (λ read got. same_option read c.args.priority
    (value_read _ _ _ back c.one_leaves_others.ensures 100 number (Some c.args.priority)
    c.ranges.priority c.args.fields.now more _ stored c.get_of_set.ensures
    (some_single (numeric Varint int32)) _ _ _ got))
    (rw (own.0, own.1, put) at c.get.ensures.ok)

pub returns-clause-others : goal.returns-clause-others
returns-clause-others c =
    let own = c.in-Some.ensures.some in
    let back = priority_back c.fields_are_plain.ensures c.charges_add_up.ensures
    c.values_read_back.ensures.int32 in
    let number : IsFieldNumber 100 = search rules in
    let (more, stored, put) =
    rw (own.0, own.1, to_z-of_z c.ranges.priority) at c.in_ok-set.ensures.ok in
    IfOk-weaker c.get.result _ _ (λ read got. rw put
    (others_left _ _ _ back c.one_leaves_others.ensures 100 number (Some c.args.priority)
    c.ranges.priority c.args.fields.now more _ stored c.stored_are_plain.ensures))
    c.get.ensures.ok

pub returns-clause-memory : goal.returns-clause-memory
returns-clause-memory c =
    let own = c.in-Some.ensures.some in
    let back = priority_back c.fields_are_plain.ensures c.charges_add_up.ensures
    c.values_read_back.ensures.int32 in
    let number : IsFieldNumber 100 = search rules in
    let (more, stored, put) =
    rw (own.0, own.1, to_z-of_z c.ranges.priority) at c.in_ok-set.ensures.ok in
    IfErr-weaker c.get.result _ _ (λ e none other. absurd
    (value_there _ _ _ back c.one_leaves_others.ensures 100 number (Some c.args.priority)
    c.ranges.priority c.args.fields.now more _ stored c.get_of_set.ensures
    (some_single (numeric Varint int32)) _ (c.limits_add_up.ensures.nothing_fits _) (none other)))
    (rw (own.0, own.1, put) at c.get.ensures.err)
