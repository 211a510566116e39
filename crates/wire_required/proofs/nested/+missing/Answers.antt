use Rattle.std.proofs.Common.{◌≡◌, ◌<◌, ◌∙◌, length, ap, sym, rules, arith}
use Rattle.std.specs.Prelude.{None}
use Rattle.wire_fields.specs.Nest.{nodes, all_nodes, row_count, row_less, message_less}
use Rattle.wire_fields.specs.NestTable.{empty_of, message_at}
use Rattle.wire_required.specs.Missing.{under}
use Rattle.wire_required.specs.Nested.{family_missing}
use Rattle.wire_required.specs.Path.{index}
use Rattle.wire_required.proofs.MissingRows.{found_here, not_here, next_message, next_row, no_rows}
use Rattle.wire_required.proofs.nested.+missing.Goals as goal

pub missing_in_list-slice_missing-requires : goal.missing_in_list-slice_missing-requires
missing_in_list-slice_missing-requires g t c κs within =
    let ms = g.T.RequiredSlice.views c.args.messages in
    let there : c.loop-index.index < length ms =
    omega (arith, c.loop-index-test.true, c.message_count-index-end.ensures) in
    let less = message_less ms c.loop-index.index
    (empty_of (g.T.RequiredSlice.family.table (g.T.RequiredSlice.sort c.args.messages))) there in
    (omega (arith, less), (search rules, there))

pub missing_in_list-returns-in-Some : goal.missing_in_list-returns-in-Some
missing_in_list-returns-in-Some g t c =
    let ms = g.T.RequiredSlice.views c.args.messages in
    let s = g.T.RequiredSlice.sort c.args.messages in
    let i = c.loop-index.index in
    let there : i < length ms =
    omega (arith, c.loop-index-test.true, c.message_count-index-end.ensures) in
    rw c.in_ok-behind.ensures (found_here _ _ _ _ (c.loop-index.invariant
    ∙ next_message (g.T.RequiredSlice.family.table s)
    (family_missing g.T.RequiredSlice.family g.T.RequiredSlice.asked s) ms i there)
    (ap (under (index i)) (sym c.in_ok-path.ensures ∙ c.in-Some.is)))

pub missing_in_list-loop-index-preserved : goal.missing_in_list-loop-index-preserved
missing_in_list-loop-index-preserved g t c =
    let ms = g.T.RequiredSlice.views c.args.messages in
    let s = g.T.RequiredSlice.sort c.args.messages in
    let i = c.loop-index.index in
    let there : i < length ms =
    omega (arith, c.loop-index-test.true, c.message_count-index-end.ensures) in
    let none : c.in_ok-path.field-0 ≡ None = search rules in
    not_here _ _ _ (c.loop-index.invariant
    ∙ next_message (g.T.RequiredSlice.family.table s)
    (family_missing g.T.RequiredSlice.family g.T.RequiredSlice.asked s) ms i there)
    (ap (under (index i)) (sym c.in_ok-path.ensures ∙ none))

pub slice_missing-missing_in_row-requires : goal.slice_missing-missing_in_row-requires
slice_missing-missing_in_row-requires g t c κs within =
    let family = g.T.RequiredSlice.family in
    let s = g.T.RequiredSlice.sort c.args.messages in
    let m = message_at (family.table s) (g.T.RequiredSlice.views c.args.messages) c.args.index in
    let less : all_nodes (g.T.RequiredSlice.views c.row_messages.result) < nodes m =
    row_less _ _ _ c.row_messages.ensures.messages in
    (omega (arith, less), search rules)

pub slice_missing-returns-in-Some-2 : goal.slice_missing-returns-in-Some-2
slice_missing-returns-in-Some-2 g t c =
    let family = g.T.RequiredSlice.family in
    let asked = g.T.RequiredSlice.asked in
    let s = g.T.RequiredSlice.sort c.args.messages in
    let m = message_at (family.table s) (g.T.RequiredSlice.views c.args.messages) c.args.index in
    let here : c.loop-row.row < row_count m = omega (
      arith,
      c.loop-row-test.true,
      c.row_count-row-end.ensures,
      g.met.T.RequiredSlice.counted c.args.messages c.args.index,
    ) in
    let parts = c.loop-row.invariant ∙ next_row family asked s m c.loop-row.row _ _ _ _ here
    c.row_requirement-requirement.ensures c.row_messages.ensures.sort
    c.row_messages.ensures.messages c.in_ok-path-2.ensures in
    found_here _ _ _ _ parts c.in-Some-2.is

pub slice_missing-returns-in-Some-3 : goal.slice_missing-returns-in-Some-3
slice_missing-returns-in-Some-3 g t c =
    let family = g.T.RequiredSlice.family in
    let asked = g.T.RequiredSlice.asked in
    let s = g.T.RequiredSlice.sort c.args.messages in
    let m = message_at (family.table s) (g.T.RequiredSlice.views c.args.messages) c.args.index in
    let here : c.loop-row.row < row_count m = omega (
      arith,
      c.loop-row-test.true,
      c.row_count-row-end.ensures,
      g.met.T.RequiredSlice.counted c.args.messages c.args.index,
    ) in
    let parts = c.loop-row.invariant ∙ next_row family asked s m c.loop-row.row _ _ _ _ here
    c.row_requirement-requirement.ensures c.row_messages.ensures.sort
    c.row_messages.ensures.messages c.in_ok-path-2.ensures in
    let none : c.in_ok-path-2.field-0 ≡ None = search rules in
    found_here _ _ _ _ (not_here _ _ _ parts none)
    (sym c.in_ok-path-3.ensures ∙ c.in-Some-3.is)

pub slice_missing-loop-row-preserved : goal.slice_missing-loop-row-preserved
slice_missing-loop-row-preserved g t c =
    let family = g.T.RequiredSlice.family in
    let asked = g.T.RequiredSlice.asked in
    let s = g.T.RequiredSlice.sort c.args.messages in
    let m = message_at (family.table s) (g.T.RequiredSlice.views c.args.messages) c.args.index in
    let here : c.loop-row.row < row_count m = omega (
      arith,
      c.loop-row-test.true,
      c.row_count-row-end.ensures,
      g.met.T.RequiredSlice.counted c.args.messages c.args.index,
    ) in
    let parts = c.loop-row.invariant ∙ next_row family asked s m c.loop-row.row _ _ _ _ here
    c.row_requirement-requirement.ensures c.row_messages.ensures.sort
    c.row_messages.ensures.messages c.in_ok-path-2.ensures in
    let none : c.in_ok-path-2.field-0 ≡ None = search rules in
    let no_more : c.in_ok-path-3.field-0 ≡ None = search rules in
    not_here _ _ _ (not_here _ _ _ parts none) (sym c.in_ok-path-3.ensures ∙ no_more)

pub slice_missing-returns : goal.slice_missing-returns
slice_missing-returns g t c =
    let family = g.T.RequiredSlice.family in
    let s = g.T.RequiredSlice.sort c.args.messages in
    let m = message_at (family.table s) (g.T.RequiredSlice.views c.args.messages) c.args.index in
    sym (c.loop-row.invariant ∙ no_rows family g.T.RequiredSlice.asked s m c.loop-row.row (omega (
      arith,
      c.loop-row-test.false,
      c.row_count-row-end.ensures,
      g.met.T.RequiredSlice.counted c.args.messages c.args.index,
    )))
