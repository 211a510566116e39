use Rattle.std.proofs.Common.{◌∙◌, ap, sym, arith}
use Rattle.std.specs.Prelude.{slice_get}
use Rattle.wire_fields.specs.declared.form.Form.TheVariants.{Fixed64, Fixed32}
use Rattle.wire_views.specs.FixedNumbers.{numbers_in}
use Rattle.wire_views.proofs.FixedWidths.{fixed64_from, fixed32_from, fixed64_past, fixed32_past}
use Rattle.wire_views.proofs.fixed_numbers.bytes_from.Goals as goal

pub returns-then-bytes-index : goal.returns-then-bytes-index
returns-then-bytes-index c =
    rw c.in-Fixed64.is (fixed64_past c.args.index c.args.bytes.now (omega arith))

pub returns-then-bytes-index-2 : goal.returns-then-bytes-index-2
returns-then-bytes-index-2 c =
    rw c.in-Fixed32.is (fixed32_past c.args.index c.args.bytes.now (omega arith))

pub returns-else-bytes-index : goal.returns-else-bytes-index
returns-else-bytes-index c =
    rw c.in-Fixed64.is (fixed64_from c.args.index c.args.bytes.now (omega arith)
    ∙ ap (λ t. slice_get (numbers_in Fixed64 t) 0) (sym c.split_at.ensures.back))

pub returns-else-bytes-index-2 : goal.returns-else-bytes-index-2
returns-else-bytes-index-2 c =
    rw c.in-Fixed32.is (fixed32_from c.args.index c.args.bytes.now (omega arith)
    ∙ ap (λ t. slice_get (numbers_in Fixed32 t) 0) (sym c.split_at-in-Fixed32.ensures.back))
