-- The steps of a path of Rust, as contracts see them.
use Rattle.std.specs.Prelude.{string_bytes}
use Rattle.wire_required.specs.Nested.{AskedRow, each, once, needed}
use Rattle.wire_required.specs.Path.{Key, int_key, uint_key, bool_key, text_key}
use Rattle.wire_required.specs.Path.{PathPart, field, index, key}
use Rattle.wire_required.specs.declared.nested.RowRequirement.{RowRequirement}
use Rattle.wire_required.specs.declared.nested.RowRequirement.TheVariants as rows
use Rattle.wire_required.specs.declared.step.MapKey.{MapKey}
use Rattle.wire_required.specs.declared.step.MapKey.TheVariants.{Int, Uint, Bool, Text}
use Rattle.wire_required.specs.declared.step.PathStep.{PathStep}
use Rattle.wire_required.specs.declared.step.PathStep.TheVariants as steps

abbrev pub key_seen : MapKey → Key
key_seen (Int n) = int_key n
key_seen (Uint n) = uint_key n
key_seen (Bool b) = bool_key b
key_seen (Text t) = text_key (string_bytes t)

abbrev pub step_seen : PathStep → PathPart
step_seen (steps.Field name) = field name.now
step_seen (steps.Index i) = index i
step_seen (steps.Key k) = key (key_seen k)

-- what is asked of a row
abbrev pub row_seen : RowRequirement → AskedRow
row_seen (rows.Each name) = each name.now
row_seen (rows.Once name) = once name.now
row_seen (rows.Needed name) = needed name.now
