use Rattle.std.proofs.Common.{rules, ◌≡◌, [], w32, sym, ◌∙◌, slice_index_or}
use Rattle.std.specs.Prelude.{pos}
use Rattle.std.proofs.lemmas.Int.{to_z-of_z}
use Rattle.wire_protojson.specs.declared.enums.EnumName.{EnumName}
use Rattle.wire_protojson.specs.Enums.{enum_entry}
use Rattle.wire_protojson.proofs.Firsts.{found_at, further, none_left}
use Rattle.wire_protojson.proofs.enums.number_named.Goals as goal

-- what stands past the end
abbrev none : EnumName
none = record { name = record { ref_ptr = (0, 0); now = [] }; number = pos 0 }

pub returns-then-is_named-clause-some : goal.returns-then-is_named-clause-some
returns-then-is_named-clause-some c =
    let i = c.loop-entry.entry-index in (
      enum_entry (slice_index_or c.args.names.now i none),
      found_at (λ x. x.0 ≡ c.args.name.now) enum_entry c.args.names.now i none c.loop-entry-test.true c.loop-entry.invariant
          c.if-is_named.ensures,
      sym c.number_in.ensures ∙ sym (to_z-of_z w32 c.number_in.result (search rules)),
    )

pub loop-entry-preserved : goal.loop-entry-preserved
loop-entry-preserved c =
    further (λ x. x.0 ≡ c.args.name.now) enum_entry c.args.names.now c.loop-entry.entry-index none c.loop-entry-test.true
    c.loop-entry.invariant c.if-is_named.ensures

pub returns-clause-none : goal.returns-clause-none
returns-clause-none c = λ z named.
    none_left (λ x. x.0 ≡ c.args.name.now) enum_entry c.args.names.now c.loop-entry.entry-index c.loop-entry-test.false
    c.loop-entry.invariant named.0 named.1
