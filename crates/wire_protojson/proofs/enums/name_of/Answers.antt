use Rattle.std.proofs.Common.{◌≡◌, [], w32, to_z, of_z, refl, sym, subst, slice_index_or}
use Rattle.std.specs.Prelude.{ℤ, pos}
use Rattle.std.proofs.lemmas.Int.{to_z-of_z}
use Rattle.wire_protojson.specs.declared.enums.EnumName.{EnumName}
use Rattle.wire_protojson.specs.Enums.{IsFirst, enum_entry, enum_table}
use Rattle.wire_protojson.proofs.Firsts.{found_at, further, none_left}
use Rattle.wire_protojson.proofs.enums.name_of.Goals as goal

-- what stands past the end
abbrev none : EnumName
none = record { name = record { ref_ptr = (0, 0); now = [] }; number = pos 0 }

pub returns-then-is_numbered-clause-some : goal.returns-then-is_numbered-clause-some
returns-then-is_numbered-clause-some c =
    let i = c.loop-entry.entry-index in
    let names = c.args.names.now in
    let at = to_z-of_z w32 c.args.number c.ranges.number in
    let Q : ℤ → Type 0 = λ n. IsFirst (λ x. x.1 ≡ n) (enum_table names)
    (enum_entry (slice_index_or names i none)) in (
      enum_entry (slice_index_or names i none),
      subst Q at (found_at (λ x. x.1 ≡ to_z w32 (of_z w32 c.args.number)) enum_entry names i none
          c.loop-entry-test.true c.loop-entry.invariant c.if-is_numbered.ensures),
      refl,
    )

pub loop-entry-preserved : goal.loop-entry-preserved
loop-entry-preserved c =
    further (λ x. x.1 ≡ to_z w32 (of_z w32 c.args.number)) enum_entry c.args.names.now
    c.loop-entry.entry-index none c.loop-entry-test.true c.loop-entry.invariant
    c.if-is_numbered.ensures

pub returns-clause-none : goal.returns-clause-none
returns-clause-none c = λ name named.
    let names = c.args.names.now in
    let at = to_z-of_z w32 c.args.number c.ranges.number in
    let Q : ℤ → Type 0 = λ n. IsFirst (λ x. x.1 ≡ n) (enum_table names) named.0 in
    none_left (λ x. x.1 ≡ to_z w32 (of_z w32 c.args.number)) enum_entry names c.loop-entry.entry-index
    c.loop-entry-test.false c.loop-entry.invariant named.0 (subst Q (sym at) named.1)
