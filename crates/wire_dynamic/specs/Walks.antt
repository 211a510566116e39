-- Which field a record is of, by the groups that it stands in.
use Rattle.std.specs.Prelude.{ℕ, suc, List, [], ◌∷◌, Option, None, Some, option_and_then, reverse, slice_get, take}
use Rattle.wire_read.specs.declared.event.Value.{Value}
use Rattle.wire_read.specs.declared.event.Value.TheVariants.{GroupEnd}
use Rattle.wire_dynamic.specs.declared.field.Field.{Field}
use Rattle.wire_dynamic.specs.declared.field.Kind.{Kind}
use Rattle.wire_dynamic.specs.declared.field.Kind.TheVariants as kinds
use Rattle.wire_dynamic.specs.declared.schema.Schema.{Schema}
use Rattle.wire_dynamic.specs.Schemas.{field_of}

-- the place of the type of a group
abbrev pub type_of_group : Kind → Option ℕ
type_of_group (kinds.Group place) = Some place
type_of_group _ = None

-- the field of this number of the message type at a place, if there is one
abbrev pub field_in : Schema → ℕ → Option ℕ → Option Field
field_in s n place = option_and_then (λ p. field_of s p n) place

-- The place of the type of the message that stands innermost in one of the type at a place, where
-- groups of these numbers are open, the innermost first.
abbrev pub innermost : Schema → ℕ → List ℕ → Option ℕ
innermost s root [] = Some root
innermost s root (n ∷ outside) =
    option_and_then (λ (f : Field). type_of_group f.kind) (field_in s n (innermost s root outside))

-- how many groups the schema lacks behind a group more, whose type is that at this place, if it has
-- one, where so many are lacking around it
abbrev pub count_unknown : Option ℕ → ℕ → ℕ
count_unknown None count = suc count
count_unknown (Some place) count = 0

-- How many groups are open from the outermost on that the schema lacks, where groups of these
-- numbers are, the innermost first: it lacks what stands in one that it lacks.
abbrev pub unknown_groups : Schema → ℕ → List ℕ → ℕ
unknown_groups s root [] = 0
unknown_groups s root (n ∷ outside) =
    count_unknown (innermost s root (n ∷ outside)) (unknown_groups s root outside)

-- the field of the group that stands within so many others, where groups of these numbers are open,
-- the outermost first
abbrev pub group_field : Schema → ℕ → List ℕ → ℕ → Option Field
group_field s root groups count =
    option_and_then (λ n. field_in s n (innermost s root (reverse (take count groups))))
    (slice_get groups count)

-- the groups in which an event is told, of those that are open before it and behind it
abbrev pub told_in : Value → List ℕ → List ℕ → List ℕ
told_in GroupEnd before behind = behind
told_in _ before behind = before
