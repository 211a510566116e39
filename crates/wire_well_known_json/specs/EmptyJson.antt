-- The message `google.protobuf.Empty`, in JSON an object without members. Its names are those that
-- `wire_gen` gives to what it writes of a message.
use Rattle.std.proofs.Common.{refl}
use Rattle.std.specs.Prelude.{List}
use Rattle.wire_json.specs.Json.{Members, no_member}
use Rattle.wire_jsonfields.specs.Back.{ComesBack}
use Rattle.wire_jsonfields.specs.Messages.{IsObjectTree, ObjectMeans}
use Rattle.wire_jsonfields.specs.Names.{Names}
use Rattle.wire_jsonfields.specs.NoFields.{AreNoMembers, IsAnyNothing, SayNothing, no-names}
use Rattle.wire_jsonfields.specs.NoFields.{nothing_back, one_nothing}
use Rattle.wire_jsonfields.specs.OneValues.{SayOne}
use Rattle.wire_jsonfields.specs.Parts.{MembersSay, PartComesBack, message_back, one_said}
use Rattle.wire_well_known.specs.declared.empty.Empty.{Empty}

abbrev pub nothing-Value : Type 0
nothing-Value = Unit {0}

abbrev pub nothing-names : List Names
nothing-names = no-names

abbrev pub nothing-says : Members → nothing-Value → Type 0
nothing-says = SayNothing

abbrev pub nothing-trees : nothing-Value → Members → Type 0
nothing-trees = AreNoMembers

abbrev pub nothing-range : nothing-Value → Type 0
nothing-range = IsAnyNothing

abbrev pub nothing-absent : nothing-Value
nothing-absent = tt

abbrev pub nothing-seen : Empty → nothing-Value
nothing-seen m = tt

pub nothing-unsaid : nothing-says no_member nothing-absent
nothing-unsaid = tt

pub nothing-one : SayOne nothing-says
nothing-one = one_nothing

pub nothing-back : PartComesBack nothing-names nothing-says nothing-trees nothing-range
nothing-back = nothing_back

abbrev pub Empty-Json : Type 0
Empty-Json = nothing-Value

-- a message as contracts see it
abbrev pub empty-json : Empty → Empty-Json
empty-json = nothing-seen

-- each member of an object is of a field, and the fields are as the members say
abbrev pub empty-json-says : Members → Empty-Json → Type 0
empty-json-says = MembersSay nothing-names nothing-says

-- the members that are written
abbrev pub empty-json-trees : Empty-Json → Members → Type 0
empty-json-trees = nothing-trees

-- the values that are read back
abbrev pub empty-json-range : Empty-Json → Type 0
empty-json-range = nothing-range

abbrev pub empty-json-absent : Empty-Json
empty-json-absent = nothing-absent

pub empty-json-unsaid : empty-json-says no_member empty-json-absent
empty-json-unsaid = (tt, nothing-unsaid)

pub empty-json-one : SayOne empty-json-says
empty-json-one = one_said nothing-names nothing-says nothing-one

pub empty-json-back : (v : Empty-Json) → empty-json-range v
    → ComesBack (ObjectMeans empty-json-says) (IsObjectTree empty-json-trees) v
empty-json-back =
    message_back nothing-names nothing-says nothing-trees
    nothing-range refl nothing-back
