-- A message without fields: no member is its, and none is written.
use Rattle.std.proofs.Common.{◌≡◌, List, [], refl, sym, subst}
use Rattle.wire_json.specs.Json.{Members, no_member, object, IsLawful}
use Rattle.wire_jsonfields.specs.Fields.{EachKnown}
use Rattle.wire_jsonfields.specs.Names.{IsOneOf, Names}
use Rattle.wire_jsonfields.specs.OneValues.{SayOne}
use Rattle.wire_jsonfields.specs.Parts.{PartComesBack}

-- members say nothing of it
abbrev pub SayNothing : Members → Unit {0} → Type 0
SayNothing ms v = Unit {0}

abbrev pub AreNoMembers : Unit {0} → Members → Type 0
AreNoMembers v ms = ms ≡ no_member

abbrev pub IsAnyNothing : Unit {0} → Type 0
IsAnyNothing v = Unit {0}

abbrev pub no-names : List Names
no-names = []

pub one_nothing : SayOne SayNothing
one_nothing ms v w h k = refl

AreLawful : Members → Type 0
AreLawful ms = IsLawful (object ms)

pub nothing_back : PartComesBack no-names SayNothing AreNoMembers IsAnyNothing
unfolding AreLawful
nothing_back apart v range ms is = record {
  lawful = subst AreLawful (sym is) tt;
  own = subst (EachKnown (IsOneOf no-names)) (sym is) tt;
  says = λ before behind none_before none_behind. tt;
}
