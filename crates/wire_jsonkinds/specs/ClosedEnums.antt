-- Values of closed enums: those that the enum has, and no others.
use Rattle.std.proofs.Common.{◌≡◌}
use Rattle.std.specs.Int.{w32}
use Rattle.std.specs.Prelude.{ℤ, FitsSigned, Option, is_some, true}
use Rattle.wire_json.specs.Json.{Json}
use Rattle.wire_protojson.specs.Decided.{decided}
use Rattle.wire_protojson.specs.Enums.{AreTexts, EnumTable, IsEnumTree, MeansEnum, NamesAgree}
use Rattle.wire_protojson.specs.Laws.{IsDecided}
use Rattle.wire_jsonfields.specs.Back.{ComesBack}
use Rattle.wire_jsonfields.specs.EnumFields.{enum_decided}
use Rattle.wire_jsonfields.specs.KindsBack.{enum_comes_back}

-- the enum has a value of this number
abbrev pub IsOfEnum : {E : Type 0} → (ℤ → Option E) → ℤ → Type 0
IsOfEnum of_number z = is_some (of_number z) ≡ true

-- what means a value of an open enum, where the enum has it
abbrev pub MeansClosed : {E : Type 0} → (ℤ → Option E) → EnumTable → Json → ℤ → Type 0
MeansClosed of_number names json z = MeansEnum names json z × IsOfEnum of_number z

-- the number of a value of the enum
abbrev pub IsInClosed : {E : Type 0} → (ℤ → Option E) → ℤ → Type 0
IsInClosed of_number z = FitsSigned w32 z × IsOfEnum of_number z

module _ {E : Type 0} (of_number : ℤ → Option E) (names : EnumTable) where
  one_closed : (json : Json) (y z : ℤ) → MeansClosed of_number names json y
      → MeansClosed of_number names json z → y ≡ z
  one_closed json y z p q = (enum_decided names).one_meaning json y z p.0 q.0

  pub closed_decided : IsDecided (MeansClosed of_number names)
  closed_decided =
      decided (MeansClosed of_number names) one_closed (λ es z m. absurd m.0)
      (λ ms z m. absurd m.0)

  -- what comes back as a value of an open enum, where the enum has it
  pub closed_also : (Tree : ℤ → Json → Type 0) (z : ℤ) → IsOfEnum of_number z
      → ComesBack (MeansEnum names) Tree z → ComesBack (MeansClosed of_number names) Tree z
  closed_also Tree z has back json tree =
      let open_ = back json tree in
      record { lawful = open_.lawful; means = (open_.means, has); present = open_.present }

  pub closed_comes_back : NamesAgree names → AreTexts names → (z : ℤ) → IsInClosed of_number z
      → ComesBack (MeansClosed of_number names) (IsEnumTree names) z
  closed_comes_back agree texts z is =
      closed_also (IsEnumTree names) z is.1 (enum_comes_back names agree texts z is.0)
