-- The enum `google.protobuf.NullValue`, in JSON `null`.
use Rattle.std.proofs.Common.{◌≡◌, [], ◌∷◌, refl, sym, ◌∙◌, subst}
use Rattle.std.specs.Prelude.{ℤ, pos, codes}
use Rattle.wire_json.specs.Json.{Json, null, boolean, number, string, array, object, IsLawful}
use Rattle.wire_jsonfields.specs.Back.{ComesBack}
use Rattle.wire_jsonfields.specs.EnumFields.{enum_decided}
use Rattle.wire_jsonfields.specs.Fields.{MeansUnlessNull}
use Rattle.wire_jsonfields.specs.KindsBack.{names_agree, names_are_texts}
use Rattle.wire_jsonfields.specs.OneValues.{IsOneValued}
use Rattle.wire_protojson.specs.Enums.{AreTexts, EnumTable, MeansEnum, NamesAgree}
use Rattle.wire_well_known_json.specs.Nullable.{TreesMean}

abbrev pub null_value-json-names : EnumTable
null_value-json-names = (codes "NULL_VALUE", pos 0) ∷ []

-- no name stands for two numbers
pub null_value-json-agree : NamesAgree null_value-json-names
null_value-json-agree = names_agree null_value-json-names refl

pub null_value-json-texts : AreTexts null_value-json-names
null_value-json-texts = names_are_texts null_value-json-names refl

-- `null` is the number 0; the name and numbers are taken as those of other enums
abbrev pub MeansNull : Json → ℤ → Type 0
MeansNull = MeansUnlessNull (pos 0) (MeansEnum null_value-json-names)

-- it is `null`, whatever its number
abbrev pub IsNullTree : ℤ → Json → Type 0
IsNullTree z json = json ≡ null

-- the number that `null` is read as
abbrev pub IsNullNumber : ℤ → Type 0
IsNullNumber z = z ≡ pos 0

-- where `null` leaves a field absent, it is no value of it
abbrev pub IsNoNull : ℤ → Type 0
IsNoNull z = ⊥

pub one_null : IsOneValued MeansNull
one_null null v w p q = p ∙ sym q
one_null (boolean b) v w p q = absurd p
one_null (number text) v w p q =
    (enum_decided null_value-json-names).one_meaning (number text) v w p q
one_null (string text) v w p q =
    (enum_decided null_value-json-names).one_meaning (string text) v w p q
one_null (array es) v w p q = absurd p
one_null (object ms) v w p q = absurd p

pub no_null_back : (z : ℤ) → IsNoNull z → ComesBack MeansNull IsNullTree z
no_null_back z h = absurd h

pub null_back : (z : ℤ) → IsNullNumber z → TreesMean MeansNull IsNullTree z
null_back z h json is =
    (subst IsLawful (sym is) tt, subst (λ (j : Json). MeansNull j z) (sym is) h)
