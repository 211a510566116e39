-- What a value of an enum field means: its number, and its text.
use Rattle.std.specs.Prelude.{ℕ, ℤ, List, ◌++◌, Bool, false, Option, Some, None, codes}
use Rattle.std.specs.Fmt.{signed_decimal}
use Rattle.std.specs.Ordering.{int_eq}
use Rattle.wire_text.specs.declared.enumeration.EnumValue.{EnumValue}
use Rattle.wire_text.specs.declared.enumeration.EnumValue.TheVariants.{Known, Unknown}

-- the number on the wire
abbrev pub number_of : {E : Type 0} → (E → ℤ) → EnumValue E → ℤ
number_of number (Known e) = number e
number_of number (Unknown n) = n

-- the known value
abbrev pub known_value : {E : Type 0} → EnumValue E → Option E
known_value (Known e) = Some e
known_value (Unknown n) = None

-- the known value of a number, if it has one, and else the number
abbrev pub known_or : {E : Type 0} → Option E → ℤ → EnumValue E
known_or (Some e) n = Known e
known_or None n = Unknown n

-- whether it is a known value that equals e
abbrev pub is_known_as : {E : Type 0} → (E → E → Bool) → EnumValue E → E → Bool
is_known_as eq (Known k) e = eq k e
is_known_as eq (Unknown n) e = false

-- both are known and equal, or both are the same unknown number
abbrev pub same_value : {E : Type 0} → (E → E → Bool) → EnumValue E → EnumValue E → Bool
same_value eq (Known k) (Known e) = eq k e
same_value eq (Unknown m) (Unknown n) = int_eq m n
same_value eq (Known k) (Unknown n) = false
same_value eq (Unknown m) (Known e) = false

-- the name, or the number in decimal digits
abbrev pub value_text : {E : Type 0} → (E → List ℕ) → EnumValue E → List ℕ
value_text name (Known e) = name e
value_text name (Unknown n) = signed_decimal n

-- what `{:?}` writes of the known value, or the number within `Unknown()`
abbrev pub value_debug : {E : Type 0} → (E → Option (List ℕ)) → EnumValue E → Option (List ℕ)
value_debug debug (Known e) = debug e
value_debug debug (Unknown n) = Some (codes "Unknown(" ++ (signed_decimal n ++ codes ")"))
