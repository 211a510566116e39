-- The numbers that stand on the wire for the values of each scalar type, as arithmetic.
use Rattle.std.specs.Prelude.{ℕ, suc, ◌+◌, ◌-◌, ◌*◌, ◌/◌, ◌%◌, ◌^◌, ℤ, pos, negsuc, neg_ℤ, Bool, true, false, nat_lt, ◌==◌, not, if◌then◌else◌}

-- what is written for a value of a type, and what is read from a number
pub record ValueMap (T : Type 0) : Type 0 where
  pub enc : T → ℕ
  pub dec : ℕ → T

-- a negative number with 2 ^ bits added to it
abbrev pub wrapped : ℕ → ℤ → ℕ
wrapped bits (pos n) = n
wrapped bits (negsuc n) = 2 ^ bits - suc n

-- a number below 2 ^ bits, with 2 ^ bits taken off from the half on
abbrev pub unwrapped : ℕ → ℕ → ℤ
unwrapped bits x = if nat_lt (2 * x) (2 ^ bits) then pos x else neg_ℤ (pos (2 ^ bits - x))

-- 2n for n at least 0, and -2n - 1 for n below it
abbrev pub zigzag : ℤ → ℕ
zigzag (pos n) = 2 * n
zigzag (negsuc n) = 2 * suc n - 1

-- x / 2 for even x, and -(x + 1) / 2 for odd x
abbrev pub unzigzag : ℕ → ℤ
unzigzag x = if x % 2 == 0 then pos (x / 2) else neg_ℤ (pos ((x + 1) / 2))

abbrev pub truth : Bool → ℕ
truth false = 0
truth true = 1

-- ---- each type

-- a negative one is written in 64 bits; the low 32 bits are read
abbrev pub int32 : ValueMap ℤ
int32 = record { enc = wrapped 64; dec = λ x. unwrapped 32 (x % 2 ^ 32) }

abbrev pub int64 : ValueMap ℤ
int64 = record { enc = wrapped 64; dec = unwrapped 64 }

-- the low 32 bits are read
abbrev pub uint32 : ValueMap ℕ
uint32 = record { enc = λ v. v; dec = λ x. x % 2 ^ 32 }

abbrev pub uint64 : ValueMap ℕ
uint64 = record { enc = λ v. v; dec = λ x. x }

-- the low 32 bits are read
abbrev pub sint32 : ValueMap ℤ
sint32 = record { enc = zigzag; dec = λ x. unzigzag (x % 2 ^ 32) }

abbrev pub sint64 : ValueMap ℤ
sint64 = record { enc = zigzag; dec = unzigzag }

-- each number but 0 is read as true
abbrev pub bool : ValueMap Bool
bool = record { enc = truth; dec = λ x. not (x == 0) }

abbrev pub fixed32 : ValueMap ℕ
fixed32 = record { enc = λ v. v; dec = λ x. x }

abbrev pub fixed64 : ValueMap ℕ
fixed64 = record { enc = λ v. v; dec = λ x. x }

abbrev pub sfixed32 : ValueMap ℤ
sfixed32 = record { enc = wrapped 32; dec = unwrapped 32 }

abbrev pub sfixed64 : ValueMap ℤ
sfixed64 = record { enc = wrapped 64; dec = unwrapped 64 }
