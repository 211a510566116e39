-- Where bytes are no message: the first record that is not taken.
use Rattle.std.specs.Prelude.{◌≡◌, ℕ, ◌-◌, ◌<◌, List, length}
use Rattle.wire_base.specs.declared.tag.WireType.{WireType}
use Rattle.wire_codec.specs.Field.{Fields}
use Rattle.wire_codec.specs.Folds.{Step, Folds}
use Rattle.wire_codec.specs.Limits.{Limits, Charge, left_after}
use Rattle.wire_codec.specs.Read.{Reads}
use Rattle.wire_codec.specs.Tag.{IsTagSpelling}
use Rattle.wire_codec.specs.Taken.{TakesFields}
use Rattle.wire_codec.specs.Taking.{Decodes, NotTaken, TakesRecord}
use Rattle.wire_fields.specs.Shape.{Shape}

-- A tag stands at the front of old, and the value m takes the record behind it, is charged c for
-- it, which is within the limits, and becomes z; new is what follows the record.
pub record TakesNext {V : Type 0} (takes : Step V) (l : Limits) (m : V) (old : List ℕ) (c : Charge)
    (z : V) (new : List ℕ) : Type 0 where
  pub number : ℕ
  pub wire_type : WireType
  pub behind : List ℕ
  pub tag : Reads old (IsTagSpelling number wire_type) behind
  pub taken : TakesRecord takes l number wire_type m behind c z new

-- Records stand at the front of the bytes, which the value m takes one after another within the
-- limits, and becomes `value`; then bytes are left, and no record at their front is taken within
-- what is left of the limits. They begin at this place.
pub record IsFirstRefused {V : Type 0} (takes : Step V) (l : Limits) (m : V) (bytes : List ℕ)
    (place : ℕ) : Type 0 where
  pub fields : Fields
  pub charge : Charge
  pub value : V
  pub rest : List ℕ
  pub front : TakesFields charge l fields bytes rest
  pub folded : Folds takes m fields charge value
  pub more : 0 < length rest
  pub refused : NotTaken (TakesNext takes (left_after l charge) value rest)
  pub begins : place ≡ length bytes - length rest

-- the bytes are a value of the shape within the limits
abbrev pub IsDecoded : {V : Type 0} → Shape V → Limits → List ℕ → Type 0
IsDecoded {V} s l bytes = (v : V) × Decodes s.takes l s.default bytes v

-- the first record that the value of no records does not take begins at this place
abbrev pub IsRefusedAt : {V : Type 0} → Shape V → Limits → List ℕ → ℕ → Type 0
IsRefusedAt s l bytes place = IsFirstRefused s.takes l s.default bytes place
