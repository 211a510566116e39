-- What holds of spans. Each statement is proved as the contract of a law of src/laws.rt.
use Rattle.std.specs.Prelude.{◌≡◌, ℕ, ◌^◌, ◌<◌, List}
use Rattle.std.specs.List.{concat}
use Rattle.wire_base.specs.Charge.{charge}
use Rattle.wire_base.specs.Field.{Fields}
use Rattle.wire_base.specs.Limits.{Charge}
use Rattle.wire_base.specs.Spans.{AreCharged, SpellEach}
use Rattle.wire_base.specs.Spells.{Spells}

-- spans have one charge at most
abbrev pub OneSpansCharge : Type 0
OneSpansCharge =
    (spans : List (List ℕ)) (c d : Charge) → AreCharged spans c → AreCharged spans d → c ≡ d

-- spans that spell records are charged what the records are, where no level is past the greatest
-- that a flat walk counts
abbrev pub SpansChargeRecords : Type 0
SpansChargeRecords =
    (spans : List (List ℕ)) (fs : Fields) → SpellEach spans fs → (charge fs).depth < 2 ^ 32
    → AreCharged spans (charge fs)

-- the joined spans spell the records of all
abbrev pub JoinedSpansSpell : Type 0
JoinedSpansSpell =
    (spans : List (List ℕ)) (fs : Fields) → SpellEach spans fs → Spells fs (concat spans)
