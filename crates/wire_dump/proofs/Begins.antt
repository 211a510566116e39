-- Bytes that begin with no record.
use Rattle.std.proofs.Common.{◌≡◌, ◌≢◌, ℕ, List, []}
use Rattle.wire_base.specs.declared.error.DecodeError.{DecodeError}
use Rattle.wire_base.specs.declared.tag.WireType.TheVariants.{EndGroup}
use Rattle.wire_base.specs.Field.{Payload, varint, fixed64, fixed32, bytes, group, Fields, none, field, type_of}
use Rattle.wire_base.specs.Read.{Reads}
use Rattle.wire_base.specs.Spells.{Spells}
use Rattle.wire_base.specs.Tag.{IsTagSpelling, TagFault}
use Rattle.wire_base.specs.TagLaws.{NoTagBesideFault, OneTag}

pub no_tag : NoTagBesideFault → (all : List ℕ) (e : DecodeError) → all ≢ [] → TagFault all e
    → (fs : Fields) → Spells fs all → ⊥
no_tag law all e some fault none spelled = some spelled
no_tag law all e some fault (field n p others) (behind, rest, tag, payload, more) =
    law all behind n (type_of p) e tag fault

ends_none : (p : Payload) → EndGroup ≡ type_of p → ⊥
ends_none (varint v) e = absurd cc
ends_none (fixed64 v) e = absurd cc
ends_none (fixed32 v) e = absurd cc
ends_none (bytes b) e = absurd cc
ends_none (group fs) e = absurd cc

pub end_tag : OneTag → (all rest : List ℕ) (n : ℕ) → all ≢ []
    → Reads all (IsTagSpelling n EndGroup) rest → (fs : Fields) → Spells fs all → ⊥
end_tag law all rest n some tag none spelled = some spelled
end_tag law all rest n some tag (field m p others) (behind, after, other, payload, more) =
    ends_none p (law all rest behind n m EndGroup (type_of p) tag other).1
