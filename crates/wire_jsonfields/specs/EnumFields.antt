-- Enums as scalars.
use Rattle.wire_protojson.specs.Enums.{EnumTable, MeansEnum}
use Rattle.wire_protojson.specs.Laws.{IsDecided}
use Rattle.wire_protojson.proofs.EnumValues.{enums_decided}

pub enum_decided : (names : EnumTable) → IsDecided (MeansEnum names)
enum_decided names = enums_decided names
