-- The known fields of a message that has none, beside those of its own type.
use Rattle.std.proofs.Common.{refl}
use Rattle.std.specs.Prelude.{false, ⊤}
use Rattle.wire_codec.specs.Records.{none}
use Rattle.wire_fields.specs.Ranges.{Range, uncharged}
use Rattle.wire_fields.specs.Returned.{Returned}
use Rattle.wire_fields.specs.Shape.{Shape}
use Rattle.wire_fields.specs.Stays.{FieldsStay}

-- they own no record
abbrev pub no_fields : Shape ⊤
no_fields = record {
  owns = λ n p. false;
  default = tt;
  records = λ m. none;
  takes = λ m n p c z. ⊥;
  single = λ reading m u z w n p c d h k. absurd h;
}

abbrev pub no_fields_range : Range ⊤
no_fields_range = uncharged (λ m. Unit {0})

abbrev pub no_fields_returned : Returned no_fields no_fields_range
no_fields_returned = record {
  Has = λ n. ⊥;
  back = record {
    back = λ m h. record { fitting = tt; numbered = tt; folded = (refl, refl) };
    has = λ m h. tt;
    own = λ n p h. absurd h;
  };
}

abbrev pub no_fields_stay : FieldsStay no_fields no_fields_range
no_fields_stay = record {
  Is = λ m. Unit {0};
  start = tt;
  step = λ n p c m z sound own h taken. tt;
  holds = λ m h short. tt;
  by_number = λ n p q. refl;
}
