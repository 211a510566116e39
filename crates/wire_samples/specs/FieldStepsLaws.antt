-- What a known field makes of a payload is one value.
use Rattle.std.proofs.Common.{◌≡◌, ℕ, List, ◌++◌, sym, ap, ◌∙◌}
use Rattle.std.specs.Prelude.{ℤ, map}
use Rattle.wire_codec.specs.Field.{Payload, varint, fixed64, fixed32, bytes, group}
use Rattle.wire_codec.specs.TakingLaws.{OneReading}
use Rattle.wire_codec.specs.ValueMap.{ValueMap, int32}
use Rattle.wire_samples.specs.FieldSteps.{SetsInteger, SetsText, AppendsInt32}

pub one_integer : (map : ValueMap ℤ) (p : Payload) (v w : ℤ) → SetsInteger map p v
    → SetsInteger map p w → v ≡ w
one_integer map (varint x) v w h k = h ∙ sym k
one_integer map (fixed64 x) v w h k = absurd h
one_integer map (fixed32 x) v w h k = absurd h
one_integer map (bytes b) v w h k = absurd h
one_integer map (group fs) v w h k = absurd h

pub one_string : (p : Payload) (t u : List ℕ) → SetsText p t → SetsText p u → t ≡ u
one_string (varint x) t u h k = absurd h
one_string (fixed64 x) t u h k = absurd h
one_string (fixed32 x) t u h k = absurd h
one_string (bytes b) t u h k = h.1 ∙ sym k.1
one_string (group fs) t u h k = absurd h

pub one_append : OneReading → (p : Payload) (before after other : List ℤ)
    → AppendsInt32 before p after → AppendsInt32 before p other → after ≡ other
one_append reading (varint x) before after other h k = h ∙ sym k
one_append reading (fixed64 x) before after other h k = absurd h
one_append reading (fixed32 x) before after other h k = absurd h
one_append reading (bytes b) before after other h k =
    let same = reading.packed h.numbers k.numbers b h.spelled k.spelled in
    h.appended ∙ ap (λ (xs : List ℕ). before ++ map int32.dec xs) same ∙ sym k.appended
one_append reading (group fs) before after other h k = absurd h
