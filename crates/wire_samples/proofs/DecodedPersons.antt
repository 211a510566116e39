-- What a `Person` becomes by records that are in range is in range.
use Rattle.std.proofs.Common.{ℕ, List, [], ◌∷◌, arith}
use Rattle.std.proofs.lemmas.List.Elements.{All-nil, All-cons, All-append}
use Rattle.std.proofs.lemmas.Str.{IsUtf8-nil}
use Rattle.std.specs.Prelude.{ℤ, map, All, FitsSigned, IsUtf8}
use Rattle.std.specs.Int.{w32}
use Rattle.wire_codec.specs.Field.{Payload, varint, fixed64, fixed32, bytes, group, Fields, none, field}
use Rattle.wire_codec.specs.FieldNumber.{IsFieldNumber}
use Rattle.wire_codec.specs.Folds.{Folds}
use Rattle.wire_codec.specs.InRange.{IsPayloadFitting, AreFitting, IsPayloadNumbered, AreNumbered}
use Rattle.wire_codec.specs.Limits.{Charge}
use Rattle.wire_codec.specs.ValueMap.{int32}
use Rattle.wire_samples.specs.FieldSteps.{SetsInt32, SetsText, AppendsInt32}
use Rattle.wire_samples.specs.Person.{PersonValue, PersonTakes, IsPerson, IsPersonOther, id, name}
use Rattle.wire_samples.specs.Person.{scores, unknown, default_person}
use Rattle.wire_fields.specs.StaysKinds.{int32_fits}
use Rattle.wire_samples.proofs.Kept.{kept_more, none_kept}

number_fits : (p : Payload) (v : ℤ) → SetsInt32 p v → FitsSigned w32 v
number_fits (varint x) v is = rw is (int32_fits x)
number_fits (fixed64 x) v is = absurd is
number_fits (fixed32 x) v is = absurd is
number_fits (bytes b) v is = absurd is
number_fits (group fs) v is = absurd is

text_fits : (p : Payload) (t : List ℕ) → SetsText p t → IsUtf8 t
text_fits (varint x) t is = absurd is
text_fits (fixed64 x) t is = absurd is
text_fits (fixed32 x) t is = absurd is
text_fits (bytes b) t is = rw is.1 is.0
text_fits (group fs) t is = absurd is

all_fit : (numbers : List ℕ) → All (FitsSigned w32) (map int32.dec numbers)
all_fit [] = All-nil (FitsSigned w32)
all_fit (x ∷ numbers) =
    All-cons (FitsSigned w32) (int32.dec x) (map int32.dec numbers) (int32_fits x) (all_fit numbers)

numbers_fit : (p : Payload) (before after : List ℤ) → AppendsInt32 before p after
    → All (FitsSigned w32) before → All (FitsSigned w32) after
numbers_fit (varint x) before after is h =
    rw is (All-append (FitsSigned w32) before (int32.dec x ∷ []) h (all_fit (x ∷ [])))
numbers_fit (fixed64 x) before after is h = absurd is
numbers_fit (fixed32 x) before after is h = absurd is
numbers_fit (bytes b) before after is h =
    rw is.appended (All-append (FitsSigned w32) before (map int32.dec is.numbers) h
    (all_fit is.numbers))
numbers_fit (group fs) before after is h = absurd is

takes_in_range : (m z : PersonValue) (n : ℕ) (p : Payload) (c : Charge) → IsFieldNumber n
    → IsPayloadFitting p → IsPayloadNumbered p → IsPerson m → PersonTakes m n p c z → IsPerson z
takes_in_range m z n p c number fits numbered h (id v n_is made charged z_is) =
    rw z_is (record {
      id = number_fits p v made;
      name = h.name;
      scores = h.scores;
      unknown = h.unknown;
    })
takes_in_range m z n p c number fits numbered h (name t n_is made charged z_is) =
    rw z_is (record {
      id = h.id;
      name = text_fits p t made;
      scores = h.scores;
      unknown = h.unknown;
    })
takes_in_range m z n p c number fits numbered h (scores after n_is made charged z_is) =
    rw z_is (record {
      id = h.id;
      name = h.name;
      scores = numbers_fit p m.scores after made h.scores;
      unknown = h.unknown;
    })
takes_in_range m z n p c number fits numbered h (unknown one two three charged z_is) =
    rw z_is (record {
      id = h.id;
      name = h.name;
      scores = h.scores;
      unknown = kept_more IsPersonOther m.unknown n p h.unknown (one, two, three) number fits
          numbered;
    })

pub folds_in_range : (fs : Fields) (m z : PersonValue) (c : Charge) → AreFitting fs
    → AreNumbered fs → IsPerson m → Folds PersonTakes m fs c z → IsPerson z
folds_in_range none m z c fits numbered h (nothing, is) = rw is h
folds_in_range (field n p fs) m z c fits numbered h (mid, first, rest, step, folded, sum) =
    folds_in_range fs mid z rest fits.1 numbered.2
    (takes_in_range m mid n p first numbered.0 fits.0 numbered.1 h step) folded

pub default_in_range : IsPerson default_person
default_in_range = record {
  id = omega arith;
  name = IsUtf8-nil;
  scores = All-nil (FitsSigned w32);
  unknown = none_kept IsPersonOther;
}
