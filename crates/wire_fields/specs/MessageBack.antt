-- Fields of messages are read back, where their messages are.
use Rattle.std.proofs.Common.{◌≡◌, ℕ, ◌≤◌, refl, sym, List, [], ◌∷◌, ◌++◌, append_assoc, subst, arith}
use Rattle.std.proofs.lemmas.List.{append-nil}
use Rattle.std.specs.Prelude.{Option, Some, None}
use Rattle.wire_codec.specs.FieldNumber.{IsFieldNumber}
use Rattle.wire_codec.specs.Folds.{Folds}
use Rattle.wire_codec.specs.InRange.{AreFitting, AreNumbered, IsPayloadFitting, IsPayloadNumbered}
use Rattle.wire_codec.specs.Limits.{Charge, both, nested, no_charge, element_of}
use Rattle.wire_codec.specs.LimitsLaws.{ChargesAddUp}
use Rattle.wire_codec.specs.RecordLaws.{ShortestTextSpells}
use Rattle.wire_codec.specs.Records.{Records, plain, plain_payload, text, text_size}
use Rattle.wire_fields.specs.Back.{AllAre, FoldsBack, Back, KindBack}
use Rattle.wire_fields.specs.Messages.{Encoding, length_prefixed, delimited, once_in, each_in}
use Rattle.wire_fields.specs.Messages.{merges, adds_message, message_each}
use Rattle.wire_fields.specs.ScalarBack.{IfThere}
use Rattle.wire_fields.specs.Shape.{Shape}

-- records in range are what their payload has in it, and the payload is in range
pub record EncodingBack (encoding : Encoding) : Type 0 where
  pub holds : (rs : Records) → AreFitting (plain rs) → AreNumbered (plain rs)
      → text_size rs ≤ 2147483647 → encoding.Holds (plain_payload (encoding.payload rs)) (plain rs)
  pub fitting : (rs : Records) → AreFitting (plain rs) → text_size rs ≤ 2147483647
      → IsPayloadFitting (plain_payload (encoding.payload rs))
  pub numbered : (rs : Records) → AreNumbered (plain rs)
      → IsPayloadNumbered (plain_payload (encoding.payload rs))

pub prefixed_back : ShortestTextSpells → EncodingBack length_prefixed
prefixed_back spells = record {
  holds = λ rs fitting numbered short.
      record {
        text = text rs;
        is = refl;
        short = short;
        spelled = spells (plain rs) fitting numbered;
      };
  fitting = λ rs fitting short. omega arith;
  numbered = λ rs numbered. tt;
}

pub delimited_back : EncodingBack delimited
delimited_back = record {
  holds = λ rs fitting numbered short. refl;
  fitting = λ rs fitting short. fitting;
  numbered = λ rs numbered. numbered;
}

-- a message of which this holds, of a size that a message may have
pub record IsSmall {V : Type 0} (records : V → Records) (Holds : V → Type 0) (v : V) : Type 0 where
  pub held : Holds v
  pub short : text_size (records v) ≤ 2147483647

abbrev pub AllAreSmall : {V : Type 0} → (V → Records) → (V → Type 0) → List V → Type 0
AllAreSmall records Holds [] = Unit {0}
AllAreSmall records Holds (v ∷ vs) = IsSmall records Holds v × AllAreSmall records Holds vs

-- one level down, where there is a message
abbrev pub once_charge : {V : Type 0} → (V → Charge) → Option V → Charge
once_charge charge_of None = no_charge
once_charge charge_of (Some v) = nested (charge_of v)

-- each with its place, in order
abbrev pub each_charge : {V : Type 0} → ℕ → (V → Charge) → List V → Charge
each_charge place charge_of [] = no_charge
each_charge place charge_of (v ∷ vs) =
    both (both (element_of place) (nested (charge_of v))) (each_charge place charge_of vs)

module _ {V : Type 0} (encoding : Encoding) (e : EncodingBack encoding) (charges : ChargesAddUp)
    (s : Shape V) (Holds : V → Type 0) (charge_of : V → Charge) (Has : ℕ → Type 0)
    (h : Back s Holds charge_of Has) where
  once_folded : (n : ℕ) → IsFieldNumber n → (o : Option V) → IfThere (IsSmall s.records Holds) o
      → FoldsBack (merges encoding s.takes s.default) None (plain ((once_in encoding s).kind.records n o))
      (once_charge charge_of o) o
  once_folded n is None holds = record { fitting = tt; numbered = tt; folded = (refl, refl) }
  once_folded n is (Some v) holds =
      let rs = s.records v in
      let inner = h.back v holds.held in
      record {
        fitting = (e.fitting rs inner.fitting holds.short, tt);
        numbered = (is, e.numbered rs inner.numbered, tt);
        folded = (
          Some v,
          nested (charge_of v),
          no_charge,
          (
            v,
            (
              plain rs,
              charge_of v,
              e.holds rs inner.fitting inner.numbered holds.short,
              inner.folded,
              refl,
            ),
            refl,
          ),
          (refl, refl),
          sym (charges.nothing_last (nested (charge_of v))),
        );
      }

  once_has : (n : ℕ) (o : Option V)
      → AllAre (λ j. j ≡ n) (plain ((once_in encoding s).kind.records n o))
  once_has n None = tt
  once_has n (Some v) = (refl, tt)

  pub once_back : KindBack (once_in encoding s).kind (IfThere (IsSmall s.records Holds))
      (once_charge charge_of)
  once_back = record { back = once_folded; has = λ n o holds. once_has n o }

  -- ---- many times

  each_folded : (place n : ℕ) → IsFieldNumber n → (before vs : List V) → AllAreSmall s.records Holds vs
      → FoldsBack (adds_message place encoding s.takes s.default) before
      (plain (message_each encoding s.records n vs)) (each_charge place charge_of vs) (before ++ vs)
  each_folded place n is before [] holds =
      record { fitting = tt; numbered = tt; folded = (refl, append-nil before) }
  each_folded place n is before (v ∷ vs) holds =
      let rs = s.records v in
      let inner = h.back v holds.0.held in
      let more = each_folded place n is (before ++ v ∷ []) vs holds.1 in
      record {
        fitting = (e.fitting rs inner.fitting holds.0.short, more.fitting);
        numbered = (is, e.numbered rs inner.numbered, more.numbered);
        folded = (
          before ++ v ∷ [],
          both (element_of place) (nested (charge_of v)),
          each_charge place charge_of vs,
          (
            v,
            nested (charge_of v),
            (
              plain rs,
              charge_of v,
              e.holds rs inner.fitting inner.numbered holds.0.short,
              inner.folded,
              refl,
            ),
            refl,
            refl,
          ),
          subst (λ z. Folds (adds_message place encoding s.takes s.default) (before ++ v ∷ [])
              (plain (message_each encoding s.records n vs)) (each_charge place charge_of vs) z)
              (append_assoc before (v ∷ []) vs) more.folded,
          refl,
        );
      }

  each_has : (n : ℕ) (vs : List V)
      → AllAre (λ j. j ≡ n) (plain (message_each encoding s.records n vs))
  each_has n [] = tt
  each_has n (v ∷ vs) = (refl, each_has n vs)

  pub each_back : (place : ℕ) → KindBack (each_in place encoding s).kind
      (AllAreSmall s.records Holds) (each_charge place charge_of)
  each_back place = record {
    back = λ n is vs holds. each_folded place n is [] vs holds;
    has = λ n vs holds. each_has n vs;
  }
