-- What decoding leaves of messages within others and of oneofs is in range.
use Rattle.std.proofs.Common.{◌≡◌, ℕ, ◌≤◌, Bool, true, false, refl, sym, ap, ◌∙◌, subst, List, [], ◌∷◌}
use Rattle.std.specs.Prelude.{Option, Some, None, ◌==◌, ◌||◌}
use Rattle.wire_codec.specs.Field.{Payload, Fields}
use Rattle.wire_codec.specs.Limits.{Charge}
use Rattle.wire_codec.specs.Records.{Records, text_size}
use Rattle.wire_fields.specs.Grounds.{Grounds}
use Rattle.wire_fields.specs.MessageBack.{IsSmall, AllAreSmall}
use Rattle.wire_fields.specs.Messages.{Encoding, length_prefixed, delimited, once_in, each_in, always_in}
use Rattle.wire_fields.specs.Messages.{inside, or_else, message_record, message_each}
use Rattle.wire_fields.specs.Oneof.{Variants, variant, either_of, oneof}
use Rattle.wire_fields.specs.Ranges.{Range, once_range, each_range, always_range}
use Rattle.wire_fields.specs.ScalarBack.{AllHold, IfThere}
use Rattle.wire_fields.specs.Shape.{on, Lawful, Shape}
use Rattle.wire_fields.specs.Short.{IsShort, AreShort}
use Rattle.wire_fields.specs.Sound.{IsSound, AreSound, HasBytes, body_is_sound, spelled_are_sound}
use Rattle.wire_fields.specs.Stays.{KindStays, Stays, FieldsStay, folds_stay}
use Rattle.wire_fields.specs.StaysKinds.{all_more}

-- ---- encodings

-- what a payload has in it is as sound and as short as the payload
pub record EncodingStays (encoding : Encoding) : Type 0 where
  pub sound : (n : ℕ) (p : Payload) (fs : Fields) → IsSound n p → encoding.Holds p fs → AreSound fs
  pub short : (rs : Records) → IsShort (encoding.payload rs)
      → (text_size rs ≤ 2147483647) × AreShort rs

pub prefixed_stays : Grounds → EncodingStays length_prefixed
prefixed_stays g = record {
  sound = λ n p fs sound has. spelled_are_sound g.fitting g.numbered fs has.text
      (subst HasBytes has.is sound.of_bytes) has.spelled;
  short = λ rs h. h;
}

pub delimited_stays : EncodingStays delimited
delimited_stays = record {
  sound = λ n p fs sound has. body_is_sound n fs (subst (IsSound n) has sound);
  short = λ rs h. h;
}

-- ---- messages

module _ {V : Type 0} (encoding : Encoding) (e : EncodingStays encoding) (s : Shape V) (r : Range V)
    (h : Stays s r) where
  inside_stays : (n : ℕ) (p : Payload) (c : Charge) (m z : V) → IsSound n p → h.Is m
      → inside encoding s.takes m n p c z → h.Is z
  inside_stays n p c m z sound is (fs, within, has, folded, charged) =
      folds_stay s.takes h.Is h.step fs m z within (e.sound n p fs sound has) is folded

  small : (n : ℕ) (v : V) → h.Is v
      → AreShort (message_record encoding n (s.records v)) → IsSmall s.records r.Holds v
  small n v is whole =
      let short = e.short (s.records v) whole.0 in
      record { held = h.holds v is short.1; short = short.0 }

  pub message_always : KindStays (always_in encoding s).kind (always_range s r)
  message_always = record { Is = h.Is; start = h.start; step = inside_stays; holds = small }

  or_start : (o : Option V) → IfThere h.Is o → h.Is (or_else s.default o)
  or_start None is = h.start
  or_start (Some v) is = is

  once_holds : (n : ℕ) (o : Option V) → IfThere h.Is o
      → AreShort ((once_in encoding s).kind.records n o) → (once_range s r).Holds o
  once_holds n None is whole = tt
  once_holds n (Some v) is whole = small n v is whole

  pub message_once : KindStays (once_in encoding s).kind (once_range s r)
  message_once = record {
    Is = IfThere h.Is;
    start = tt;
    step = λ n p c m z sound is (after, within, same). subst (IfThere h.Is) (sym same)
        (inside_stays n p c (or_else s.default m) after sound (or_start m is) within);
    holds = once_holds;
  }

  each_holds : (n : ℕ) (vs : List V) → AllHold h.Is vs
      → AreShort (message_each encoding s.records n vs) → AllAreSmall s.records r.Holds vs
  each_holds n [] is whole = tt
  each_holds n (v ∷ vs) is whole =
      (small n v is.0 (whole.0, tt), each_holds n vs is.1 whole.1)

  pub message_each_stays : (place : ℕ)
      → KindStays (each_in place encoding s).kind (each_range place s r)
  message_each_stays place = record {
    Is = AllHold h.Is;
    start = tt;
    step = λ n p c m z sound is (after, one, within, charged, same).
        subst (AllHold h.Is) (sym same)
        (all_more h.Is m (after ∷ []) is
        (inside_stays n p one s.default after sound h.start within, tt));
    holds = each_holds;
  }

module _ (g : Grounds) {V : Type 0} {s : Shape V} {r : Range V} (h : Stays s r) where
  pub embedded_always_stays : KindStays (always_in length_prefixed s).kind (always_range s r)
  embedded_always_stays = message_always length_prefixed (prefixed_stays g) s r h

  pub embedded_once_stays : KindStays (once_in length_prefixed s).kind (once_range s r)
  embedded_once_stays = message_once length_prefixed (prefixed_stays g) s r h

  pub embedded_each_stays : (place : ℕ)
      → KindStays (each_in place length_prefixed s).kind (each_range place s r)
  embedded_each_stays = message_each_stays length_prefixed (prefixed_stays g) s r h

  pub group_always_stays : KindStays (always_in delimited s).kind (always_range s r)
  group_always_stays = message_always delimited delimited_stays s r h

  pub group_once_stays : KindStays (once_in delimited s).kind (once_range s r)
  group_once_stays = message_once delimited delimited_stays s r h

  pub group_each_stays : (place : ℕ)
      → KindStays (each_in place delimited s).kind (each_range place s r)
  group_each_stays = message_each_stays delimited delimited_stays s r h

-- ---- oneofs

-- what some variants make of a value stays as this says, at the numbers of which this holds; and
-- their records are known by number
pub record VariantsStay {V : Type 0} (variants : Variants V) (Is : V → Type 0) (Here : ℕ → Type 0)
    : Type 0 where
  pub step : (n : ℕ) (p : Payload) (c : Charge) (m z : V) → IsSound n p → Here n
      → variants.owns n p ≡ true → Is m → variants.takes m n p c z → Is z
  pub by_number : (n : ℕ) (p q : Payload) → variants.owns n p ≡ variants.owns n q

-- all numbers, and those of which this holds but for one
abbrev pub anywhere : ℕ → Type 0
anywhere j = Unit {0}

abbrev pub all_but : ℕ → (ℕ → Type 0) → ℕ → Type 0
all_but n Here j = ((j == n) ≡ false) × Here j

pub variant_stays : {V T : Type 0} {r : Range T} {Here : ℕ → Type 0} (n : ℕ) (f : Lawful T)
    (get : V → Option T) (set : T → V) (Is : V → Type 0) (k : KindStays f.kind r)
    → ((m : V) → Is m → k.Is (or_else f.kind.default (get m))) → ((t : T) → k.Is t → Is (set t))
    → VariantsStay (variant n f get set) Is Here
variant_stays n f get set Is k there here = record {
  step = λ j p c m z sound at own is (t, taken, same). subst Is (sym same)
      (here t (k.step j p c (or_else f.kind.default (get m)) t sound (there m is) taken));
  by_number = λ j p q. refl;
}

pub not_both : (b : Bool) → b ≡ true → b ≡ false → ⊥
not_both b is other = cc

-- a variant whose number is none of these
pub variant_apart : {V T : Type 0} {Here : ℕ → Type 0} {Is : V → Type 0} (n : ℕ) (f : Lawful T)
    (get : V → Option T) (set : T → V) → ((j : ℕ) → Here j → (j == n) ≡ false)
    → VariantsStay (variant n f get set) Is Here
variant_apart n f get set apart = record {
  step = λ j p c m z sound at own is taken. absurd (not_both (j == n) own (apart j at));
  by_number = λ j p q. refl;
}

module _ {V : Type 0} (a b : Variants V) (Is : V → Type 0) (n : ℕ) (p : Payload) (c : Charge)
    (m z : V) where
  one_or_other : (t u : Bool) → (t ≡ true → a.takes m n p c z → Is z)
      → (u ≡ true → b.takes m n p c z → Is z) → (t || u) ≡ true
      → on t (a.takes m n p c z) (b.takes m n p c z) → Is z
  one_or_other true u first second own taken = first refl taken
  one_or_other false u first second own taken = second own taken

pub either_stays : {V : Type 0} {a b : Variants V} {Is : V → Type 0} {Here : ℕ → Type 0}
    → VariantsStay a Is Here → VariantsStay b Is Here → VariantsStay (either_of a b) Is Here
either_stays {V} {a} {b} {Is} x y = record {
  step = λ n p c m z sound at own is taken. one_or_other a b Is n p c m z (a.owns n p) (b.owns n p)
      (λ first. x.step n p c m z sound at first is)
      (λ second. y.step n p c m z sound at second is) own taken;
  by_number = λ n p q. ap (λ o. o || b.owns n p) (x.by_number n p q)
      ∙ ap (λ o. a.owns n q || o) (y.by_number n p q);
}

abbrev pub oneof_stays : {V : Type 0} {r : Range V} (default : V) (records : V → Records)
    (variants : Variants V) (Is : V → Type 0) → Is default → VariantsStay variants Is anywhere
    → ((m : V) → Is m → AreShort (records m) → r.Holds m)
    → FieldsStay (oneof default records variants) r
oneof_stays default records variants Is start x holds = record {
  Is = Is;
  start = start;
  step = λ n p c m z sound own. x.step n p c m z sound tt own;
  holds = holds;
  by_number = x.by_number;
}
