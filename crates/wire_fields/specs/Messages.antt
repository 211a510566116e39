-- Messages inside others: once, or many times, and in either encoding.
use Rattle.std.proofs.Common.{◌≡◌, ap, ◌∙◌, sym, subst, List, [], ◌∷◌, ◌++◌}
use Rattle.std.specs.Prelude.{ℕ, ◌≤◌, length, Option, Some, None, Box, box_value}
use Rattle.std.specs.declared.alloc.Global.{Global}
use Rattle.wire_codec.specs.Field as grammar
use Rattle.wire_codec.specs.Field.{Payload, Fields}
use Rattle.wire_codec.specs.Folds.{Step, IsSingle, Folds}
use Rattle.wire_codec.specs.Limits.{Charge, both, nested, element_of}
use Rattle.wire_codec.specs.Records.{ValuePayload, Records, none, field, embedded, group, joined_records}
use Rattle.wire_codec.specs.Spells.{Spells}
use Rattle.wire_codec.specs.TakingLaws.{OneReading}
use Rattle.wire_fields.specs.Shape.{FieldKind, Lawful, Shape}

-- ---- encodings

-- how the records of a message stand in a payload, and the records that a payload has in it, of
-- which there is one list at most
pub record Encoding : Type 1 where
  pub payload : Records → ValuePayload
  pub Holds : Payload → Fields → Type 0
  pub one : OneReading → (p : Payload) (fs gs : Fields) → Holds p fs → Holds p gs → fs ≡ gs

-- bytes, of which there are no more than a message may have, and which spell the records
pub record HoldsText (p : Payload) (fs : Fields) : Type 0 where
  pub text : List ℕ
  pub is : p ≡ grammar.bytes text
  pub short : length text ≤ 2147483647
  pub spelled : Spells fs text

pub same_text : (p : Payload) (a b : List ℕ) → p ≡ grammar.bytes a → p ≡ grammar.bytes b → a ≡ b
same_text p a b h k = cc

pub same_group : (p : Payload) (fs gs : Fields) → p ≡ grammar.group fs → p ≡ grammar.group gs → fs ≡ gs
same_group p fs gs h k = cc

-- behind its length
abbrev pub length_prefixed : Encoding
length_prefixed = record {
  payload = embedded;
  Holds = HoldsText;
  one = λ reading p fs gs h k.
      reading.records fs gs k.text
      (subst (Spells fs) (same_text p h.text k.text h.is k.is) h.spelled) k.spelled;
}

-- up to an end tag, as a group
abbrev pub delimited : Encoding
delimited = record {
  payload = group;
  Holds = λ p fs. p ≡ grammar.group fs;
  one = λ reading p fs gs h k. same_group p fs gs h k;
}

-- ---- what is taken

-- a message takes the records of the payload, one level down
abbrev pub inside : {V : Type 0} → Encoding → Step V → Step V
inside encoding takes m n p c z =
    (fs : Fields) × (within : Charge) × encoding.Holds p fs × Folds takes m fs within z
    × (c ≡ nested within)

-- the value that an option has, or another
abbrev pub or_else : {V : Type 0} → V → Option V → V
or_else start None = start
or_else start (Some v) = v

-- the message that is there takes the payload, or a new one does
abbrev pub merges : {V : Type 0} → Encoding → Step V → V → Step (Option V)
merges {V} encoding takes start m n p c z =
    (after : V) × inside encoding takes (or_else start m) n p c after × (z ≡ Some after)

-- a new message takes the payload, is charged for its place in memory besides, and is put among
-- those that are there
abbrev pub gathers : {V M : Type 0} → ℕ → Encoding → Step V → V → (M → V → M) → Step M
gathers {V} place encoding takes start put m n p c z =
    (after : V) × (one : Charge) × inside encoding takes start n p one after
    × (c ≡ both (element_of place) one) × (z ≡ put m after)

-- one message more
abbrev pub adds_message : {V : Type 0} → ℕ → Encoding → Step V → V → Step (List V)
adds_message place encoding takes start =
    gathers place encoding takes start (λ m after. m ++ after ∷ [])

folds_single : {V : Type 0} (takes : Step V) → IsSingle takes → (m u : V) (fs : Fields)
    (c d : Charge) (z w : V) → Folds takes m fs c z → Folds takes u fs d w
    → (c ≡ d) × (m ≡ u → z ≡ w)
folds_single takes single m u grammar.none c d z w h k =
    (h.0 ∙ sym k.0, λ e. h.1 ∙ e ∙ sym k.1)
folds_single takes single m u (grammar.field n p others) c d z w (mid, first, rest, step, more, sum)
    (mid_2, first_2, rest_2, step_2, more_2, sum_2) =
    let here = single m u mid mid_2 n p first first_2 step step_2 in
    let there = folds_single takes single mid mid_2 others rest rest_2 z w more more_2 in (
      sum ∙ ap (λ x. both x rest) here.0 ∙ ap (λ x. both first_2 x) there.0 ∙ sym sum_2,
      λ e. there.1 (here.1 e),
    )

module _ {V : Type 0} (encoding : Encoding) (takes : Step V) (reading : OneReading)
    (single : IsSingle takes) where
  pub inside_single : IsSingle (inside encoding takes)
  inside_single m u z w n p c d (fs, within, has, folded, charged) (gs, other, has_2, folded_2, charged_2) =
      let same = encoding.one reading p fs gs has has_2 in
      let agree = folds_single takes single m u gs within other z w
      (subst (λ x. Folds takes m x within z) same folded) folded_2 in
      (charged ∙ ap nested agree.0 ∙ sym charged_2, agree.1)

  pub merges_single : (start : V) → IsSingle (merges encoding takes start)
  merges_single start m u z w n p c d (after, h, is) (after_2, k, is_2) =
      let agree = inside_single (or_else start m) (or_else start u) after after_2 n p c d h k in
      (agree.0, λ e. is ∙ ap Some (agree.1 (ap (or_else start) e)) ∙ sym is_2)

  pub gathers_single : {M : Type 0} (place : ℕ) (start : V) (put : M → V → M)
      → IsSingle (gathers place encoding takes start put)
  gathers_single {M} place start put m u z w n p c d (after, one, h, charged, is) (after_2, one_2, k, charged_2, is_2) =
      let agree = inside_single start start after after_2 n p one one_2 h k in (
        charged ∙ ap (λ x. both (element_of place) x) agree.0 ∙ sym charged_2,
        λ e. is ∙ ap (λ (v : V). put m v) (agree.1 (λ i. start))
            ∙ ap (λ (x : M). put x after_2) e ∙ sym is_2,
      )

-- ---- what is written

-- the record of a message with these records
abbrev pub message_record : Encoding → ℕ → Records → Records
message_record encoding n rs = field n (encoding.payload rs) none

abbrev pub message_option : {V : Type 0} → Encoding → (V → Records) → ℕ → Option V → Records
message_option encoding records n None = none
message_option encoding records n (Some v) = message_record encoding n (records v)

abbrev pub message_each : {V : Type 0} → Encoding → (V → Records) → ℕ → List V → Records
message_each encoding records n [] = none
message_each encoding records n (v ∷ vs) =
    joined_records (message_record encoding n (records v)) (message_each encoding records n vs)

-- ---- kinds

abbrev pub once_kind : {V : Type 0} → Encoding → (V → Records) → Step V → V → FieldKind (Option V)
once_kind encoding records takes start = record {
  default = None;
  records = message_option encoding records;
  takes = merges encoding takes start;
}

abbrev pub each_kind : {V : Type 0} → ℕ → Encoding → (V → Records) → Step V → V → FieldKind (List V)
each_kind place encoding records takes start = record {
  default = [];
  records = message_each encoding records;
  takes = adds_message place encoding takes start;
}

abbrev pub always_kind : {V : Type 0} → Encoding → (V → Records) → Step V → V → FieldKind V
always_kind encoding records takes start = record {
  default = start;
  records = λ n v. message_record encoding n (records v);
  takes = inside encoding takes;
}

-- a message of this shape, always written
abbrev pub always_in : {V : Type 0} → Encoding → Shape V → Lawful V
always_in encoding s = record {
  kind = always_kind encoding s.records s.takes s.default;
  single = λ reading. inside_single encoding s.takes reading (s.single reading);
}

-- a message of this shape, where there is one
abbrev pub once_in : {V : Type 0} → Encoding → Shape V → Lawful (Option V)
once_in encoding s = record {
  kind = once_kind encoding s.records s.takes s.default;
  single = λ reading. merges_single encoding s.takes reading (s.single reading) s.default;
}

-- messages of this shape, each charged for so many bytes
abbrev pub each_in : {V : Type 0} → ℕ → Encoding → Shape V → Lawful (List V)
each_in place encoding s = record {
  kind = each_kind place encoding s.records s.takes s.default;
  single = λ reading. gathers_single encoding s.takes reading (s.single reading) place s.default
      (λ m after. m ++ after ∷ []);
}

-- an embedded message; embedded messages; a group; groups
abbrev pub embedded_once : {V : Type 0} → Shape V → Lawful (Option V)
embedded_once = once_in length_prefixed

abbrev pub embedded_each : {V : Type 0} → ℕ → Shape V → Lawful (List V)
embedded_each place = each_in place length_prefixed

abbrev pub embedded_always : {V : Type 0} → Shape V → Lawful V
embedded_always = always_in length_prefixed

abbrev pub group_always : {V : Type 0} → Shape V → Lawful V
group_always = always_in delimited

abbrev pub group_once : {V : Type 0} → Shape V → Lawful (Option V)
group_once = once_in delimited

abbrev pub group_each : {V : Type 0} → ℕ → Shape V → Lawful (List V)
group_each place = each_in place delimited

-- ---- what a message of Rust holds

abbrev pub boxed_value : {T V : Type 0} → (T → V) → Option (Box T Global) → Option V
boxed_value view None = None
boxed_value view (Some boxed) = Some (view (box_value boxed))
