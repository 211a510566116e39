-- The records that a `Person` does not know, and their texts.
use Rattle.std.proofs.Common.{◌≡◌, ◌≢◌, ℕ, ◌≤◌, max, Bool, true, false, ◌&&◌, if◌then◌else◌, nat_le, List, [], ◌∷◌, ◌++◌, refl, sym, ap, ◌∙◌, subst, arith, append_assoc}
use Rattle.std.proofs.lemmas.Bool.{leb-true}
use Rattle.std.proofs.lemmas.List.{append-nil}
use Rattle.wire_codec.specs.Charge.{payload_charge, charge}
use Rattle.wire_codec.specs.Field.{Payload, varint, fixed64, fixed32, bytes, group, Fields, none, field, joined, push}
use Rattle.wire_codec.specs.Folds.{Folds}
use Rattle.wire_codec.specs.Limits.{Charge, both, no_charge}
use Rattle.wire_codec.specs.LimitsLaws.{ChargesAddUp}
use Rattle.wire_codec.specs.RecordLaws.{JoinedTextsSpell}
use Rattle.wire_codec.specs.Spans.{SpellEach}
use Rattle.wire_codec.specs.Spells.{Spells}
use Rattle.wire_samples.proofs.PersonFolds.{joined-none, push_joined}
use Rattle.wire_samples.specs.FieldSteps.{SetsInt32, SetsText, AppendsInt32}
use Rattle.wire_samples.specs.Person.{PersonValue, PersonTakes, id, name, scores, unknown}
use Rattle.wire_samples.specs.PersonUnknowns.{is_known_number, others_of, OthersAre}

-- ---- which numbers are known

and_both : (a b : Bool) → (a && b) ≡ true → (a ≡ true) × (b ≡ true)
and_both true true e = (refl, refl)
and_both true false e = absurd cc
and_both false b e = absurd cc

known_range : (n : ℕ) → is_known_number n ≡ true → (1 ≤ n) × (n ≤ 3)
known_range n e =
    let parts = and_both (nat_le 1 n) (nat_le n 3) e in
    (leb-true 1 n parts.0, leb-true n 3 parts.1)

pub not_known : (n : ℕ) → n ≢ 1 → n ≢ 2 → n ≢ 3 → is_known_number n ≡ false
not_known n one two three = by_case (is_known_number n) refl
  where
    by_case : (b : Bool) → is_known_number n ≡ b → is_known_number n ≡ false
    by_case false e = e
    by_case true e =
        let range = known_range n e in absurd (omega (arith, range.0, range.1, one, two, three))

-- ---- the others of joined lists

choose_joined : (b : Bool) (n : ℕ) (p : Payload) (rest gs whole : Fields)
    → whole ≡ joined rest gs
    → (if b then whole else field n p whole) ≡ joined (if b then rest else field n p rest) gs
choose_joined true n p rest gs whole same = same
choose_joined false n p rest gs whole same = ap (field n p) same

pub others-joined : (fs gs : Fields)
    → others_of (joined fs gs) ≡ joined (others_of fs) (others_of gs)
others-joined none gs = refl
others-joined (field n p rest) gs =
    choose_joined (is_known_number n) n p (others_of rest) (others_of gs)
    (others_of (joined rest gs)) (others-joined rest gs)

choose_depth : (b : Bool) (n : ℕ) (p : Payload) (rest : Fields) (most : ℕ)
    → (charge rest).depth ≤ most
    → (charge (if b then rest else field n p rest)).depth ≤ max (payload_charge p).depth most
choose_depth true n p rest most h = omega (arith, h)
choose_depth false n p rest most h = omega (arith, h)

pub others_depth : (fs : Fields) → (charge (others_of fs)).depth ≤ (charge fs).depth
others_depth none = omega arith
others_depth (field n p rest) =
    choose_depth (is_known_number n) n p (others_of rest) (charge rest).depth (others_depth rest)

-- a known record more at the end, and another
pub others_known : (fs : Fields) (n : ℕ) (p : Payload) → is_known_number n ≡ true
    → others_of (push fs n p) ≡ others_of fs
others_known fs n p known =
    others-joined fs (field n p none)
    ∙ ap (λ (b : Bool). joined (others_of fs) (if b then none else field n p none)) known
    ∙ joined-none (others_of fs)

pub others_other : (fs : Fields) (n : ℕ) (p : Payload) → is_known_number n ≡ false
    → others_of (push fs n p) ≡ push (others_of fs) n p
others_other fs n p other =
    others-joined fs (field n p none)
    ∙ ap (λ (b : Bool). joined (others_of fs) (if b then none else field n p none)) other

-- ---- their texts

choose_spans : (b : Bool) (own : List ℕ) (others more : List (List ℕ))
    → (if b then others else own ∷ others) ++ more
    ≡ (if b then others ++ more else own ∷ (others ++ more))
choose_spans true own others more = refl
choose_spans false own others more = refl

-- one record more at the end
pub others_push : (fs : Fields) (n : ℕ) (p : Payload) (spans : List (List ℕ)) (text own : List ℕ)
    → OthersAre fs spans text → Spells (field n p none) own
    → OthersAre (push fs n p) (spans ++ (if is_known_number n then [] else own ∷ [])) (text ++ own)
others_push none n p spans text own (no_spans, empty) h = (
  own,
  [],
  [],
  h,
  ap (λ (t : List ℕ). t ++ own) empty ∙ sym (append-nil own),
  (refl, refl),
  ap (λ (s : List (List ℕ)). s ++ (if is_known_number n then [] else own ∷ [])) no_spans,
)
others_push (field m q rest) n p spans text own
    (first, behind, others, spelled, parts, more, is) h =
    let last = if is_known_number n then [] else own ∷ [] in (
      first,
      behind ++ own,
      others ++ last,
      spelled,
      ap (λ (t : List ℕ). t ++ own) parts ∙ append_assoc first behind own,
      others_push rest n p others behind own more h,
      ap (λ (s : List (List ℕ)). s ++ last) is ∙ choose_spans (is_known_number m) first others last,
    )

pub others_spell : JoinedTextsSpell → (fs : Fields) (spans : List (List ℕ)) (text : List ℕ)
    → OthersAre fs spans text → Spells fs text
others_spell join none spans text (no_spans, empty) = empty
others_spell join (field n p rest) spans text (own, behind, others, spelled, parts, more, is) =
    subst (Spells (field n p rest)) (sym parts)
    (join (field n p none) rest own behind spelled (others_spell join rest others behind more))

choose_each : (b : Bool) (n : ℕ) (p : Payload) (rest : Fields) (own : List ℕ)
    (spans others : List (List ℕ)) → Spells (field n p none) own → SpellEach others rest
    → spans ≡ (if b then others else own ∷ others)
    → SpellEach spans (if b then rest else field n p rest)
choose_each true n p rest own spans others h more is =
    subst (λ s. SpellEach s rest) (sym is) more
choose_each false n p rest own spans others h more is =
    subst (λ s. SpellEach s (field n p rest)) (sym is) (field n p none, rest, h, more, refl)

pub others_each : (fs : Fields) (spans : List (List ℕ)) (text : List ℕ)
    → OthersAre fs spans text → SpellEach spans (others_of fs)
others_each none spans text (no_spans, empty) =
    subst (λ s. SpellEach s none) (sym no_spans) refl
others_each (field n p rest) spans text (own, behind, others, spelled, parts, more, is) =
    choose_each (is_known_number n) n p (others_of rest) own spans others spelled
    (others_each rest others behind more) is

-- ---- what a `Person` keeps

-- a known field is made of records that are no groups
int32_flat : (p : Payload) (v : _) → SetsInt32 p v → (payload_charge p).depth ≡ 0
int32_flat (varint x) v h = refl
int32_flat (fixed64 x) v h = absurd h
int32_flat (fixed32 x) v h = absurd h
int32_flat (bytes b) v h = absurd h
int32_flat (group fs) v h = absurd h

text_flat : (p : Payload) (text : List ℕ) → SetsText p text → (payload_charge p).depth ≡ 0
text_flat (varint x) v h = absurd h
text_flat (fixed64 x) v h = absurd h
text_flat (fixed32 x) v h = absurd h
text_flat (bytes b) v h = refl
text_flat (group fs) v h = absurd h

append_flat : (before after : List _) (p : Payload) → AppendsInt32 before p after
    → (payload_charge p).depth ≡ 0
append_flat before after (varint x) h = refl
append_flat before after (fixed64 x) h = absurd h
append_flat before after (fixed32 x) h = absurd h
append_flat before after (bytes b) h = refl
append_flat before after (group fs) h = absurd h

-- the value keeps the records that it does not know, is charged for them, and takes no others that
-- nest
pub record KeepsOthers (m z : PersonValue) (fs : Fields) (c : Charge) : Type 0 where
  pub unknown : z.unknown ≡ joined m.unknown (others_of fs)
  pub charged : c ≡ charge (others_of fs)
  pub depth : (charge fs).depth ≤ (charge (others_of fs)).depth

module _ (charges : ChargesAddUp) where
  known_step : (m mid z : PersonValue) (n : ℕ) (p : Payload) (rest : Fields) (c : Charge)
      → is_known_number n ≡ true → (payload_charge p).depth ≡ 0 → mid.unknown ≡ m.unknown
      → KeepsOthers mid z rest c → KeepsOthers m z (field n p rest) (both no_charge c)
  known_step m mid z n p rest c known flat same h =
      let skipped : others_of (field n p rest) ≡ others_of rest =
      ap (λ (b : Bool). if b then others_of rest else field n p (others_of rest)) known in
      record {
        unknown = h.unknown ∙ ap (λ (fs : Fields). joined fs (others_of rest)) same
            ∙ ap (joined m.unknown) (sym skipped);
        charged = charges.nothing_first c ∙ h.charged ∙ ap charge (sym skipped);
        depth = omega (
          arith,
          flat,
          h.depth,
          ap (λ (fs : Fields). (charge fs).depth) skipped,
        );
      }

  other_step : (m mid z : PersonValue) (n : ℕ) (p : Payload) (rest : Fields) (c : Charge)
      → is_known_number n ≡ false → mid.unknown ≡ push m.unknown n p
      → KeepsOthers mid z rest c → KeepsOthers m z (field n p rest) (both (payload_charge p) c)
  other_step m mid z n p rest c other same h =
      let kept : others_of (field n p rest) ≡ field n p (others_of rest) =
      ap (λ (b : Bool). if b then others_of rest else field n p (others_of rest)) other in
      record {
        unknown = h.unknown ∙ ap (λ (fs : Fields). joined fs (others_of rest)) same
            ∙ push_joined m.unknown n p (others_of rest)
            ∙ ap (joined m.unknown) (sym kept);
        charged = ap (both (payload_charge p)) h.charged ∙ ap charge (sym kept);
        depth = omega (
          arith,
          h.depth,
          ap (λ (fs : Fields). (charge fs).depth) kept,
        );
      }

  one_step : (m mid z : PersonValue) (n : ℕ) (p : Payload) (rest : Fields) (first c : Charge)
      → PersonTakes m n p first mid → KeepsOthers mid z rest c
      → KeepsOthers m z (field n p rest) (both first c)
  one_step m mid z n p rest first c (id v is made charged value) h =
      rw charged (known_step m mid z n p rest c (ap is_known_number is) (int32_flat p v made)
      (ap (λ (x : PersonValue). x.unknown) value) h)
  one_step m mid z n p rest first c (name text is made charged value) h =
      rw charged (known_step m mid z n p rest c (ap is_known_number is) (text_flat p text made)
      (ap (λ (x : PersonValue). x.unknown) value) h)
  one_step m mid z n p rest first c (scores after is made charged value) h =
      rw charged (known_step m mid z n p rest c (ap is_known_number is)
      (append_flat m.scores after p made) (ap (λ (x : PersonValue). x.unknown) value) h)
  one_step m mid z n p rest first c (unknown one two three charged value) h =
      rw charged (other_step m mid z n p rest c (not_known n one two three)
      (ap (λ (x : PersonValue). x.unknown) value) h)

  pub keeps_others : (m z : PersonValue) (fs : Fields) (c : Charge)
      → Folds PersonTakes m fs c z → KeepsOthers m z fs c
  keeps_others m z none c (charged, value) = record {
    unknown = ap (λ (x : PersonValue). x.unknown) value ∙ sym (joined-none m.unknown);
    charged = charged;
    depth = omega arith;
  }
  keeps_others m z (field n p rest) c (mid, first, more, step, others, sum) =
      rw sum (one_step m mid z n p rest first more step (keeps_others mid z rest more others))
