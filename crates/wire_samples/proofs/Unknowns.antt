-- Going over the records of a person's text, one by one.
use Rattle.std.proofs.Common.{◌≡◌, ◌≢◌, ℕ, ◌-◌, ◌^◌, ◌<◌, ◌≤◌, max, Bool, true, false, if◌then◌else◌, List, [], ◌∷◌, ◌++◌, length, take, refl, sym, ap, ◌∙◌, subst, arith, append_assoc}
use Rattle.std.proofs.lemmas.List.{append-nil, length-append, take_at}
use Rattle.wire_codec.specs.DecodeError.{DecodeError}
use Rattle.wire_codec.specs.Charge.{payload_charge, charge}
use Rattle.wire_codec.specs.Fault.{PayloadFault}
use Rattle.wire_codec.specs.FaultLaws.{NoPayloadBesideFault}
use Rattle.wire_codec.specs.Field.{Payload, Fields, none, field, type_of, joined, push}
use Rattle.wire_codec.specs.Limits.{Limits, Charge, Fits, HaveRoom, both, left_after, uncounted}
use Rattle.wire_codec.specs.Read.{Reads}
use Rattle.wire_codec.specs.RecordLaws.{JoinedAddsUp, JoinedTextsSpell}
use Rattle.wire_codec.specs.Spans.{SpellEach}
use Rattle.wire_codec.specs.Spells.{SpellsPayload, Spells, IsPayload}
use Rattle.wire_codec.specs.Tag.{IsTagSpelling, TagFault}
use Rattle.wire_codec.specs.Taken.{TakesPayload}
use Rattle.wire_codec.specs.TakingLaws.{RecordsInOrder}
use Rattle.wire_codec.specs.Varint.{IsEnded}
use Rattle.wire_codec.specs.WireType.{WireType}
use Rattle.wire_samples.proofs.Others.{others-joined, others_depth, others_known, others_other, others_push, others_spell, others_each}
use Rattle.wire_samples.specs.PersonUnknowns.{is_known_number, others_of, OthersAre, HasOthers}

-- ---- one record at the front

-- a tag is some bytes
no_tag_of_nothing : (n : ℕ) (w : WireType) (old new : List ℕ) → Reads old (IsTagSpelling n w) new
    → old ≢ []
no_tag_of_nothing n w old new h empty = some h.text h.spelled.varint.ended (sym h.parts ∙ empty)
  where
    some : (text : List ℕ) → IsEnded text → text ++ new ≡ [] → ⊥
    some [] ended e = ended
    some (b ∷ text) ended e = cc

-- the text of a record
pub record Record (n : ℕ) (p : Payload) (old new : List ℕ) : Type 0 where
  pub text : List ℕ
  pub parts : old ≡ text ++ new
  pub spelled : Spells (field n p none) text

pub record_at : (n : ℕ) (w : WireType) (p : Payload) (old behind new : List ℕ)
    → Reads old (IsTagSpelling n w) behind → Reads behind (IsPayload n w p) new
    → Record n p old new
record_at n w p old behind new tag payload = record {
  text = tag.text ++ payload.text;
  parts = tag.parts ∙ ap (λ (t : List ℕ). tag.text ++ t) payload.parts
      ∙ sym (append_assoc tag.text payload.text new);
  spelled = (
    payload.text,
    [],
    record {
      text = tag.text;
      parts = refl;
      spelled = subst (λ x. IsTagSpelling n x tag.text) (sym payload.spelled.kind) tag.spelled;
    },
    record {
      text = payload.text;
      parts = sym (append-nil payload.text);
      spelled = payload.spelled.spelled;
    },
    refl,
  );
}

-- the bytes of a record, by their number
pub record_bytes : (old text new : List ℕ) → old ≡ text ++ new
    → take (length old - length new) old ≡ text
record_bytes old text new parts =
    ap (take (length old - length new)) parts
    ∙ take_at text new (length old - length new)
    (omega (arith, ap length parts, length-append text new))

module _ (laws : RecordsInOrder) where
  -- records behind a tag and its payload begin with that record
  first_is : (n : ℕ) (w : WireType) (p : Payload) (old behind new : List ℕ) (fs : Fields)
      → Reads old (IsTagSpelling n w) behind → Reads behind (IsPayload n w p) new
      → Spells fs old → (more : Fields) × (fs ≡ field n p more) × Spells more new
  first_is n w p old behind new none tag payload empty =
      absurd (no_tag_of_nothing n w old behind tag empty)
  first_is n w p old behind new (field m q more) tag payload (after, rest, first, other, others) =
      let same = laws.reading.tag old behind after n m w (type_of q) tag first in
      let read : Reads behind (IsPayload n w q) rest = record {
        text = other.text;
        parts = same.2 ∙ other.parts;
        spelled = record {
          kind = sym same.1;
          spelled = subst (λ k. SpellsPayload k q other.text) (sym same.0) other.spelled;
        };
      } in
      let one = laws.reading.payload n w p q behind new rest payload read in (
        more,
        ap (λ k. field k q more) (sym same.0) ∙ ap (λ x. field n x more) (sym one.0),
        subst (Spells more) (sym one.1) others,
      )

-- ---- the records so far

-- records up to rest, the spans of those that are not known, and what these leave of the limits;
-- all records of the bytes begin with them
pub record Passed (l : Limits) (bytes rest : List ℕ) (spans : List (List ℕ)) (now : Limits)
    : Type 0 where
  pub fs : Fields
  pub text : List ℕ
  pub parts : bytes ≡ text ++ rest
  pub others : OthersAre fs spans text
  pub depth : (charge fs).depth ≤ l.depth
  pub fits : Fits (charge (others_of fs)) l
  pub left : now ≡ left_after l (charge (others_of fs))
  pub only : (gs : Fields) → Spells gs bytes
      → (more : Fields) × (gs ≡ joined fs more) × Spells more rest

module _ (laws : RecordsInOrder) (adds : JoinedAddsUp) where
  pub passed_none : (l : Limits) (bytes : List ℕ) → Passed l bytes bytes [] l
  passed_none l bytes = record {
    fs = none;
    text = [];
    parts = refl;
    others = (refl, refl);
    depth = omega arith;
    fits = laws.limits.nothing_fits l;
    left = sym (laws.limits.left_after_nothing l);
    only = λ gs h. (gs, refl, h);
  }

  charge_push : (fs : Fields) (n : ℕ) (p : Payload)
      → charge (push fs n p) ≡ both (charge fs) (payload_charge p)
  charge_push fs n p = (adds fs (field n p none)).2
      ∙ ap (both (charge fs)) (laws.charges.nothing_last (payload_charge p))

  joined_push : (fs : Fields) (n : ℕ) (p : Payload) (more : Fields)
      → joined fs (field n p more) ≡ joined (push fs n p) more
  joined_push none n p more = refl
  joined_push (field m q fs) n p more = ap (field m q) (joined_push fs n p more)

  -- ---- one record more

  module _ (l now : Limits) (bytes mid behind new : List ℕ) (spans : List (List ℕ))
      (h : Passed l bytes mid spans now) (n : ℕ) (w : WireType) (p : Payload)
      (tag : Reads mid (IsTagSpelling n w) behind) (levels : ℕ) (level : levels ≡ now.depth)
      (given : TakesPayload (payload_charge p) (uncounted levels) n w p behind new) where
    payload : TakesPayload (payload_charge p) (uncounted l.depth) n w p behind new
    payload = subst (λ k. TakesPayload (payload_charge p) (uncounted k) n w p behind new)
        (level ∙ ap (λ (m : Limits). m.depth) h.left) given

    own : Record n p mid new
    own = record_at n w p mid behind new tag payload.read

    push_depth : (charge (push h.fs n p)).depth ≤ l.depth
    push_depth = omega (
      arith,
      ap (λ (c : Charge). c.depth) (charge_push h.fs n p),
      h.depth,
      payload.fits.depth,
    )

    push_only : (gs : Fields) → Spells gs bytes
        → (more : Fields) × (gs ≡ joined (push h.fs n p) more) × Spells more new
    push_only gs spelled =
        let (more, parts, rest) = h.only gs spelled in
        let (others, first, behind_it) =
        first_is laws n w p mid behind new more tag payload.read rest in (
          others,
          parts ∙ ap (joined h.fs) first ∙ joined_push h.fs n p others,
          behind_it,
        )

    text_parts : bytes ≡ (h.text ++ own.text) ++ new
    text_parts = h.parts ∙ ap (λ (t : List ℕ). h.text ++ t) own.parts
        ∙ sym (append_assoc h.text own.text new)

    -- a record that is known
    pub passed_known : is_known_number n ≡ true → Passed l bytes new spans now
    passed_known known =
        let same = others_known h.fs n p known in
        let none_more : spans ++ (if is_known_number n then [] else own.text ∷ []) ≡ spans =
        ap (λ (b : Bool). spans ++ (if b then [] else own.text ∷ [])) known ∙ append-nil spans in
        record {
          fs = push h.fs n p;
          text = h.text ++ own.text;
          parts = text_parts;
          others = subst (λ s. OthersAre (push h.fs n p) s (h.text ++ own.text)) none_more
              (others_push h.fs n p spans h.text own.text h.others own.spelled);
          depth = push_depth;
          fits = subst (λ fs. Fits (charge fs) l) (sym same) h.fits;
          left = h.left ∙ ap (λ (fs : Fields). left_after l (charge fs)) (sym same);
          only = push_only;
        }

    -- a record that is not, whose span is pushed
    pub passed_other : (after : Limits) (more : List (List ℕ)) → is_known_number n ≡ false
        → more ≡ spans ++ take (length mid - length new) mid ∷ []
        → HaveRoom now.counts (charge (field n p none)).counts
        → after ≡ left_after now (charge (field n p none)) → Passed l bytes new more after
    passed_other after more other pushed room left =
        let same = others_other h.fs n p other in
        let one : charge (field n p none) ≡ payload_charge p =
        laws.charges.nothing_last (payload_charge p) in
        let all : charge (others_of (push h.fs n p))
        ≡ both (charge (others_of h.fs)) (payload_charge p) =
        ap charge same ∙ charge_push (others_of h.fs) n p in
        let fits : Fits (payload_charge p) (left_after l (charge (others_of h.fs))) = record {
          depth = payload.fits.depth;
          counts = subst (λ (m : Limits). HaveRoom m.counts (payload_charge p).counts) h.left
              (subst (λ (c : Charge). HaveRoom now.counts c.counts) one room);
        } in
        let last : spans ++ (if is_known_number n then [] else own.text ∷ []) ≡ more =
        ap (λ (b : Bool). spans ++ (if b then [] else own.text ∷ [])) other
        ∙ ap (λ (t : List ℕ). spans ++ t ∷ []) (sym (record_bytes mid own.text new own.parts))
        ∙ sym pushed in
        record {
          fs = push h.fs n p;
          text = h.text ++ own.text;
          parts = text_parts;
          others = subst (λ s. OthersAre (push h.fs n p) s (h.text ++ own.text)) last
              (others_push h.fs n p spans h.text own.text h.others own.spelled);
          depth = push_depth;
          fits = subst (λ c. Fits c l) (sym all)
              ((laws.limits.both_fit l (charge (others_of h.fs)) (payload_charge p)).1
              (h.fits, fits));
          left = left
              ∙ ap (left_after now) one
              ∙ ap (λ (m : Limits). left_after m (payload_charge p)) h.left
              ∙ laws.limits.left_after_both l (charge (others_of h.fs)) (payload_charge p)
              ∙ ap (left_after l) (sym all);
          only = push_only;
        }

    -- the span of a record spells it
    pub span_spells : Spells (field n p none) (take (length mid - length new) mid)
    span_spells = subst (Spells (field n p none))
        (sym (record_bytes mid own.text new own.parts)) own.spelled

    pub span_shallow : levels < 2 ^ 32 → (charge (field n p none)).depth < 2 ^ 32
    span_shallow few = omega (
      arith,
      few,
      ap (λ (c : Charge). c.depth) (laws.charges.nothing_last (payload_charge p)),
      given.fits.depth,
    )

    -- there is room for it, where the bytes spell records for which there is room
    pub slots_there : is_known_number n ≡ false → (gs : Fields) → HasOthers l bytes gs
        → HaveRoom now.counts (charge (field n p none)).counts
    slots_there other gs has =
        let (more, parts, rest) = push_only gs has.spelled in
        let a = charge (others_of h.fs) in
        let b = charge (others_of more) in
        let all : charge (others_of gs) ≡ both (both a (payload_charge p)) b =
        ap (λ (fs : Fields). charge (others_of fs)) parts
        ∙ ap charge (others-joined (push h.fs n p) more)
        ∙ (adds (others_of (push h.fs n p)) (others_of more)).2
        ∙ ap (λ (fs : Fields). both (charge fs) b) (others_other h.fs n p other)
        ∙ ap (λ (c : Charge). both c b) (charge_push (others_of h.fs) n p) in
        let whole : Fits (charge (others_of gs)) l = record {
          depth = omega (arith, others_depth gs, has.depth);
          counts = has.slots;
        } in
        let front = ((laws.limits.both_fit l (both a (payload_charge p)) b).0
        (subst (λ c. Fits c l) all whole)).0 in
        let fits = ((laws.limits.both_fit l a (payload_charge p)).0 front).1 in
        subst (λ (m : Limits). HaveRoom m.counts (charge (field n p none)).counts) (sym h.left)
        (subst (λ (c : Charge). HaveRoom (left_after l a).counts c.counts)
        (sym (laws.charges.nothing_last (payload_charge p))) fits.counts)

  -- ---- where no record stands

  pub no_tag_here : (l now : Limits) (bytes mid : List ℕ) (spans : List (List ℕ))
      → Passed l bytes mid spans now → mid ≢ [] → (e : DecodeError) → TagFault mid e
      → (gs : Fields) → HasOthers l bytes gs → ⊥
  no_tag_here l now bytes mid spans h some e fault gs has =
      let (more, parts, rest) = h.only gs has.spelled in at more rest
    where
      at : (more : Fields) → Spells more mid → ⊥
      at none empty = some empty
      at (field m q others) (behind, rest, tag, inside, behind_it) =
          laws.tag_fault mid behind m (type_of q) e tag fault

  pub no_payload_here : NoPayloadBesideFault → (l now : Limits) (bytes mid behind : List ℕ)
      (spans : List (List ℕ)) → Passed l bytes mid spans now → (n : ℕ) (w : WireType)
      → Reads mid (IsTagSpelling n w) behind → (levels : ℕ) → levels ≡ now.depth
      → (e : DecodeError) → PayloadFault (uncounted levels) n w behind e
      → (gs : Fields) → HasOthers l bytes gs → ⊥
  no_payload_here beside l now bytes mid behind spans h n w tag levels level e fault gs has =
      let (more, parts, rest) = h.only gs has.spelled in at more parts rest
    where
      at : (more : Fields) → gs ≡ joined h.fs more → Spells more mid → ⊥
      at none parts empty = no_tag_of_nothing n w mid behind tag empty
      at (field m q others) parts (after, rest, first, payload, behind_it) =
          let same = laws.reading.tag mid behind after n m w (type_of q) tag first in
          let all : (charge gs).depth
          ≡ max (charge h.fs).depth (max (payload_charge q).depth (charge others).depth) =
          ap (λ (fs : Fields). (charge fs).depth) parts
          ∙ ap (λ (c : Charge). c.depth) (adds h.fs (field m q others)).2 in
          beside (uncounted levels) n w behind rest e q fault (record {
            read = record {
              text = payload.text;
              parts = same.2 ∙ payload.parts;
              spelled = record {
                kind = sym same.1;
                spelled = subst (λ k. SpellsPayload k q payload.text) (sym same.0) payload.spelled;
              };
            };
            fits = record {
              depth = omega (
                arith,
                all,
                has.depth,
                level ∙ ap (λ (m : Limits). m.depth) h.left,
              );
              counts = record { unknown_fields = tt; element_memory = tt; unknown_bytes = tt };
            };
          })

-- ---- the whole text

pub nothing_left : (rest : List ℕ) → length rest ≡ 0 → rest ≡ []
nothing_left [] e = refl
nothing_left (b ∷ rest) e = absurd (omega (arith, e))

module _ (laws : RecordsInOrder) (join : JoinedTextsSpell) where
  all_spelled : (l now : Limits) (bytes rest : List ℕ) (spans : List (List ℕ))
      (h : Passed l bytes rest spans now) → rest ≡ [] → Spells h.fs bytes
  all_spelled l now bytes rest spans h none_left =
      subst (Spells h.fs)
      (sym (h.parts ∙ ap (λ (t : List ℕ). h.text ++ t) none_left ∙ append-nil h.text))
      (others_spell join h.fs spans h.text h.others)

  pub all_passed : (l now : Limits) (bytes rest : List ℕ) (spans : List (List ℕ))
      → Passed l bytes rest spans now → rest ≡ []
      → (fs : Fields) × HasOthers l bytes fs × OthersAre fs spans bytes
      × (now ≡ left_after l (charge (others_of fs)))
  all_passed l now bytes rest spans h none_left = (
    h.fs,
    record {
      spelled = all_spelled l now bytes rest spans h none_left;
      depth = h.depth;
      slots = h.fits.counts;
    },
    subst (OthersAre h.fs spans)
        (sym (h.parts ∙ ap (λ (t : List ℕ). h.text ++ t) none_left ∙ append-nil h.text)) h.others,
    h.left,
  )

  pub each_passed : (l now : Limits) (bytes rest : List ℕ) (spans : List (List ℕ))
      → Passed l bytes rest spans now → rest ≡ []
      → (fs : Fields) → Spells fs bytes → SpellEach spans (others_of fs)
  each_passed l now bytes rest spans h none_left fs spelled =
      subst (λ gs. SpellEach spans (others_of gs))
      (laws.reading.records h.fs fs bytes (all_spelled l now bytes rest spans h none_left) spelled)
      (others_each h.fs spans h.text h.others)
