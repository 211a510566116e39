-- The bytes of items and of payloads, and where they are.
use Rattle.std.proofs.Common.{◌≡◌, ℕ, ◌+◌, ◌-◌, ◌≤◌, List, [], ◌++◌, length, take, drop, refl, sym, ap, ◌∙◌, subst, append_assoc, append-nil, arith, length-append}
use Rattle.std.proofs.lemmas.List.{drop_at, take_at}
use Rattle.wire_base.specs.Field.{none, field, bytes}
use Rattle.wire_base.specs.Items.{Item, start, end, whole, IsItem}
use Rattle.wire_base.specs.Read.{Reads}
use Rattle.wire_base.specs.Spells.{Spells, SpellsPayload}
use Rattle.wire_read.specs.declared.event.Event.{Event}
use Rattle.wire_read.specs.Reading.{At, Gives, Moves, item, place_of}

-- an item that was taken stood at the front
pub item_stands : (i : Item) (s t : At) (behind : List ℕ) → Moves i s behind t
    → Reads s.rest (IsItem i) t.rest
item_stands (start n) s t behind (opens, is, groups, limits) =
    record { text = opens.tag.text; parts = opens.tag.parts; spelled = opens.tag.spelled }
item_stands (end n) s t behind (tag, is, groups, limits) =
    record { text = tag.text; parts = tag.parts; spelled = tag.spelled }
item_stands (whole n p) s t behind (tag, taken, flat, groups, left) =
    let payload = taken.read in
    let stands : Reads payload.text (SpellsPayload n p) [] =
    record {
      text = payload.text;
      parts = sym (append-nil payload.text);
      spelled = payload.spelled.spelled;
    } in
    record {
      text = tag.text ++ payload.text;
      parts = tag.parts ∙ ap (λ (x : List ℕ). tag.text ++ x) payload.parts
          ∙ sym (append_assoc tag.text payload.text t.rest);
      spelled = (
        flat,
        (
          payload.text,
          [],
          record { text = tag.text; parts = refl; spelled = tag.spelled },
          stands,
          refl,
        ),
      );
    }

-- the payload is the last of a record
pub payload_last : (n : ℕ) (b text : List ℕ) → Spells (field n (bytes b) none) text
    → (head : List ℕ) × (text ≡ head ++ b)
payload_last n b text (behind, rest, tag, payload, ended) =
    let inner = payload.spelled in
    let all_of_it : behind ≡ inner.text ++ b =
    payload.parts ∙ ap (λ (x : List ℕ). payload.text ++ x) ended ∙ append-nil payload.text
    ∙ inner.parts in (
      tag.text ++ inner.text,
      tag.parts ∙ ap (λ (x : List ℕ). tag.text ++ x) all_of_it
          ∙ sym (append_assoc tag.text inner.text b),
    )

-- ---- places

pub place_is : (all front rest : List ℕ) → all ≡ front ++ rest → place_of all rest ≡ length front
place_is all front rest e = omega (arith, ap length e ∙ length-append front rest)

pub place_behind : (all front text rest : List ℕ) → all ≡ front ++ (text ++ rest)
    → place_of all rest ≡ length front + length text
place_behind all front text rest e =
    place_is all (front ++ text) rest (e ∙ sym (append_assoc front text rest))
    ∙ length-append front text

-- the bytes of an event
abbrev pub event_text : Event → List ℕ → List ℕ
event_text e all = take (e.end - e.start) (drop e.start all)

-- the bytes of an event behind a front, where it begins, and that it ends with the bytes or before
pub record IsCutOut (e : Event) (all front : List ℕ) (s t : At) : Type 0 where
  pub parts : s.rest ≡ event_text e all ++ t.rest
  pub is : IsItem (item e.number e.value) (event_text e all)
  pub start : e.start ≡ length front
  pub within : e.start + length (event_text e all) ≤ length all

pub cut_out : (e : Event) (all front : List ℕ) (s t : At) → all ≡ front ++ s.rest
    → Gives e all s t → IsCutOut e all front s t
cut_out e all front s t parts given =
    let i = item e.number e.value in
    let stands = item_stands i s t given.behind given.moves in
    let text = stands.text in
    let all_parts : all ≡ front ++ (text ++ t.rest) =
    parts ∙ ap (λ (x : List ℕ). front ++ x) stands.parts in
    let start : e.start ≡ length front = given.start ∙ place_is all front s.rest parts in
    let end_is : e.end ≡ length front + length text =
    given.end ∙ place_behind all front text t.rest all_parts in
    let width : length text ≡ e.end - e.start = omega (arith, start, end_is) in
    let behind : drop e.start all ≡ text ++ t.rest =
    ap (λ (x : List ℕ). drop e.start x) all_parts
    ∙ drop_at front (text ++ t.rest) e.start (sym start) in
    let is_text : event_text e all ≡ text =
    ap (λ (x : List ℕ). take (e.end - e.start) x) behind
    ∙ take_at text t.rest (e.end - e.start) width in
    record {
      parts = stands.parts ∙ ap (λ (x : List ℕ). x ++ t.rest) (sym is_text);
      is = subst (λ (x : List ℕ). IsItem i x) (sym is_text) stands.spelled;
      start = start;
      within = omega (
        arith,
        start,
        ap length is_text,
        ap length all_parts ∙ length-append front (text ++ t.rest),
        length-append text t.rest,
      );
    }
