-- The members of an object so far.
use Rattle.std.proofs.Common.{◌≡◌, ℕ, ◌≤◌, false, List, [], ◌∷◌, ◌++◌, drop, refl, sym, subst, ◌∙◌, append_assoc, append-nil, arith}
use Rattle.wire_json.specs.declared.container.Next.{Next}
use Rattle.wire_json.specs.declared.container.Next.TheVariants.{Item, End}
use Rattle.wire_json.specs.declared.fault.FaultKind.{FaultKind}
use Rattle.wire_json.specs.declared.fault.FaultKind.TheVariants.{Syntax}
use Rattle.wire_json.specs.Bytes.{begins, is_byte, past_space}
use Rattle.wire_json.specs.Container.{FirstItem, NextItem, NoNext, separator}
use Rattle.wire_json.specs.Fault.{MemberFault, MembersFault, MoreMembersFault, first_member, past_member, next_member, past_next_member, no_comma_or_brace}
use Rattle.wire_json.specs.Json.{Json, depth, Members, no_member, member, members_depth}
use Rattle.wire_json.specs.Reading.{ReadsValue, ReadsMembers, ReadsMoreMembers}
use Rattle.wire_json.specs.Text.{ReadsName}
use Rattle.wire_json.specs.Written.{written, written_name, written_members, written_more_members}

-- the members from the start on, up to new, with their compact text
pub record Whole (l : ℕ) (start new text : List ℕ) : Type 0 where
  pub members : Members
  pub reads : ReadsMembers members start new
  pub fits : members_depth members ≤ l
  pub written_is : written_members members ≡ text

-- a member is read
pub record ReadsMember (l : ℕ) (name : List ℕ) (e : Json) (item rest : List ℕ) : Type 0 where
  pub value : List ℕ
  pub named : ReadsName name item value
  pub reads : ReadsValue e value rest
  pub fits : depth e ≤ l

-- the compact text of a member and of what follows it
abbrev pub member_text : List ℕ → Json → List ℕ → List ℕ
member_text name e more = written_name name ++ (written e ++ more)

-- Members with this compact text were read from the start on, and a member stands at the item: it
-- and what follows it make all, and a fault of it or behind it is one of all.
pub record AtMember (l : ℕ) (start item text : List ℕ) : Type 0 where
  pub read : (name : List ℕ) (e : Json) (ms : Members) (rest new : List ℕ)
      → ReadsMember l name e item rest → ReadsMoreMembers ms rest new → members_depth ms ≤ l
      → Whole l start new (text ++ member_text name e (written_more_members ms))
  pub fault : (k : FaultKind) (left : List ℕ) → MemberFault l item k left
      → MembersFault l start k left
  pub past : (name : List ℕ) (e : Json) (rest : List ℕ) → ReadsMember l name e item rest
      → (k : FaultKind) (left : List ℕ) → MoreMembersFault l rest k left
      → MembersFault l start k left

-- the same behind a member
pub record BehindMember (l : ℕ) (start rest text : List ℕ) : Type 0 where
  pub read : (ms : Members) (new : List ℕ) → ReadsMoreMembers ms rest new → members_depth ms ≤ l
      → Whole l start new (text ++ written_more_members ms)
  pub fault : (k : FaultKind) (left : List ℕ) → MoreMembersFault l rest k left
      → MembersFault l start k left

pub at_first : (l : ℕ) (start : List ℕ) → begins (is_byte 125) (past_space start) ≡ false
    → AtMember l start (past_space start) []
at_first l start other = record {
  read = λ name e ms rest new h more fit.
      let deep = h.fits in
      record {
        members = member name e ms;
        reads = (h.value, rest, h.named, h.reads, more);
        fits = omega arith;
        written_is = refl;
      };
  fault = λ k left h. first_member other h;
  past = λ name e rest h k left f. past_member name h.value e rest h.named h.reads h.fits f;
}

regroup : (text name : List ℕ) (e : Json) (more : List ℕ)
    → text ++ member_text name e more ≡ ((text ++ written_name name) ++ written e) ++ more
regroup text name e more =
    sym (append_assoc (text ++ written_name name) (written e) more
    ∙ append_assoc text (written_name name) (written e ++ more))

pub behind_one : (l : ℕ) (start item text name : List ℕ) (e : Json) (rest : List ℕ)
    → AtMember l start item text → ReadsMember l name e item rest
    → BehindMember l start rest ((text ++ written_name name) ++ written e)
behind_one l start item text name e rest s h = record {
  read = λ ms new more fit.
      let all = s.read name e ms rest new h more fit in
      record {
        members = all.members;
        reads = all.reads;
        fits = all.fits;
        written_is = all.written_is ∙ regroup text name e (written_more_members ms);
      };
  fault = λ k left f. s.past name e rest h k left f;
}

pub at_next : (l : ℕ) (start rest text next : List ℕ) → BehindMember l start rest text
    → past_space rest ≡ 44 ∷ next → AtMember l start (past_space next) (text ++ 44 ∷ [])
at_next l start rest text next s comma = record {
  read = λ name e ms behind new h more fit.
      let deep = h.fits in
      let all = s.read (member name e ms) new
      (next, h.value, behind, comma, h.named, h.reads, more) (omega arith) in
      record {
        members = all.members;
        reads = all.reads;
        fits = all.fits;
        written_is = all.written_is
            ∙ sym (append_assoc text (44 ∷ []) (member_text name e (written_more_members ms)));
      };
  fault = λ k left h. s.fault k left (next_member next comma h);
  past = λ name e behind h k left f.
      s.fault k left
      (past_next_member next name h.value e behind comma h.named h.reads h.fits f);
}

pub none_at_all : (l : ℕ) (start new : List ℕ) → past_space start ≡ 125 ∷ new
    → Whole l start new (125 ∷ [])
none_at_all l start new close = record {
  members = no_member;
  reads = close;
  fits = omega arith;
  written_is = refl;
}

pub no_more : (l : ℕ) (start rest text new : List ℕ) → BehindMember l start rest text
    → past_space rest ≡ 125 ∷ new → Whole l start new (text ++ 125 ∷ [])
no_more l start rest text new s close = s.read no_member new close (omega arith)

-- ---- places of a text

-- what was read where an object goes on so
abbrev pub State : ℕ → List ℕ → List ℕ → Next → List ℕ → Type 0
State l text start (Item place) written_text = AtMember l start (drop place text) written_text
State l text start (End after) written_text =
    Whole l start (drop after text) (written_text ++ 125 ∷ [])

pub opened : (l : ℕ) (text start : List ℕ) (next : Next) → FirstItem 125 text start next
    → State l text start next []
opened l text start (Item place) (here, other) =
    let P : List ℕ → Type 0 = λ item. AtMember l start item [] in
    subst P (sym here) (at_first l start other)
opened l text start (End after) close = none_at_all l start (drop after text) close

-- what is written with a member more
abbrev pub with_member : List ℕ → List ℕ → Json → List ℕ
with_member written_text name e = (written_text ++ written_name name) ++ written e

module _ (l : ℕ) (text start written_text : List ℕ) (place after : ℕ) (name : List ℕ) (e : Json)
    (s : AtMember l start (drop place text) written_text)
    (reads : ReadsMember l name e (drop place text) (drop after text)) where
  behind : BehindMember l start (drop after text) (with_member written_text name e)
  behind = behind_one l start (drop place text) written_text name e (drop after text) s reads

  pub goes_on : (next : Next) → NextItem 125 text (drop after text) next
      → State l text start next (with_member written_text name e ++ separator next)
  goes_on (Item next_place) (next, comma, here) =
      let P : List ℕ → Type 0 = λ item.
      AtMember l start item (with_member written_text name e ++ 44 ∷ []) in
      subst P (sym here)
      (at_next l start (drop after text) (with_member written_text name e) next behind comma)
  goes_on (End end) close =
      let P : List ℕ → Type 0 = λ t. Whole l start (drop end text) (t ++ 125 ∷ []) in
      subst P (sym (append-nil (with_member written_text name e)))
      (no_more l start (drop after text) (with_member written_text name e) (drop end text) behind
      close)

  pub stops : (k : FaultKind) (left : List ℕ) → NoNext 125 (drop after text) k left
      → MembersFault l start k left
  stops k left h =
      let P : FaultKind → List ℕ → Type 0 = λ x here. MoreMembersFault l (drop after text) x here in
      behind.fault k left
      (subst (λ (x : FaultKind). P x left) (sym h.kind)
      (subst (λ (here : List ℕ). P Syntax here) (sym h.place)
      (no_comma_or_brace h.no_comma h.no_close)))
