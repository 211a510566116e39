-- The members of an object so far.
use Rattle.std.proofs.Common.{◌≡◌, ℕ, ◌≤◌, List, [], ◌∷◌, ◌++◌, drop, refl, sym, subst, arith}
use Rattle.std.specs.Cow.{cow_str_bytes}
use Rattle.wire_json.specs.declared.container.Next.{Next}
use Rattle.wire_json.specs.declared.container.Next.TheVariants.{Item, End}
use Rattle.wire_json.specs.declared.fault.FaultKind.{FaultKind}
use Rattle.wire_json.specs.declared.fault.JsonError.{JsonError}
use Rattle.wire_json.specs.declared.fault.JsonError.TheVariants as faults
use Rattle.wire_json.specs.Answer.{FaultAt, IfRefused}
use Rattle.wire_json.specs.Bytes.{past_space}
use Rattle.wire_json.specs.Container.{FirstItem, NextItem}
use Rattle.wire_json.specs.Fault.{MembersFault}
use Rattle.wire_json.specs.Json.{Json, Members, no_member, member, depth, members_depth}
use Rattle.wire_json.specs.Reading.{ReadsValue, ReadsMembers, ReadsMoreMembers}
use Rattle.wire_json.specs.Text.{ReadsName}
use Rattle.wire_jsonfields.specs.declared.object.PlacedMember.{PlacedMember}
use Rattle.wire_protojson.specs.declared.refusal.Reason.{Reason}
use Rattle.wire_protojson.specs.declared.refusal.Reason.TheVariants.{NoJson}
use Rattle.wire_jsonfields.specs.Messages.{members_joined}
use Rattle.wire_jsonfields.specs.Objects.{ArePlaced, NoMembersHere, broken_members}
use Rattle.wire_protojson.specs.Reads.{RefusedAt, UnlessNoMemory, of_json_error}

-- a member at the end
abbrev pub with_member : Members → List ℕ → Json → Members
with_member ms name e = members_joined ms (member name e no_member)

joined_with : (ms : Members) (name : List ℕ) (e : Json) (others : Members)
    → members_joined (with_member ms name e) others ≡ members_joined ms (member name e others)
joined_with no_member name e others = refl
joined_with (member n j ms) name e others = rw (joined_with ms name e others) refl

joined_none : (ms : Members) → members_joined ms no_member ≡ ms
joined_none no_member = refl
joined_none (member n j ms) = rw (joined_none ms) refl

joined_depth : (l : ℕ) (ms others : Members) → members_depth ms ≤ l → members_depth others ≤ l
    → members_depth (members_joined ms others) ≤ l
joined_depth l no_member others h k = k
joined_depth l (member n j ms) others h k =
    let more = joined_depth l ms others (omega (arith, h)) k in
    omega (arith, h, more)

-- Members were read from the start on, and one stands at the item: it and what follows it make all.
pub record AtOne (start item : List ℕ) (so : Members) : Type 0 where
  pub whole : (name : List ℕ) (e : Json) (ms : Members) (value rest new : List ℕ)
      → ReadsName name item value → ReadsValue e value rest → ReadsMoreMembers ms rest new
      → ReadsMembers (members_joined so (member name e ms)) start new

-- the same behind a member
pub record BehindOne (start rest : List ℕ) (so : Members) : Type 0 where
  pub whole : (ms : Members) (new : List ℕ) → ReadsMoreMembers ms rest new
      → ReadsMembers (members_joined so ms) start new

at_first : (start : List ℕ) → AtOne start (past_space start) no_member
at_first start = record {
  whole = λ name e ms value rest new named reads more. (value, rest, named, reads, more);
}

behind_one : (start item : List ℕ) (so : Members) (name : List ℕ) (e : Json) (value rest : List ℕ)
    → AtOne start item so → ReadsName name item value → ReadsValue e value rest
    → BehindOne start rest (with_member so name e)
behind_one start item so name e value rest s named reads = record {
  whole = λ ms new more.
      let P : Members → Type 0 = λ all. ReadsMembers all start new in
      subst P (sym (joined_with so name e ms)) (s.whole name e ms value rest new named reads more);
}

at_next : (start rest : List ℕ) (so : Members) (next : List ℕ) → BehindOne start rest so
    → past_space rest ≡ 44 ∷ next → AtOne start (past_space next) so
at_next start rest so next s comma = record {
  whole = λ name e ms value behind new named reads more.
      s.whole (member name e ms) new (next, value, behind, comma, named, reads, more);
}

-- ---- places of a text

-- what was read where an object goes on so
abbrev pub Gathered : ℕ → List ℕ → List ℕ → Next → List PlacedMember → Members → Type 0
Gathered l text start (Item place) entries so =
    AtOne start (drop place text) so × (members_depth so ≤ l) × ArePlaced text entries so
Gathered l text start (End after) entries so =
    ReadsMembers so start (drop after text) × (members_depth so ≤ l) × ArePlaced text entries so

pub opened : (l : ℕ) (text start : List ℕ) (next : Next) → FirstItem 125 text start next
    → Gathered l text start next [] no_member
opened l text start (Item place) (here, other) =
    let P : List ℕ → Type 0 = λ item. AtOne start item no_member in
    (subst P (sym here) (at_first start), omega arith, tt)
opened l text start (End after) close = (close, omega arith, tt)

pushed : (text : List ℕ) (entries : List PlacedMember) (so : Members) (entry : PlacedMember) (name : List ℕ)
    (e : Json) (rest : List ℕ) → ArePlaced text entries so → cow_str_bytes entry.name ≡ name
    → ReadsValue e (drop entry.place text) rest
    → ArePlaced text (entries ++ entry ∷ []) (with_member so name e)
pushed text [] no_member entry name e rest h is reads = (is, (rest, reads), tt)
pushed text [] (member n j ms) entry name e rest h is reads = absurd h
pushed text (x ∷ xs) no_member entry name e rest h is reads = absurd h
pushed text (x ∷ xs) (member n j ms) entry name e rest (same, value, more) is reads =
    (same, value, pushed text xs ms entry name e rest more is reads)

module _ (l : ℕ) (text start : List ℕ) (entries : List PlacedMember) (so : Members) (place after : ℕ)
    (entry : PlacedMember) (e : Json)
    (s : Gathered l text start (Item place) entries so)
    (named : ReadsName (cow_str_bytes entry.name) (drop place text) (drop entry.place text))
    (reads : ReadsValue e (drop entry.place text) (drop after text)) (fits : depth e ≤ l) where
  all : Members
  all = with_member so (cow_str_bytes entry.name) e

  deep : members_depth all ≤ l
  unfolding all
  deep = joined_depth l so (member (cow_str_bytes entry.name) e no_member) s.1 (omega (arith, fits))

  entered : ArePlaced text (entries ++ entry ∷ []) all
  unfolding all
  entered = pushed text entries so entry (cow_str_bytes entry.name) e (drop after text) s.2 refl reads

  behind : BehindOne start (drop after text) all
  unfolding all
  behind =
      behind_one start (drop place text) so (cow_str_bytes entry.name) e (drop entry.place text)
      (drop after text) s.0 named reads

  pub goes_on : (next : Next) → NextItem 125 text (drop after text) next
      → Gathered l text start next (entries ++ entry ∷ [])
      (with_member so (cow_str_bytes entry.name) e)
  unfolding all
  goes_on (Item next_place) (next, comma, here) =
      let P : List ℕ → Type 0 = λ item. AtOne start item all in (
        subst P (sym here) (at_next start (drop after text) all next behind comma),
        deep,
        entered,
      )
  goes_on (End end) close =
      let P : Members → Type 0 = λ ms. ReadsMembers ms start (drop end text) in
      (subst P (joined_none all) (behind.whole no_member (drop end text) close), deep, entered)

-- ---- refusals

-- behind the brace that opens an object no members stand
abbrev pub StandsBroken : List ℕ → ℕ → Reason → List ℕ → Type 0
StandsBroken old l r left = (inside : List ℕ) × (old ≡ 123 ∷ inside) × NoMembersHere l inside r left

pub broken_here : (old : List ℕ) (l : ℕ) (inside : List ℕ) → old ≡ 123 ∷ inside → (k : FaultKind)
    (left : List ℕ) → MembersFault l inside k left → StandsBroken old l (NoJson k) left
broken_here old l inside opens k left h = (inside, opens, broken_members k left h)

-- a fault that is passed on, or want of memory
pub passed_on : (text : List ℕ) (Stands : Reason → List ℕ → Type 0)
    (Broken : FaultKind → List ℕ → Type 0)
    → ((k : FaultKind) (left : List ℕ) → Broken k left → Stands (NoJson k) left)
    → (error : JsonError) → IfRefused error (λ fault. FaultAt text fault Broken)
    → UnlessNoMemory (of_json_error error) (λ refusal. RefusedAt text refusal Stands)
passed_on text Stands Broken stands (faults.Refused fault) h =
    stands fault.kind (drop fault.at text) h
passed_on text Stands Broken stands faults.OutOfMemory h = tt
