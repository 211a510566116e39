-- Arrays and objects as values.
use Rattle.std.proofs.Common.{◌≡◌, ℕ, ◌-◌, ◌<◌, ◌≤◌, List, ◌∷◌, drop, Result, Ok, Err, arith}
use Rattle.std.specs.Prelude.{IfOk, IfErr}
use Rattle.wire_json.specs.declared.container.Next.{Next}
use Rattle.wire_json.specs.declared.container.Next.TheVariants.{Item, End}
use Rattle.wire_json.specs.declared.fault.Fault.{Fault}
use Rattle.wire_json.specs.Answer.{FaultAt}
use Rattle.wire_json.specs.Container.{NextIsBehind}
use Rattle.wire_json.specs.Fault.{ValueFault, ElementsFault, MembersFault, in_array, in_object}
use Rattle.wire_json.specs.Json.{Json, array, object, Elements, Members, depth, elements_depth, members_depth}
use Rattle.wire_json.specs.Reading.{ReadsValue, ReadsElements, ReadsMembers}

-- a place behind a later one
pub behind_further : (at after : ℕ) (next : Next) (text : List ℕ) → at ≤ after
    → NextIsBehind after next text → NextIsBehind at next text
behind_further at after (Item place) text order h = omega arith
behind_further at after (End end) text order h = record {
  forward = omega (arith, h.forward);
  within = h.within;
}

-- a value that nests so deep is read up to this place
abbrev pub ReadsWithin : List ℕ → List ℕ → ℕ → ℕ → Type 0
ReadsWithin text old levels after =
    (json : Json) × ReadsValue json old (drop after text) × (depth json ≤ levels)

module _ (text old : List ℕ) (levels : ℕ) (some : 0 < levels) where
  pub array_value : (r : Result ℕ Fault) → IfOk r (λ after. (inside : List ℕ) × (es : Elements)
      × (old ≡ 91 ∷ inside) × ReadsElements es inside (drop after text)
      × (elements_depth es ≤ levels - 1))
      → IfOk r (ReadsWithin text old levels)
  array_value (Ok after) (inside, es, opens, reads, fits) =
      (array es, (inside, opens, reads), omega arith)
  array_value (Err fault) h = tt

  pub array_fault : (r : Result ℕ Fault) → IfErr r (λ fault. (inside : List ℕ)
      × (old ≡ 91 ∷ inside) × FaultAt text fault (ElementsFault (levels - 1) inside))
      → IfErr r (λ fault. FaultAt text fault (ValueFault levels old))
  array_fault (Ok after) h = tt
  array_fault (Err fault) (inside, opens, h) = in_array (levels - 1) inside (omega arith) opens h

  pub object_value : (r : Result ℕ Fault) → IfOk r (λ after. (inside : List ℕ) × (ms : Members)
      × (old ≡ 123 ∷ inside) × ReadsMembers ms inside (drop after text)
      × (members_depth ms ≤ levels - 1))
      → IfOk r (ReadsWithin text old levels)
  object_value (Ok after) (inside, ms, opens, reads, fits) =
      (object ms, (inside, opens, reads), omega arith)
  object_value (Err fault) h = tt

  pub object_fault : (r : Result ℕ Fault) → IfErr r (λ fault. (inside : List ℕ)
      × (old ≡ 123 ∷ inside) × FaultAt text fault (MembersFault (levels - 1) inside))
      → IfErr r (λ fault. FaultAt text fault (ValueFault levels old))
  object_fault (Ok after) h = tt
  object_fault (Err fault) (inside, opens, h) =
      in_object (levels - 1) inside (omega arith) opens h
