-- Values that are written as they are read.
use Rattle.std.proofs.Common.{◌≡◌, ℕ, ◌-◌, ◌<◌, List, ◌∷◌, drop, Result, Ok, Err, Some, subst, arith}
use Rattle.std.specs.Prelude.{IfOk, IfErr}
use Rattle.wire_json.specs.declared.fault.Fault.{Fault}
use Rattle.wire_json.specs.declared.fault.JsonError.{JsonError}
use Rattle.wire_json.specs.declared.fault.JsonError.TheVariants.{Refused, OutOfMemory}
use Rattle.wire_json.specs.declared.kind.Kind.TheVariants as kinds
use Rattle.wire_json.specs.Answer.{FaultAt, IfRefused}
use Rattle.wire_json.specs.Bytes.{past_space}
use Rattle.wire_json.specs.Compact.{PutsElements, PutsMembers, PutsString, PutsValue}
use Rattle.wire_json.specs.Fault.{NameFault, QuoteFault, ValueFault, ElementsFault, MembersFault, TextFault, in_value, bad_name, bad_string, bad_value, in_array, in_object}
use Rattle.wire_json.specs.Json.{string, array, object}
use Rattle.wire_json.specs.Kind.{kind_begun}
use Rattle.wire_json.specs.Text.{ReadsName}
use Rattle.wire_json.proofs.Elements.{AtElement}
use Rattle.wire_json.proofs.Members.{AtMember}

-- a fault inside an array that begins here
abbrev pub InElements : ℕ → List ℕ → List ℕ → Fault → Type 0
InElements l text old fault =
    (inside : List ℕ) × (old ≡ 91 ∷ inside) × FaultAt text fault (ElementsFault l inside)

-- a fault inside an object that begins here
abbrev pub InMembers : ℕ → List ℕ → List ℕ → Fault → Type 0
InMembers l text old fault =
    (inside : List ℕ) × (old ≡ 123 ∷ inside) × FaultAt text fault (MembersFault l inside)

pub in_element : (l : ℕ) (text old inside before : List ℕ) (place : ℕ) → old ≡ 91 ∷ inside
    → AtElement l inside (drop place text) before → (e : JsonError)
    → IfRefused e (λ fault. FaultAt text fault (ValueFault l (drop place text)))
    → IfRefused e (InElements l text old)
in_element l text old inside before place opens s (Refused fault) h =
    (inside, opens, s.fault fault.kind (drop fault.at text) h)
in_element l text old inside before place opens s OutOfMemory h = tt

pub in_member_name : (l : ℕ) (text old inside before : List ℕ) (place : ℕ) → old ≡ 123 ∷ inside
    → AtMember l inside (drop place text) before → (e : JsonError)
    → IfRefused e (λ fault. FaultAt text fault (NameFault (drop place text)))
    → IfRefused e (InMembers l text old)
in_member_name l text old inside before place opens s (Refused fault) h =
    (inside, opens, s.fault fault.kind (drop fault.at text) (bad_name h))
in_member_name l text old inside before place opens s OutOfMemory h = tt

pub in_member_value : (l : ℕ) (text old inside before : List ℕ) (place value : ℕ) (name : List ℕ)
    → old ≡ 123 ∷ inside → AtMember l inside (drop place text) before
    → ReadsName name (drop place text) (drop value text) → (e : JsonError)
    → IfRefused e (λ fault. FaultAt text fault (ValueFault l (drop value text)))
    → IfRefused e (InMembers l text old)
in_member_value l text old inside before place value name opens s named (Refused fault) h = (
  inside,
  opens,
  s.fault fault.kind (drop fault.at text) (bad_value name (drop value text) named h),
)
in_member_value l text old inside before place value name opens s named OutOfMemory h = tt

-- a value is read up to a place, and its compact text was put
abbrev pub Puts : List ℕ → List ℕ → ℕ → List ℕ → List ℕ → ℕ → Type 0
Puts text old levels before after end = PutsValue levels old (drop end text) before after

-- a fault of a value
abbrev pub NoValue : List ℕ → List ℕ → ℕ → JsonError → Type 0
NoValue text old levels e =
    IfRefused e (λ fault. FaultAt text fault (ValueFault levels old))

module _ (text old : List ℕ) (levels : ℕ) (some : 0 < levels) where
  pub puts_array : (before after : List ℕ) (r : Result ℕ JsonError)
      → IfOk r (λ end. PutsElements (levels - 1) old (drop end text) before after)
      → IfOk r (Puts text old levels before after)
  puts_array before after (Ok end) (inside, es, opens, reads, fits, put) =
      (array es, (inside, opens, reads), omega arith, put)
  puts_array before after (Err e) h = tt

  pub puts_object : (before after : List ℕ) (r : Result ℕ JsonError)
      → IfOk r (λ end. PutsMembers (levels - 1) old (drop end text) before after)
      → IfOk r (Puts text old levels before after)
  puts_object before after (Ok end) (inside, ms, opens, reads, fits, put) =
      (object ms, (inside, opens, reads), omega arith, put)
  puts_object before after (Err e) h = tt

  pub refused_array : (r : Result ℕ JsonError)
      → IfErr r (λ e. IfRefused e (InElements (levels - 1) text old))
      → IfErr r (NoValue text old levels)
  refused_array (Ok end) h = tt
  refused_array (Err (Refused fault)) (inside, opens, h) =
      in_array (levels - 1) inside (omega arith) opens h
  refused_array (Err OutOfMemory) h = tt

  pub refused_object : (r : Result ℕ JsonError)
      → IfErr r (λ e. IfRefused e (InMembers (levels - 1) text old))
      → IfErr r (NoValue text old levels)
  refused_object (Ok end) h = tt
  refused_object (Err (Refused fault)) (inside, opens, h) =
      in_object (levels - 1) inside (omega arith) opens h
  refused_object (Err OutOfMemory) h = tt

module _ (text old : List ℕ) (levels : ℕ) where
  pub puts_string : (before after : List ℕ) (r : Result ℕ JsonError)
      → IfOk r (λ end. PutsString old (drop end text) before after)
      → IfOk r (Puts text old levels before after)
  puts_string before after (Ok end) (bytes, reads, put) = (string bytes, reads, omega arith, put)
  puts_string before after (Err e) h = tt

  pub refused_string : kind_begun old ≡ Some kinds.String → (r : Result ℕ JsonError)
      → IfErr r (λ e. IfRefused e (λ fault. FaultAt text fault (QuoteFault old)))
      → IfErr r (NoValue text old levels)
  refused_string begun (Ok end) h = tt
  refused_string begun (Err (Refused fault)) h = bad_string begun h
  refused_string begun (Err OutOfMemory) h = tt

  pub puts_simple : (before after : List ℕ) (r : Result ℕ JsonError)
      → IfOk r (Puts text old 0 before after) → IfOk r (Puts text old levels before after)
  puts_simple before after (Ok end) (json, reads, flat, put) = (json, reads, omega arith, put)
  puts_simple before after (Err e) h = tt

  pub refused_simple : (r : Result ℕ JsonError)
      → IfErr r (λ e. IfRefused e (λ fault. (l : ℕ) → FaultAt text fault (ValueFault l old)))
      → IfErr r (NoValue text old levels)
  refused_simple (Ok end) h = tt
  refused_simple (Err (Refused fault)) h = h levels
  refused_simple (Err OutOfMemory) h = tt

pub in_text : (text old : List ℕ) (levels : ℕ) → old ≡ past_space text → (e : JsonError)
    → NoValue text old levels e
    → IfRefused e (λ fault. FaultAt text fault (TextFault levels text))
in_text text old levels is (Refused fault) h =
    let P : List ℕ → Type 0 = λ here. ValueFault levels here fault.kind (drop fault.at text) in
    in_value (subst P is h)
in_text text old levels is OutOfMemory h = tt
