-- Objects that are read and that are not.
use Rattle.std.proofs.Common.{◌≡◌, ℕ, ◌-◌, ◌<◌, ◌≤◌, List, drop, Some, None, Result, Ok, Err, sym, ap, ◌∙◌, arith}
use Rattle.std.specs.Prelude.{IfErr}
use Rattle.wire_json.specs.declared.kind.Kind.{Kind}
use Rattle.wire_json.specs.declared.kind.Kind.TheVariants as kinds
use Rattle.wire_json.specs.Fault.{in_object}
use Rattle.wire_json.specs.Json.{Members, object, depth}
use Rattle.wire_json.specs.Kind.{kind_begun}
use Rattle.wire_json.specs.Reading.{ReadsValue}
use Rattle.wire_json.proofs.Beside.{no_value_beside_fault_lemma}
use Rattle.wire_protojson.specs.declared.refusal.ReadError.{ReadError}
use Rattle.wire_protojson.specs.declared.refusal.ReadError.TheVariants.{Refused, OutOfMemory}
use Rattle.wire_protojson.specs.declared.refusal.Reason.{Reason}
use Rattle.wire_jsonfields.specs.Objects.{NoObjectHere, broken, broken_members, nothing, other_kind}
use Rattle.wire_protojson.specs.Reads.{RefusedAt, UnlessNoMemory}
use Rattle.wire_jsonfields.proofs.Gathering.{StandsBroken}

up : (old : List ℕ) (levels : ℕ) → kind_begun old ≡ Some kinds.Object → 0 < levels → (r : Reason)
    (left : List ℕ) → StandsBroken old (levels - 1) r left → NoObjectHere levels old r left
up old levels begun some r left (inside, opens, broken_members k here h) =
    broken k here begun (in_object (levels - 1) inside (omega arith) opens h)

passed : (text old : List ℕ) (levels : ℕ) → kind_begun old ≡ Some kinds.Object → 0 < levels
    → (e : ReadError)
    → UnlessNoMemory e (λ refusal. RefusedAt text refusal (StandsBroken old (levels - 1)))
    → UnlessNoMemory e (λ refusal. RefusedAt text refusal (NoObjectHere levels old))
passed text old levels begun some (Refused refusal) h =
    up old levels begun some refusal.reason (drop refusal.at text) h
passed text old levels begun some OutOfMemory h = tt

-- what is wrong with the members is wrong with the object
pub passed_up : (text old : List ℕ) (levels : ℕ) → kind_begun old ≡ Some kinds.Object
    → (levels ≡ 0 → ⊥) → {T : Type 0} (r : Result T ReadError)
    → IfErr r (λ e. UnlessNoMemory e
    (λ refusal. RefusedAt text refusal (StandsBroken old (levels - 1))))
    → IfErr r (λ e. UnlessNoMemory e (λ refusal. RefusedAt text refusal (NoObjectHere levels old)))
passed_up text old levels begun some (Ok x) h = tt
passed_up text old levels begun some (Err e) h =
    passed text old levels begun (omega (arith, some)) e h

-- where no object stands none is read
pub no_object_read : (levels : ℕ) (old : List ℕ) (ms : Members) (new : List ℕ) (r : Reason)
    (left : List ℕ) → ReadsValue (object ms) old new → depth (object ms) ≤ levels
    → NoObjectHere levels old r left → ⊥
no_object_read levels old ms new r left (inside, opens, reads) fits (nothing none) =
    absurd (some_or_none (sym (ap kind_begun opens) ∙ none))
  where
    some_or_none : Some kinds.Object ≡ None → ⊥
    some_or_none h = absurd cc
no_object_read levels old ms new r left (inside, opens, reads) fits (other_kind kind begun other) =
    other (same kind (sym begun ∙ ap kind_begun opens))
  where
    same : (k : Kind) → Some k ≡ Some kinds.Object → k ≡ kinds.Object
    same k h = cc
no_object_read levels old ms new r left reads fits (broken k here begun h) =
    no_value_beside_fault_lemma levels (object ms) old new k here reads fits h
