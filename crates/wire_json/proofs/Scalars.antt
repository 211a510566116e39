-- Values that are no array and no object.
use Rattle.std.proofs.Common.{◌≡◌, ℕ, ◌-◌, ◌≤◌, Bool, true, false, cond, List, [], ◌∷◌, ◌++◌, take, drop, Result, Ok, Err, Some, refl, sym, ap, ◌∙◌, subst, arith}
use Rattle.std.proofs.lemmas.Bool.Decides.{nat_tests}
use Rattle.std.specs.Prelude.{IfOk, IfErr}
use Rattle.wire_json.specs.declared.fault.Fault.{Fault}
use Rattle.wire_json.specs.declared.fault.FaultKind.{FaultKind}
use Rattle.wire_json.specs.declared.fault.FaultKind.TheVariants.{Syntax}
use Rattle.wire_json.specs.declared.kind.Kind.{Kind}
use Rattle.wire_json.specs.declared.kind.Kind.TheVariants as kinds
use Rattle.wire_json.specs.Answer.{Answers, FaultAt, IsBehind}
use Rattle.wire_json.specs.Bytes.{is_byte, word_end}
use Rattle.wire_json.specs.Compact.{ReadsSimple}
use Rattle.wire_json.specs.Fault.{QuoteFault, ValueFault, bad_word, bad_number, bad_string, word_of}
use Rattle.wire_json.specs.Json.{Json, number, string, depth}
use Rattle.wire_json.specs.Kind.{kind_begun}
use Rattle.wire_json.specs.Number.{number_end}
use Rattle.wire_json.specs.Reading.{ReadsValue}
use Rattle.wire_json.specs.Text.{ReadsString}
use Rattle.wire_json.specs.Written.{written}
use Rattle.wire_json.proofs.Runs.{between_places}

by_byte : (test : Bool) (c x : ℕ) (word rest new : List ℕ) → is_byte c x ≡ test
    → ((left : List ℕ) → word_end word rest ≡ Ok left → rest ≡ word ++ left)
    → cond test (word_end word rest) (Err (x ∷ rest)) ≡ Ok new → x ∷ rest ≡ c ∷ (word ++ new)
by_byte true c x word rest new same others h =
    let is : x ≡ c = grind (arith, nat_tests) in
    let behind = others new h in
    cc
by_byte false c x word rest new same others h = absurd cc

-- the word stands there
pub word_parts : (word old new : List ℕ) → word_end word old ≡ Ok new → old ≡ word ++ new
word_parts [] old new h = cc
word_parts (c ∷ word) [] new h = absurd cc
word_parts (c ∷ word) (x ∷ rest) new h =
    by_byte (is_byte c x) c x word rest new refl (word_parts word rest) h

-- a fault at any depth
abbrev pub FaultAtAll : List ℕ → List ℕ → Fault → Type 0
FaultAtAll text old fault = (l : ℕ) → FaultAt text fault (ValueFault l old)

as_syntax : (text old : List ℕ) (fault : Fault) → fault.kind ≡ Syntax
    → ((l : ℕ) → ValueFault l old Syntax (drop fault.at text)) → FaultAtAll text old fault
as_syntax text old fault is h l =
    let P : FaultKind → Type 0 = λ k. ValueFault l old k (drop fault.at text) in
    subst P (sym is) (h l)

module _ (text old word : List ℕ) where
  pub word_value : (json : Json)
      → ((new : List ℕ) → word_end word old ≡ Ok new → ReadsValue json old new)
      → depth json ≡ 0 → written json ≡ word → (r : Result ℕ Fault) → Answers text r (word_end word old)
      → IfOk r (ReadsSimple text old)
  word_value json spelled flat same (Ok after) h = (
    json,
    spelled (drop after text) h,
    flat,
    word_parts word old (drop after text) h
        ∙ ap (λ (l : List ℕ). l ++ drop after text) (sym same),
  )
  word_value json spelled flat same (Err fault) h = tt

  pub word_fault : (kind : Kind) → kind_begun old ≡ Some kind → word_of kind ≡ Some word
      → (r : Result ℕ Fault) → Answers text r (word_end word old) → IfErr r (FaultAtAll text old)
  word_fault kind begun is (Ok after) h = tt
  word_fault kind begun is (Err fault) (h, syntax) =
      as_syntax text old fault syntax (λ l. bad_word kind word begun is h)

pub number_value : (text : List ℕ) (at : ℕ) (r : Result ℕ Fault)
    → Answers text r (number_end (drop at text)) → IfOk r (λ after. IsBehind at after text)
    → IfOk r (ReadsSimple text (drop at text))
number_value text at (Ok after) h behind =
    let parts = between_places text at after (omega (arith, behind.forward)) in
    (number (take (after - at) (drop at text)), record { parts = parts; ends = h }, refl, parts)
number_value text at (Err fault) h behind = tt

pub number_fault : (text old : List ℕ) → kind_begun old ≡ Some kinds.Number
    → (r : Result ℕ Fault) → Answers text r (number_end old) → IfErr r (FaultAtAll text old)
number_fault text old begun (Ok after) h = tt
number_fault text old begun (Err fault) (h, syntax) =
    as_syntax text old fault syntax (λ l. bad_number begun h)

pub string_value : (text old : List ℕ) (levels : ℕ) (r : Result ℕ Fault)
    → IfOk r (λ after. (bytes : List ℕ) × ReadsString bytes old (drop after text))
    → IfOk r (λ after. (json : Json) × ReadsValue json old (drop after text)
    × (depth json ≤ levels))
string_value text old levels (Ok after) (bytes, h) = (string bytes, h, omega arith)
string_value text old levels (Err fault) h = tt

pub string_fault : (text old : List ℕ) (levels : ℕ) → kind_begun old ≡ Some kinds.String
    → (r : Result ℕ Fault) → IfErr r (λ fault. FaultAt text fault (QuoteFault old))
    → IfErr r (λ fault. FaultAt text fault (ValueFault levels old))
string_fault text old levels begun (Ok after) h = tt
string_fault text old levels begun (Err fault) h = bad_string begun h
