-- A payload of varints is one list, or has one fault.
use Rattle.std.proofs.Common.{◌≡◌, ◌≢◌, ◌⊎◌, inl, inr, ℕ, zero, suc, ◌≤◌, List, [], ◌∷◌, ◌++◌, length, refl, sym, ap, subst, ◌∙◌, append_assoc, arith}
use Rattle.std.proofs.lemmas.List.{length-append}
use Rattle.wire_base.specs.declared.error.DecodeError.{DecodeError}
use Rattle.wire_base.specs.VarintLaws.{OneVarint, NoVarintBesideFault, OneVarintFault, VarintOrFaultStands}
use Rattle.wire_base.specs.Read.{Reads}
use Rattle.wire_base.specs.Varint.{IsEnded, IsSpelling, VarintFault}
use Rattle.wire_scalar.specs.Laws.{OnePackedList, NoPackedListBesideFault, OnePackedFault, PackedListOrFault, PackedListOrFaultStands}
use Rattle.wire_scalar.specs.Packed.{SpellsEach}

ended_is_some : (text : List ℕ) → IsEnded text → 1 ≤ length text
ended_is_some [] h = absurd h
ended_is_some (b ∷ text) h = omega arith

-- a varint and more is not no bytes
not_none : (one more : List ℕ) (x : ℕ) → IsSpelling x one → [] ≡ one ++ more → ⊥
not_none one more x s e =
    omega (arith, ap length e, length-append one more, ended_is_some one s.ended)

first : (x : ℕ) (xs text : List ℕ) (s : SpellsEach IsSpelling (x ∷ xs) text)
    → Reads text (IsSpelling x) s.1
first x xs text s = record { text = s.0; parts = s.2; spelled = s.3 }

module _ (one_varint : OneVarint) where
  pub one_list : OnePackedList
  one_list [] [] text s t = refl
  one_list [] (y ∷ ys) text s t = absurd (not_none t.0 t.1 y t.3 (sym s ∙ t.2))
  one_list (x ∷ xs) [] text s t = absurd (not_none s.0 s.1 x s.3 (sym t ∙ s.2))
  one_list (x ∷ xs) (y ∷ ys) text s t =
      let same = one_varint text s.1 t.1 x y (first x xs text s) (first y ys text t) in
      ap (λ (n : ℕ). n ∷ xs) same.0
      ∙ ap (λ (ns : List ℕ). y ∷ ns)
      (one_list xs ys s.1 s.4 (subst (SpellsEach IsSpelling ys) (sym same.1) t.4))

  -- the first number of a list that breaks off later
  next : (y : ℕ) (ys front rest text : List ℕ) (t : SpellsEach IsSpelling (y ∷ ys) front)
      → text ≡ front ++ rest → Reads text (IsSpelling y) (t.1 ++ rest)
  next y ys front rest text t is =
      record {
        text = t.0;
        parts = is ∙ ap (λ (u : List ℕ). u ++ rest) t.2
            ∙ append_assoc t.0 t.1 rest;
        spelled = t.3;
      }

  module _ (beside : NoVarintBesideFault) where
    beside_fault : (xs ys front rest text : List ℕ) (e : DecodeError)
        → SpellsEach IsSpelling xs text → text ≡ front ++ rest → SpellsEach IsSpelling ys front
        → rest ≢ [] → VarintFault rest e → ⊥
    beside_fault [] [] front rest text e s is t more fault =
        more (sym (ap (λ (u : List ℕ). u ++ rest) t) ∙ sym is ∙ s)
    beside_fault (x ∷ xs) [] front rest text e s is t more fault =
        let whole : text ≡ rest = is ∙ ap (λ (u : List ℕ). u ++ rest) t in
        beside rest s.1 x e
        (subst (λ (u : List ℕ). Reads u (IsSpelling x) s.1) whole (first x xs text s)) fault
    beside_fault [] (y ∷ ys) front rest text e s is t more fault =
        not_none t.0 (t.1 ++ rest) y t.3 (sym s ∙ is ∙ ap (λ (u : List ℕ). u ++ rest) t.2
        ∙ append_assoc t.0 t.1 rest)
    beside_fault (x ∷ xs) (y ∷ ys) front rest text e s is t more fault =
        let same = one_varint text s.1 (t.1 ++ rest) x y (first x xs text s)
        (next y ys front rest text t is) in
        beside_fault xs ys t.1 rest s.1 e s.4 same.1 t.4 more fault

    pub no_list_beside_fault : NoPackedListBesideFault
    no_list_beside_fault xs ys text e s b =
        beside_fault xs ys b.front b.rest text e s b.parts b.spelled b.more b.fault

    module _ (one : OneVarintFault) where
      same_fault : (xs ys front rest front2 rest2 : List ℕ) (e f : DecodeError)
          → front ++ rest ≡ front2 ++ rest2 → SpellsEach IsSpelling xs front
          → SpellsEach IsSpelling ys front2
          → VarintFault rest e → VarintFault rest2 f → (xs ≡ ys) × (e ≡ f)
      same_fault [] [] front rest front2 rest2 e f is s t a b =
          let whole : rest ≡ rest2 = sym (ap (λ (u : List ℕ). u ++ rest) s) ∙ is
          ∙ ap (λ (u : List ℕ). u ++ rest2) t in
          (refl, one rest2 e f (subst (λ (u : List ℕ). VarintFault u e) whole a) b)
      same_fault [] (y ∷ ys) front rest front2 rest2 e f is s t a b =
          let whole : rest ≡ front2 ++ rest2 = sym (ap (λ (u : List ℕ). u ++ rest) s) ∙ is in
          absurd (beside rest (t.1 ++ rest2) y e (next y ys front2 rest2 rest t whole) a)
      same_fault (x ∷ xs) [] front rest front2 rest2 e f is s t a b =
          let whole : rest2 ≡ front ++ rest = sym (ap (λ (u : List ℕ). u ++ rest2) t) ∙ sym is in
          absurd (beside rest2 (s.1 ++ rest) x f (next x xs front rest rest2 s whole) b)
      same_fault (x ∷ xs) (y ∷ ys) front rest front2 rest2 e f is s t a b =
          let same = one_varint (front ++ rest) (s.1 ++ rest) (t.1 ++ rest2) x y
          (next x xs front rest (front ++ rest) s refl)
          (next y ys front2 rest2 (front ++ rest) t is) in
          let others = same_fault xs ys s.1 rest t.1 rest2 e f same.1 s.4 t.4 a b in
          (ap (λ (n : ℕ). n ∷ xs) same.0 ∙ ap (λ (ns : List ℕ). y ∷ ns) others.0, others.1)

      pub one_fault : OnePackedFault
      one_fault xs ys text e f a b =
          same_fault xs ys a.front a.rest b.front b.rest e f (sym a.parts
          ∙ b.parts) a.spelled b.spelled a.fault b.fault

-- one number more in front
with_first : (x : ℕ) (text rest : List ℕ) → Reads text (IsSpelling x) rest → PackedListOrFault rest
    → PackedListOrFault text
with_first x text rest r (inl l) = inl (x ∷ l.0, (r.text, rest, r.parts, r.spelled, l.1))
with_first x text rest r (inr b) =
    let broken = b.2 in
    inr (
      x ∷ b.0,
      b.1,
      record {
        front = r.text ++ broken.front;
        rest = broken.rest;
        parts = r.parts ∙ ap (λ (t : List ℕ). r.text ++ t) broken.parts
            ∙ sym (append_assoc r.text broken.front broken.rest);
        spelled = (r.text, broken.front, refl, r.spelled, broken.spelled);
        more = broken.more;
        fault = broken.fault;
      },
    )

-- the bytes begin with a varint, behind which shorter texts are known, or with none
from_front : (fuel b : ℕ) (bytes : List ℕ) → length (b ∷ bytes) ≤ suc fuel
    → ((text : List ℕ) → length text ≤ fuel → PackedListOrFault text)
    → ((v : ℕ) × (rest : List ℕ) × Reads (b ∷ bytes) (IsSpelling v) rest)
    ⊎ ((e : DecodeError) × VarintFault (b ∷ bytes) e) → PackedListOrFault (b ∷ bytes)
from_front fuel b bytes le shorter (inl r) =
    let read = r.2 in
    with_first r.0 (b ∷ bytes) r.1 read
    (shorter r.1
    (omega (
      arith,
      ap length read.parts,
      length-append read.text r.1,
      ended_is_some read.text read.spelled.ended,
    )))
from_front fuel b bytes le shorter (inr f) =
    inr (
      [],
      f.0,
      record {
        front = [];
        rest = b ∷ bytes;
        parts = refl;
        spelled = refl;
        more = λ e. absurd cc;
        fault = f.1;
      },
    )

module _ (or_fault : VarintOrFaultStands) where
  -- a text of at most so many bytes
  within : (fuel : ℕ) (text : List ℕ) → length text ≤ fuel → PackedListOrFault text
  within fuel [] le = inl ([], refl)
  within zero (b ∷ bytes) le = absurd (omega arith)
  within (suc fuel) (b ∷ bytes) le = from_front fuel b bytes le (within fuel) (or_fault (b ∷ bytes))

  pub list_or_fault : PackedListOrFaultStands
  list_or_fault text = within (length text) text (omega arith)
