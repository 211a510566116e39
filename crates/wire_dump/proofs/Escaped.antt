-- Bytes that stand for themselves.
use Rattle.std.proofs.Common.{◌≡◌, ℕ, ◌+◌, ◌-◌, ◌<◌, ◌≤◌, List, [], ◌∷◌, ◌++◌, length, take, drop, get_or, refl, sym, ap, ◌∙◌, append_assoc, append-nil, arith}
use Rattle.std.proofs.Math.Seq.{take-add}
use Rattle.std.proofs.lemmas.List.{take_more}
use Rattle.wire_dump.specs.Lines.{escaped, escaped_byte}

pub record IsPlain (bytes : List ℕ) (count : ℕ) : Type 0 where
  pub within : count ≤ length bytes
  pub plain : escaped (take count bytes) ≡ take count bytes

pub escaped-append : (xs ys : List ℕ) → escaped (xs ++ ys) ≡ escaped xs ++ escaped ys
escaped-append [] ys = refl
escaped-append (b ∷ xs) ys =
    ap (λ (t : List ℕ). escaped_byte b ++ t) (escaped-append xs ys)
    ∙ sym (append_assoc (escaped_byte b) (escaped xs) (escaped ys))

pub one_plain : (bytes : List ℕ) (count d : ℕ) → IsPlain bytes count → count < length bytes
    → escaped_byte (get_or bytes count d) ≡ get_or bytes count d ∷ []
    → IsPlain bytes (count + 1)
one_plain bytes count d h more e =
    let b = get_or bytes count d in
    let front = take count bytes in
    let next : take (count + 1) bytes ≡ front ++ b ∷ [] = take_more bytes count d more in
    let one : escaped (b ∷ []) ≡ b ∷ [] = append-nil (escaped_byte b) ∙ e in
    record {
      within = omega (arith, more);
      plain = ap escaped next ∙ escaped-append front (b ∷ [])
          ∙ ap (λ (t : List ℕ). t ++ escaped (b ∷ [])) h.plain
          ∙ ap (λ (t : List ℕ). front ++ t) one ∙ sym next;
    }

-- a block more
pub block_plain : (bytes : List ℕ) (count size : ℕ) → IsPlain bytes count
    → count + size ≤ length bytes
    → escaped (take (count + size - count) (drop count bytes))
    ≡ take (count + size - count) (drop count bytes)
    → IsPlain bytes (count + size)
block_plain bytes count size h room e =
    let front = take count bytes in
    let block = take (count + size - count) (drop count bytes) in
    let width : size ≡ count + size - count = omega arith in
    let next : take (count + size) bytes ≡ front ++ block =
    take-add count size bytes ∙ ap (λ (n : ℕ). front ++ take n (drop count bytes)) width in
    record {
      within = room;
      plain = ap escaped next ∙ escaped-append front block
          ∙ ap (λ (t : List ℕ). t ++ escaped block) h.plain
          ∙ ap (λ (t : List ℕ). front ++ t) e ∙ sym next;
    }

-- a run of bytes is put as it is, and then the byte behind it
pub run_put : (old mid new plain rest bytes : List ℕ) (b : ℕ) → escaped plain ≡ plain
    → bytes ≡ plain ++ b ∷ rest → mid ≡ old ++ plain → new ≡ mid ++ escaped_byte b
    → new ++ escaped rest ≡ old ++ escaped bytes
run_put old mid new plain rest bytes b same parts e f =
    let last = escaped_byte b in
    ap (λ (t : List ℕ). t ++ escaped rest) (f ∙ ap (λ (t : List ℕ). t ++ last) e)
    ∙ append_assoc (old ++ plain) last (escaped rest)
    ∙ append_assoc old plain (last ++ escaped rest)
    ∙ ap (λ (t : List ℕ). old ++ (t ++ (last ++ escaped rest))) (sym same)
    ∙ ap (λ (t : List ℕ). old ++ t) (sym (escaped-append plain (b ∷ rest)))
    ∙ ap (λ (t : List ℕ). old ++ escaped t) (sym parts)

pub all_put : (old new plain behind bytes : List ℕ) → escaped plain ≡ plain
    → bytes ≡ plain ++ behind → new ≡ old ++ plain
    → new ++ escaped behind ≡ old ++ escaped bytes
all_put old new plain behind bytes same parts e =
    ap (λ (t : List ℕ). t ++ escaped behind) e ∙ append_assoc old plain (escaped behind)
    ∙ ap (λ (t : List ℕ). old ++ (t ++ escaped behind)) (sym same)
    ∙ ap (λ (t : List ℕ). old ++ t) (sym (escaped-append plain behind))
    ∙ ap (λ (t : List ℕ). old ++ escaped t) (sym parts)
