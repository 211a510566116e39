-- The paths of a text are UTF-8.
use Rattle.std.proofs.Common.{◌≡◌, ℕ, suc, ◌+◌, ◌<◌, ◌≤◌, Bool, true, false, cond, nat_lt, ◌==◌, ◌&&◌, List, [], ◌∷◌, ◌++◌, length, drop, get_or, refl, sym, ap, ◌∙◌, subst, append_assoc, append-nil, arith}
use Rattle.std.proofs.lemmas.Bool.Decides.{nat_tests}
use Rattle.std.proofs.lemmas.List.{drop_all, drop_more}
use Rattle.std.proofs.lemmas.Str.{IsUtf8-append, IsUtf8-encode, IsUtf8-nil, encode_ascii, inside_one}
use Rattle.std.specs.Char.{is_ascii_uppercase, to_ascii_lowercase}
use Rattle.std.specs.Prelude.{IsUtf8, encode_utf8, encode_utf8_all}
use Rattle.std.specs.Str.{all_scalars}
use Rattle.wire_well_known_json.specs.Masks.{before_first, path_bytes, paths_of}

pub none_before : (paths : List (List ℕ)) → before_first [] paths ≡ paths
none_before [] = refl
none_before (p ∷ ps) = refl

pub before_twice : (xs ys : List ℕ) (paths : List (List ℕ))
    → before_first xs (before_first ys paths) ≡ before_first (xs ++ ys) paths
before_twice xs ys [] = refl
before_twice xs ys (p ∷ ps) = ap (λ (l : List ℕ). l ∷ ps) (sym (append_assoc xs ys p))

-- a byte that is no comma
pub no_comma : (b : ℕ) (rest : List ℕ) → (b == 44) ≡ false
    → paths_of (b ∷ rest) ≡ before_first (path_bytes b) (paths_of rest)
no_comma b rest h =
    ap (λ (t : Bool). cond t ([] ∷ paths_of rest) (before_first (path_bytes b) (paths_of rest))) h

no_capital : (b : ℕ) → is_ascii_uppercase b ≡ false → path_bytes b ≡ b ∷ []
no_capital b h = ap (λ (t : Bool). cond t (95 ∷ to_ascii_lowercase b ∷ []) (b ∷ [])) h

-- bytes above ASCII stay
high_byte : (b : ℕ) (rest : List ℕ) → 128 ≤ b
    → paths_of (b ∷ rest) ≡ before_first (b ∷ []) (paths_of rest)
high_byte b rest high =
    no_comma b rest (grind (arith, nat_tests))
    ∙ ap (λ (l : List ℕ). before_first l (paths_of rest)) (no_capital b (grind (arith, nat_tests)))

high_bytes : (bs rest : List ℕ) → ((k : ℕ) → k < length bs → 128 ≤ get_or bs k 0)
    → paths_of (bs ++ rest) ≡ before_first bs (paths_of rest)
high_bytes [] rest high = sym (none_before (paths_of rest))
high_bytes (b ∷ bs) rest high =
    high_byte b (bs ++ rest) (high 0 (omega arith))
    ∙ ap (before_first (b ∷ [])) (high_bytes bs rest (λ k below. high (suc k) (omega (arith, below))))
    ∙ before_twice (b ∷ []) bs (paths_of rest)

abbrev pub EachUtf8 : List (List ℕ) → Type 0
EachUtf8 [] = Unit {0}
EachUtf8 (path ∷ paths) = IsUtf8 path × EachUtf8 paths

before_utf8 : (bytes : List ℕ) (paths : List (List ℕ)) → IsUtf8 bytes → EachUtf8 paths
    → EachUtf8 (before_first bytes paths)
before_utf8 bytes [] h each = tt
before_utf8 bytes (path ∷ paths) h (p, ps) = (IsUtf8-append bytes path h p, ps)

-- ASCII alone
pub low : (b : ℕ) → b < 128 → IsUtf8 (b ∷ [])
low b small = subst IsUtf8 (encode_ascii b small) (IsUtf8-encode b (grind (arith, nat_tests)))

low_bytes : (b : ℕ) → b < 128 → IsUtf8 (path_bytes b)
low_bytes b small = by_case (is_ascii_uppercase b)
  where
    by_case : (t : Bool) → IsUtf8 (cond t (95 ∷ to_ascii_lowercase b ∷ []) (b ∷ []))
    by_case true =
        IsUtf8-append (95 ∷ []) (to_ascii_lowercase b ∷ []) (low 95 (omega arith))
        (low (to_ascii_lowercase b) (grind (arith, nat_tests)))
    by_case false = low b small

low_utf8 : (b : ℕ) (rest : List ℕ) → b < 128 → EachUtf8 (paths_of rest)
    → EachUtf8 (paths_of (b ∷ rest))
low_utf8 b rest small each = by_case (b == 44)
  where
    by_case : (t : Bool)
        → EachUtf8 (cond t ([] ∷ paths_of rest) (before_first (path_bytes b) (paths_of rest)))
    by_case true = (IsUtf8-nil, each)
    by_case false = before_utf8 (path_bytes b) (paths_of rest) (low_bytes b small) each

pub first_of : (a b : Bool) → (a && b) ≡ true → a ≡ true
first_of true b h = refl
first_of false b h = absurd cc

pub second_of : (a b : Bool) → (a && b) ≡ true → b ≡ true
second_of true b h = h
second_of false b h = absurd cc

pub split : (n : ℕ) (X : Type 0) → (n < 128 → X) → (128 ≤ n → X) → X
split n X small high = by_case (nat_lt n 128) refl
  where
    by_case : (t : Bool) → nat_lt n 128 ≡ t → X
    by_case true h = small (grind (arith, nat_tests))
    by_case false h = high (grind (arith, nat_tests))

pub high_at : (c : ℕ) → 128 ≤ c → (k : ℕ) → k < length (encode_utf8 c)
    → 128 ≤ get_or (encode_utf8 c) k 0
high_at c high k below =
    split (get_or (encode_utf8 c) k 0) (128 ≤ get_or (encode_utf8 c) k 0)
    (λ small. absurd (omega (
      arith,
      high,
      small,
      inside_one c [] (encode_utf8 c) k (sym (append-nil (encode_utf8 c))) below small,
    )))
    (λ h. h)

paths_of_chars : (cs : List ℕ) → all_scalars cs ≡ true → EachUtf8 (paths_of (encode_utf8_all cs))
paths_of_chars [] h = (IsUtf8-nil, tt)
paths_of_chars (c ∷ cs) h =
    let scalar = first_of _ (all_scalars cs) h in
    let each = paths_of_chars cs (second_of _ (all_scalars cs) h) in
    let rest = encode_utf8_all cs in
    split c (EachUtf8 (paths_of (encode_utf8 c ++ rest)))
    (λ small. subst (λ (l : List ℕ). EachUtf8 (paths_of (l ++ rest))) (sym (encode_ascii c small))
    (low_utf8 c rest small each))
    (λ high. subst EachUtf8 (sym (high_bytes (encode_utf8 c) rest (high_at c high)))
    (before_utf8 (encode_utf8 c) (paths_of rest) (IsUtf8-encode c scalar) each))

pub paths_utf8 : (text : List ℕ) → IsUtf8 text → EachUtf8 (paths_of text)
paths_utf8 text (cs, (scalars, is)) =
    subst (λ (l : List ℕ). EachUtf8 (paths_of l)) is (paths_of_chars cs scalars)

each_behind : (done : List (List ℕ)) (path : List ℕ) (paths : List (List ℕ))
    → EachUtf8 (done ++ path ∷ paths) → IsUtf8 path
each_behind [] path paths (h, each) = h
each_behind (p ∷ ps) path paths (h, each) = each_behind ps path paths each

-- a path up to the comma at a place, and the last one
module _ (done : List (List ℕ)) (path text : List ℕ) (i : ℕ) (utf8 : IsUtf8 text)
    (is : done ++ before_first path (paths_of (drop i text)) ≡ paths_of text) where
  each_of : (rest : List ℕ) → drop i text ≡ rest
      → EachUtf8 (done ++ before_first path (paths_of rest))
  each_of rest left =
      subst (λ (l : List ℕ). EachUtf8 (done ++ before_first path (paths_of l))) left
      (subst EachUtf8 (sym is) (paths_utf8 text utf8))

  pub path_utf8 : i < length text → get_or text i 0 ≡ 44 → IsUtf8 path
  path_utf8 within comma =
      let rest = drop (i + 1) text in
      subst IsUtf8 (append-nil path) (each_behind done (path ++ []) (paths_of rest)
      (each_of (44 ∷ rest) (drop_more text i 0 within ∙ ap (λ (b : ℕ). b ∷ rest) comma)))

  pub last_utf8 : length text ≤ i → IsUtf8 path
  last_utf8 past =
      subst IsUtf8 (append-nil path) (each_behind done (path ++ []) []
      (each_of [] (drop_all i text past)))
