-- Which masks have a text.
use Rattle.std.proofs.Common.{◌≡◌, ℕ, suc, ◌<◌, ◌≤◌, Bool, true, false, cond, not, ◌&&◌, ◌==◌, List, [], ◌∷◌, ◌++◌, Some, None, length, get_or, refl, sym, ap, ◌∙◌, subst, append-nil, arith}
use Rattle.std.proofs.lemmas.Bool.Decides.{nat_tests}
use Rattle.std.proofs.lemmas.Str.{IsUtf8-append, IsUtf8-encode, IsUtf8-nil, encode_ascii, length-encode}
use Rattle.std.specs.Char.{is_ascii_lowercase, is_ascii_uppercase, to_ascii_lowercase, to_ascii_uppercase}
use Rattle.std.specs.List.{All}
use Rattle.std.specs.Prelude.{IsUtf8, encode_utf8, encode_utf8_all}
use Rattle.std.specs.Str.{all_scalars}
use Rattle.wire_json.specs.Json.{Json, string}
use Rattle.wire_well_known_json.specs.Camel.{camel, camel_behind, camel_text, has_text, have_text}
use Rattle.wire_well_known_json.specs.Laws.{MasksHaveTexts}
use Rattle.wire_well_known_json.specs.Masks.{IsMaskTree, before_first, has_no_underscore, mask_of, none_is_empty, path_bytes, paths_of}
use Rattle.wire_well_known_json.proofs.MaskBack.{camel_mask}
use Rattle.wire_well_known_json.proofs.MaskTexts.{EachUtf8, before_twice, first_of, high_at, low, no_comma, none_before, second_of, split}

-- ---- a path that has a text is read of it

abbrev lead : Bool → List ℕ
lead raised = cond raised (95 ∷ []) []

true_is_no : (b : Bool) → not b ≡ true → b ≡ false
true_is_no true h = absurd cc
true_is_no false h = refl

-- the capital of a small letter stands for an underscore and it
capital_byte : (c : ℕ) → is_ascii_lowercase c ≡ true → path_bytes (to_ascii_uppercase c) ≡ 95 ∷ c ∷ []
capital_byte c h =
    ap (λ (t : Bool). cond t (95 ∷ to_ascii_lowercase (to_ascii_uppercase c) ∷ [])
    (to_ascii_uppercase c ∷ [])) upper
    ∙ ap (λ (b : ℕ). 95 ∷ b ∷ []) back
  where
    upper : is_ascii_uppercase (to_ascii_uppercase c) ≡ true
    upper = grind (arith, nat_tests)

    back : to_ascii_lowercase (to_ascii_uppercase c) ≡ c
    back = grind (arith, nat_tests)

other_byte : (c : ℕ) → is_ascii_uppercase c ≡ false → path_bytes c ≡ c ∷ []
other_byte c h = ap (λ (t : Bool). cond t (95 ∷ to_ascii_lowercase c ∷ []) (c ∷ [])) h

-- the letter of such a path that is raised
letter_read : (c : ℕ) (path text rest : List ℕ) → is_ascii_lowercase c ≡ true
    → paths_of text ≡ before_first path (paths_of rest)
    → paths_of (to_ascii_uppercase c ∷ text) ≡ before_first (95 ∷ c ∷ path) (paths_of rest)
letter_read c path text rest small again =
    no_comma (to_ascii_uppercase c) text (grind (arith, nat_tests))
    ∙ ap (λ (l : List ℕ). before_first l (paths_of text)) (capital_byte c small)
    ∙ ap (before_first (95 ∷ c ∷ [])) again
    ∙ before_twice (95 ∷ c ∷ []) path (paths_of rest)

byte_read : (c : ℕ) (path text rest : List ℕ) → (c == 44) ≡ false → is_ascii_uppercase c ≡ false
    → paths_of text ≡ before_first path (paths_of rest)
    → paths_of (c ∷ text) ≡ before_first (c ∷ path) (paths_of rest)
byte_read c path text rest other small again =
    no_comma c text other
    ∙ ap (λ (l : List ℕ). before_first l (paths_of text)) (other_byte c small)
    ∙ ap (before_first (c ∷ [])) again
    ∙ before_twice (c ∷ []) path (paths_of rest)

path_read : (raised : Bool) (path rest : List ℕ) → has_text raised path ≡ true
    → paths_of (camel raised path ++ rest) ≡ before_first (lead raised ++ path) (paths_of rest)
path_read true [] rest h = absurd cc
path_read false [] rest h = sym (none_before (paths_of rest))
path_read true (c ∷ path) rest h =
    letter_read c path (camel false path ++ rest) rest
    (first_of (is_ascii_lowercase c) (has_text false path) h)
    (path_read false path rest (second_of (is_ascii_lowercase c) (has_text false path) h))
path_read false (c ∷ path) rest h =
    by_case (path_read true path rest) (path_read false path rest) (c == 95) refl h
  where
    by_case : (has_text true path ≡ true
        → paths_of (camel true path ++ rest) ≡ before_first (95 ∷ path) (paths_of rest))
        → (has_text false path ≡ true
        → paths_of (camel false path ++ rest) ≡ before_first path (paths_of rest))
        → (t : Bool) → (c == 95) ≡ t
        → cond t (has_text true path)
        (not (c == 44) && (not (is_ascii_uppercase c) && has_text false path)) ≡ true
        → paths_of (cond t (camel true path) (c ∷ camel false path) ++ rest)
        ≡ before_first (c ∷ path) (paths_of rest)
    by_case on off true is k =
        on k ∙ ap (λ (b : ℕ). before_first (b ∷ path) (paths_of rest)) (grind (arith, nat_tests))
    by_case on off false is k =
        let last = second_of (not (c == 44)) (not (is_ascii_uppercase c) && has_text false path) k in
        byte_read c path (camel false path ++ rest) rest
        (true_is_no (c == 44)
        (first_of (not (c == 44)) (not (is_ascii_uppercase c) && has_text false path) k))
        (true_is_no (is_ascii_uppercase c)
        (first_of (not (is_ascii_uppercase c)) (has_text false path) last))
        (off (second_of (not (is_ascii_uppercase c)) (has_text false path) last))

parts_of : (a b : Bool) → (a && b) ≡ true → (a ≡ true) × (b ≡ true)
parts_of a b h = (first_of a b h, second_of a b h)

-- of paths that have a text: the first, and the others
pub have_parts : (path : List ℕ) (paths : List (List ℕ)) → have_text (path ∷ paths) ≡ true
    → (has_text false path ≡ true) × (have_text paths ≡ true)
have_parts [] paths h = absurd cc
have_parts (c ∷ path) paths h = parts_of (has_text false (c ∷ path)) (have_text paths) h

behind_read : (paths : List (List ℕ)) → have_text paths ≡ true
    → paths_of (camel_behind paths) ≡ [] ∷ paths
behind_read [] h = refl
behind_read (path ∷ paths) h =
    let parts = have_parts path paths h in
    ap (λ (l : List (List ℕ)). [] ∷ l)
    (path_read false path (camel_behind paths) parts.0
    ∙ ap (before_first path) (behind_read paths parts.1)
    ∙ ap (λ (l : List ℕ). l ∷ paths) (append-nil path))

text_read : (path : List ℕ) (paths : List (List ℕ)) → have_text (path ∷ paths) ≡ true
    → paths_of (camel_text (path ∷ paths)) ≡ path ∷ paths
text_read path paths h =
    let parts = have_parts path paths h in
    path_read false path (camel_behind paths) parts.0
    ∙ ap (before_first path) (behind_read paths parts.1)
    ∙ ap (λ (l : List ℕ). l ∷ paths) (append-nil path)

-- ---- no underscore stands in it

more : (c : ℕ) (rest : List ℕ) → (c == 95) ≡ false → has_no_underscore rest ≡ true
    → has_no_underscore (c ∷ rest) ≡ true
more c rest other h = ap (λ (t : Bool). not t && has_no_underscore rest) other ∙ h

path_plain : (raised : Bool) (path rest : List ℕ) → has_text raised path ≡ true
    → has_no_underscore rest ≡ true → has_no_underscore (camel raised path ++ rest) ≡ true
path_plain true [] rest h k = absurd cc
path_plain false [] rest h k = k
path_plain true (c ∷ path) rest h k =
    let parts = parts_of (is_ascii_lowercase c) (has_text false path) h in
    let small = parts.0 in
    more (to_ascii_uppercase c) (camel false path ++ rest) (grind (arith, nat_tests))
    (path_plain false path rest parts.1 k)
path_plain false (c ∷ path) rest h k =
    by_case (λ on. path_plain true path rest on k) (λ off. path_plain false path rest off k)
    (c == 95) refl h
  where
    by_case : (has_text true path ≡ true → has_no_underscore (camel true path ++ rest) ≡ true)
        → (has_text false path ≡ true → has_no_underscore (camel false path ++ rest) ≡ true)
        → (t : Bool) → (c == 95) ≡ t
        → cond t (has_text true path)
        (not (c == 44) && (not (is_ascii_uppercase c) && has_text false path)) ≡ true
        → has_no_underscore (cond t (camel true path) (c ∷ camel false path) ++ rest) ≡ true
    by_case on off true is m = on m
    by_case on off false is m =
        let last = second_of (not (c == 44)) (not (is_ascii_uppercase c) && has_text false path) m in
        more c (camel false path ++ rest) is
        (off (second_of (not (is_ascii_uppercase c)) (has_text false path) last))

behind_plain : (paths : List (List ℕ)) → have_text paths ≡ true
    → has_no_underscore (camel_behind paths) ≡ true
behind_plain [] h = refl
behind_plain (path ∷ paths) h =
    let parts = have_parts path paths h in
    path_plain false path (camel_behind paths) parts.0 (behind_plain paths parts.1)

none_empty : (paths : List (List ℕ)) → have_text paths ≡ true → none_is_empty paths ≡ true
none_empty [] h = refl
none_empty ([] ∷ paths) h = absurd cc
none_empty ((c ∷ path) ∷ paths) h =
    none_empty paths (second_of (has_text false (c ∷ path)) (have_text paths) h)

mask_is : (text : List ℕ) (path : List ℕ) (paths : List (List ℕ))
    → paths_of text ≡ path ∷ paths → has_no_underscore text ≡ true
    → none_is_empty (path ∷ paths) ≡ true → mask_of text ≡ Some (path ∷ paths)
mask_is [] path paths is plain some = absurd (unlike (path ∷ paths) is some)
  where
    unlike : (ps : List (List ℕ)) → [] ∷ [] ≡ ps → none_is_empty ps ≡ true → ⊥
    unlike ps same h = let empty = ap none_is_empty same in cc
mask_is (c ∷ text) path paths is plain some =
    chosen (has_no_underscore (c ∷ text)) (none_is_empty (paths_of (c ∷ text))) plain
    (ap none_is_empty is ∙ some) ∙ ap Some is
  where
    chosen : (a b : Bool) → a ≡ true → b ≡ true
        → cond (a && b) (Some (paths_of (c ∷ text))) None ≡ Some (paths_of (c ∷ text))
    chosen true true h k = refl
    chosen true false h k = absurd cc
    chosen false b h k = absurd cc

camel_is_read : (paths : List (List ℕ)) → have_text paths ≡ true
    → mask_of (camel_text paths) ≡ Some paths
camel_is_read [] h = refl
camel_is_read (path ∷ paths) h =
    let parts = have_parts path paths h in
    mask_is (camel_text (path ∷ paths)) path paths (text_read path paths h)
    (path_plain false path (camel_behind paths) parts.0 (behind_plain paths parts.1))
    (none_empty (path ∷ paths) h)

-- ---- it is UTF-8

high_camel : (bs rest : List ℕ) → ((k : ℕ) → k < length bs → 128 ≤ get_or bs k 0)
    → camel false (bs ++ rest) ≡ bs ++ camel false rest
high_camel [] rest high = refl
high_camel (b ∷ bs) rest high =
    let above = high 0 (omega arith) in
    ap (λ (t : Bool). cond t (camel true (bs ++ rest)) (b ∷ camel false (bs ++ rest)))
    (no_underscore above)
    ∙ ap (λ (l : List ℕ). b ∷ l) (high_camel bs rest (λ k below. high (suc k) (omega (arith, below))))
  where
    no_underscore : 128 ≤ b → (b == 95) ≡ false
    no_underscore above = grind (arith, nat_tests)

high_raised : (raised : Bool) (bs rest : List ℕ) → 0 < length bs
    → ((k : ℕ) → k < length bs → 128 ≤ get_or bs k 0)
    → camel raised (bs ++ rest) ≡ bs ++ camel false rest
high_raised false bs rest some high = high_camel bs rest high
high_raised true [] rest some high = absurd (omega (arith, some))
high_raised true (b ∷ bs) rest some high =
    ap (λ (c : ℕ). c ∷ camel false (bs ++ rest)) (stays (high 0 (omega arith)))
    ∙ ap (λ (l : List ℕ). b ∷ l) (high_camel bs rest (λ k below. high (suc k) (omega (arith, below))))
  where
    stays : 128 ≤ b → to_ascii_uppercase b ≡ b
    stays above = grind (arith, nat_tests)

low_camel : (raised : Bool) (c : ℕ) (rest : List ℕ) → c < 128
    → ((r : Bool) → IsUtf8 (camel r rest)) → IsUtf8 (camel raised (c ∷ rest))
low_camel true c rest small again =
    IsUtf8-append (to_ascii_uppercase c ∷ []) (camel false rest)
    (low (to_ascii_uppercase c) (grind (arith, nat_tests))) (again false)
low_camel false c rest small again = by_case (c == 95)
  where
    by_case : (t : Bool) → IsUtf8 (cond t (camel true rest) (c ∷ camel false rest))
    by_case true = again true
    by_case false = IsUtf8-append (c ∷ []) (camel false rest) (low c small) (again false)

chars_camel : (cs : List ℕ) → all_scalars cs ≡ true → (raised : Bool)
    → IsUtf8 (camel raised (encode_utf8_all cs))
chars_camel [] h raised = IsUtf8-nil
chars_camel (c ∷ cs) h raised =
    let rest = encode_utf8_all cs in
    let again = chars_camel cs (second_of _ (all_scalars cs) h) in
    split c (IsUtf8 (camel raised (encode_utf8 c ++ rest)))
    (λ small. subst (λ (l : List ℕ). IsUtf8 (camel raised (l ++ rest))) (sym (encode_ascii c small))
    (low_camel raised c rest small again))
    (λ high. subst IsUtf8
    (sym (high_raised raised (encode_utf8 c) rest (some_byte c) (high_at c high)))
    (IsUtf8-append (encode_utf8 c) (camel false rest)
    (IsUtf8-encode c (first_of _ (all_scalars cs) h)) (again false)))
  where
    some_byte : (d : ℕ) → 0 < length (encode_utf8 d)
    some_byte d = let is = length-encode d in grind (arith, nat_tests)

path_camel : (path : List ℕ) → IsUtf8 path → IsUtf8 (camel false path)
path_camel path (cs, (scalars, is)) =
    subst (λ (l : List ℕ). IsUtf8 (camel false l)) is (chars_camel cs scalars false)

behind_utf8 : (paths : List (List ℕ)) → EachUtf8 paths → IsUtf8 (camel_behind paths)
behind_utf8 [] each = IsUtf8-nil
behind_utf8 (path ∷ paths) (h, each) =
    IsUtf8-append (44 ∷ []) (camel false path ++ camel_behind paths) (low 44 (omega arith))
    (IsUtf8-append (camel false path) (camel_behind paths) (path_camel path h)
    (behind_utf8 paths each))

text_utf8 : (paths : List (List ℕ)) → EachUtf8 paths → IsUtf8 (camel_text paths)
text_utf8 [] each = IsUtf8-nil
text_utf8 (path ∷ paths) (h, each) =
    IsUtf8-append (camel false path) (camel_behind paths) (path_camel path h)
    (behind_utf8 paths each)

each_from_all : (paths : List (List ℕ)) → All IsUtf8 paths → EachUtf8 paths
each_from_all [] all = tt
each_from_all (path ∷ paths) all = (
  all 0 [] (omega arith),
  each_from_all paths (λ k d below. all (suc k) d (omega (arith, below))),
)

-- ---- what is read of a text has one

abbrev EachHas : List (List ℕ) → Type 0
EachHas [] = Unit {0}
EachHas (path ∷ paths) = (has_text false path ≡ true) × EachHas paths

both : (a b : Bool) → a ≡ true → b ≡ true → (a && b) ≡ true
both true true h k = refl
both true false h k = absurd cc
both false b h k = absurd cc

byte_has : (c : ℕ) (path : List ℕ) → (c == 44) ≡ false → (c == 95) ≡ false
    → has_text false path ≡ true → has_text false (path_bytes c ++ path) ≡ true
byte_has c path comma other h = by_case (is_ascii_uppercase c) refl
  where
    by_case : (t : Bool) → is_ascii_uppercase c ≡ t
        → has_text false (cond t (95 ∷ to_ascii_lowercase c ∷ []) (c ∷ []) ++ path) ≡ true
    by_case true is =
        both (is_ascii_lowercase (to_ascii_lowercase c)) (has_text false path)
        (grind (arith, nat_tests)) h
    by_case false is =
        ap (λ (t : Bool). cond t (has_text true path)
        (not (c == 44) && (not (is_ascii_uppercase c) && has_text false path))) other
        ∙ both (not (c == 44)) (not (is_ascii_uppercase c) && has_text false path)
        (ap not comma) (both (not (is_ascii_uppercase c)) (has_text false path) (ap not is) h)

before_has : (c : ℕ) (paths : List (List ℕ)) → (c == 44) ≡ false → (c == 95) ≡ false
    → EachHas paths → EachHas (before_first (path_bytes c) paths)
before_has c [] comma other each = tt
before_has c (path ∷ paths) comma other (h, each) = (byte_has c path comma other h, each)

each_has : (text : List ℕ) → has_no_underscore text ≡ true → EachHas (paths_of text)
each_has [] h = (refl, tt)
each_has (c ∷ rest) h =
    let parts = parts_of (not (c == 95)) (has_no_underscore rest) h in
    by_case (true_is_no (c == 95) parts.0) (each_has rest parts.1) (c == 44) refl
  where
    by_case : (c == 95) ≡ false → EachHas (paths_of rest) → (t : Bool) → (c == 44) ≡ t
        → EachHas (cond t ([] ∷ paths_of rest) (before_first (path_bytes c) (paths_of rest)))
    by_case other each true is = (refl, each)
    by_case other each false is = before_has c (paths_of rest) is other each

all_have : (paths : List (List ℕ)) → EachHas paths → none_is_empty paths ≡ true
    → have_text paths ≡ true
all_have [] each some = refl
all_have ([] ∷ paths) each some = absurd cc
all_have ((c ∷ path) ∷ paths) (h, each) some =
    both (has_text false (c ∷ path)) (have_text paths) h (all_have paths each some)

read_have : (text : List ℕ) (paths : List (List ℕ)) → mask_of text ≡ Some paths
    → have_text paths ≡ true
read_have [] paths is = ap have_text (inside [] paths is)
  where
    inside : (xs ys : List (List ℕ)) → Some xs ≡ Some ys → ys ≡ xs
    inside xs ys h = cc
read_have (c ∷ rest) paths is =
    by_case (has_no_underscore (c ∷ rest)) (none_is_empty (paths_of (c ∷ rest))) refl refl is
  where
    inside : (xs ys : List (List ℕ)) → Some xs ≡ Some ys → ys ≡ xs
    inside xs ys h = cc

    by_case : (a b : Bool) → has_no_underscore (c ∷ rest) ≡ a
        → none_is_empty (paths_of (c ∷ rest)) ≡ b
        → cond (a && b) (Some (paths_of (c ∷ rest))) None ≡ Some paths → have_text paths ≡ true
    by_case true true h k same =
        ap have_text (inside (paths_of (c ∷ rest)) paths same)
        ∙ all_have (paths_of (c ∷ rest)) (each_has (c ∷ rest) h) k
    by_case true false h k same = absurd cc
    by_case false b h k same = absurd cc

pub masks_have_texts_lemma : MasksHaveTexts
masks_have_texts_lemma paths = record {
  written = λ all has.
      (camel_text paths, text_utf8 paths (each_from_all paths all), camel_is_read paths has, refl);
  alone = λ json tree. of_tree json tree;
}
  where
    of_tree : (json : Json) → IsMaskTree paths json
        → (have_text paths ≡ true) × (json ≡ string (camel_text paths))
    of_tree json (text, utf8, means, is) =
        (read_have text paths means, is ∙ ap string (sym (camel_mask text paths means)))
