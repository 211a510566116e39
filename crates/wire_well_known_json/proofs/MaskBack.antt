-- What is written of a mask is read as it.
use Rattle.std.proofs.Common.{◌≡◌, ℕ, Bool, true, false, cond, not, ◌&&◌, ◌==◌, List, [], ◌∷◌, ◌++◌, Some, None, refl, sym, ap, ◌∙◌, subst, arith}
use Rattle.std.proofs.lemmas.Bool.Decides.{nat_tests}
use Rattle.std.specs.Char.{is_ascii_uppercase, to_ascii_lowercase, to_ascii_uppercase}
use Rattle.std.specs.Prelude.{IsUtf8}
use Rattle.wire_json.specs.Json.{Json}
use Rattle.wire_well_known_json.specs.Camel.{camel, camel_behind, camel_text}
use Rattle.wire_well_known_json.specs.Masks.{IsMaskTree, before_first, has_no_underscore, mask_of, none_is_empty, path_bytes, paths_of}

raised : (c : ℕ) → is_ascii_uppercase c ≡ true → to_ascii_uppercase (to_ascii_lowercase c) ≡ c
raised c h = grind (arith, nat_tests)

camel_byte : (c : ℕ) (path : List ℕ) → (c == 95) ≡ false
    → camel false (path_bytes c ++ path) ≡ c ∷ camel false path
camel_byte c path other = by_case (is_ascii_uppercase c) refl
  where
    by_case : (t : Bool) → is_ascii_uppercase c ≡ t
        → camel false (cond t (95 ∷ to_ascii_lowercase c ∷ []) (c ∷ []) ++ path)
        ≡ c ∷ camel false path
    by_case true h = ap (λ (b : ℕ). b ∷ camel false path) (raised c h)
    by_case false h = ap (λ (t : Bool). cond t (camel true path) (c ∷ camel false path)) other

camel_first : (c : ℕ) (paths : List (List ℕ)) → (c == 95) ≡ false → (paths ≡ [] → ⊥)
    → camel_text (before_first (path_bytes c) paths) ≡ c ∷ camel_text paths
camel_first c [] other some = absurd (some refl)
camel_first c (path ∷ paths) other some =
    ap (λ (l : List ℕ). l ++ camel_behind paths) (camel_byte c path other)

behind_comma : (paths : List (List ℕ)) → (paths ≡ [] → ⊥)
    → camel_behind paths ≡ 44 ∷ camel_text paths
behind_comma [] some = absurd (some refl)
behind_comma (path ∷ paths) some = refl

still_some : (bytes : List ℕ) (paths : List (List ℕ)) → (paths ≡ [] → ⊥)
    → before_first bytes paths ≡ [] → ⊥
still_some bytes [] some is = some refl
still_some bytes (path ∷ paths) some is = absurd cc

some_path : (text : List ℕ) → paths_of text ≡ [] → ⊥
some_path [] is = absurd cc
some_path (c ∷ rest) is = by_case (some_path rest) (c == 44) is
  where
    by_case : (paths_of rest ≡ [] → ⊥) → (t : Bool)
        → cond t ([] ∷ paths_of rest) (before_first (path_bytes c) (paths_of rest)) ≡ [] → ⊥
    by_case some true is = absurd cc
    by_case some false is = still_some (path_bytes c) (paths_of rest) some is

both_of : (a b : Bool) → (not a && b) ≡ true → (a ≡ false) × (b ≡ true)
both_of true b h = absurd cc
both_of false b h = (refl, h)

camel_paths : (text : List ℕ) → has_no_underscore text ≡ true → camel_text (paths_of text) ≡ text
camel_paths [] h = refl
camel_paths (c ∷ rest) h =
    let parts = both_of (c == 95) (has_no_underscore rest) h in
    by_case parts.0 (camel_paths rest parts.1) (c == 44) refl
  where
    by_case : (c == 95) ≡ false → camel_text (paths_of rest) ≡ rest → (t : Bool) → (c == 44) ≡ t
        → camel_text (cond t ([] ∷ paths_of rest) (before_first (path_bytes c) (paths_of rest)))
        ≡ c ∷ rest
    by_case other again true is =
        behind_comma (paths_of rest) (some_path rest)
        ∙ ap (λ (l : List ℕ). 44 ∷ l) again
        ∙ ap (λ (b : ℕ). b ∷ rest) (grind (arith, nat_tests))
    by_case other again false is =
        camel_first c (paths_of rest) other (some_path rest) ∙ ap (λ (l : List ℕ). c ∷ l) again

-- a text is the one that is written of its paths
pub camel_mask : (text : List ℕ) (paths : List (List ℕ)) → mask_of text ≡ Some paths
    → camel_text paths ≡ text
camel_mask [] paths is = ap camel_text (inside [] paths is)
  where
    inside : (xs ys : List (List ℕ)) → Some xs ≡ Some ys → ys ≡ xs
    inside xs ys h = cc
camel_mask (c ∷ rest) paths is =
    by_case (has_no_underscore (c ∷ rest)) (none_is_empty (paths_of (c ∷ rest))) refl is
  where
    by_case : (a b : Bool) → has_no_underscore (c ∷ rest) ≡ a
        → cond (a && b) (Some (paths_of (c ∷ rest))) None ≡ Some paths
        → camel_text paths ≡ c ∷ rest
    by_case true true h k =
        ap camel_text (inside (paths_of (c ∷ rest)) paths k) ∙ camel_paths (c ∷ rest) h
      where
        inside : (xs ys : List (List ℕ)) → Some xs ≡ Some ys → ys ≡ xs
        inside xs ys h = cc
    by_case true false h k = absurd cc
    by_case false b h k = absurd cc

-- where that text is no UTF-8, or other paths are read of it, the paths have none
pub no_text : (paths : List (List ℕ)) (text : List ℕ) → text ≡ camel_text paths
    → (IsUtf8 text → mask_of text ≡ Some paths → ⊥) → (json : Json) → IsMaskTree paths json → ⊥
no_text paths text is none json (other, utf8, means, tree) =
    let same = sym (is ∙ camel_mask other paths means) in
    none (subst IsUtf8 same utf8) (subst (λ (l : List ℕ). mask_of l ≡ Some paths) same means)
