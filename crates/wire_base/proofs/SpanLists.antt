-- Borrowed spans as lists of bytes, from a place on and up to it.
use Rattle.std.proofs.Common.{◌≡◌, ℕ, ◌+◌, ◌<◌, List, [], ◌∷◌, ◌++◌, Bor, length, map, take, drop, get_or, refl, sym, ap, ◌∙◌, add-one}
use Rattle.std.proofs.lemmas.List.{map-append, map_more, take-append-drop}
use Rattle.std.proofs.Math.Seq.{drop-cons}

abbrev pub spans_of : List (Bor (List ℕ)) → List (List ℕ)
spans_of xs = map (λ s. s.now) xs

module _ (xs : List (Bor (List ℕ))) (i : ℕ) where
  module _ (d : Bor (List ℕ)) (there : i < length xs) where
    pub spans_of-at : spans_of (drop i xs) ≡ (get_or xs i d).now ∷ spans_of (drop (i + 1) xs)
    spans_of-at = ap spans_of (drop-cons xs i d there) ∙ rw add-one refl

    -- one span more
    pub spans_of-more : spans_of (take (i + 1) xs)
        ≡ spans_of (take i xs) ++ (get_or xs i d).now ∷ []
    spans_of-more = map_more (λ x. x.now) xs i d there

    -- the spans around a place
    pub spans_of-around : spans_of xs
        ≡ spans_of (take i xs) ++ (get_or xs i d).now ∷ spans_of (drop (i + 1) xs)
    spans_of-around = ap spans_of (sym (take-append-drop i xs))
        ∙ map-append (λ x. x.now) (take i xs) (drop i xs)
        ∙ ap (λ (ys : List (List ℕ)). spans_of (take i xs) ++ ys) spans_of-at
