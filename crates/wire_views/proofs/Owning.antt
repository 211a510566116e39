-- Values that are given memory of their own, one by one.
use Rattle.std.proofs.Common.{◌≡◌, ℕ, ◌+◌, ◌<◌, ◌≤◌, List, [], ◌∷◌, ◌++◌, length, get_or, map, take}
use Rattle.std.proofs.Common.{sym, ap, ◌∙◌}
use Rattle.std.proofs.lemmas.List.{map-append, map_more, take_all}

pub owned_more : {T O V : Type 0} (view : T → V) (owned : O → V) (all next : List O) (vs : List T)
    (i : ℕ) (v : T) (o : O) → map owned all ≡ map view (take i vs) → i < length vs
    → v ≡ get_or vs i v → owned o ≡ view v → next ≡ all ++ o ∷ []
    → map owned next ≡ map view (take (i + 1) vs)
owned_more {T} {O} {V} view owned all next vs i v o so within is same push =
    ap (map owned) push ∙ map-append owned all (o ∷ [])
    ∙ ap (λ (xs : List V). xs ++ owned o ∷ []) so
    ∙ ap (λ (x : V). map view (take i vs) ++ x ∷ []) (same ∙ ap view is)
    ∙ sym (map_more view vs i v within)

pub owned_all : {T V : Type 0} (view : T → V) (xs : List V) (vs : List T) (i : ℕ)
    → xs ≡ map view (take i vs) → length vs ≤ i → xs ≡ map view vs
owned_all view xs vs i so all = so ∙ ap (map view) (take_all i vs all)
