-- A search for the first of a list.
use Rattle.std.proofs.Common.{◌≡◌, ℕ, zero, suc, ◌+◌, ◌<◌, ◌≤◌, List, [], ◌∷◌, length, map, drop, slice_index_or, inl, inr, refl, subst, arith}
use Rattle.std.proofs.Math.Seq.{drop-cons}
use Rattle.wire_protojson.specs.Enums.{IsFirst}

module _ {X : Type 0} (P : X → Type 0) where
  -- what is first from here on is first of all, and the other way round
  pub record SameFirst (all rest : List X) : Type 0 where
    pub whole : (x : X) → IsFirst P rest x → IsFirst P all x
    pub behind : (x : X) → IsFirst P all x → IsFirst P rest x

  pub same_first : (all : List X) → SameFirst all all
  same_first all = record { whole = λ x h. h; behind = λ x h. h }

  pub past_other : (all rest : List X) (y : X) → SameFirst all (y ∷ rest) → (P y → ⊥)
      → SameFirst all rest
  past_other all rest y s other = record {
    whole = λ x h. s.whole x (inr (other, h));
    behind = λ x h. elim (s.behind x h) [
      | inl here ↦ absurd (other here.0)
      | inr more ↦ more.1
    ];
  }

  pub found_first : (all rest : List X) (y : X) → SameFirst all (y ∷ rest) → P y → IsFirst P all y
  found_first all rest y s here = s.whole y (inl (here, refl))

  module _ {A : Type 0} (f : A → X) where
    at_index : (all : List A) (i : ℕ) (d : A) → i < length all
        → SameFirst (map f all) (map f (drop i all))
        → SameFirst (map f all) (f (slice_index_or all i d) ∷ map f (drop (suc i) all))
    at_index all i d within s =
        subst (λ (l : List A). SameFirst (map f all) (map f l)) (drop-cons all i d within) s

    -- the one at an index for which P holds
    pub found_at : (all : List A) (i : ℕ) (d : A) → i < length all
        → SameFirst (map f all) (map f (drop i all)) → P (f (slice_index_or all i d))
        → IsFirst P (map f all) (f (slice_index_or all i d))
    found_at all i d within s here =
        found_first (map f all) (map f (drop (suc i) all)) (f (slice_index_or all i d))
        (at_index all i d within s) here

    pub further : (all : List A) (i : ℕ) (d : A) → i < length all
        → SameFirst (map f all) (map f (drop i all)) → (P (f (slice_index_or all i d)) → ⊥)
        → SameFirst (map f all) (map f (drop (i + 1) all))
    further all i d within s other =
        let next : suc i ≡ i + 1 = omega arith in
        subst (λ (k : ℕ). SameFirst (map f all) (map f (drop k all))) next
        (past_other (map f all) (map f (drop (suc i) all)) (f (slice_index_or all i d))
        (at_index all i d within s) other)

    pub none_left : (all : List A) (i : ℕ) → length all ≤ i
        → SameFirst (map f all) (map f (drop i all)) → (x : X) → IsFirst P (map f all) x → ⊥
    none_left all i past s x first =
        let none : drop i all ≡ [] = drop_past all i past in
        subst (λ (l : List A). IsFirst P (map f l) x) none (s.behind x first)
      where
        drop_past : (xs : List A) (k : ℕ) → length xs ≤ k → drop k xs ≡ []
        drop_past [] zero h = refl
        drop_past [] (suc k) h = refl
        drop_past (x ∷ xs) zero h = absurd (omega (arith, h))
        drop_past (x ∷ xs) (suc k) h = drop_past xs k (omega (arith, h))
