-- What is found in a list once more.
use Rattle.std.specs.Prelude.{◌≡◌, ℕ, ◌+◌, ◌<◌, ◌≤◌, Bool, true, false, cond, List, [], ◌∷◌, ◌++◌, Option, None, Some, IsSome, count_by, find, length, option_and_then, take, drop}
use Rattle.std.specs.Option.{is_some, option_map_or}
use Rattle.std.proofs.Common.{arith, refl, rules, sym, ap, subst, ◌∙◌, get_or, true≢false}
use Rattle.std.proofs.lemmas.List.{take-append-drop}
use Rattle.std.proofs.lemmas.List.Sums.{count_by_more_yes, sum_by-append}
use Rattle.wire_dynamic.specs.Table.{Matches}

-- what a table has was found in the list
pub matched : {D F : Type 0} (Tells : D → F → Type 0) (was : Option D) (old : Option F)
    → Matches Tells was old → IsSome old → IsSome was
matched Tells None None m some = some
matched Tells None (Some o) m some = absurd m
matched Tells (Some w) old m some = refl

-- what a table lacks was not found in it
pub unmatched : {D F : Type 0} (Tells : D → F → Type 0) (was : Option D) (old : Option F)
    → Matches Tells was old → old ≡ None → was ≡ None
unmatched Tells None old m none = refl
unmatched Tells (Some w) None m none = absurd m
unmatched Tells (Some w) (Some o) m none = absurd (search (rules, none))

-- something was found where the answer says so
pub found_some : {X : Type 0} (o p : Option X) (b : Bool) → o ≡ p → b ≡ is_some o → b ≡ true
    → IsSome p
found_some o p b same is there = sym (ap is_some same) ∙ (sym is ∙ there)

module _ {D : Type 0} (p : D → Bool) where
  counted : (xs ys : List D) → count_by p (xs ++ ys) ≡ count_by p xs + count_by p ys
  counted xs ys = sum_by-append (λ x. cond (p x) 1 0) xs ys

  found_cases : (x : D) (n : ℕ) (was : Option D) (here : Bool) → (IsSome was → 1 ≤ n)
      → IsSome (cond here (Some x) was) → 1 ≤ (0 + cond here 1 0) + n
  found_cases x n was true behind some = omega arith
  found_cases x n was false behind some = let more = behind some in omega arith

  found_once : (xs : List D) → IsSome (find p xs) → 1 ≤ count_by p xs
  found_once [] some = absurd (search (rules, some))
  found_once (x ∷ xs) some =
      rw (counted (x ∷ []) xs)
      (found_cases x (count_by p xs) (find p xs) (p x) (found_once xs) some)

  -- one that passes a test, behind others of which one passes it
  pub found_twice : (xs : List D) (i : ℕ) (d : D) → i < length xs → d ≡ get_or xs i d
      → IsSome (find p (take i xs)) → p d ≡ true → 2 ≤ count_by p xs
  found_twice xs i d within is before passes =
      let here : p (get_or xs i d) ≡ true = ap p (sym is) ∙ passes in
      let front = count_by_more_yes p xs i d within here in
      let all = ap (count_by p) (sym (take-append-drop (i + 1) xs))
      ∙ counted (take (i + 1) xs) (drop (i + 1) xs) in
      let once = found_once (take i xs) before in
      omega arith

  none_cases : (x : D) (n : ℕ) (was : Option D) (here : Bool) → (was ≡ None → n ≤ 0)
      → cond here (Some x) was ≡ None → (0 + cond here 1 0) + n ≤ 0
  none_cases x n was true behind none = absurd (search (rules, none))
  none_cases x n was false behind none = let less = behind none in omega arith

  found_never : (xs : List D) → find p xs ≡ None → count_by p xs ≤ 0
  found_never [] none = omega arith
  found_never (x ∷ xs) none =
      rw (counted (x ∷ []) xs)
      (none_cases x (count_by p xs) (find p xs) (p x) (found_never xs) none)

  one_more : (n : ℕ) (here : Bool) → n ≤ 1 → (here ≡ true → n ≤ 0)
      → n + (0 + cond here 1 0) ≤ 1
  one_more n true most absent = let less = absent refl in omega arith
  one_more n false most absent = omega arith

  -- one element more, which passes a test where none passed it before
  pub pushed_once : (xs : List D) (d : D) → count_by p xs ≤ 1
      → (p d ≡ true → find p xs ≡ None) → count_by p (xs ++ d ∷ []) ≤ 1
  pushed_once xs d most absent =
      rw (counted xs (d ∷ []))
      (one_more (count_by p xs) (p d) most (λ e. found_never xs (absent e)))

module _ {D : Type 0} (p q : D → Bool) (d : D) where
  alone_cases : (x : D) (n : ℕ) (was alone : Option D) (a b : Bool) → q x ≡ b
      → (was ≡ Some d → n ≤ 1 → alone ≡ Some d) → (IsSome alone → 1 ≤ n) → q d ≡ true
      → cond a (Some x) was ≡ Some d → (0 + cond b 1 0) + n ≤ 1
      → cond b (Some x) alone ≡ Some d
  alone_cases x n was alone true true is behind some passes found most = found
  alone_cases x n was alone true false is behind some passes found most =
      let same : x ≡ d = ap (λ o. option_map_or (λ (y : D). y) o x) found in
      absurd (true≢false (sym passes ∙ sym (ap q same) ∙ is))
  alone_cases x n was alone false true is behind some passes found most =
      let one = some (ap is_some (behind found (omega arith))) in absurd (omega arith)
  alone_cases x n was alone false false is behind some passes found most =
      behind found (omega arith)

  -- what one test finds, another finds that passes it and no other
  pub found_alone : (xs : List D) → find p xs ≡ Some d → q d ≡ true → count_by q xs ≤ 1
      → find q xs ≡ Some d
  found_alone [] found passes most = absurd (search (rules, found))
  found_alone (x ∷ xs) found passes most =
      alone_cases x (count_by q xs) (find p xs) (find q xs) (p x) (q x) refl
      (λ e less. found_alone xs e passes less) (found_once q xs) passes found
      (subst (λ n. n ≤ 1) (counted q (x ∷ []) xs) most)

module _ {D F : Type 0} (Tells : D → F → Type 0) (number : D → ℕ) (table : ℕ → Option F) where
  -- what a table has at a number that another has at a key
  pub matched_by : (was : Option D) (at : Option ℕ) → Matches (λ d n. n ≡ number d) was at
      → ((d : D) → was ≡ Some d → Matches Tells (Some d) (table (number d)))
      → Matches Tells was (option_and_then table at)
  matched_by None None m there = tt
  matched_by None (Some n) m there = absurd m
  matched_by (Some d) None m there = absurd m
  matched_by (Some d) (Some n) m there =
      subst (λ k. Matches Tells (Some d) (table k)) (sym m) (there d refl)
