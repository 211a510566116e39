-- A list with one more declaration, and its table.
use Rattle.std.specs.Prelude.{◌≡◌, Bool, true, false, cond, List, [], ◌∷◌, ◌++◌, Option, None, Some, find, IsSome}
use Rattle.std.specs.List.{AllZip}
use Rattle.std.specs.Option.{option_or}
use Rattle.std.proofs.Common.{refl, rules}
use Rattle.std.proofs.lemmas.List.Folds.{find-append}
use Rattle.wire_dynamic.specs.Table.{Matches}

module _ {D F : Type 0} (Tells : D → F → Type 0) (d : D) where
  pushed_cases : (f : F) (was : Option D) (old : Option F) (here : Bool)
      → Matches Tells was old → Tells d f → (here ≡ true → old ≡ None)
      → Matches Tells (option_or was (cond here (Some d) None)) (cond here (Some f) old)
  pushed_cases f None None true m t absent = t
  pushed_cases f None None false m t absent = tt
  pushed_cases f None (Some o) here m t absent = absurd m
  pushed_cases f (Some w) None here m t absent = absurd m
  pushed_cases f (Some w) (Some o) true m t absent =
      let wrong = absent refl in absurd (search (rules, wrong))
  pushed_cases f (Some w) (Some o) false m t absent = m

  -- an element that passes a test that none passed before, and what tells of it
  pub matches_pushed : (ds : List D) (f : F) (p : D → Bool) (old new : Option F)
      → Matches Tells (find p ds) old → Tells d f → (p d ≡ true → old ≡ None)
      → new ≡ cond (p d) (Some f) old → Matches Tells (find p (ds ++ d ∷ [])) new
  matches_pushed ds f p old new m t absent step =
      rw (find-append p ds (d ∷ []), step) (pushed_cases f (find p ds) old (p d) m t absent)

  kept_cases : (was : Option D) (old : Option F) (here : Bool)
      → Matches Tells was old → (here ≡ true → IsSome old)
      → Matches Tells (option_or was (cond here (Some d) None)) old
  kept_cases None None true m present =
      let wrong = present refl in absurd (search (rules, wrong))
  kept_cases None None false m present = tt
  kept_cases None (Some o) here m present = absurd m
  kept_cases (Some w) None here m present = absurd m
  kept_cases (Some w) (Some o) here m present = m

  -- an element that passes no test that none passed before, beside which the table stays
  pub matches_kept : (ds : List D) (p : D → Bool) (old : Option F)
      → Matches Tells (find p ds) old → (p d ≡ true → IsSome old)
      → Matches Tells (find p (ds ++ d ∷ [])) old
  matches_kept ds p old m present =
      rw (find-append p ds (d ∷ [])) (kept_cases (find p ds) old (p d) m present)

-- lists that agree, each with one more element
pub zip_pushed : {A B : Type 0} (R : A → B → Type 0) (xs : List A) (ys : List B) (x : A) (y : B)
    → AllZip R xs ys → R x y → AllZip R (xs ++ x ∷ []) (ys ++ y ∷ [])
zip_pushed R [] [] x y all one = (one, tt)
zip_pushed R [] (y' ∷ ys) x y all one = absurd all
zip_pushed R (x' ∷ xs) [] x y all one = absurd all
zip_pushed R (x' ∷ xs) (y' ∷ ys) x y all one = (all.0, zip_pushed R xs ys x y all.1 one)
