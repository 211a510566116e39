use Rattle.std.proofs.Common.{rules, ◌≡◌, ◌+◌, length, true, [], ◌∷◌, ◌++◌, take, arith, string_bytes, slice_get, refl, subst, sym}
use Rattle.std.specs.Prelude.{◌≤◌, IsSome, cond, count_by, find, Some, None}
use Rattle.std.proofs.lemmas.Grind.{common_steps}
use Rattle.std.proofs.lemmas.Map.Text.{text_keys}
use Rattle.std.specs.BTreeMap.{get_by_text}
use Rattle.std.specs.Str.{bytes_eq}
use Rattle.wire_dynamic.specs.Places.{enum_has_name}
use Rattle.std.proofs.lemmas.Option.{slice_get_read}
use Rattle.wire_dynamic.proofs.Found.{absent_text, none_found}
use Rattle.std.proofs.lemmas.Slice.Eq.{bytes_eq-Decides}
use Rattle.wire_dynamic.proofs.Counts.{found_some, found_twice, matched}
use Rattle.wire_dynamic.proofs.Tables.{matches_pushed}
use Rattle.wire_dynamic.proofs.places.enum_places.Goals as goal

pub loop-place-preserved : goal.loop-place-preserved
loop-place-preserved c = λ k.
    let d = c.index-declared-place.result in
    let xs = c.args.declared.now in
    let i = c.loop-place.place in
    let name : string_bytes c.in_ok-clone.field-0 ≡ string_bytes d.name = search rules in
    let step : take (i + 1) xs ≡ take i xs ++ d ∷ [] = grind (arith, common_steps) in
    let tells : slice_get xs i ≡ Some d = slice_get_read xs (length xs) i d refl c.loop-place-test.true c.index-declared-place.is in
    let old = get_by_text c.loop-place.places k in
    let absent : bytes_eq k (string_bytes d.name) ≡ true → old ≡ None = absent_text c.loop-place.places (string_bytes d.name) k (subst (λ q. get_by_text c.loop-place.places q ≡ None) name (none_found _ _ _ c.in_ok-insert.ensures.old c.is_some.ensures c.if-is_some.false)) in
    let new : get_by_text c.insert.new.self k ≡ cond (bytes_eq k (string_bytes d.name)) (Some i) old = grind (arith, text_keys, name, c.in_ok-insert.ensures.updates) in
    rw step (matches_pushed (λ m j. slice_get xs j ≡ Some m) d (take i xs) i (enum_has_name k) old (get_by_text c.insert.new.self k) (c.loop-place.invariant k) tells absent new)

pub returns-then-is_some-clause-err : goal.returns-then-is_some-clause-err
returns-then-is_some-clause-err c = λ other.
    let d = c.index-declared-place.result in
    let xs = c.args.declared.now in
    let i = c.loop-place.place in
    let k = string_bytes d.name in
    let first : string_bytes c.in_ok-clone.field-0 ≡ k = search rules in
    let name : string_bytes c.in_ok-clone-2.field-0 ≡ k = search rules in
    let some : IsSome (get_by_text c.loop-place.places k) = subst (λ q. IsSome (get_by_text c.loop-place.places q)) first (found_some _ _ _ c.in_ok-insert.ensures.old c.is_some.ensures c.if-is_some.true) in
    let before : IsSome (find (enum_has_name k) (take i xs)) = matched (λ m j. slice_get xs j ≡ Some m) (find (enum_has_name k) (take i xs)) (get_by_text c.loop-place.places k) (c.loop-place.invariant k) some in
    subst (λ q. 2 ≤ count_by (enum_has_name q) xs) (sym name) (found_twice (enum_has_name k) xs i d c.loop-place-test.true c.index-declared-place.is before ((bytes_eq-Decides k k).1 refl))
