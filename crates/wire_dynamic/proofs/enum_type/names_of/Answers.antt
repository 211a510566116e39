use Rattle.std.proofs.Common.{rules, ◌≡◌, ◌+◌, true, [], ◌∷◌, ◌++◌, take, arith, string_bytes, refl, subst}
use Rattle.std.specs.Prelude.{cond, Some, None, IsSome}
use Rattle.std.proofs.lemmas.Grind.{common_steps}
use Rattle.std.specs.BTreeMap.{get}
use Rattle.std.specs.Ordering.{int_cmp, int_eq}
use Rattle.wire_dynamic.specs.Enums.{value_has_number}
use Rattle.wire_dynamic.proofs.Found.{none_found}
use Rattle.std.proofs.Common.{w32, SFits, ◌∙◌, sym}
use Rattle.std.proofs.lemmas.Int.{to_z-of_z}
use Rattle.std.specs.Option.{is_some}
use Rattle.std.proofs.lemmas.Bool.Decides.{Decides-int_eq}
use Rattle.wire_dynamic.proofs.Tables.{matches_kept, matches_pushed}
use Rattle.wire_dynamic.proofs.enum_type.names_of.Goals as goal

pub loop-value-preserved : goal.loop-value-preserved
loop-value-preserved c = λ k.
    let d = c.value-item.result in
    let xs = c.args.values.now in
    let i = c.loop-value.value-index in
    let f = c.in_ok-clone.field-0 in
    let name : string_bytes f ≡ string_bytes d.name = search rules in
    let step : take (i + 1) xs ≡ take i xs ++ d ∷ [] = grind (arith, common_steps) in
    let old = get int_cmp c.loop-value.names k in
    let fits : SFits w32 d.number = search rules in
    let at = to_z-of_z w32 d.number fits in
    let found : c.contains_key.result ≡ is_some (get int_cmp c.loop-value.names d.number) = c.contains_key.ensures in
    let absent : int_eq d.number k ≡ true → old ≡ None = λ e. subst (λ q. get int_cmp c.loop-value.names q ≡ None) ((Decides-int_eq d.number k).0 e) (none_found _ _ _ refl found c.if-contains_key.false) in
    let new : get int_cmp c.insert.new.self k ≡ cond (int_eq d.number k) (Some f) old = subst (λ q. get int_cmp c.insert.new.self k ≡ cond (int_eq q k) (Some f) old) at (c.in_ok-insert.ensures.updates.0 k) in
    rw step (matches_pushed (λ v name. string_bytes name ≡ string_bytes v.name) d (take i xs) f (value_has_number k) old (get int_cmp c.insert.new.self k) (c.loop-value.invariant k) name absent new)

pub loop-value-preserved-then-contains_key : goal.loop-value-preserved-then-contains_key
loop-value-preserved-then-contains_key c = λ k.
    let d = c.value-item.result in
    let xs = c.args.values.now in
    let i = c.loop-value.value-index in
    let step : take (i + 1) xs ≡ take i xs ++ d ∷ [] = grind (arith, common_steps) in
    let old = get int_cmp c.loop-value.names k in
    let found : c.contains_key.result ≡ is_some (get int_cmp c.loop-value.names d.number) = c.contains_key.ensures in
    let present : int_eq d.number k ≡ true → IsSome old = λ e. subst (λ q. IsSome (get int_cmp c.loop-value.names q)) ((Decides-int_eq d.number k).0 e) (sym found ∙ c.if-contains_key.true) in
    rw step (matches_kept (λ v name. string_bytes name ≡ string_bytes v.name) d (take i xs) (value_has_number k) old (c.loop-value.invariant k) present)
