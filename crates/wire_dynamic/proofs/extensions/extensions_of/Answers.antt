use Rattle.std.proofs.Common.{rules, ◌≡◌, ◌+◌, true, [], ◌∷◌, ◌++◌, take, arith, string_bytes, refl, subst}
use Rattle.std.specs.Prelude.{◌<◌, Contains, IsSome, cond, find, length, Some, None}
use Rattle.std.proofs.lemmas.Bool.Decides.{nat_tests}
use Rattle.std.proofs.lemmas.Grind.{common_steps}
use Rattle.std.specs.BTreeMap.{get, get_by_text}
use Rattle.wire_dynamic.specs.Extensions.{extends, place_cmp, IsExtension}
use Rattle.wire_dynamic.specs.Fields.{field_features, as_number, IsField}
use Rattle.wire_dynamic.proofs.Found.{none_found, same_place}
use Rattle.std.proofs.Common.{◌∙◌, ap, get_or, inl, sym}
use Rattle.std.specs.Ordering.{is_eq}
use Rattle.std.proofs.lemmas.Result.{err_from_is_err_and}
use Rattle.wire_dynamic.proofs.Counts.{found_some, found_twice, matched}
use Rattle.wire_dynamic.proofs.Refused.{extension_fault}
use Rattle.wire_dynamic.proofs.Tables.{matches_pushed}
use Rattle.wire_dynamic.proofs.extensions.extensions_of.Goals as goal

pub loop-extension-preserved : goal.loop-extension-preserved
loop-extension-preserved c = λ k.
    let d = c.extension-item.result in
    let f = c.in_ok-field.field in
    let ds = c.args.declared.now.extensions.items in
    let i = c.loop-extension.extension-index in
    let Tells = IsExtension c.args.declared.now c.args.places.now in
    let step : take (i + 1) ds ≡ take i ds ++ d ∷ [] = grind (arith, common_steps) in
    let same : string_bytes c.in_ok-name.name ≡ string_bytes d.name = search rules in
    let told = subst (λ q. IsField c.args.declared.now c.args.places.now q (string_bytes c.in_ok-name.name) d.descriptor f) c.features_of-features.ensures c.in_ok-field.ensures.ok in
    let tells : Tells d f = subst (λ n. IsField c.args.declared.now c.args.places.now (field_features d.features d.descriptor.options) n d.descriptor f) same told in
    let number : as_number d.descriptor.number ≡ f.number = rw (tells.number) refl in
    let place : get_by_text c.args.places.now.messages (string_bytes d.descriptor.extendee) ≡ Some c.in-Some.place = search rules in
    let old = get place_cmp c.loop-extension.extensions k in
    let p = c.in-Some.place in
    let key : extends c.args.places.now k d ≡ is_eq (place_cmp (p, f.number) k) = rw (place, number) (sym (same_place p f.number k)) in
    let none : get place_cmp c.loop-extension.extensions (p, f.number) ≡ None = none_found _ _ _ c.in_ok-insert.ensures.old c.is_some.ensures c.if-is_some.false in
    let absent : extends c.args.places.now k d ≡ true → old ≡ None = λ e.
    let both = sym (same_place p f.number k) ∙ sym key ∙ e in
    let first : k.0 ≡ p = grind (arith, nat_tests, both) in
    let second : k.1 ≡ f.number = grind (arith, nat_tests, both) in
    ap (λ a. get place_cmp c.loop-extension.extensions (a, k.1)) first ∙ ap (λ b. get place_cmp c.loop-extension.extensions (p, b)) second ∙ none in
    let new : get place_cmp c.insert.new.self k ≡ cond (extends c.args.places.now k d) (Some f) old = rw key (c.in_ok-insert.ensures.updates.0 k) in
    rw step (matches_pushed Tells d (take i ds) f (extends c.args.places.now k) old (get place_cmp c.insert.new.self k) (c.loop-extension.invariant k) tells absent new)

pub returns-in_default-clause-err : goal.returns-in_default-clause-err
returns-in_default-clause-err c = λ other.
    let x = c.extension-item.result in
    let xs = c.args.declared.now.extensions.items in
    let own : Contains xs x = subst (λ l. Contains l x) c.deref-extension-items.ensures.value (c.loop-extension.extension-index, c.loop-extension-test.true, sym c.extension-item.is) in
    let name : string_bytes c.in_ok-clone.field-0 ≡ string_bytes x.descriptor.extendee = search rules in
    let none : get_by_text c.args.places.now.messages (string_bytes x.descriptor.extendee) ≡ None = search rules in
    (x, own, inl (name, subst (λ q. get_by_text c.args.places.now.messages q ≡ None) (sym name) none))

pub returns-in_err-field-clause-err : goal.returns-in_err-field-clause-err
returns-in_err-field-clause-err c =
    let x = c.extension-item.result in
    let xs = c.args.declared.now.extensions.items in
    let own : Contains xs x = subst (λ l. Contains l x) c.deref-extension-items.ensures.value (c.loop-extension.extension-index, c.loop-extension-test.true, sym c.extension-item.is) in
    let same : string_bytes c.in_ok-name.name ≡ string_bytes x.name = search rules in
    let r = c.from_residual-in_err-field in
    let p = err_from_is_err_and r.result r.ensures.1 in
    rw (p.1, p.2) (λ other. extension_fault c.args.declared.now c.args.places.now x (string_bytes c.in_ok-name.name) _ _ own same c.features_of-features.ensures ((c.in_err-field).ensures.err other))

pub returns-then-is_some-clause-err : goal.returns-then-is_some-clause-err
returns-then-is_some-clause-err c = λ other.
    let x = c.extension-item.result in
    let f = c.in_ok-field.field in
    let places = c.args.places.now in
    let xs = c.args.declared.now.extensions.items in
    let i = c.loop-extension.extension-index in
    let p = c.in-Some.place in
    let n = as_number x.descriptor.number in
    let within : i < length xs = subst (λ l. i < length l) c.deref-extension-items.ensures.value c.loop-extension-test.true in
    let is : x ≡ get_or xs i x = subst (λ l. x ≡ get_or l i x) c.deref-extension-items.ensures.value c.extension-item.is in
    let name : string_bytes c.in_ok-clone-2.field-0 ≡ string_bytes x.name = search rules in
    let number : n ≡ f.number = rw (c.in_ok-field.ensures.ok.number) refl in
    let place : get_by_text places.messages (string_bytes x.descriptor.extendee) ≡ Some p = search rules in
    let some : IsSome (get place_cmp c.loop-extension.extensions (p, n)) = subst (λ q. IsSome (get place_cmp c.loop-extension.extensions (p, q))) (sym number) (found_some _ _ _ c.in_ok-insert.ensures.old c.is_some.ensures c.if-is_some.true) in
    let before : IsSome (find (extends places (p, n)) (take i xs)) = matched (IsExtension c.args.declared.now places) (find (extends places (p, n)) (take i xs)) (get place_cmp c.loop-extension.extensions (p, n)) (c.loop-extension.invariant (p, n)) some in
    let passes : extends places (p, n) x ≡ true = rw place (grind (arith, nat_tests)) in
    (x, (i, within, sym is), name, p, passes, found_twice (extends places (p, n)) xs i x within is before passes)
