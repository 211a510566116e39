use Rattle.std.proofs.Common.{rules, ◌≡◌, ◌+◌, true, nat_eq, [], ◌∷◌, ◌++◌, take, arith, string_bytes, refl, subst, sym, get_or}
use Rattle.std.specs.Prelude.{ℕ, ◌<◌, ◌≤◌, Contains, count_by, IsSome, cond, find, length, Some, None}
use Rattle.std.proofs.lemmas.Bool.Decides.{nat_tests}
use Rattle.std.proofs.lemmas.Grind.{common_steps}
use Rattle.std.specs.BTreeMap.{get}
use Rattle.std.specs.Ordering.{nat_cmp}
use Rattle.wire_dynamic.specs.Fields.{has_number, as_number, own_features, IsField}
use Rattle.wire_dynamic.specs.Messages.{IsOwnField}
use Rattle.std.proofs.lemmas.Result.{err_from_is_err_and}
use Rattle.wire_dynamic.proofs.Counts.{found_some, found_twice, matched, pushed_once, unmatched}
use Rattle.wire_dynamic.proofs.Refused.{own_fault}
use Rattle.wire_dynamic.proofs.Tables.{matches_pushed}
use Rattle.wire_dynamic.proofs.message_type.fields_of.Goals as goal

pub loop-descriptor-preserved : goal.loop-descriptor-preserved
loop-descriptor-preserved c =
    let d = c.descriptor-item.result in
    let f = c.in_ok-field.field in
    let ds = c.args.message.now.descriptor.field.items in
    let i = c.loop-descriptor.descriptor-index in
    let Tells = IsOwnField c.args.declared.now c.args.places.now c.args.message.now in
    let step : take (i + 1) ds ≡ take i ds ++ d ∷ [] = grind (arith, common_steps) in
    let same : string_bytes c.in_ok-name.name ≡ string_bytes d.name = search rules in
    let told = subst (λ q. IsField c.args.declared.now c.args.places.now q (string_bytes c.in_ok-name.name) d f) c.features_of-features.ensures c.in_ok-field.ensures.ok in
    let tells : Tells d f = subst (λ n. IsField c.args.declared.now c.args.places.now (own_features c.args.message.now d) n d f) same told in
    let number : as_number d.number ≡ f.number = rw (tells.number) refl in
    let old = λ (k : ℕ). get nat_cmp c.loop-descriptor.fields k in
    let absent : (k : ℕ) → nat_eq (as_number d.number) k ≡ true → old k ≡ None = λ k e. grind (arith, nat_tests, common_steps, e, number, c.in_ok-insert.ensures.old, c.is_some.ensures, c.if-is_some.false) in
    let new : (k : ℕ) → get nat_cmp c.insert.new.self k ≡ cond (nat_eq (as_number d.number) k) (Some f) (old k) = λ k. grind (arith, nat_tests, common_steps, number, c.in_ok-insert.ensures.updates.0 k) in
    record {
      table = λ k. rw step (matches_pushed Tells d (take i ds) f (has_number k) (old k) (get nat_cmp c.insert.new.self k) (c.loop-descriptor.invariant.table k) tells (absent k) (new k));
      apart = λ k. rw step (pushed_once (has_number k) (take i ds) d (c.loop-descriptor.invariant.apart k) (λ e. unmatched Tells (find (has_number k) (take i ds)) (old k) (c.loop-descriptor.invariant.table k) (absent k e)));
    }

pub returns-in_err-field-clause-err : goal.returns-in_err-field-clause-err
returns-in_err-field-clause-err c =
    let d = c.descriptor-item.result in
    let ds = c.args.message.now.descriptor.field.items in
    let own : Contains ds d = subst (λ l. Contains l d) c.deref-descriptor-items.ensures.value (c.loop-descriptor.descriptor-index, c.loop-descriptor-test.true, sym c.descriptor-item.is) in
    let same : string_bytes c.in_ok-name.name ≡ string_bytes d.name = search rules in
    let r = c.from_residual-in_err-field in
    let p = err_from_is_err_and r.result r.ensures.1 in
    rw (p.1, p.2) (λ other. own_fault c.args.declared.now c.args.places.now c.args.message.now d (string_bytes c.in_ok-name.name) _ _ own same c.features_of-features.ensures ((c.in_err-field).ensures.err other))

pub returns-then-is_some-clause-err : goal.returns-then-is_some-clause-err
returns-then-is_some-clause-err c = λ other.
    let d = c.descriptor-item.result in
    let f = c.in_ok-field.field in
    let ds = c.args.message.now.descriptor.field.items in
    let i = c.loop-descriptor.descriptor-index in
    let n = as_number d.number in
    let Tells = IsOwnField c.args.declared.now c.args.places.now c.args.message.now in
    let within : i < length ds = subst (λ l. i < length l) c.deref-descriptor-items.ensures.value c.loop-descriptor-test.true in
    let is : d ≡ get_or ds i d = subst (λ l. d ≡ get_or l i d) c.deref-descriptor-items.ensures.value c.descriptor-item.is in
    let name : string_bytes c.in_ok-clone.field-0 ≡ string_bytes d.name = search rules in
    let number : n ≡ f.number = rw (c.in_ok-field.ensures.ok.number) refl in
    let some : IsSome (get nat_cmp c.loop-descriptor.fields n) = subst (λ q. IsSome (get nat_cmp c.loop-descriptor.fields q)) (sym number) (found_some _ _ _ c.in_ok-insert.ensures.old c.is_some.ensures c.if-is_some.true) in
    let before : IsSome (find (has_number n) (take i ds)) = matched Tells (find (has_number n) (take i ds)) (get nat_cmp c.loop-descriptor.fields n) (c.loop-descriptor.invariant.table n) some in
    let passes : has_number n d ≡ true = grind (arith, nat_tests) in
    (d, (i, within, sym is), name, found_twice (has_number n) ds i d within is before passes)

pub returns-clause-apart : goal.returns-clause-apart
returns-clause-apart c = λ k.
    let ds = c.args.message.now.descriptor.field.items in
    let all : take c.loop-descriptor.descriptor-index ds ≡ ds = grind (arith, common_steps) in
    subst (λ l. count_by (has_number k) l ≤ 1) all (c.loop-descriptor.invariant.apart k)
