use Rattle.std.proofs.Common.{rules, ◌≡◌, ◌+◌, [], ◌∷◌, ◌++◌, take, arith, subst, sym}
use Rattle.std.specs.Prelude.{Contains}
use Rattle.std.proofs.lemmas.Grind.{common_steps}
use Rattle.std.proofs.lemmas.Result.{err_from_is_err_and}
use Rattle.wire_dynamic.specs.declared.declared.Declared.{Declared}
use Rattle.wire_dynamic.specs.Declares.{IsEnumOf, IsExtensionOf, IsNestedIn}
use Rattle.wire_dynamic.proofs.Declaring.{fault_deeper, fault_here, gains_at, message_gained, nested_begun, nested_more, NestedTaken}
use Rattle.wire_dynamic.proofs.declared.Declared.+add_message.Goals as goal

pub loop-bytes-init : goal.loop-bytes-init
loop-bytes-init t c = nested_begun c.args.message c.args.self.now

pub loop-bytes-preserved : goal.loop-bytes-preserved
loop-bytes-preserved t c =
    let m = c.args.message in
    let n = c.in_ok-nested.nested in
    let bytes = c.bytes-item.result in
    let xs = m.descriptor.nested_type.items in
    let i = c.loop-bytes.bytes-index in
    let step : take (i + 1) xs ≡ take i xs ++ bytes ∷ [] = grind (arith, common_steps) in
    let is : IsNestedIn m bytes.items n = subst (λ b. IsNestedIn m b n) c.deref.ensures.value c.in_ok-nested.ensures.ok in
    rw step (nested_more m n (take i xs) bytes c.args.self.now c.loop-bytes.self c.add_message.new.self c.loop-bytes.invariant is c.in_ok-add_message.ensures.ok)

pub returns-in_err-nested-clause-err : goal.returns-in_err-nested-clause-err
returns-in_err-nested-clause-err t c =
    let m = c.args.message in
    let bytes = c.bytes-item.result in
    let own : Contains m.descriptor.nested_type.items bytes = subst (λ l. Contains l bytes) c.deref-bytes-items.ensures.value (c.loop-bytes.bytes-index, c.loop-bytes-test.true, sym c.bytes-item.is) in
    let p = err_from_is_err_and c.from_residual.result c.from_residual.ensures.1 in
    rw (p.1, p.2) (λ other. fault_here m bytes c.deref.result.now _ own c.deref.ensures.value ((c.in_err-nested).ensures.err other))

pub returns-in_err-add_message-clause-err : goal.returns-in_err-add_message-clause-err
returns-in_err-add_message-clause-err t c =
    let m = c.args.message in
    let n = c.in_ok-nested.nested in
    let bytes = c.bytes-item.result in
    let own : Contains m.descriptor.nested_type.items bytes = subst (λ l. Contains l bytes) c.deref-bytes-items.ensures.value (c.loop-bytes.bytes-index, c.loop-bytes-test.true, sym c.bytes-item.is) in
    let is : IsNestedIn m bytes.items n = subst (λ b. IsNestedIn m b n) c.deref.ensures.value c.in_ok-nested.ensures.ok in
    let r = c.from_residual-in_err-add_message in
    let p = err_from_is_err_and r.result r.ensures.1 in
    rw (p.1, p.2) (λ other. fault_deeper m n bytes _ own is ((c.in_err-add_message).ensures.err other))

pub returns-clause-ok : goal.returns-clause-ok
returns-clause-ok t c =
    let m = c.args.message in
    let xs = m.descriptor.nested_type.items in
    let old = c.args.self.now in
    let mid = c.loop-bytes.self in
    let new : Declared = record { alloc = mid.alloc; messages = c.push.new.self; enums = c.add_enums.new.enums; extensions = c.add_extensions.new.extensions } in
    let whole : take c.loop-bytes.bytes-index xs ≡ xs = grind (arith, common_steps) in
    let pushed : c.push.new.self.items ≡ mid.messages.items ++ m ∷ [] = search rules in
    message_gained m old mid new c.requires
    (subst (λ l. NestedTaken m l old mid) whole c.loop-bytes.invariant) pushed
    (gains_at IsEnumOf c.deref-2.result.now m.features _ c.deref-3.result.now m.descriptor.enum_type.items mid.enums.items c.add_enums.new.enums.items c.in_ok-add_enums.ensures c.deref-2.ensures c.deref-3.ensures.value)
    (gains_at IsExtensionOf c.deref-4.result.now m.features _ c.deref-5.result.now m.descriptor.extension.items mid.extensions.items c.add_extensions.new.extensions.items c.in_ok-add_extensions.ensures c.deref-4.ensures c.deref-5.ensures.value)
