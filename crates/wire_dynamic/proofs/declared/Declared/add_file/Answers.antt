use Rattle.std.proofs.Common.{rules, ◌≡◌, ◌+◌, [], ◌∷◌, ◌++◌, take, arith, string_bytes, refl, ap, sym, subst, ◌∙◌}
use Rattle.std.specs.Prelude.{Contains}
use Rattle.std.proofs.lemmas.Grind.{common_steps}
use Rattle.std.proofs.lemmas.Result.{err_from_is_err_and}
use Rattle.wire_descriptor.specs.DescriptorProto.{descriptor_proto-value}
use Rattle.wire_dynamic.specs.declared.declared.Declared.{Declared}
use Rattle.wire_dynamic.specs.Declares.{scope_of, IsEnumOf, IsExtensionOf, IsMessageIn, IsOutermost}
use Rattle.wire_dynamic.proofs.Declaring.{fault_in_file, file_gained, gains_at, outermost_begun, outermost_more, OutermostTaken}
use Rattle.wire_dynamic.proofs.declared.Declared.add_file.Goals as goal

pub loop-descriptor-init : goal.loop-descriptor-init
loop-descriptor-init c = outermost_begun c.args.file.now c.in-Some.features _

pub loop-descriptor-preserved : goal.loop-descriptor-preserved
loop-descriptor-preserved c =
    let d = c.descriptor-item.result in
    let n = c.in_ok-message.message in
    let file = c.args.file.now in
    let features = c.in-Some.features in
    let ds = file.message_type.items in
    let i = c.loop-descriptor.descriptor-index in
    let step : take (i + 1) ds ≡ take i ds ++ d ∷ [] = grind (arith, common_steps) in
    let copied : descriptor_proto-value c.in_ok-descriptor.descriptor ≡ descriptor_proto-value d = search rules in
    let scope : c.deref-in-loop-descriptor.result.now ≡ scope_of (string_bytes file.package) = c.deref-in-loop-descriptor.ensures ∙ c.in_ok-scope.ensures ∙ ap scope_of c.deref.ensures in
    let is : IsOutermost file features d n = record { descriptor = ap descriptor_proto-value c.in_ok-message.ensures.descriptor ∙ copied; declared = subst (λ s. IsMessageIn s features 0 n) scope c.in_ok-message.ensures.declared } in
    rw step (outermost_more file features (take i ds) d n _ c.loop-descriptor.self c.add_message.new.self c.loop-descriptor.invariant is c.in_ok-add_message.ensures.ok)

pub returns-in_err-add_message-clause-err : goal.returns-in_err-add_message-clause-err
returns-in_err-add_message-clause-err c =
    let d = c.descriptor-item.result in
    let n = c.in_ok-message.message in
    let file = c.args.file.now in
    let features = c.in-Some.features in
    let ds = file.message_type.items in
    let i = c.loop-descriptor.descriptor-index in
    let r = c.from_residual-in_err-add_message in
    let p = err_from_is_err_and r.result r.ensures.1 in
    let own : Contains ds d = subst (λ l. Contains l d) c.deref-descriptor-items.ensures.value (i, c.loop-descriptor-test.true, sym c.descriptor-item.is) in
    let copied : descriptor_proto-value c.in_ok-descriptor.descriptor ≡ descriptor_proto-value d = search rules in
    let scope : c.deref-in-loop-descriptor.result.now ≡ scope_of (string_bytes file.package) = c.deref-in-loop-descriptor.ensures ∙ c.in_ok-scope.ensures ∙ ap scope_of c.deref.ensures in
    let is : IsOutermost file features d n = record { descriptor = ap descriptor_proto-value c.in_ok-message.ensures.descriptor ∙ copied; declared = subst (λ s. IsMessageIn s features 0 n) scope c.in_ok-message.ensures.declared } in
    rw (p.1, p.2) (λ other. fault_in_file file _ (record { features = features; known = sym c.in-Some.ensures; descriptor = d; own = own; outermost = n; declared = is; fault = (c.in_err-add_message).ensures.err other }))

pub returns-clause-ok : goal.returns-clause-ok
returns-clause-ok c =
    let file = c.args.file.now in
    let features = c.in-Some.features in
    let ds = file.message_type.items in
    let i = c.loop-descriptor.descriptor-index in
    let whole : take i ds ≡ ds = grind (arith, common_steps) in
    let scope : c.deref-2.result.now ≡ scope_of (string_bytes file.package) = c.deref-2.ensures ∙ c.in_ok-scope.ensures ∙ ap scope_of c.deref.ensures in
    let scope' : c.deref-4.result.now ≡ scope_of (string_bytes file.package) = c.deref-4.ensures ∙ c.in_ok-scope.ensures ∙ ap scope_of c.deref.ensures in
    let mid : Declared = record { alloc = c.args.self.now.alloc; messages = c.args.self.now.messages; enums = c.add_enums.new.enums; extensions = c.add_extensions.new.extensions } in
    file_gained file features c.args.self.now mid c.loop-descriptor.self (sym c.in-Some.ensures) refl
    (gains_at IsEnumOf c.deref-2.result.now features (scope_of (string_bytes file.package)) c.deref-3.result.now file.enum_type.items c.args.self.now.enums.items c.add_enums.new.enums.items c.in_ok-add_enums.ensures scope c.deref-3.ensures.value)
    (gains_at IsExtensionOf c.deref-4.result.now features (scope_of (string_bytes file.package)) c.deref-5.result.now file.extension.items c.args.self.now.extensions.items c.add_extensions.new.extensions.items c.in_ok-add_extensions.ensures scope' c.deref-5.ensures.value)
    (subst (λ l. OutermostTaken file features l mid c.loop-descriptor.self) whole c.loop-descriptor.invariant)
