use Rattle.std.proofs.Common.{rules, ◌≡◌, ◌+◌, [], ◌∷◌, ◌++◌, take, arith, subst, sym}
use Rattle.std.proofs.lemmas.Grind.{common_steps}
use Rattle.wire_dynamic.specs.Messages.{IsAsDeclared}
use Rattle.std.specs.Prelude.{Contains}
use Rattle.std.proofs.lemmas.Result.{err_from_is_err_and}
use Rattle.wire_dynamic.proofs.Tables.{zip_pushed}
use Rattle.wire_dynamic.proofs.schema.messages_of.Goals as goal

pub loop-message-preserved : goal.loop-message-preserved
loop-message-preserved c =
    let m = c.message-item.result in
    let xs = c.args.declared.now.messages.items in
    let i = c.loop-message.message-index in
    let step : take (i + 1) xs ≡ take i xs ++ m ∷ [] = grind (arith, common_steps) in
    let pushed : c.push.new.self.items ≡ c.loop-message.messages.items ++ c.in_ok-of.field-0 ∷ [] = search rules in
    rw (step, pushed) (zip_pushed (IsAsDeclared c.args.declared.now c.args.places.now) (take i xs) c.loop-message.messages.items m c.in_ok-of.field-0 c.loop-message.invariant c.in_ok-of.ensures.ok)

pub returns-in_err-of-clause-err : goal.returns-in_err-of-clause-err
returns-in_err-of-clause-err c =
    let m = c.message-item.result in
    let own : Contains c.args.declared.now.messages.items m = subst (λ l. Contains l m) c.deref-message-items.ensures.value (c.loop-message.message-index, c.loop-message-test.true, sym c.message-item.is) in
    let p = err_from_is_err_and c.from_residual.result c.from_residual.ensures.1 in
    rw (p.1, p.2) (λ other. (m, own, (c.in_err-of).ensures.err other))
