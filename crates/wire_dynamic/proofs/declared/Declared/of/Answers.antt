use Rattle.std.proofs.Common.{◌≡◌, ◌+◌, [], ◌∷◌, ◌++◌, take, arith, subst, sym}
use Rattle.std.specs.Prelude.{Contains}
use Rattle.std.proofs.lemmas.Grind.{common_steps}
use Rattle.std.proofs.lemmas.Result.{err_from_is_err_and}
use Rattle.wire_dynamic.proofs.Declaring.{files_more}
use Rattle.wire_dynamic.proofs.declared.Declared.of.Goals as goal

pub loop-file-preserved : goal.loop-file-preserved
loop-file-preserved c =
    let file = c.file-item.result in
    let xs = c.args.set.now.file.items in
    let i = c.loop-file.file-index in
    let step : take (i + 1) xs ≡ take i xs ++ file ∷ [] = grind (arith, common_steps) in
    rw step (files_more (take i xs) file c.loop-file.declared c.add_file.new.self c.loop-file.invariant c.in_ok-add_file.ensures.ok)

pub returns-in_err-add_file-clause-err : goal.returns-in_err-add_file-clause-err
returns-in_err-add_file-clause-err c =
    let file = c.file-item.result in
    let p = err_from_is_err_and c.from_residual.result c.from_residual.ensures.1 in
    let of_set : Contains c.args.set.now.file.items file = subst (λ l. Contains l file) c.deref-file-items.ensures.value (c.loop-file.file-index, c.loop-file-test.true, sym c.file-item.is) in
    rw (p.1, p.2) (λ other. (file, of_set, (c.in_err-add_file).ensures.err other))
