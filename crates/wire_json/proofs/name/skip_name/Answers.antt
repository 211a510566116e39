use Rattle.std.proofs.Common.{drop}
use Rattle.std.proofs.lemmas.Result.{err_from_is_err_and, IfErr-weaker}
use Rattle.wire_json.specs.declared.fault.Fault.{Fault}
use Rattle.wire_json.specs.Answer.{FaultAt}
use Rattle.wire_json.specs.Container.{NoColon}
use Rattle.wire_json.specs.Fault.{NameFault, no_name}
use Rattle.wire_json.proofs.Names.{colon_fault}
use Rattle.wire_json.proofs.name.skip_name.Goals as goal

pub returns-in_err-behind-clause-fault : goal.returns-in_err-behind-clause-fault
returns-in_err-behind-clause-fault c =
    let p = err_from_is_err_and c.from_residual.result c.from_residual.ensures.1 in
    rw (p.1, p.2) (no_name c.in_err-behind.ensures.fault)

pub returns-clause-fault : goal.returns-clause-fault
returns-clause-fault c =
    let text = c.args.text.now in
    let old = drop c.args.at text in
    let behind = drop c.in_ok-behind.behind text in
    let (name, reads) = c.in_ok-behind.ensures.ok in
    let P : Fault → Type 0 = λ fault. FaultAt text fault (NoColon behind) in
    let Q : Fault → Type 0 = λ fault. FaultAt text fault (NameFault old) in
    let whole : (fault : Fault) → P fault → Q fault =
    λ fault h. colon_fault name old behind fault.kind (drop fault.at text) reads h in
    IfErr-weaker c.skip_colon.result P Q whole c.skip_colon.ensures.fault
