-- The name of a member, and its colon.
use Rattle.std.proofs.Common.{ℕ, List, sym, subst}
use Rattle.wire_json.specs.declared.fault.FaultKind.{FaultKind}
use Rattle.wire_json.specs.declared.fault.FaultKind.TheVariants.{Syntax}
use Rattle.wire_json.specs.declared.fault.JsonError.{JsonError}
use Rattle.wire_json.specs.declared.fault.JsonError.TheVariants.{Refused, OutOfMemory}
use Rattle.wire_json.specs.Answer.{FaultAt, IfRefused}
use Rattle.wire_json.specs.Container.{NoColon}
use Rattle.wire_json.specs.Fault.{QuoteFault, NameFault, no_name, no_colon}
use Rattle.wire_json.specs.Text.{ReadsString}

pub colon_fault : (name old behind : List ℕ) (k : FaultKind) (left : List ℕ)
    → ReadsString name old behind → NoColon behind k left → NameFault old k left
colon_fault name old behind k left reads (kind, place, none) =
    let P : FaultKind → Type 0 = λ x. NameFault old x left in
    let Q : List ℕ → Type 0 = λ here. NameFault old Syntax here in
    subst P (sym kind) (subst Q (sym place) (no_colon name behind reads none))

pub name_fault : (text old : List ℕ) (e : JsonError)
    → IfRefused e (λ fault. FaultAt text fault (QuoteFault old))
    → IfRefused e (λ fault. FaultAt text fault (NameFault old))
name_fault text old (Refused fault) h = no_name h
name_fault text old OutOfMemory h = tt
