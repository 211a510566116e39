use Rattle.wire_protojson.proofs.enums.enum_of.Goals as goal

pub returns-in-Number-clause-none : goal.returns-in-Number-clause-none
returns-in-Number-clause-none c =
    rw c.in-Number.is (rw c.in-Number.is at c.int32_of.ensures.none)

pub returns-in-String-clause-none : goal.returns-in-String-clause-none
returns-in-String-clause-none c =
    rw c.in-String.is (rw c.as_str.ensures.value at c.number_named.ensures.none)
