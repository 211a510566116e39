use Rattle.wire_tables.proofs.call_family.FamilyHeldRecursiveHeld.merge_leaf.Goals as goal

pub returns-in-Call-clause-err : goal.returns-in-Call-clause-err
returns-in-Call-clause-err g c = rw c.in-Call.is c.merge_leaf.ensures.err

pub returns-in-Expression-clause-err : goal.returns-in-Expression-clause-err
returns-in-Expression-clause-err g c = rw c.in-Expression.is (c.merge_leaf-in-Expression).ensures.err
