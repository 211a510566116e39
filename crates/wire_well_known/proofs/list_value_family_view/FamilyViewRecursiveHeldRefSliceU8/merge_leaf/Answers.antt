use Rattle.wire_well_known.proofs.list_value_family_view.FamilyViewRecursiveHeldRefSliceU8.merge_leaf.Goals as goal

pub returns-in-ListValue-clause-err : goal.returns-in-ListValue-clause-err
returns-in-ListValue-clause-err c = rw c.in-ListValue.is c.merge_leaf.ensures.err

pub returns-in-Struct-clause-err : goal.returns-in-Struct-clause-err
returns-in-Struct-clause-err c = rw c.in-Struct.is (c.merge_leaf-in-Struct).ensures.err

pub returns-in-StructFieldsEntry-clause-err : goal.returns-in-StructFieldsEntry-clause-err
returns-in-StructFieldsEntry-clause-err c = rw c.in-StructFieldsEntry.is (c.merge_leaf-in-StructFieldsEntry).ensures.err

pub returns-in-Value-clause-err : goal.returns-in-Value-clause-err
returns-in-Value-clause-err c = rw c.in-Value.is (c.merge_leaf-in-Value).ensures.err
