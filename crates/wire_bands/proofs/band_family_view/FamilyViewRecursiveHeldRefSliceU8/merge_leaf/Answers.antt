use Rattle.wire_bands.proofs.band_family_view.FamilyViewRecursiveHeldRefSliceU8.merge_leaf.Goals as goal

pub returns-in-Band-clause-err : goal.returns-in-Band-clause-err
returns-in-Band-clause-err c = rw c.in-Band.is c.merge_leaf.ensures.err

pub returns-in-Player-clause-err : goal.returns-in-Player-clause-err
returns-in-Player-clause-err c = rw c.in-Player.is (c.merge_leaf-in-Player).ensures.err
