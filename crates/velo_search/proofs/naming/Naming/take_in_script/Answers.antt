use Rattle.velo_search.proofs.naming.Naming.take_in_script.Goals as goal

pub loop-place-preserved : goal.loop-place-preserved
loop-place-preserved c = λ bounds names. c.take_in.ensures bounds (c.loop-place.invariant bounds names)
