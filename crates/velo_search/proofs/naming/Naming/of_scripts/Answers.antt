use Rattle.velo_search.proofs.naming.Naming.of_scripts.Goals as goal

pub loop-thread-preserved : goal.loop-thread-preserved
loop-thread-preserved c = c.take_in_script.ensures c.args.bounds c.loop-thread.invariant
