use Rattle.velo_words.specs.Waits.{wait_text}
use Rattle.velo_words.proofs.OnWaits.{no-texts, texts-first}
use Rattle.velo_words.proofs.waits.waits_of.Goals as goal

pub loop-thread-init : goal.loop-thread-init
loop-thread-init c = no-texts (wait_text c.args.workload.now c.args.closed.now.log) c.new-text.result.items c.new-text.ensures.items

pub loop-thread-preserved : goal.loop-thread-preserved
loop-thread-preserved c =
    texts-first (wait_text c.args.workload.now c.args.closed.now.log) c.loop-thread.thread c.loop-thread.text.items c.add_wait.new.text.items c.loop-thread.invariant c.in_ok-add_wait.ensures
