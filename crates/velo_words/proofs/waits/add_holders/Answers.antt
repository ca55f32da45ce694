use Rattle.velo_words.specs.Waits.{holder_text}
use Rattle.velo_words.proofs.OnWaits.{texts-more, texts-none}
use Rattle.velo_words.proofs.waits.add_holders.Goals as goal

pub loop-thread-init : goal.loop-thread-init
loop-thread-init c = texts-none (holder_text c.args.workload.now c.args.closed.now.log c.args.lock.0) c.args.text.now.items

pub loop-thread-preserved : goal.loop-thread-preserved
loop-thread-preserved c =
    texts-more (holder_text c.args.workload.now c.args.closed.now.log c.args.lock.0) c.loop-thread.thread c.args.text.now.items c.loop-thread.text.items c.add_holder.new.text.items
    c.loop-thread.invariant c.in_ok-add_holder.ensures
