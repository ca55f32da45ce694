use Rattle.velo_words.proofs.OnWaits.{shared-text, then-ok}
use Rattle.velo_words.proofs.waits.add_holder.Goals as goal

pub returns-then-shares : goal.returns-then-shares
returns-then-shares c =
    then-ok c.args.text.now.items c.add_thread-then-shares.new.text.items _ _ _ c.add_thread-then-shares.result
    (shared-text c.args.workload.now c.args.closed.now.log c.args.lock.0 c.args.thread.0 c.holds_alone.result c.shares.result c.holds_alone.ensures c.if-holds_alone.false c.shares.ensures c.if-shares.true)
    c.add_thread-then-shares.ensures
