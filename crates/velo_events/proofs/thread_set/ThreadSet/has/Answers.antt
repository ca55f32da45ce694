use Rattle.std.proofs.Common.{◌<◌, sym, ap, ◌∙◌, rules}
use Rattle.std.specs.Prelude.{◌==◌}
use Rattle.std.proofs.lemmas.Bool.{le-ltb}
use Rattle.std.proofs.lemmas.Nat.Bits.{bit_at_above}
use Rattle.velo_events.proofs.thread_set.ThreadSet.has.Goals as goal

pub returns-else-thread-lt-MAX_THREADS : goal.returns-else-thread-lt-MAX_THREADS
returns-else-thread-lt-MAX_THREADS c =
    let fits : c.args.self.0 < 18446744073709551616 = search rules in
    le-ltb _ _ c.if-thread-lt-MAX_THREADS.false
    ∙ sym (ap (λ k. k == 1) (bit_at_above c.args.self.0 64 c.args.thread.0 fits c.if-thread-lt-MAX_THREADS.false))
