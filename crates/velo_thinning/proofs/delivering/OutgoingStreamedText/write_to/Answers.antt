use Rattle.std.proofs.Common.{refl}
use Rattle.velo_check.specs.Writing.{writing}
use Rattle.velo_logtext.specs.Text.{log_text}
use Rattle.velo_thinning.proofs.OnTexts.{delivers}
use Rattle.velo_thinning.proofs.delivering.OutgoingStreamedText.write_to.Goals as goal

pub write_log-requires-clause-bounds : goal.write_log-requires-clause-bounds
write_log-requires-clause-bounds g c =
    let thinned = c.in-Log.thinned.now in
    record {
      some_thread = thinned.config.some_thread;
      few_threads = thinned.config.few_threads;
      few_variables = thinned.few_variables;
      few_locks = thinned.config.few_locks;
    }

pub returns-in-Log : goal.returns-in-Log
returns-in-Log g c =
    let thinned = c.in-Log.thinned.now in
    let text = log_text thinned.config.bounds thinned.left.trace.events in (
      text,
      rw c.in-Log.is refl,
      delivers (writing g.S.Sink.contents g.S.Sink.failures c.args.sink.now c.write_log.new.sink) text c.write_log.result
          c.write_log.ensures.ok c.write_log.ensures.err c.write_log.ensures.no_failure c.write_log.ensures.failure,
    )

pub returns-in-Map : goal.returns-in-Map
returns-in-Map g c = (
  c.in-Map.bytes.now,
  rw c.in-Map.is refl,
  delivers (writing g.S.Sink.contents g.S.Sink.failures c.args.sink.now c.write_all.new.sink) c.in-Map.bytes.now c.write_all.result
      c.write_all.ensures.ok c.write_all.ensures.err c.write_all.ensures.no_failure c.write_all.ensures.failure,
)
