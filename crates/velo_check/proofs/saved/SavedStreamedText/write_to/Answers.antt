use Rattle.std.proofs.Common.{refl}
use Rattle.velo_check.specs.Writing.{writing}
use Rattle.velo_logtext.specs.Text.{log_text}
use Rattle.velo_check.proofs.OnDelivery.{delivers}
use Rattle.velo_check.proofs.saved.SavedStreamedText.write_to.Goals as goal

pub returns-in-Log : goal.returns-in-Log
returns-in-Log g c = (
  log_text c.bounds.result c.log.result.now.events,
  rw c.in-Log.is (rw c.bounds.ensures (rw c.log.ensures.events refl)),
  delivers (writing g.S.Sink.contents g.S.Sink.failures c.args.sink.now c.write_log.new.sink) (log_text c.bounds.result c.log.result.now.events) c.write_log.result
      c.write_log.ensures.ok c.write_log.ensures.err c.write_log.ensures.no_failure c.write_log.ensures.failure,
)

pub returns-in-Bytes : goal.returns-in-Bytes
returns-in-Bytes g c = (
  c.in-Bytes.bytes.now,
  rw c.in-Bytes.is refl,
  delivers (writing g.S.Sink.contents g.S.Sink.failures c.args.sink.now c.write_all.new.sink) c.in-Bytes.bytes.now c.write_all.result
      c.write_all.ensures.ok c.write_all.ensures.err c.write_all.ensures.no_failure c.write_all.ensures.failure,
)
