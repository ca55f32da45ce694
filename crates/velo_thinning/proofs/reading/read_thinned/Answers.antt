use Rattle.std.proofs.Common.{Err, ap, sym, subst}
use Rattle.velo_logtext.specs.declared.fault.LogFault.{LogFault}
use Rattle.velo_filter.specs.Tables.{left_of}
use Rattle.velo_thinning.specs.Reading.{IsThinInput, IsThinning}
use Rattle.velo_thinning.proofs.OnReading.{text_found, failed_by, fault_found}
use Rattle.velo_thinning.proofs.reading.read_thinned.Goals as goal

pub returns-in-Err-clause-fault : goal.returns-in-Err-clause-fault
returns-in-Err-clause-fault g c = (c.in-Err.ensures.found, λ e. c.in-Err.ensures.memory (ap (λ (f : LogFault). Err f) e))

pub returns-in-Err-clause-failures : goal.returns-in-Err-clause-failures
returns-in-Err-clause-failures g c = failed_by c.in-Err.fault _ _ c.in-Err.ensures.failures

pub returns-in-Ok-thinned_log-clause-ok : goal.returns-in-Ok-thinned_log-clause-ok
returns-in-Ok-thinned_log-clause-ok g c =
    let known = g.I.Source.remaining c.args.source.now in
    let log = c.in-Ok.read.1.events in
    let w = c.in-Ok-thinned_log.ensures.ok in
    record {
      log = log;
      text = subst (λ b. IsThinInput known b log) (sym w.bounds_stay) (text_found known _ _ _ c.in-Ok.ensures.found);
      thins = subst (λ b. IsThinning b (left_of c.args.omitted.now) log c.in-Ok-thinned_log.thinned) (sym w.bounds_stay) w;
    }

pub returns-clause-fault : goal.returns-clause-fault
returns-clause-fault g c =
    let known = g.I.Source.remaining c.args.source.now in
    fault_found known c.in-Ok.read.0 c.in-Ok.read.1.events c.in-Err-thinned_log.fault (text_found known _ _ _ c.in-Ok.ensures.found) c.in-Err-thinned_log.ensures.fault
