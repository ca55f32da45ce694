use Rattle.std.proofs.Common.{◌∙◌, ◌≤◌, Err, ap, length, subst, sym}
use Rattle.velo_logtext.specs.declared.fault.LogFault.{LogFault}
use Rattle.velo_world.specs.World.{WorldState}
use Rattle.velo_check.specs.Input.{IsInput}
use Rattle.velo_check.proofs.OnInputs.{input_found, read_failed, undone, undone_reads_nothing}
use Rattle.velo_check.proofs.input.do_input.Goals as goal

pub returns-in-Err-clause-err : goal.returns-in-Err-clause-err
returns-in-Err-clause-err g c = (c.in-Err.ensures.found, λ e. c.in-Err.ensures.memory (ap (λ (f : LogFault). Err f) e))

pub returns-in-Err-clause-failure : goal.returns-in-Err-clause-failure
returns-in-Err-clause-failure g c = read_failed c.in-Err.fault _ _ c.in-Err.ensures.failures

pub returns-in-Ok-do_log-clause-ok : goal.returns-in-Ok-do_log-clause-ok
returns-in-Ok-do_log-clause-ok g c =
    let known = g.I.Source.remaining c.args.source.now in
    let world = c.in-Ok-do_log.ensures.ok in
    let input : IsInput known c.in-Ok.read.0 c.in-Ok.read.1.events = input_found known _ _ _ c.in-Ok.ensures.found in
    let configured : IsInput known c.config_of.result.bounds c.in-Ok.read.1.events =
    subst (λ b. IsInput known b c.in-Ok.read.1.events) (sym c.config_of.ensures.bounds) input in
    record {
      input = subst (λ (w : WorldState). IsInput known w.config.bounds w.log) (sym world) configured;
      well_formed = c.in-Ok-do_log.ensures.well_formed;
      room = subst (λ n. length c.in-Ok-do_log.closed.log ≤ n) (ap (λ (w : WorldState). w.config.events) world ∙ c.config_of.ensures.events) c.in-Ok-do_log.ensures.short;
    }

pub returns-in-Err-do_log-clause-err : goal.returns-in-Err-do_log-clause-err
returns-in-Err-do_log-clause-err g c =
    let known = g.I.Source.remaining c.args.source.now in
    undone c.args.events c.args.nodes known c.config_of.result c.in-Ok.read.1.events c.config_of.ensures.events c.config_of.ensures.nodes
    (subst (λ b. IsInput known b c.in-Ok.read.1.events) (sym c.config_of.ensures.bounds) (input_found known _ _ _ c.in-Ok.ensures.found))
    c.in-Err-do_log.fault c.in-Err-do_log.ensures.err

pub returns-in-Err-do_log-clause-failure : goal.returns-in-Err-do_log-clause-failure
returns-in-Err-do_log-clause-failure g c =
    c.in-Ok.ensures.failures ∙ sym (undone_reads_nothing c.config_of.result c.in-Ok.read.1.events c.in-Err-do_log.fault _ c.in-Err-do_log.ensures.err)
