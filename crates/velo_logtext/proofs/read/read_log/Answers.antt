use Rattle.std.proofs.Common.{◌∷◌, [], Ok, Err, length, length-append, subst, sym, ap, ◌∙◌, arith}
use Rattle.std.proofs.lemmas.Result.{err_from_is_err_and}
use Rattle.std.specs.Prelude.{IfSome}
use Rattle.velo_events.specs.declared.limits.TheConstants.{MAX_EVENTS}
use Rattle.velo_logtext.specs.Finding.{ReadsAs}
use Rattle.velo_logtext.specs.Reader.{HasGiven}
use Rattle.velo_logtext.specs.Text.{AreBounds}
use Rattle.velo_logtext.proofs.OnLaws.{answers_found}
use Rattle.velo_logtext.proofs.OnReaders.{given_some, given_all}
use Rattle.velo_logtext.proofs.OnStreams.{all_events}
use Rattle.velo_logtext.proofs.read.read_log.Goals as goal

pub loop-trace-init : goal.loop-trace-init
loop-trace-init g c =
    let remaining = g.S.Source.remaining in
    record {
      given = subst (λ es. HasGiven (remaining c.args.source.now) es c.in_ok-reader.reader (remaining c.open.new.source)) (sym c.new-trace.ensures) c.in_ok-reader.ensures.ok;
      failures = c.in_ok-reader.ensures.failures;
    }

pub loop-trace-preserved : goal.loop-trace-preserved
loop-trace-preserved g c =
    let remaining = g.S.Source.remaining in
    let one = given_some _ _ c.in_ok-event.field-0 c.in-Some.event _ _ (c.in_ok-event.ensures.gives _ _ c.loop-trace.invariant.given) c.in-Some.is in
    let pushed = subst (λ es. HasGiven (remaining c.args.source.now) es c.next.new.self (remaining c.next.new.source)) (sym c.in_ok-push.ensures.ok) one in
    record {
      given = c.in_ok-take_lines.ensures.given _ _ pushed;
      failures = c.in_ok-event.ensures.failures ∙ c.loop-trace.invariant.failures;
    }

pub loop-trace-smaller : goal.loop-trace-smaller
loop-trace-smaller g c =
    let remaining = g.S.Source.remaining in
    let one = given_some _ _ c.in_ok-event.field-0 c.in-Some.event _ _ (c.in_ok-event.ensures.gives _ _ c.loop-trace.invariant.given) c.in-Some.is in
    let pushed = subst (λ es. HasGiven (remaining c.args.source.now) es c.next.new.self (remaining c.next.new.source)) (sym c.in_ok-push.ensures.ok) one in
    let lines = c.in_ok-take_lines.ensures.given _ _ pushed in
    omega (arith, ap length c.in_ok-push.ensures.ok, length-append c.loop-trace.trace.events (c.in-Some.event ∷ []), c.in_ok-take_lines.ensures.grows, lines.few)

pub returns-in_err-event-clause-only : goal.returns-in_err-event-clause-only
returns-in_err-event-clause-only g c =
    let p = err_from_is_err_and c.from_residual-in_err-event.result c.from_residual-in_err-event.ensures.1 in
    let found = c.in_err-event.ensures.gives _ _ c.loop-trace.invariant.given in
    rw (p.1, p.2) (answers_found MAX_EVENTS (g.S.Source.remaining c.args.source.now) (Err c.in_err-event.field-0.0) found)

pub returns-clause-found : goal.returns-clause-found
returns-clause-found g c =
    let all = given_all _ _ c.in_ok-event.field-0 c.next.new.self _ (c.in_ok-event.ensures.gives _ _ c.loop-trace.invariant.given) c.in_default.is in
    subst (λ b. IfSome (g.S.Source.remaining c.args.source.now) (λ bytes. ReadsAs MAX_EVENTS bytes (Ok (b, c.loop-trace.trace.events)))) (sym c.bounds.ensures) all

pub returns-clause-only : goal.returns-clause-only
returns-clause-only g c = answers_found MAX_EVENTS _ (Ok (c.bounds.result, c.loop-trace.trace.events)) (returns-clause-found g c)

pub returns-clause-within : goal.returns-clause-within
returns-clause-within g c =
    let h = c.loop-trace.invariant.given in
    (subst AreBounds (sym (c.bounds.ensures ∙ c.in_ok-event.ensures.bounds)) h.bounds_fit, all_events _ _ h.events_fit, h.few)

pub returns-clause-end : goal.returns-clause-end
returns-clause-end g c = c.in_ok-event.ensures.end _ _ c.loop-trace.invariant.given (ap Ok c.in_default.is)
