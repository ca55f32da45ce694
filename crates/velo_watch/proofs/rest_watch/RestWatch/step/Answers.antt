use Rattle.std.proofs.Common.{◌∙◌, ◌∷◌, ◌++◌, [], Ok, Option, sym, subst}
use Rattle.std.proofs.lemmas.Bool.{false≢true}
use Rattle.std.proofs.lemmas.Result.{err_from_is_err_and}
use Rattle.velo_events.specs.declared.event.Event.{Event}
use Rattle.velo_filter.specs.Tables.{left_of}
use Rattle.velo_logtext.specs.Reader.{Gives, HasGiven}
use Rattle.velo_watch.proofs.OnRestWatches.{as_many, cannot, fails, goes_on, tells}
use Rattle.velo_watch.proofs.rest_watch.RestWatch.step.Goals as goal

pub returns-in-Err-admit-clause-steps : goal.returns-in-Err-admit-clause-steps
returns-in-Err-admit-clause-steps g c read old h =
    let w = c.args.self.now in
    let log = w.whole.trace.events in
    let e = c.in-Ok-Some.event in
    let rest = g.I.Source.remaining c.next.new.source in
    let given : HasGiven read (log ++ e ∷ []) c.next.new.self rest =
    subst (λ (x : Option Event). Gives read log (Ok x) c.next.new.self rest) c.in-Ok-Some.field-0-is (c.in-Ok-Some.ensures.gives read log h.given) in
    cannot (left_of c.args.left.now) read (g.I.Source.remaining c.args.source.now) old (g.O.Sink.contents c.args.sink.now) w c.requires h e c.next.new.self rest given c.next.ensures.bounds c.in-Err-admit.fault c.in-Err-admit.ensures.fault

pub tell-requires : goal.tell-requires
tell-requires g c = as_many (left_of c.args.left.now) c.admit.new.self.whole.trace.events c.admit.new.self.rest c.in-Ok.ensures.goes_on.rest

pub returns-in_err-tell-clause-steps : goal.returns-in_err-tell-clause-steps
returns-in_err-tell-clause-steps g c read old h =
    let w = c.args.self.now in
    let log = w.whole.trace.events in
    let e = c.in-Ok-Some.event in
    let rest = g.I.Source.remaining c.next.new.source in
    let given : HasGiven read (log ++ e ∷ []) c.next.new.self rest =
    subst (λ (x : Option Event). Gives read log (Ok x) c.next.new.self rest) c.in-Ok-Some.field-0-is (c.in-Ok-Some.ensures.gives read log h.given) in
    let failed = err_from_is_err_and c.from_residual.result c.from_residual.ensures.1 in
    rw (failed.1, failed.2)
    (fails (left_of c.args.left.now) read (g.I.Source.remaining c.args.source.now) old (g.O.Sink.contents c.args.sink.now) w c.requires h e c.next.new.self rest given c.next.ensures.bounds c.admit.new.self c.in-Ok.ensures.goes_on c.admit.ensures.reader c.admit.ensures.config c.in-Ok.ensures.log
    (λ cycle. absurd (false≢true (sym c.if-not-told.true ∙ c.has_told-told.ensures.1 cycle))) (g.O.Sink.contents c.tell.new.sink) _ c.in_err-tell.ensures.told)

pub returns-in_ok-tell-clause-steps : goal.returns-in_ok-tell-clause-steps
returns-in_ok-tell-clause-steps g c read old h =
    let w = c.args.self.now in
    let log = w.whole.trace.events in
    let e = c.in-Ok-Some.event in
    let rest = g.I.Source.remaining c.next.new.source in
    let given : HasGiven read (log ++ e ∷ []) c.next.new.self rest =
    subst (λ (x : Option Event). Gives read log (Ok x) c.next.new.self rest) c.in-Ok-Some.field-0-is (c.in-Ok-Some.ensures.gives read log h.given) in
    tells (left_of c.args.left.now) read (g.I.Source.remaining c.args.source.now) old (g.O.Sink.contents c.args.sink.now) w c.requires h e c.next.new.self rest given c.next.ensures.bounds c.admit.new.self c.in-Ok.ensures.goes_on c.admit.ensures.reader c.admit.ensures.config c.in-Ok.ensures.log
    (λ cycle. absurd (false≢true (sym c.if-not-told.true ∙ c.has_told-told.ensures.1 cycle))) (g.O.Sink.contents c.tell.new.sink) c.in_ok-tell.ensures.told

pub returns-else-not-told-clause-steps : goal.returns-else-not-told-clause-steps
returns-else-not-told-clause-steps g c read old h =
    let w = c.args.self.now in
    let log = w.whole.trace.events in
    let e = c.in-Ok-Some.event in
    let rest = g.I.Source.remaining c.next.new.source in
    let given : HasGiven read (log ++ e ∷ []) c.next.new.self rest =
    subst (λ (x : Option Event). Gives read log (Ok x) c.next.new.self rest) c.in-Ok-Some.field-0-is (c.in-Ok-Some.ensures.gives read log h.given) in
    goes_on (left_of c.args.left.now) read (g.I.Source.remaining c.args.source.now) old (g.O.Sink.contents c.args.sink.now) w c.requires h e c.next.new.self rest given c.next.ensures.bounds c.admit.new.self c.in-Ok.ensures.goes_on c.admit.ensures.reader c.admit.ensures.config c.in-Ok.ensures.log
    (c.has_told-told.ensures.0 c.if-not-told.false)
