use Rattle.std.proofs.Common.{◌≡◌, ℕ, ◌+◌, ◌∷◌, ◌++◌, [], Bool, true, false, List, length, length-append, Option, Some, Result, Ok, Err, refl, ap, sym, subst, ◌∙◌, arith, rules}
use Rattle.std.specs.Prelude.{IsFalse, is_some}
use Rattle.std.proofs.lemmas.Result.{err_from_is_err_and}
use Rattle.velo_events.specs.declared.config.Bounds.{Bounds}
use Rattle.velo_events.specs.declared.config.Config.{Config}
use Rattle.velo_events.specs.declared.event.Event.{Event}
use Rattle.velo_events.specs.WellFormed.{IsWellFormed}
use Rattle.velo_logtext.specs.Reader.{ReaderState}
use Rattle.std.specs.Io.KnownBytes.{Appends}
use Rattle.velo_world.specs.declared.analysis.Alarm.{Alarm}
use Rattle.velo_watch.specs.Watch.{IsFront, told_text}
use Rattle.velo_watch.specs.declared.fault.WatchFault.{WatchFault}
use Rattle.velo_watch.specs.declared.fault.WatchFault.TheVariants as watch_fault
use Rattle.velo_watch.specs.declared.endless.EndlessWatch.{EndlessWatch}
use Rattle.velo_watch.specs.Endless.{HasJudged, Steps, TellsPartOf}
use Rattle.velo_watch.specs.Reading.{Gives, HasRead}
use Rattle.velo_watch.proofs.OnEndless.{front_read, no_cycle_before, part_told, tells, told_first, well_judged}
use Rattle.velo_watch.proofs.endless.EndlessWatch.step.Goals as goal

pub returns-in-Err-admit-clause-steps : goal.returns-in-Err-admit-clause-steps
returns-in-Err-admit-clause-steps g c = λ read old log h.
    let own = c.args.self.now in
    let e = c.in-Ok-Some.event in
    let all : List Event = log ++ e ∷ [] in
    let given : HasRead read all c.next.new.self (g.I.Source.remaining c.next.new.source) =
    subst (λ (x : Option Event). Gives read log (Ok x) c.next.new.self (g.I.Source.remaining c.next.new.source)) c.in-Ok-Some.field-0-is (c.in-Ok-Some.ensures.gives read log h.given) in
    let before = h.seen.judged in
    let mid : EndlessWatch = record { reader = c.next.new.self; whole = own.whole; piece = own.piece; alarm = own.alarm } in
    let seen : HasJudged log mid = record { whole = before.whole; bounds = before.bounds; judged = before.judged; in_time = before.in_time } in
    let count : c.next.new.self.given ≡ length log + 1 = given.count ∙ length-append log (e ∷ []) in
    let at : c.given-position.result ≡ length log = c.given-position.ensures.given ∙ h.seen.count in
    let front : IsFront read own.piece.world.config.bounds all = front_read read all c.next.new.self (g.I.Source.remaining c.next.new.source) own.piece.world.config.bounds (h.bounds ∙ sym c.next.ensures.bounds) given in
    (well_judged log own before, tells old _ log own.piece own.alarm before.judged h.told, (e, front, c.in-Err-admit.ensures.judges log seen at count))

pub returns-in_err-tell-clause-steps : goal.returns-in_err-tell-clause-steps
returns-in_err-tell-clause-steps g c = λ read old log h.
    let own = c.args.self.now in
    let e = c.in-Ok-Some.event in
    let all : List Event = log ++ e ∷ [] in
    let given : HasRead read all c.next.new.self (g.I.Source.remaining c.next.new.source) =
    subst (λ (x : Option Event). Gives read log (Ok x) c.next.new.self (g.I.Source.remaining c.next.new.source)) c.in-Ok-Some.field-0-is (c.in-Ok-Some.ensures.gives read log h.given) in
    let before = h.seen.judged in
    let mid : EndlessWatch = record { reader = c.next.new.self; whole = own.whole; piece = own.piece; alarm = own.alarm } in
    let seen : HasJudged log mid = record { whole = before.whole; bounds = before.bounds; judged = before.judged; in_time = before.in_time } in
    let count : c.next.new.self.given ≡ length log + 1 = given.count ∙ length-append log (e ∷ []) in
    let at : c.given-position.result ≡ length log = c.given-position.ensures.given ∙ h.seen.count in
    let front : IsFront read own.piece.world.config.bounds all = front_read read all c.next.new.self (g.I.Source.remaining c.next.new.source) own.piece.world.config.bounds (h.bounds ∙ sym c.next.ensures.bounds) given in
    let failed = err_from_is_err_and c.from_residual.result c.from_residual.ensures.1 in
    let is : c.from_residual.result ≡ Err watch_fault.Write = failed.1 ∙ ap (λ (f : WatchFault). Err f) (failed.2 ∙ c.in_err-tell.ensures.err) in
    let off : IsFalse (is_some own.alarm) = search rules in
    let new = c.admit.new.self in
    let judged : HasJudged all new = c.in-Ok.ensures.judges log seen at count in
    let part : TellsPartOf new.alarm (g.O.Sink.contents c.args.sink.now) (g.O.Sink.contents c.tell.new.sink) =
    subst (λ (a : Option Alarm). TellsPartOf a (g.O.Sink.contents c.args.sink.now) (g.O.Sink.contents c.tell.new.sink)) c.as_ref.ensures.value c.in_err-tell.ensures.part in
    rw is (
      e,
      record {
        front = front;
        came = subst (λ (k : Config). IsWellFormed k.bounds all) c.admit.ensures.config (well_judged all new judged);
        room = given.few;
        no_cycle = no_cycle_before log own.piece own.alarm off before.judged;
        part = part_told old (g.O.Sink.contents c.args.sink.now) (g.O.Sink.contents c.tell.new.sink) all new.piece own.alarm new.alarm off h.told judged.judged part;
      },
    )

pub returns-in_ok-tell-clause-steps : goal.returns-in_ok-tell-clause-steps
returns-in_ok-tell-clause-steps g c = λ read old log h.
    let own = c.args.self.now in
    let e = c.in-Ok-Some.event in
    let all : List Event = log ++ e ∷ [] in
    let given : HasRead read all c.next.new.self (g.I.Source.remaining c.next.new.source) =
    subst (λ (x : Option Event). Gives read log (Ok x) c.next.new.self (g.I.Source.remaining c.next.new.source)) c.in-Ok-Some.field-0-is (c.in-Ok-Some.ensures.gives read log h.given) in
    let before = h.seen.judged in
    let mid : EndlessWatch = record { reader = c.next.new.self; whole = own.whole; piece = own.piece; alarm = own.alarm } in
    let seen : HasJudged log mid = record { whole = before.whole; bounds = before.bounds; judged = before.judged; in_time = before.in_time } in
    let count : c.next.new.self.given ≡ length log + 1 = given.count ∙ length-append log (e ∷ []) in
    let at : c.given-position.result ≡ length log = c.given-position.ensures.given ∙ h.seen.count in
    let front : IsFront read own.piece.world.config.bounds all = front_read read all c.next.new.self (g.I.Source.remaining c.next.new.source) own.piece.world.config.bounds (h.bounds ∙ sym c.next.ensures.bounds) given in
    let off : IsFalse (is_some own.alarm) = search rules in
    let new = c.admit.new.self in
    let reader : new.reader ≡ c.next.new.self = c.admit.ensures.reader in
    let judged : HasJudged all new = c.in-Ok.ensures.judges log seen at count in (
      e,
      record {
        given = subst (λ (r : ReaderState). HasRead read all r (g.I.Source.remaining c.next.new.source)) (sym reader) given;
        bounds = ap (λ (k : Config). k.bounds) c.admit.ensures.config ∙ (h.bounds ∙ sym (ap (λ (r : ReaderState). r.bounds) reader ∙ c.next.ensures.bounds));
        seen = record { judged = judged; count = ap (λ (r : ReaderState). r.given) reader ∙ given.count };
        told = told_first old (g.O.Sink.contents c.args.sink.now) (g.O.Sink.contents c.tell.new.sink) own.alarm new.alarm off h.told
            (subst (λ (a : Option Alarm). Appends (g.O.Sink.contents c.args.sink.now) (g.O.Sink.contents c.tell.new.sink) (told_text a)) c.as_ref.ensures.value c.in_ok-tell.ensures.ok);
      },
    )
