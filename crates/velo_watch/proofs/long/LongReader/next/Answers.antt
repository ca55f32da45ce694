use Rattle.std.proofs.Common.{◌≡◌, ℕ, ◌<◌, ◌∷◌, ◌++◌, [], List, Option, Some, None, Result, Ok, Err, ap, sym, subst, ◌∙◌, arith}
use Rattle.std.specs.Prelude.{IfSome}
use Rattle.velo_events.specs.declared.event.Event.{Event}
use Rattle.velo_logtext.specs.declared.fault.LogFault.{LogFault}
use Rattle.velo_logtext.specs.Finding.{ReadsAs}
use Rattle.velo_logtext.specs.Reader.{ReaderState, HasGiven, Gives, IsMetBehind}
use Rattle.velo_watch.specs.declared.long.TheConstants.{MAX_WATCHED}
use Rattle.velo_watch.specs.Reading.{HasRead, IsMetEndless}
use Rattle.velo_watch.proofs.OnReading.{from_header, anew, given_anew, read_one, long_read, end_read, fault_read}
use Rattle.velo_watch.proofs.long.LongReader.next.Goals as goal

pub returns-then-self-eq-MAX_WATCHED-clause-gives : goal.returns-then-self-eq-MAX_WATCHED-clause-gives
returns-then-self-eq-MAX_WATCHED-clause-gives g c bytes events h =
    let own = record c.self.inside.reader { given = c.self.inside.given } in
    let left = g.S.Source.remaining c.args.source.now in
    let mine : HasRead bytes events own left = subst (λ (v : ReaderState). HasRead bytes events v left) (sym c.self.view_is) h in
    let before : HasGiven (from_header own left) [] c.count_anew.new.self left = subst (λ (v : ReaderState). HasGiven (from_header own left) [] v left) (sym c.count_anew.ensures) (given_anew bytes events own left mine) in
    let gave : HasGiven (from_header own left) (c.in-Ok-Some.event ∷ []) c.next.new.self (g.S.Source.remaining c.next.new.source) =
    subst (λ (x : Option Event). Gives (from_header own left) [] (Ok x) c.next.new.self (g.S.Source.remaining c.next.new.source)) c.in-Ok-Some.field-0-is (c.in-Ok-Some.ensures.gives (from_header own left) [] before) in
    let shares = c.next.ensures.version ∙ ap (λ (v : ReaderState). v.shares) c.count_anew.ensures in
    let bounds = c.next.ensures.bounds ∙ ap (λ (v : ReaderState). v.bounds) c.count_anew.ensures in
    long_read bytes events own c.next.new.self left _ c.in-Ok-Some.event mine gave shares bounds c.if-self-eq-MAX_WATCHED.true

pub returns-else-self-eq-MAX_WATCHED-clause-gives : goal.returns-else-self-eq-MAX_WATCHED-clause-gives
returns-else-self-eq-MAX_WATCHED-clause-gives g c bytes events h =
    let own = record c.self.inside.reader { given = c.self.inside.given } in
    let left = g.S.Source.remaining c.args.source.now in
    let mine : HasRead bytes events own left = subst (λ (v : ReaderState). HasRead bytes events v left) (sym c.self.view_is) h in
    let before : HasGiven (from_header own left) [] c.count_anew.new.self left = subst (λ (v : ReaderState). HasGiven (from_header own left) [] v left) (sym c.count_anew.ensures) (given_anew bytes events own left mine) in
    let gave : HasGiven (from_header own left) (c.in-Ok-Some.event ∷ []) c.next.new.self (g.S.Source.remaining c.next.new.source) =
    subst (λ (x : Option Event). Gives (from_header own left) [] (Ok x) c.next.new.self (g.S.Source.remaining c.next.new.source)) c.in-Ok-Some.field-0-is (c.in-Ok-Some.ensures.gives (from_header own left) [] before) in
    let shares = c.next.ensures.version ∙ ap (λ (v : ReaderState). v.shares) c.count_anew.ensures in
    let bounds = c.next.ensures.bounds ∙ ap (λ (v : ReaderState). v.bounds) c.count_anew.ensures in
    read_one bytes events own c.next.new.self left _ c.in-Ok-Some.event mine gave shares bounds (omega (arith, c.if-self-eq-MAX_WATCHED.false, c.self.invariant))

pub returns-in-Ok-None-clause-gives : goal.returns-in-Ok-None-clause-gives
returns-in-Ok-None-clause-gives g c bytes events h =
    let own = record c.self.inside.reader { given = c.self.inside.given } in
    let left = g.S.Source.remaining c.args.source.now in
    let mine : HasRead bytes events own left = subst (λ (v : ReaderState). HasRead bytes events v left) (sym c.self.view_is) h in
    let before : HasGiven (from_header own left) [] c.count_anew.new.self left = subst (λ (v : ReaderState). HasGiven (from_header own left) [] v left) (sym c.count_anew.ensures) (given_anew bytes events own left mine) in
    let bounds = c.next.ensures.bounds ∙ ap (λ (v : ReaderState). v.bounds) c.count_anew.ensures in
    end_read bytes events own left c.next.new.self.bounds bounds mine
    (subst (λ (x : Option Event). Gives (from_header own left) [] (Ok x) c.next.new.self (g.S.Source.remaining c.next.new.source)) c.in-Ok-None.field-0-is (c.in-Ok-None.ensures.gives (from_header own left) [] before))

pub returns-in-Err-clause-gives : goal.returns-in-Err-clause-gives
returns-in-Err-clause-gives g c bytes events h =
    let own = record c.self.inside.reader { given = c.self.inside.given } in
    let left = g.S.Source.remaining c.args.source.now in
    let mine : HasRead bytes events own left = subst (λ (v : ReaderState). HasRead bytes events v left) (sym c.self.view_is) h in
    let before : HasGiven (from_header own left) [] c.count_anew.new.self left = subst (λ (v : ReaderState). HasGiven (from_header own left) [] v left) (sym c.count_anew.ensures) (given_anew bytes events own left mine) in
    let met = subst (λ n. IsMetBehind n c.in-Err.fault) (ap (λ (v : ReaderState). v.given) c.count_anew.ensures) c.in-Err.ensures.place in
    subst (λ (f : LogFault). IfSome bytes (λ all. ReadsAs MAX_WATCHED all (Err f))) (sym c.fault_after.ensures)
    (fault_read bytes events own left c.in-Err.fault mine c.self.invariant met (c.in-Err.ensures.gives (from_header own left) [] before))
