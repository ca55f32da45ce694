use Rattle.std.proofs.Common.{◌≡◌, ◌∷◌, ◌++◌, [], ◌∙◌, Bool, true, false, Ok, Err, Result, Option, Some, List, ℕ, ap, sym, subst, rules}
use Rattle.std.proofs.lemmas.Result.{err_from_is_err_and}
use Rattle.velo_events.specs.declared.event.Event.{Event}
use Rattle.velo_logtext.specs.Reader.{HasGiven, Gives, IsMetBehind}
use Rattle.velo_world.specs.World.{WorldState}
use Rattle.velo_watch.specs.declared.fault.WatchFault.{WatchFault}
use Rattle.velo_watch.specs.declared.fault.WatchFault.TheVariants as watch_fault
use Rattle.velo_watch.specs.UnderWay.{CameAbout, read_failures, write_failures}
use Rattle.velo_watch.proofs.OnWatches.{tells, front_next, told_with, told_still, steps_on, fails_writing, failed_reads}
use Rattle.velo_watch.proofs.state.Watch.step.Goals as goal

pub returns-in-Err-clause-steps : goal.returns-in-Err-clause-steps
returns-in-Err-clause-steps g c read old h =
    let w = c.args.self.now in
    let came : CameAbout w.world = record { well_formed = c.log.ensures.well_formed; room = c.log.ensures.limit } in
    (came, tells w.told old _ w.world.log h.told, subst (λ (n : ℕ). IsMetBehind n c.in-Err.fault) h.given.count c.in-Err.ensures.place, c.in-Err.ensures.gives read w.world.log h.given)

pub returns-in-Err-replay-clause-steps : goal.returns-in-Err-replay-clause-steps
returns-in-Err-replay-clause-steps g c read old h =
    let w = c.args.self.now in
    let e = c.in-Ok-Some.event in
    let given : HasGiven read (w.world.log ++ e ∷ []) c.next.new.self (g.I.Source.remaining c.next.new.source) =
    subst (λ (x : Option Event). Gives read w.world.log (Ok x) c.next.new.self (g.I.Source.remaining c.next.new.source)) c.in-Ok-Some.field-0-is (c.in-Ok-Some.ensures.gives read w.world.log h.given) in
    let came : CameAbout w.world = record { well_formed = c.log.ensures.well_formed; room = c.log.ensures.limit } in
    (came, tells w.told old _ w.world.log h.told, (e, front_next read _ _ old _ w c.next.new.self e h given c.next.ensures.bounds, c.in-Err-replay.ensures.fault))

pub returns-in_err-self-clause-steps : goal.returns-in_err-self-clause-steps
returns-in_err-self-clause-steps g c read old h =
    let failed = err_from_is_err_and c.from_residual.result c.from_residual.ensures.1 in
    let w = c.args.self.now in
    let e = c.in-Ok-Some.event in
    let given : HasGiven read (w.world.log ++ e ∷ []) c.next.new.self (g.I.Source.remaining c.next.new.source) =
    subst (λ (x : Option Event). Gives read w.world.log (Ok x) c.next.new.self (g.I.Source.remaining c.next.new.source)) c.in-Ok-Some.field-0-is (c.in-Ok-Some.ensures.gives read w.world.log h.given) in
    let front = front_next read _ _ old _ w c.next.new.self e h given c.next.ensures.bounds in
    let untold : w.told ≡ false = search rules in
    let came : CameAbout c.replay.new.self = record { well_formed = c.log-2.ensures.well_formed; room = c.log-2.ensures.limit } in
    fails_writing read _ _ old _ _ w (record { reader = c.next.new.self; world = c.replay.new.self; told = w.told }) c.from_residual.result c.replay.new.self e
    (failed.1 ∙ ap (λ (f : WatchFault). Err f) (failed.2 ∙ c.in_err-self.ensures.err)) h front untold (ap (λ (s : WorldState). s.config) c.in-Ok.ensures.ok) (ap (λ (s : WorldState). s.log) c.in-Ok.ensures.ok) came c.in_err-self.ensures.part

pub returns-in_ok-self-clause-steps : goal.returns-in_ok-self-clause-steps
returns-in_ok-self-clause-steps g c read old h =
    let w = c.args.self.now in
    let e = c.in-Ok-Some.event in
    let given : HasGiven read (w.world.log ++ e ∷ []) c.next.new.self (g.I.Source.remaining c.next.new.source) =
    subst (λ (x : Option Event). Gives read w.world.log (Ok x) c.next.new.self (g.I.Source.remaining c.next.new.source)) c.in-Ok-Some.field-0-is (c.in-Ok-Some.ensures.gives read w.world.log h.given) in
    let untold : w.told ≡ false = search rules in
    steps_on read _ _ old _ _ w (record { reader = c.next.new.self; world = c.replay.new.self; told = c.in_ok-self.field-0 }) e h given
    c.next.ensures.bounds (ap (λ (s : WorldState). s.config) c.in-Ok.ensures.ok) (ap (λ (s : WorldState). s.log) c.in-Ok.ensures.ok)
    (told_with c.in_ok-self.field-0 old _ _ w c.replay.new.self.log untold h.told c.in_ok-self.ensures.ok)

pub returns-else-not-self-clause-steps : goal.returns-else-not-self-clause-steps
returns-else-not-self-clause-steps g c read old h =
    let w = c.args.self.now in
    let e = c.in-Ok-Some.event in
    let given : HasGiven read (w.world.log ++ e ∷ []) c.next.new.self (g.I.Source.remaining c.next.new.source) =
    subst (λ (x : Option Event). Gives read w.world.log (Ok x) c.next.new.self (g.I.Source.remaining c.next.new.source)) c.in-Ok-Some.field-0-is (c.in-Ok-Some.ensures.gives read w.world.log h.given) in
    let was_told : w.told ≡ true = search rules in
    steps_on read _ _ old _ _ w (record { reader = c.next.new.self; world = c.replay.new.self; told = w.told }) e h given
    c.next.ensures.bounds (ap (λ (s : WorldState). s.config) c.in-Ok.ensures.ok) (ap (λ (s : WorldState). s.log) c.in-Ok.ensures.ok)
    (told_still old _ w c.replay.new.self.log e was_told (ap (λ (s : WorldState). s.log) c.in-Ok.ensures.ok) h.told)

pub returns-in-Err-clause-reads : goal.returns-in-Err-clause-reads
returns-in-Err-clause-reads g c = c.in-Err.ensures.failures ∙ failed_reads c.in-Err.fault _

pub returns-in_err-self-clause-reads : goal.returns-in_err-self-clause-reads
returns-in_err-self-clause-reads g c =
    let failed = err_from_is_err_and c.from_residual.result c.from_residual.ensures.1 in
    let is = failed.1 ∙ ap (λ (f : WatchFault). Err f) (failed.2 ∙ c.in_err-self.ensures.err) in
    c.in-Ok-Some.ensures.failures ∙ ap (λ (r : Result Bool WatchFault). read_failures r (g.I.Source.failures c.args.source.now)) (sym is)

pub returns-in_err-self-clause-writes : goal.returns-in_err-self-clause-writes
returns-in_err-self-clause-writes g c =
    let failed = err_from_is_err_and c.from_residual.result c.from_residual.ensures.1 in
    let is = failed.1 ∙ ap (λ (f : WatchFault). Err f) (failed.2 ∙ c.in_err-self.ensures.err) in
    c.in_err-self.ensures.failure ∙ ap (λ (r : Result Bool WatchFault). write_failures r (g.O.Sink.failures c.args.sink.now)) (sym is)
