use Rattle.std.proofs.Common.{◌≡◌, Option, IfSome, rules, subst, sym}
use Rattle.velo_ffi.specs.Explaining.{TellsExplanation}
use Rattle.velo_ffi.specs.Watch.{WatchState}
use Rattle.velo_ffi.proofs.explaining.explain.Goals as goal

pub returns-clause-told : goal.returns-clause-told
returns-clause-told c =
    let given = c.args.given.now in
    let status = c.put_explanation-status.result in let buffer = c.put_explanation-status.new.buffer in let count = c.put_explanation-status.new.count in
    let same : c.deref.result.now ≡ c.in-Some.watch.value = search rules in
    subst (λ (kept : Option WatchState). IfSome kept (λ watch. TellsExplanation given.names.now given.sites.now watch.world.log status buffer count)) (sym c.in-Some.ensures.some)
    (subst (λ (w : WatchState). TellsExplanation given.names.now given.sites.now w.world.log status buffer count) same c.put_explanation-status.ensures.told)
