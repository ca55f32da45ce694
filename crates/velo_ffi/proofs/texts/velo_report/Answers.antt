use Rattle.std.proofs.Common.{◌≡◌, Option, IfSome, rules, subst, sym}
use Rattle.velo_ffi.specs.Texts.{TellsReport}
use Rattle.velo_ffi.specs.Watch.{WatchState}
use Rattle.velo_ffi.proofs.texts.velo_report.Goals as goal

pub returns-clause-told : goal.returns-clause-told
returns-clause-told c =
    let status = c.put_report-status.result in let buffer = c.put_report-status.new.buffer in let count = c.put_report-status.new.count in
    let same : c.deref.result.now ≡ c.in-Some.watch.value = search rules in
    subst (λ (kept : Option WatchState). IfSome kept (λ watch. TellsReport c.args.names.now watch.world status buffer count)) (sym c.in-Some.ensures.some)
    (subst (λ (w : WatchState). TellsReport c.args.names.now w.world status buffer count) same c.put_report-status.ensures.told)
