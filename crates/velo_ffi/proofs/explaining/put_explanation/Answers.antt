use Rattle.std.proofs.Common.{inl, subst}
use Rattle.velo_ffi.specs.Explaining.{IsExplainedBy}
use Rattle.velo_ffi.specs.Watch.{WatchState}
use Rattle.velo_ffi.proofs.explaining.put_explanation.Goals as goal

pub returns-in-Ok-clause-told : goal.returns-in-Ok-clause-told
returns-in-Ok-clause-told c = inl (
  c.as_slice.result.now,
  subst (λ (w : WatchState). IsExplainedBy c.args.given.now.names.now c.args.given.now.sites.now w.world.log) c.watch.view_is c.in-Ok.ensures.explains,
  c.put_whole.ensures.told,
)
