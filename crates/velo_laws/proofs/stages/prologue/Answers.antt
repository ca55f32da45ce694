use Rattle.std.proofs.Common.{subst}
use Rattle.velo_events.specs.declared.config.Bounds.{Bounds}
use Rattle.velo_events.specs.WellFormed.{IsWellFormed}
use Rattle.velo_laws.proofs.OnPrologues.{is_prologue, as_many}
use Rattle.velo_laws.proofs.stages.prologue.Goals as goal

pub returns-clause-stands : goal.returns-clause-stands
returns-clause-stands c = λ log stands.
    let well = subst (λ (b : Bounds). IsWellFormed b log) c.requires stands.well_formed in
    let forked = c.in_ok-fork_threads.ensures log stands in
    let written = c.in_ok-write_values.ensures log stands forked in
    let acquired = c.in_ok-acquire_locks.ensures log stands written in
    let shared = c.in_ok-share_locks.ensures log stands acquired in
    is_prologue c.args.bounds log well _ (c.in_ok-exit_threads.ensures log stands shared)

pub returns-clause-length : goal.returns-clause-length
returns-clause-length c = λ log stands.
    let well = subst (λ (b : Bounds). IsWellFormed b log) c.requires stands.well_formed in
    let forked = c.in_ok-fork_threads.ensures log stands in
    let written = c.in_ok-write_values.ensures log stands forked in
    let acquired = c.in_ok-acquire_locks.ensures log stands written in
    let shared = c.in_ok-share_locks.ensures log stands acquired in
    as_many c.args.bounds log well _ (c.in_ok-exit_threads.ensures log stands shared)
