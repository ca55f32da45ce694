use Rattle.std.proofs.Common.{refl}
use Rattle.std.proofs.lemmas.Result.{err_from_is_err_and}
use Rattle.velo_world.proofs.OnComing.{is_quiet, stays_quiet}
use Rattle.velo_world.proofs.recorded_world.RecordedRun.make_room.Goals as goal

pub make_room-requires : goal.make_room-requires
make_room-requires c = record { stands = rw c.as_slice.ensures (is_quiet c.args.self.now c.requires.stands c.requires.quiet) }

pub returns-in-Ok-clause-stands : goal.returns-in-Ok-clause-stands
returns-in-Ok-clause-stands c =
    stays_quiet c.args.self.now _ c.as_slice.result.now c.requires.stands refl refl c.reserve_one.ensures.events c.as_slice.ensures c.make_room.ensures.stands.entered c.make_room.ensures.stands.watched

pub returns-in-Err-clause-stands : goal.returns-in-Err-clause-stands
returns-in-Err-clause-stands c =
    stays_quiet c.args.self.now _ c.as_slice.result.now c.requires.stands refl refl c.reserve_one.ensures.events c.as_slice.ensures c.make_room.ensures.stands.entered c.make_room.ensures.stands.watched

pub returns-in_err-make_room-clause-stands : goal.returns-in_err-make_room-clause-stands
returns-in_err-make_room-clause-stands c =
    stays_quiet c.args.self.now _ c.as_slice.result.now c.requires.stands refl refl refl c.as_slice.ensures c.make_room.ensures.stands.entered c.make_room.ensures.stands.watched

pub returns-in_err-make_room-clause-fault : goal.returns-in_err-make_room-clause-fault
returns-in_err-make_room-clause-fault c =
    let failed = err_from_is_err_and c.from_residual.result c.from_residual.ensures.1 in
    rw (failed.1, failed.2, ← c.as_slice.ensures) c.in_err-make_room.ensures.fault

pub returns-in-Ok-clause-flawless : goal.returns-in-Ok-clause-flawless
returns-in-Ok-clause-flawless c = rw (c.reserve_one.ensures.events, ← c.as_slice.ensures) c.in_ok-make_room.ensures.flawless

pub returns-in-Ok-clause-short : goal.returns-in-Ok-clause-short
returns-in-Ok-clause-short c = rw (c.reserve_one.ensures.events, ← c.as_slice.ensures) c.in_ok-make_room.ensures.short

pub returns-in-Ok-clause-slot : goal.returns-in-Ok-clause-slot
returns-in-Ok-clause-slot c = rw (c.reserve_one.ensures.events, ← c.as_slice.ensures) c.in_ok-make_room.ensures.slot
