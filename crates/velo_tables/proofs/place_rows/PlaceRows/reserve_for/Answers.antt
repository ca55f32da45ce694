use Rattle.std.proofs.Common.{◌≡◌, ◌+◌, ◌-◌, ◌*◌, refl, sym, subst, ⊎_elim, inl, inr}
use Rattle.std.specs.Prelude.{◌⊎◌}
use Rattle.velo_events.specs.Growth.{filled_up}
use Rattle.velo_events.proofs.OnResults.{from_either, OnOk-weaker}
use Rattle.velo_tables.specs.Clocks.{HasRoomBeside}
use Rattle.velo_tables.specs.ClockRows.{numbers_of}
use Rattle.velo_tables.proofs.OnRows.{filled, filled-keeps, filled-room}
use Rattle.velo_tables.proofs.place_rows.PlaceRows.reserve_for.Goals as goal

pub returns-in_ok-fill_up_to-in-Shared-clause-kept :
    goal.returns-in_ok-fill_up_to-in-Shared-clause-kept
returns-in_ok-fill_up_to-in-Shared-clause-kept c =
    let old = numbers_of c.args.self.now in
    let n = c.args.count in
    let x = c.in-Shared.c.0 in
    let last = (x + 1) * n - 1 in
    let reads = c.fill_up_to-in-Shared.new.items.items in
    let either = from_either c.fill_up_to-in-Shared.result _ _ ((reads ≡ filled_up 0 (last + 1) old.reads) ⊎ (reads ≡ old.reads)) c.fill_up_to-in-Shared.ensures.ok c.fill_up_to-in-Shared.ensures.err inl inr in
    filled-keeps n old c.requires.some x last refl c.fill_up_to.new.items.items reads c.in_ok-fill_up_to-in-Shared.ensures.ok either

pub returns-in_ok-fill_up_to-in-Shared-clause-ok :
    goal.returns-in_ok-fill_up_to-in-Shared-clause-ok
returns-in_ok-fill_up_to-in-Shared-clause-ok c =
    let old = numbers_of c.args.self.now in
    let n = c.args.count in
    let x = c.in-Shared.c.0 in
    let last = (x + 1) * n - 1 in
    let writes = c.fill_up_to.new.items.items in
    let reads = c.fill_up_to-in-Shared.new.items.items in
    let was = c.in_ok-fill_up_to-in-Shared.ensures.ok in
    OnOk-weaker c.fill_up_to-in-Shared.result _ _ c.fill_up_to-in-Shared.ensures.ok
    (λ read of.
    let room = filled-room n old c.requires.some x last refl writes reads was read in
    ⊎_elim
    (λ is. subst (HasRoomBeside n (filled n old c.requires.some x last refl writes reads was)) (sym is) room)
    (λ is. subst (HasRoomBeside n (filled n old c.requires.some x last refl writes reads was)) (sym is) room)
    c.in-Shared.is)
