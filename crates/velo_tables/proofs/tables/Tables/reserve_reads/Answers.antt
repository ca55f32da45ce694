use Rattle.std.proofs.Common.{◌≡◌, ◌<◌, length, sym, ◌∙◌, ap, subst}
use Rattle.std.specs.Prelude.{OnOk}
use Rattle.velo_tables.specs.LastAccesses.{LastAccesses, IsUnchanged, HasRoomToRead}
use Rattle.velo_tables.proofs.OnLastAccesses.{IsUnchanged-trans, reads_grown, reads_room}
use Rattle.velo_tables.proofs.tables.Tables.reserve_reads.Goals as goal

pub returns-clause-same : goal.returns-clause-same
returns-clause-same c =
    let kept : LastAccesses = record { threads = c.self.inside.threads.items; cells = c.self.inside.cells } in
    let after : LastAccesses = record { threads = c.self.inside.threads.items; cells = c.reserve_reads.new.self } in
    let there : c.args.c.0 < length kept.cells = subst (λ (k : LastAccesses). c.args.c.0 < length k.cells) (sym c.self.view_is) c.in_ok-reserve_cell.ensures.ok in
    IsUnchanged-trans c.args.self.now c.reserve_cell.new.self after c.reserve_cell.ensures.same
    (subst (λ old. IsUnchanged old after) c.self.view_is (reads_grown c.reserve_reads.result kept c.args.c.0 c.len.result c.reserve_reads.new.self there c.reserve_reads.ensures.ok c.reserve_reads.ensures.err))

pub returns-clause-ok : goal.returns-clause-ok
returns-clause-ok c =
    let kept : LastAccesses = record { threads = c.self.inside.threads.items; cells = c.self.inside.cells } in
    let after : LastAccesses = record { threads = c.self.inside.threads.items; cells = c.reserve_reads.new.self } in
    let there : c.args.c.0 < length kept.cells = subst (λ (k : LastAccesses). c.args.c.0 < length k.cells) (sym c.self.view_is) c.in_ok-reserve_cell.ensures.ok in
    let threads : c.len.result ≡ length c.args.self.now.threads =
    (c.len.ensures ∙ c.self.inside.threads.ok.0) ∙ (ap (λ (k : LastAccesses). length k.threads) c.self.view_is ∙ c.reserve_cell.ensures.threads) in
    subst (λ n. OnOk c.reserve_reads.result (HasRoomToRead n after c.args.c.0)) threads
    (reads_room c.reserve_reads.result kept c.args.c.0 c.len.result c.reserve_reads.new.self there c.reserve_reads.ensures.ok)
