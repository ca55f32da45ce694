use Rattle.std.proofs.Common.{refl, length, sym, ap, ◌∙◌, subst}
use Rattle.std.proofs.lemmas.List.{length-replicate}
use Rattle.velo_tables.specs.ClockRows.{numbers_of, IsWritten, IsNotedBy}
use Rattle.velo_tables.specs.Clocks.{HasRoomBeside}
use Rattle.velo_tables.proofs.OnNoted.{noted-shared, noted-exclusive, noted-fork}
use Rattle.velo_tables.proofs.place_rows.PlaceRows.note.Goals as goal

pub returns-in-Shared : goal.returns-in-Shared
returns-in-Shared c =
    let now = c.args.self.now in
    let n = length c.args.clock.now in
    let there = subst (HasRoomBeside n (numbers_of now)) c.in-Shared.is c.requires.beside in
    subst (λ a. IsNotedBy n (numbers_of now) c.args.clock.now c.args.thread.0 a (record { threads = c.write_row.new.numbers.items; writes = now.writes.items; reads = c.raise_row.new.numbers.items })) (sym c.in-Shared.is)
    (noted-shared n (numbers_of now) c.args.clock.now c.args.thread.0 refl c.write_row.new.numbers.items c.write_row.ensures c.in-Shared.c c.raise_row.new.numbers.items there.reads c.raise_row.ensures)

pub returns-in-Exclusive : goal.returns-in-Exclusive
returns-in-Exclusive c =
    let now = c.args.self.now in
    let n = length c.args.clock.now in
    subst (λ a. IsNotedBy n (numbers_of now) c.args.clock.now c.args.thread.0 a (record { threads = c.write_row.new.numbers.items; writes = c.write_row-in-Exclusive.new.numbers.items; reads = c.write_row-in-Exclusive-2.new.numbers.items })) (sym c.in-Exclusive.is)
    (noted-exclusive n (numbers_of now) c.args.clock.now c.args.thread.0 refl c.write_row.new.numbers.items c.write_row.ensures c.in-Exclusive.c c.write_row-in-Exclusive.new.numbers.items c.write_row-in-Exclusive-2.new.numbers.items c.args.blank.now c.requires.blank c.write_row-in-Exclusive.ensures
    (subst (λ m. IsWritten m now.reads.items c.in-Exclusive.c.0 c.args.blank.now c.write_row-in-Exclusive-2.new.numbers.items) (ap length c.requires.blank ∙ length-replicate n 0) c.write_row-in-Exclusive-2.ensures))

pub returns-in-Fork : goal.returns-in-Fork
returns-in-Fork c =
    let now = c.args.self.now in
    let n = length c.args.clock.now in
    subst (λ a. IsNotedBy n (numbers_of now) c.args.clock.now c.args.thread.0 a (record { threads = c.write_row-in-Fork.new.numbers.items; writes = now.writes.items; reads = now.reads.items })) (sym c.in-Fork.is)
    (noted-fork n (numbers_of now) c.args.clock.now c.args.thread.0 refl c.write_row.new.numbers.items c.write_row.ensures c.in-Fork.u c.write_row-in-Fork.new.numbers.items c.write_row-in-Fork.ensures)
