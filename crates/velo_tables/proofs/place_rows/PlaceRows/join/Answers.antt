use Rattle.std.proofs.Common.{◌≡◌, ◌∷◌, length, map, get_or, sym, ap, ◌∙◌, subst}
use Rattle.velo_tables.specs.Clocks.{OfLast, row_of, number_at, greatest_of, beside}
use Rattle.velo_tables.specs.ClockRows.{numbers_of}
use Rattle.velo_tables.proofs.OnRows.{row-long, row-short, thread-row}
use Rattle.velo_tables.proofs.OnNoted.{joined-one, joined-two}
use Rattle.velo_tables.proofs.place_rows.PlaceRows.join.Goals as goal

pub returns-in-Shared : goal.returns-in-Shared
returns-in-Shared c = λ u.
    let now = c.args.self.now in
    let n = length c.args.clock.now in
    let t = c.args.thread.0 in
    let own = row_of n now.threads.items t in
    let long = row-long n now.threads.items t (thread-row n now.threads.items t c.requires.threads c.requires.own) in
    let x = c.in-Shared.c.0 in
    let is_clock = c.copy_from_slice.ensures.after ∙ (c.row.ensures ∙ ap (λ xs. row_of n xs t) c.deref.ensures.value) in
    let is_row = c.row-in-Shared.ensures ∙ ap (λ xs. row_of n xs x) c.deref-in-Shared.ensures.value in
    subst (λ a. get_or c.raise.new.numbers u 0 ≡ greatest_of (map (λ p. number_at n (numbers_of now) p u) (OfLast t ∷ beside a))) (sym c.in-Shared.is)
    (joined-one n own long (row_of n now.writes.items x) (row-short n now.writes.items x) c.copy_from_slice.new.self c.row-in-Shared.result.now c.raise.new.numbers is_clock is_row c.raise.ensures u)

pub returns-in-Exclusive : goal.returns-in-Exclusive
returns-in-Exclusive c = λ u.
    let now = c.args.self.now in
    let n = length c.args.clock.now in
    let t = c.args.thread.0 in
    let own = row_of n now.threads.items t in
    let long = row-long n now.threads.items t (thread-row n now.threads.items t c.requires.threads c.requires.own) in
    let x = c.in-Exclusive.c.0 in
    let is_clock = c.copy_from_slice.ensures.after ∙ (c.row.ensures ∙ ap (λ xs. row_of n xs t) c.deref.ensures.value) in
    let is_write = c.row-in-Exclusive.ensures ∙ ap (λ xs. row_of n xs x) c.deref-in-Exclusive.ensures.value in
    let is_reads = c.row-in-Exclusive-2.ensures ∙ ap (λ xs. row_of n xs x) c.deref-in-Exclusive-2.ensures.value in
    subst (λ a. get_or c.raise-in-Exclusive-2.new.numbers u 0 ≡ greatest_of (map (λ p. number_at n (numbers_of now) p u) (OfLast t ∷ beside a))) (sym c.in-Exclusive.is)
    (joined-two n own long (row_of n now.writes.items x) (row-short n now.writes.items x) c.copy_from_slice.new.self c.row-in-Exclusive.result.now c.raise-in-Exclusive.new.numbers is_clock is_write c.raise-in-Exclusive.ensures
    (row_of n now.reads.items x) (row-short n now.reads.items x) c.row-in-Exclusive-2.result.now c.raise-in-Exclusive-2.new.numbers is_reads c.raise-in-Exclusive-2.ensures u)

pub returns-in-Join : goal.returns-in-Join
returns-in-Join c = λ u.
    let now = c.args.self.now in
    let n = length c.args.clock.now in
    let t = c.args.thread.0 in
    let own = row_of n now.threads.items t in
    let long = row-long n now.threads.items t (thread-row n now.threads.items t c.requires.threads c.requires.own) in
    let w = c.in-Join.u.0 in
    let is_clock = c.copy_from_slice.ensures.after ∙ (c.row.ensures ∙ ap (λ xs. row_of n xs t) c.deref.ensures.value) in
    let is_row = c.row-in-Join.ensures ∙ ap (λ xs. row_of n xs w) c.deref-in-Join.ensures.value in
    subst (λ a. get_or c.raise-in-Join.new.numbers u 0 ≡ greatest_of (map (λ p. number_at n (numbers_of now) p u) (OfLast t ∷ beside a))) (sym c.in-Join.is)
    (joined-one n own long (row_of n now.threads.items w) (row-short n now.threads.items w) c.copy_from_slice.new.self c.row-in-Join.result.now c.raise-in-Join.new.numbers is_clock is_row c.raise-in-Join.ensures u)
