use Rattle.std.proofs.Common.{◌≡◌, ◌<◌, true, length, slice_index_or, sym, ap, ◌∙◌, arith, rules}
use Rattle.std.proofs.lemmas.Bool.{both_ways, false_from_ne_true}
use Rattle.std.proofs.lemmas.List.{get_or_default}
use Rattle.velo_events.proofs.OnBlocks.{any_below-at, any_below-some}
use Rattle.velo_search.specs.declared.hold.Hold.{Hold}
use Rattle.velo_search.specs.Free.{excludes, no_hold}
use Rattle.velo_search.proofs.held.Held.excludes.Goals as goal

pub returns-then-excludes : goal.returns-then-excludes
returns-then-excludes c =
    let mine = c.args.self.now.locks.items in
    let theirs = c.args.other.now.locks.items in
    let m = c.loop-lock.lock in
    let own = c.index.result.now in
    let their = c.index-then-lock-len.result.now in
    let within : m < length mine = search rules in
    let inside : m < length theirs = search rules in
    let first : own ≡ slice_index_or mine m no_hold = c.index.ensures ∙ get_or_default mine m own no_hold within in
    let second : their ≡ slice_index_or theirs m no_hold = c.index-then-lock-len.ensures ∙ get_or_default theirs m their no_hold inside in
    let here : excludes (slice_index_or mine m no_hold) (slice_index_or theirs m no_hold) ≡ true =
    ap (λ (x : Hold). excludes x (slice_index_or theirs m no_hold)) (sym first) ∙ (ap (λ (y : Hold). excludes own y) (sym second) ∙ (sym c.excludes.ensures ∙ c.if-excludes.true)) in
    sym (any_below-at (length mine) (λ n. excludes (slice_index_or mine n no_hold) (slice_index_or theirs n no_hold)) m within here)

pub returns : goal.returns
returns c =
    let mine = c.args.self.now.locks.items in
    let theirs = c.args.other.now.locks.items in
    sym (false_from_ne_true _ (λ some.
    let w = any_below-some (length mine) (λ n. excludes (slice_index_or mine n no_hold) (slice_index_or theirs n no_hold)) some in
    both_ways _ (c.loop-lock.invariant w.0 (omega (arith, w.1, c.loop-lock-test.false))) w.2))
