use Rattle.std.proofs.Common.{◌≡◌, ◌≤◌, ◌^◌, ◌-◌, ◌+◌, drop, length, arith, refl, sym, ap, ◌∙◌}
use Rattle.std.specs.Prelude.{not}
use Rattle.velo_worker.proofs.OnCounts.{Counted-start, Counted-quiet, Counted-event, Counted-repeat, Counted-done, Counted-end, plain_from}
use Rattle.velo_worker.proofs.counting.+count_level.Goals as goal

pub loop-position-init : goal.loop-position-init
loop-position-init t c = Counted-start c.args.body.now c.args.position.now c.requires

pub loop-position-preserved-in-Repeat : goal.loop-position-preserved-in-Repeat
loop-position-preserved-in-Repeat t c =
    let l = c.loop-position in
    Counted-repeat c.args.body.now c.args.position.now l.position c.count_level-inner.new.position l.count c.count_level-inner.result c.saturating_mul.result c.saturating_add-count.result
    c.in-Repeat.times _ c.loop-position-test.true c.in-Repeat.is c.count_level-inner.ensures.count c.count_level-inner.ensures.behind c.count_level-inner.ensures.later
    c.count_level-inner.ensures.within c.saturating_mul.ensures c.saturating_add-count.ensures l.invariant

pub loop-position-preserved-then-is_quiet : goal.loop-position-preserved-then-is_quiet
loop-position-preserved-then-is_quiet t c =
    let l = c.loop-position in
    Counted-quiet c.args.body.now c.args.position.now l.position l.count _ _ c.loop-position-test.true refl (plain_from _ c.in_default.not-Repeat c.in_default.not-Done)
    (ap not (sym c.is_quiet.ensures ∙ c.if-is_quiet.true)) l.invariant

pub loop-position-preserved : goal.loop-position-preserved
loop-position-preserved t c =
    let l = c.loop-position in
    Counted-event c.args.body.now c.args.position.now l.position l.count c.saturating_add-count-in_default-2.result _ _ c.loop-position-test.true refl
    (plain_from _ c.in_default.not-Repeat c.in_default.not-Done) (ap not (sym c.is_quiet.ensures ∙ c.if-is_quiet.false)) c.saturating_add-count-in_default-2.ensures l.invariant

pub returns-in-Done : goal.returns-in-Done
returns-in-Done t c =
    let l = c.loop-position in
    let done = Counted-done c.args.body.now c.args.position.now l.position l.count _ c.loop-position-test.true c.in-Done.is l.invariant in
    let later = l.invariant.later in
    record { count = done.0; behind = done.1; later = omega (arith, later); within = omega (arith, c.loop-position-test.true) }

pub returns : goal.returns
returns t c =
    let l = c.loop-position in
    let done = Counted-end c.args.body.now c.args.position.now l.position l.count c.loop-position-test.false l.invariant in
    record { count = done.0; behind = done.1; later = l.invariant.later; within = l.invariant.within }
