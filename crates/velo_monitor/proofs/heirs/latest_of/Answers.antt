use Rattle.std.proofs.Common.{ℕ, ◌+◌, ◌<◌, ◌∙◌, Option, None, get_or, sym, ap, subst, arith}
use Rattle.velo_events.specs.declared.limits.TheConstants.{MAX_THREADS}
use Rattle.velo_monitor.specs.Heirs.{later_of, IsLatest}
use Rattle.velo_monitor.proofs.OnLatest.{latest-step, latest-stay, latest-rest}
use Rattle.velo_monitor.proofs.heirs.latest_of.Goals as goal
use Rattle.velo_monitor.proofs.heirs.latest_of.Goals.{then-is_reached, else-is_reached}

pub loop-s-preserved : goal.loop-s-preserved
loop-s-preserved c =
    let graph = c.args.graph.now in
    let going = c.args.going.now in
    let firsts = c.args.firsts.now in
    let t = c.args.t in
    let slot = c.args.slot in
    let s = c.loop-s.s in
    let small : s < MAX_THREADS = omega (arith, c.loop-s-test.true, c.requires.few) in
    elim c.if-is_reached.branch [
      | then-is_reached w ↦
          let is = w.latest-is ∙ w.later_of-latest.ensures ∙ ap (λ i. later_of graph c.loop-s.latest (get_or firsts i None)) w.pair_of.ensures in
          subst (λ (o : Option ℕ). IsLatest graph going firsts t slot (s + 1) o) (sym is) (latest-step graph going firsts t slot s c.loop-s.latest small (sym w.if-is_reached.ensures) c.loop-s.invariant)
      | else-is_reached w ↦
          subst (λ (o : Option ℕ). IsLatest graph going firsts t slot (s + 1) o) (sym w.latest-is) (latest-stay graph going firsts t slot s c.loop-s.latest (sym w.if-is_reached.ensures) c.loop-s.invariant)
    ]

pub returns : goal.returns
returns c = latest-rest c.args.graph.now c.args.going.now c.args.firsts.now c.args.t c.args.slot c.loop-s.s c.loop-s.latest (omega (arith, c.loop-s-test.false)) c.loop-s.invariant
