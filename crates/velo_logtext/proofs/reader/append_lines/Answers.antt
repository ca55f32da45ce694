use Rattle.std.proofs.Common.{◌≡◌, ◌+◌, ◌++◌, ◌∷◌, [], ap, subst, sym, ◌∙◌, length, length-append, arith}
use Rattle.velo_logtext.specs.Text.{AreEventsIn, event_lines}
use Rattle.velo_logtext.proofs.OnStreams.{takes_one, stream_more, fit_more}
use Rattle.velo_logtext.proofs.reader.append_lines.Goals as goal

pub loop-rest-smaller : goal.loop-rest-smaller
loop-rest-smaller c =
    (takes_one c.args.shares c.loop-rest.rest.now c.in-Some.event c.in-Some.after.now c.in-Some.ensures).shorter

pub loop-rest-preserved : goal.loop-rest-preserved
loop-rest-preserved c =
    let old = c.loop-rest.trace.events in
    let e = c.in-Some.event in
    let after = c.in-Some.after.now in
    let one = takes_one c.args.shares c.loop-rest.rest.now e after c.in-Some.ensures in
    let new = c.in_ok-push.ensures.ok in
    let len : length c.push.new.self.events ≡ length old + 1 = ap length new ∙ length-append old (e ∷ []) in
    record {
      stream = ap (λ es. event_lines es ++ after) new ∙ stream_more old e c.loop-rest.rest.now after _ c.loop-rest.invariant.stream one.text;
      fit = λ fit. subst (AreEventsIn c.args.shares) (sym new) (fit_more c.args.shares old e (c.loop-rest.invariant.fit fit) one.fits);
      count = omega (arith, len, c.loop-rest.invariant.count);
      few = omega arith;
      grows = omega (arith, len, c.loop-rest.invariant.grows);
      shorter = omega (arith, one.shorter, c.loop-rest.invariant.shorter);
    }
