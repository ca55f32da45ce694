use Rattle.std.proofs.Common.{◌≡◌, ◌<◌, ◌-◌, ◌+◌, subst, arith, length, set, rules}
use Rattle.std.proofs.lemmas.Option.{slice_get-get_or}
use Rattle.velo_worker.specs.Cursor.{IsRepeatEnd}
use Rattle.velo_worker.proofs.OnEnds.{IsRepeatEnd-start, IsRepeatEnd-before, AreRepeatEndsFrom, AreRepeatEndsFrom-start, AreRepeatEndsFrom-next}
use Rattle.velo_worker.proofs.walk.ends_of.Goals as goal

pub loop-position-init : goal.loop-position-init
loop-position-init c = record {
  within = omega arith;
  count = search rules;
  len = c.in_ok-ends.ensures.len;
  end = IsRepeatEnd-start c.args.body.now;
  found = AreRepeatEndsFrom-start c.args.body.now c.in_ok-ends.ends.items;
}

pub loop-position-preserved : goal.loop-position-preserved
loop-position-preserved c =
    let l = c.loop-position in
    let body = c.args.body.now in
    let i = l.position - 1 in
    let e : l.position ≡ i + 1 = omega arith in
    let within : i < length body = omega (arith, l.invariant.within) in
    let is : IsRepeatEnd body (i + 1) l.end = subst (λ n. IsRepeatEnd body n l.end) e l.invariant.end in
    let from : AreRepeatEndsFrom body (set l.ends.items i l.end) i =
    AreRepeatEndsFrom-next body l.ends.items i l.end l.invariant.count within is (subst (AreRepeatEndsFrom body l.ends.items) e l.invariant.found) in record {
      within = omega (arith, within);
      count = search rules;
      len = l.invariant.len;
      end = rw (c.end_before-end.ensures, c.deref.ensures.value) (IsRepeatEnd-before body (set l.ends.items i l.end) i l.end _ (slice_get-get_or body i _ within) is from);
      found = from;
    }
