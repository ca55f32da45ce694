use Rattle.std.proofs.Common.{arith, inl, inr, refl}
use Rattle.velo_explore.proofs.OnShrunk.{sayable_by}
use Rattle.velo_explore.proofs.findings.shrink_witness.Goals as goal

pub returns-then-len-gt-MAX_TURNS : goal.returns-then-len-gt-MAX_TURNS
returns-then-len-gt-MAX_TURNS c = record {
  simple = (
    record { goal = c.args.witness.goal; schedule = c.in_ok-schedule.schedule },
    (refl, c.in_ok-schedule.ensures.simple),
    c.in_ok-schedule.ensures.shows,
    inl (omega (arith, c.if-len-gt-MAX_TURNS.true, c.len.ensures)),
  );
  shows = tt;
  sayable = tt;
  first = refl;
}

pub returns-then-branch : goal.returns-then-branch
returns-then-branch c = record {
  simple = (refl, c.in_ok-schedule.ensures.simple);
  shows = c.in_ok-schedule.ensures.shows;
  sayable = sayable_by c.in_ok-schedule.schedule.items (omega (arith, c.if-len-gt-MAX_TURNS.false, c.len.ensures)) c.in_ok-schedule.ensures.threads;
  first = c.in_ok-keep.ensures.kept c.if-branch.true;
}

pub returns-else-branch : goal.returns-else-branch
returns-else-branch c =
    let none = c.in_ok-keep.ensures.none c.if-branch.false in
    record {
      simple = (
        record { goal = c.args.witness.goal; schedule = c.in_ok-schedule.schedule },
        (refl, c.in_ok-schedule.ensures.simple),
        c.in_ok-schedule.ensures.shows,
        inr none.1,
      );
      shows = tt;
      sayable = tt;
      first = none.0;
    }
