use Rattle.std.proofs.Common.{◌≡◌, ◌≤◌, length, vec_len}
use Rattle.velo_worker.specs.Cursor.{IsRepeatEnd}
use Rattle.velo_worker.proofs.OnEnds.{AreRepeatEndsFrom}
use Rattle.velo_worker.proofs.walk.ends_of.Given as goal

abbrev pub invariant-loop-position : goal.invariant-loop-position
invariant-loop-position l =
    record {
      within : l.position ≤ length l.body;
      count : length l.ends.items ≡ length l.body;
      len : vec_len l.ends ≡ length l.body;
      end : IsRepeatEnd l.body l.position l.end;
      found : AreRepeatEndsFrom l.body l.ends.items l.position;
    }

abbrev pub decreases-loop-position : goal.decreases-loop-position
decreases-loop-position l = l.position
