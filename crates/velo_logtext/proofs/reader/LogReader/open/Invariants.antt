use Rattle.std.proofs.Common.{◌≡◌, ◌-◌, ◌+◌, cond, length}
use Rattle.std.specs.Prelude.{IsTrue}
use Rattle.std.specs.Io.KnownBytes.{IsAtEnd, Keeps, prepend_known}
use Rattle.velo_logtext.proofs.reader.LogReader.open.Given as goal

abbrev pub invariant-loop-shares : goal.invariant-loop-shares
invariant-loop-shares g l =
    record {
      bytes : Keeps (g.S.Source.remaining l.fn.source) (prepend_known l.window.bytes (g.S.Source.remaining l.source));
      known_end : IsTrue l.window.ended → IsAtEnd (g.S.Source.remaining l.source);
      failures : g.S.Source.failures l.source ≡ g.S.Source.failures l.fn.source;
    }

abbrev pub decreases-loop-shares : goal.decreases-loop-shares
decreases-loop-shares g l = (65 - length l.window.bytes) + cond l.window.ended 0 1
