use Rattle.std.proofs.Common.{◌≡◌, ◌+◌, ◌-◌}
use Rattle.std.specs.Io.KnownBytes.{Consumes}
use Rattle.velo_check.proofs.reading.read_whole.Given as goal

abbrev pub invariant-loop-source : goal.invariant-loop-source
invariant-loop-source g l = Consumes (g.I.Source.remaining l.fn.source) (g.I.Source.remaining l.source) l.bytes.items
    × (g.I.Source.failures l.source ≡ g.I.Source.failures l.fn.source)

abbrev pub decreases-loop-source : goal.decreases-loop-source
decreases-loop-source g l = l.most + 1 - l.bytes.len
