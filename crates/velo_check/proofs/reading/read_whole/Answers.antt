use Rattle.std.proofs.Common.{List, ℕ, arith, sym, subst}
use Rattle.std.specs.Io.KnownBytes.{Consumes}
use Rattle.velo_check.proofs.OnReading.{gave_all, gave_more, gave_then}
use Rattle.velo_check.proofs.reading.read_whole.Goals as goal

pub returns-then-branch-eq0-clause-bytes : goal.returns-then-branch-eq0-clause-bytes
returns-then-branch-eq0-clause-bytes g c =
    let piece = c.in_ok-read_more.ensures.bytes in
    let first = g.I.Source.remaining c.args.source.now in
    let after = g.I.Source.remaining c.read_more.new.source in
    gave_all first after _ c.args.most
    (subst (λ (b : List ℕ). Consumes first after b) (sym piece.grown)
    (gave_then first _ after c.loop-source.bytes.items piece.piece c.loop-source.invariant.0 piece.given))
    (piece.last (grind (arith, c.if-branch-eq0.true)))

pub returns-clause-bytes : goal.returns-clause-bytes
returns-clause-bytes g c =
    let all = c.loop-source.bytes.ok.0 in
    let len = c.len.ensures in
    gave_more _ _ _ c.args.most c.loop-source.invariant.0 (grind (arith, c.loop-source-test.false, len, all))
