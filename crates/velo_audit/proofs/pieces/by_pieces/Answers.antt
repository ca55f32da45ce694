use Rattle.std.proofs.Common.{arith}
use Rattle.velo_filter.specs.Tables.{left_of}
use Rattle.velo_audit.proofs.OnVerdicts.{NoCycle-at_end}
use Rattle.velo_audit.proofs.pieces.by_pieces.Goals as goal

pub next_piece-requires-clause-can_come_about : goal.next_piece-requires-clause-can_come_about
next_piece-requires-clause-can_come_about c = record { bounds = c.args.config.now.bounds; well_formed = c.requires.well_formed }

pub loop-cut-smaller : goal.loop-cut-smaller
loop-cut-smaller c =
    let later = c.in_ok-verdict.ensures.judges.moved c.in_default.is in
    let within = c.in_ok-verdict.ensures.judges.is_cut.within in
    omega (arith, later, within)

pub loop-cut-preserved : goal.loop-cut-preserved
loop-cut-preserved c = record { is_cut = c.in_ok-verdict.ensures.judges.is_cut }

pub returns-in-Some-clause-verdict : goal.returns-in-Some-clause-verdict
returns-in-Some-clause-verdict c = c.in_ok-verdict.ensures.judges.verdict c.in-Some.verdict c.in-Some.is

pub returns-in-Some-clause-cut : goal.returns-in-Some-clause-cut
returns-in-Some-clause-cut c = c.in_ok-verdict.ensures.judges.is_cut

pub returns-clause-verdict : goal.returns-clause-verdict
returns-clause-verdict c = NoCycle-at_end c.args.with_witness c.args.log.now.events (left_of c.args.left.now) c.loop-cut.cut c.loop-cut.invariant.is_cut (omega (arith, c.loop-cut-test.false, c.len.ensures))
