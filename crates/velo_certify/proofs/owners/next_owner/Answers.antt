use Rattle.std.proofs.Common.{sym, arith}
use Rattle.velo_events.proofs.OnScans.{owner-scanned_outside, owner-scanned_inside}
use Rattle.velo_traces.proofs.Past.{past}
use Rattle.velo_certify.proofs.OnOwners.{AreScanned-next}
use Rattle.velo_certify.proofs.owners.next_owner.Goals as goal

pub returns-then-blocks-gt0-clause-owner : goal.returns-then-blocks-gt0-clause-owner
returns-then-blocks-gt0-clause-owner c =
    let trace = c.args.events.now in
    sym (owner-scanned_inside trace c.args.at _ _ past c.requires.within c.if-blocks-gt0.true (c.requires.scanned.scanned _ (omega arith)))

pub returns-else-blocks-gt0-clause-owner : goal.returns-else-blocks-gt0-clause-owner
returns-else-blocks-gt0-clause-owner c =
    let trace = c.args.events.now in
    sym (owner-scanned_outside trace c.args.at _ _ past c.requires.within (omega (arith, c.if-blocks-gt0.false)) (c.requires.scanned.scanned _ (omega arith)))

pub returns-then-blocks-gt0-clause-scanned : goal.returns-then-blocks-gt0-clause-scanned
returns-then-blocks-gt0-clause-scanned c =
    AreScanned-next c.args.events.now c.args.at c.args.threads.now c.blocks_after.result c.requires.within (omega arith) c.requires.scanned c.blocks_after.ensures.small c.blocks_after.ensures.scanned

pub returns-else-blocks-gt0-clause-scanned : goal.returns-else-blocks-gt0-clause-scanned
returns-else-blocks-gt0-clause-scanned c =
    AreScanned-next c.args.events.now c.args.at c.args.threads.now c.blocks_after.result c.requires.within (omega arith) c.requires.scanned c.blocks_after.ensures.small c.blocks_after.ensures.scanned
