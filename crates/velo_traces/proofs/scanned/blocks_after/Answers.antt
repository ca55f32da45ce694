use Rattle.std.proofs.Common.{sym, ◌∙◌, arith}
use Rattle.std.proofs.lemmas.Bool.{not-true, not-false}
use Rattle.velo_events.proofs.OnScans.{IsScanned-other_thread, IsScanned-other_kind, IsScanned-begin_outermost, IsScanned-begin_inner, IsScanned-end}
use Rattle.velo_traces.proofs.Past.{past}
use Rattle.velo_traces.proofs.scanned.blocks_after.Goals as goal

pub returns-then-ne-clause-scanned : goal.returns-then-ne-clause-scanned
returns-then-ne-clause-scanned c =
    IsScanned-other_thread c.args.events.now c.args.thread.0 c.args.at past c.requires.within c.args.blocks.depth c.args.blocks.first
    (not-true _ (sym c.ne.ensures ∙ c.if-ne.true)) c.requires.scanned

pub returns-then-blocks-eq0-clause-scanned : goal.returns-then-blocks-eq0-clause-scanned
returns-then-blocks-eq0-clause-scanned c =
    IsScanned-begin_outermost c.args.events.now c.args.thread.0 c.args.at past c.requires.within c.args.blocks.depth c.args.blocks.first c.in-Begin.field-0
    c.if-blocks-eq0.true (not-false _ (sym c.ne.ensures ∙ c.if-ne.false)) c.in-Begin.is c.requires.scanned

pub returns-else-blocks-eq0-clause-scanned : goal.returns-else-blocks-eq0-clause-scanned
returns-else-blocks-eq0-clause-scanned c =
    IsScanned-begin_inner c.args.events.now c.args.thread.0 c.args.at past c.requires.within c.args.blocks.depth c.args.blocks.first c.in-Begin.field-0
    (omega (arith, c.if-blocks-eq0.false)) (not-false _ (sym c.ne.ensures ∙ c.if-ne.false)) c.in-Begin.is c.requires.scanned

pub returns-in-End-clause-scanned : goal.returns-in-End-clause-scanned
returns-in-End-clause-scanned c =
    IsScanned-end c.args.events.now c.args.thread.0 c.args.at past c.requires.within c.args.blocks.depth c.saturating_sub.result c.args.blocks.first
    (omega (arith, c.saturating_sub.ensures)) (not-false _ (sym c.ne.ensures ∙ c.if-ne.false)) c.in-End.is c.requires.scanned

pub returns-in_default-clause-scanned : goal.returns-in_default-clause-scanned
returns-in_default-clause-scanned c =
    IsScanned-other_kind c.args.events.now c.args.thread.0 c.args.at past c.requires.within c.args.blocks.depth c.args.blocks.first
    c.in_default.not-Begin c.in_default.not-End c.requires.scanned
