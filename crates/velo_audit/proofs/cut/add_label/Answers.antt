use Rattle.velo_filter.specs.Tables.{members}
use Rattle.velo_audit.proofs.OnCount.{no_label}
use Rattle.velo_audit.proofs.OnCuts.{AreBegun-none, AreBegun-label}
use Rattle.velo_audit.proofs.cut.add_label.Goals as goal

pub returns-in_default : goal.returns-in_default
returns-in_default c = AreBegun-none (members c.args.begun.now) c.args.events.now c.args.position c.requires.within c.requires.begun (no_label _ c.in_default.not-Begin)

pub returns : goal.returns
returns c = AreBegun-label (members c.args.begun.now) _ c.args.events.now c.args.position c.requires.within c.requires.begun c.in-Begin.label c.in-Begin.is c.in_ok-insert.ensures.ok
