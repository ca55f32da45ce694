use Rattle.velo_blame.proofs.OnClocks.{clocks-next}
use Rattle.velo_blame.proofs.clocks.Clocks.note_resolved.Goals as goal

pub returns-clause-next : goal.returns-clause-next
returns-clause-next c = clocks-next c.self.inside.tables c.note_resolved.new.self c.self.inside.bounds c.args.self.now c.args.position c.args.event.now c.self.view_is c.self.invariant.1 c.note_resolved.ensures.noted
