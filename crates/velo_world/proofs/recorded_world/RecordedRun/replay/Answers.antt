use Rattle.std.proofs.Common.{sym, ◌∙◌}
use Rattle.velo_world.proofs.OnAnalyses.{alarm-none, alarm-not_none}
use Rattle.velo_world.proofs.recorded_world.RecordedRun.replay.Goals as goal

pub follow-requires-clause-alarmed : goal.follow-requires-clause-alarmed
follow-requires-clause-alarmed c = λ none. alarm-not_none c.args.self.now.alarm (sym c.is_some.ensures ∙ c.if-is_some.true) none

pub replay_resolved-requires-clause-quiet : goal.replay_resolved-requires-clause-quiet
replay_resolved-requires-clause-quiet c = alarm-none c.args.self.now.alarm (sym c.is_some.ensures ∙ c.if-is_some.false)

pub replay_resolved-requires-in-Write-clause-quiet : goal.replay_resolved-requires-in-Write-clause-quiet
replay_resolved-requires-in-Write-clause-quiet c = alarm-none c.args.self.now.alarm (sym c.is_some.ensures ∙ c.if-is_some.false)

pub replay_resolved-requires-in_default-clause-quiet : goal.replay_resolved-requires-in_default-clause-quiet
replay_resolved-requires-in_default-clause-quiet c = alarm-none c.args.self.now.alarm (sym c.is_some.ensures ∙ c.if-is_some.false)
