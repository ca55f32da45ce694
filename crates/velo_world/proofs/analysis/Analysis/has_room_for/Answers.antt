use Rattle.std.proofs.Common.{rules}
use Rattle.velo_world.proofs.analysis.Analysis.has_room_for.Goals as goal

pub returns-then-has_room_for : goal.returns-then-has_room_for
returns-then-has_room_for c = search rules

pub returns-else-has_room_for : goal.returns-else-has_room_for
returns-else-has_room_for c = search rules
