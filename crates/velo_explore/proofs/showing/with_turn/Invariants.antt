use Rattle.std.proofs.Common.{◌≡◌, take}
use Rattle.velo_explore.proofs.showing.with_turn.Given as goal

abbrev pub invariant-loop-turn : goal.invariant-loop-turn
invariant-loop-turn l = l.longer.items ≡ take l.turn-index l.schedule
