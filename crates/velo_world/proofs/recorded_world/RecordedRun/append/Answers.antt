use Rattle.velo_world.proofs.recorded_world.RecordedRun.append.Goals as goal

pub enter-requires-clause-stands : goal.enter-requires-clause-stands
enter-requires-clause-stands c = rw c.as_slice.ensures c.requires.stands

pub enter-requires-clause-flawless : goal.enter-requires-clause-flawless
enter-requires-clause-flawless c = rw c.as_slice.ensures c.requires.flawless

pub enter-requires-clause-short : goal.enter-requires-clause-short
enter-requires-clause-short c = rw c.as_slice.ensures c.requires.short

pub returns-clause-stands : goal.returns-clause-stands
returns-clause-stands c = rw (c.push_reserved.ensures, ← c.as_slice.ensures) c.enter.ensures.stands
