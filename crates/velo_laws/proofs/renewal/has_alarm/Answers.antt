use Rattle.std.proofs.Common.{refl}
use Rattle.std.proofs.lemmas.Bool.{false≢true}
use Rattle.velo_events.proofs.OnGraphs.{HasCycle-from_closing}
use Rattle.velo_laws.proofs.renewal.has_alarm.Goals as goal

pub returns-in-Some : goal.returns-in-Some
returns-in-Some c = (λ h. HasCycle-from_closing c.args.world.now.log _ c.in-Some.ensures.some.closing, λ h. refl)

pub returns-in-None : goal.returns-in-None
returns-in-None c = (λ h. absurd (false≢true h), λ h. absurd (c.in-None.ensures.none h))
