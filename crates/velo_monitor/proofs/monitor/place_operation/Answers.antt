use Rattle.std.proofs.Common.{refl, inl, inr}
use Rattle.velo_monitor.proofs.monitor.place_operation.Goals as goal

pub returns-in-In-clause-placed : goal.returns-in-In-clause-placed
returns-in-In-clause-placed c = inr (inl (record { into = c.in-In.step; is = refl; borne = c.place.ensures.names c.in-In.step c.in-In.is; goes = c.place.ensures.into c.in-In.step c.in-In.is; same = refl }))
