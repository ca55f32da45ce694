use Rattle.velo_thinning.proofs.delivering.map_for.Goals as goal

pub returns-in-Some : goal.returns-in-Some
returns-in-Some c = rw c.in-Some.is c.text_of_map.ensures

pub returns-in-None : goal.returns-in-None
returns-in-None c = rw c.in-None.is tt
