use Rattle.std.proofs.Common.{◌≡◌, take}
use Rattle.velo_thinning.specs.Texts.{map_text}
use Rattle.velo_thinning.proofs.delivering.text_of_map.Given as goal

abbrev pub invariant-loop-place : goal.invariant-loop-place
invariant-loop-place l = record { text : l.text.items ≡ map_text (take l.place-index l.places) }
