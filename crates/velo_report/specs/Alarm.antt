-- The line that tells an alarm as soon as it is raised.
use Rattle.std.specs.Prelude.{ℕ, ◌∷◌, [], ◌++◌, List, codes, decimal}
use Rattle.std.specs.List.{flat_map}
use Rattle.velo_traces.specs.declared.block.Block.{Block}
use Rattle.velo_world.specs.declared.analysis.Alarm.{Alarm}
use Rattle.velo_report.specs.Lines.{spaced}

-- words, each behind a space
abbrev pub spaced_words : List (List ℕ) → List ℕ
spaced_words words = flat_map spaced words

-- the begin of a blamed block, and its label
abbrev pub blame_text : Block → List ℕ
blame_text block = spaced_words (codes "blame" ∷ decimal block.first ∷ decimal block.label.0 ∷ [])

-- each blamed block, in their order
abbrev pub blame_texts : List Block → List ℕ
blame_texts [] = spaced_words (codes "blame" ∷ codes "none" ∷ [])
blame_texts (block ∷ blocks) = flat_map blame_text (block ∷ blocks)

-- the position of the alarm, and the blocks to blame
abbrev pub alarm_line : Alarm → List ℕ
alarm_line alarm = codes "alarm" ++ (spaced (decimal alarm.position) ++ (blame_texts alarm.blamed.items ++ codes "\n"))
