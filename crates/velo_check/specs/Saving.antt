-- What is saved at a path.
use Rattle.std.specs.Prelude.{ℕ, List, ◌≡◌, Option, Some, Result, Ok, Err}
use Rattle.velo_logtext.specs.Text.{log_text}
use Rattle.velo_world.specs.World.{WorldState}
use Rattle.std.specs.Borrow.{Bor}
use Rattle.velo_check.specs.declared.fate.Fate.{Fate}
use Rattle.velo_check.specs.declared.saved.Saved.{Saved}
use Rattle.velo_check.specs.declared.saved.Saved.TheVariants as saved
use Rattle.velo_check.specs.Delivery.{FailsSaving, Saves}
use Rattle.velo_check.specs.Disk.{Store}

-- the text of the world's log
abbrev pub text_of_log : WorldState → List ℕ
text_of_log w = log_text w.config.bounds w.log

-- the bytes of a text that is saved
abbrev pub IsSavedText : Saved → List ℕ → Type 0
IsSavedText (saved.Log closed) text = text ≡ text_of_log closed.now
IsSavedText (saved.Bytes bytes) text = text ≡ bytes.now

-- the result of writing the file
abbrev pub IsSavedAt : {X : Type 0} → Store → Option (Bor (List ℕ)) → List ℕ → Result X Fate
    → Type 0
IsSavedAt store target text (Ok x) = Saves store target (Some text)
IsSavedAt store target text (Err f) = FailsSaving store target (Some text) f
