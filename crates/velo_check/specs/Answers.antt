-- What becomes of an answer on its way out: first its texts are saved, one after another, and then
-- it is printed. If one of them fails, nothing after it goes out. (`Delivery` of `velo_fate` is for
-- the commands that save one text or two; this is for any number of them, and serves thin.)
use Rattle.std.specs.Prelude.{◌≡◌, ◌⊎◌, ⊤, ℕ, [], ◌∷◌, List, Option, Some, None, Result, Ok, Err}
use Rattle.std.specs.Borrow.{Bor}
use Rattle.velo_check.specs.declared.answer.Answer.{Answer}
use Rattle.velo_check.specs.declared.answer.Save.{Save}
use Rattle.velo_check.specs.declared.failure.Failure.{Failure}
use Rattle.velo_check.specs.declared.failure.Failure.TheVariants.{CannotOpen, PrintFailed, WriteFailed}
use Rattle.velo_check.specs.Disk.{IsWritten, Store, behind, up_to}
use Rattle.velo_check.specs.Writing.{BreaksOff, Delivers, Writes, WritesNothing, Writing}

-- what writing a text, of which this is said, came to
abbrev pub WritesText : {X F : Type 0} → (List ℕ → Type 0) → Writing → Result X F → Type 0
WritesText is_text sink result = (text : List ℕ) × is_text text × Delivers sink text result

-- ---- one text at its path, if it has one

-- the file that was opened there took it whole; without a path no file was opened
abbrev pub SavesText : Store → Option (Bor (List ℕ)) → (List ℕ → Type 0) → Type 0
SavesText store None is_text = store.is_kept
SavesText store (Some path) is_text =
    (file : Writing) × IsWritten store path.now file
    × ((text : List ℕ) × is_text text × Writes file text)

-- it took a beginning, up to its failure
abbrev pub BreaksOffText : Store → Option (Bor (List ℕ)) → (List ℕ → Type 0) → Type 0
BreaksOffText store None is_text = ⊥
BreaksOffText store (Some path) is_text =
    (file : Writing) × IsWritten store path.now file
    × ((text : List ℕ) × is_text text × BreaksOff file text)

-- no file opened there, and the files are as they were
abbrev pub OpensNoTarget : Store → Option (Bor (List ℕ)) → Type 0
OpensNoTarget store None = ⊥
OpensNoTarget store (Some path) = store.disk.fails_to_write path.now × store.is_kept

-- why a text was not saved, or not whole
abbrev pub IsUnsavedFor : {T : Type 0} → (T → List ℕ → Type 0) → Store → Save T → Failure → Type 0
IsUnsavedFor is_text store save (CannotOpen operand) =
    (operand ≡ save.operand) × OpensNoTarget store save.path
IsUnsavedFor is_text store save (WriteFailed operand) =
    (operand ≡ save.operand) × BreaksOffText store save.path (is_text save.text)
IsUnsavedFor is_text store save failure = ⊥

-- what saving a text came to
abbrev pub IsSaved : {T X : Type 0} → (T → List ℕ → Type 0) → Store → Save T → Result X Failure
    → Type 0
IsSaved is_text store save (Ok x) = SavesText store save.path (is_text save.text)
IsSaved is_text store save (Err failure) = IsUnsavedFor is_text store save failure

-- ---- all texts, one after another

-- each was saved
abbrev pub AreAllSaved : {T : Type 0} → (T → List ℕ → Type 0) → Store → List (Save T) → Type 0
AreAllSaved is_text store [] = store.is_kept
AreAllSaved is_text store (save ∷ saves) =
    (between : store.State) × SavesText (up_to store between) save.path (is_text save.text)
    × AreAllSaved is_text (behind store between) saves

-- those before one of them were saved, and it was not
abbrev pub IsOneUnsaved : {T : Type 0} → (T → List ℕ → Type 0) → Store → List (Save T) → Failure
    → Type 0
IsOneUnsaved is_text store [] failure = ⊥
IsOneUnsaved is_text store (save ∷ saves) failure =
    IsUnsavedFor is_text store save failure
    ⊎ ((between : store.State) × SavesText (up_to store between) save.path (is_text save.text)
    × IsOneUnsaved is_text (behind store between) saves failure)

abbrev pub AreSaved : {T X : Type 0} → (T → List ℕ → Type 0) → Store → List (Save T)
    → Result X Failure → Type 0
AreSaved is_text store saves (Ok x) = AreAllSaved is_text store saves
AreSaved is_text store saves (Err failure) = IsOneUnsaved is_text store saves failure

-- ---- standard output

abbrev pub PrintsText : {P X : Type 0} → (P → List ℕ → Type 0) → Writing → Option P
    → Result X Failure → Type 0
PrintsText is_text stdout None (Ok x) = WritesNothing stdout
PrintsText is_text stdout (Some text) (Ok x) =
    (bytes : List ℕ) × is_text text bytes × Writes stdout bytes
PrintsText is_text stdout (Some text) (Err PrintFailed) =
    (bytes : List ℕ) × is_text text bytes × BreaksOff stdout bytes
PrintsText is_text stdout printed (Err failure) = ⊥

-- ---- all of an answer

-- All of it went out, and it comes to its end; or a text was not saved, and nothing was printed; or
-- each was, and printing broke off.
abbrev pub IsAnswered : {T P E : Type 0} → (T → List ℕ → Type 0) → (P → List ℕ → Type 0) → Store
    → Writing → Answer T P E → Result E Failure → Type 0
IsAnswered saves_text prints_text store stdout answer (Ok end) =
    (end ≡ answer.end) × AreAllSaved saves_text store answer.saves.now
    × PrintsText prints_text stdout answer.printed (Ok end)
IsAnswered saves_text prints_text store stdout answer (Err failure) =
    (IsOneUnsaved saves_text store answer.saves.now failure × WritesNothing stdout)
    ⊎ (AreAllSaved saves_text store answer.saves.now
    × PrintsText {X = ⊤} prints_text stdout answer.printed (Err failure))
