-- An answer of a command that saves at most two texts, and what becomes of it on the way out.
use Rattle.std.specs.Prelude.{◌≡◌, ◌⊎◌, ℕ, List, Option, Some, None}
use Rattle.std.specs.Borrow.{Bor}
use Rattle.velo_check.specs.Disk.{Store, IsWritten}
use Rattle.velo_check.specs.Writing.{Writing, Writes, BreaksOff, WritesNothing}
use Rattle.velo_check.specs.declared.fate.Fate.{Fate}
use Rattle.velo_check.specs.declared.fate.Fate.TheVariants.{CannotOpen, WriteFailed}

-- What a command has to say: a text to be saved at its target, if it has one; a text to be printed
-- on standard output, if it has one; and its fate. `CannotOpen` and `WriteFailed` come on the way out:
-- no definition of an answer (`IsCheckAnswer` and so on) has them.
pub record CommandAnswer : Type 0 where
  pub saved : Option (List ℕ)
  pub printed : Option (List ℕ)
  pub fate : Fate

-- its fate is this, and it says nothing
abbrev pub silent : Fate → CommandAnswer
silent fate = record { saved = None; printed = None; fate = fate }

-- it prints this, has nothing to be saved, and its fate is this
abbrev pub printing : List ℕ → Fate → CommandAnswer
printing text fate = record { saved = None; printed = Some text; fate = fate }

-- ---- on one sink

-- it took the text whole; where there is none, nothing was written
abbrev pub Takes : Writing → Option (List ℕ) → Type 0
Takes sink None = WritesNothing sink
Takes sink (Some text) = Writes sink text

-- there is a text, and the sink took a beginning of it, up to its failure
abbrev pub TakesPart : Writing → Option (List ℕ) → Type 0
TakesPart sink None = ⊥
TakesPart sink (Some text) = BreaksOff sink text

-- The sink took the text, and the fate is the answer's; or it took a part of it, and the fate is a
-- failed write.
abbrev pub IsTaken : Writing → Option (List ℕ) → Fate → Fate → Type 0
IsTaken sink text said WriteFailed = TakesPart sink text
IsTaken sink text said f = (f ≡ said) × Takes sink text

-- what became of an answer that has nothing to be saved
abbrev pub IsPrinted : Writing → CommandAnswer → Fate → Type 0
IsPrinted stdout answer f = IsTaken stdout answer.printed answer.fate f

-- ---- at the target, if there is one

-- The file that was opened there took exactly the text. Without a target, or without a text for it,
-- no file was opened.
abbrev pub Saves : Store → Option (Bor (List ℕ)) → Option (List ℕ) → Type 0
Saves store target None = store.is_kept
Saves store None (Some text) = store.is_kept
Saves store (Some target) (Some text) =
    (file : Writing) × IsWritten store target.now file × Writes file text

-- the file that was opened there took a beginning of the text, up to its failure
abbrev pub SavesPart : Store → Option (Bor (List ℕ)) → Option (List ℕ) → Type 0
SavesPart store (Some target) (Some text) =
    (file : Writing) × IsWritten store target.now file × BreaksOff file text
SavesPart store target text = ⊥

-- no file opened there, and the files are as they were
abbrev pub FailsToSave : Store → Option (Bor (List ℕ)) → Option (List ℕ) → Type 0
FailsToSave store (Some target) (Some text) = store.disk.fails_to_write target.now × store.is_kept
FailsToSave store target text = ⊥

-- ---- at both

-- What became of an answer. It is saved first: where this fails, nothing is printed.
abbrev pub IsDelivered : Store → Option (Bor (List ℕ)) → Writing → CommandAnswer → Fate → Type 0
IsDelivered store target stdout answer CannotOpen =
    FailsToSave store target answer.saved × WritesNothing stdout
IsDelivered store target stdout answer WriteFailed =
    (SavesPart store target answer.saved × WritesNothing stdout)
    ⊎ (Saves store target answer.saved × TakesPart stdout answer.printed)
IsDelivered store target stdout answer f =
    (f ≡ answer.fate) × Saves store target answer.saved × Takes stdout answer.printed

-- ---- one text at the target, and after it a second one at a path of its own

-- the text was not saved, or not whole, and this is the fate
abbrev pub FailsSaving : Store → Option (Bor (List ℕ)) → Option (List ℕ) → Fate → Type 0
FailsSaving store target saved CannotOpen = FailsToSave store target saved
FailsSaving store target saved WriteFailed = SavesPart store target saved
FailsSaving store target saved f = ⊥
