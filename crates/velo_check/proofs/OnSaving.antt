-- What was saved at a path.
use Rattle.std.proofs.Common.{◌≡◌, ℕ, List, [], ◌∷◌, Option, Some, None, Err, Ok, inl, inr, sym, subst}
use Rattle.std.specs.Borrow.{Bor}
use Rattle.velo_world.specs.World.{WorldState}
use Rattle.velo_check.specs.declared.answer.Save.{Save}
use Rattle.velo_check.specs.declared.failure.Failure.{Failure}
use Rattle.velo_check.specs.declared.failure.Failure.TheVariants as failure
use Rattle.velo_check.specs.declared.failure.Operand.{Operand}
use Rattle.velo_check.specs.Answers.{AreAllSaved, BreaksOffText, IsOneUnsaved, IsUnsavedFor, OpensNoTarget, SavesText}
use Rattle.velo_check.specs.Disk.{Disk, Store, store}
use Rattle.velo_check.specs.Writing.{BreaksOff, Writes}
use Rattle.velo_check.specs.declared.saved.Saved.{Saved}
use Rattle.velo_check.specs.declared.saved.Saved.TheVariants as saved
use Rattle.velo_check.specs.Delivery.{FailsSaving, FailsToSave, Saves, SavesPart}
use Rattle.velo_check.specs.Fate.{fate_of_failure}
use Rattle.velo_check.specs.Saving.{text_of_log, IsSavedAt, IsSavedText}

-- ---- what was saved one after another

-- a text that is known was saved
pub whole_saved : (store : Store) (path : Option (Bor (List ℕ))) (text : List ℕ) → SavesText store path (λ t. t ≡ text) → Saves store path (Some text)
whole_saved store None text h = h
whole_saved store (Some path) text (file, written, (t, is, out)) = (file, written, subst (λ (t : List ℕ). Writes file t) is out)

-- or why it was not
not_opened : (store : Store) (path : Option (Bor (List ℕ))) (text : List ℕ) → OpensNoTarget store path → FailsToSave store path (Some text)
not_opened store None text h = absurd h
not_opened store (Some path) text h = h

broken_off : (store : Store) (path : Option (Bor (List ℕ))) (text : List ℕ) → BreaksOffText store path (λ t. t ≡ text) → SavesPart store path (Some text)
broken_off store None text h = absurd h
broken_off store (Some path) text (file, written, (t, is, out)) = (file, written, subst (λ (t : List ℕ). BreaksOff file t) is out)

module _ (store : Store) (operand : Operand) (path : Option (Bor (List ℕ))) where
  pub log_unsaved : (closed : Bor WorldState) (f : Failure) → IsUnsavedFor IsSavedText store (record { operand = operand; path = path; text = saved.Log closed }) f
      → FailsSaving store path (Some (text_of_log closed.now)) (fate_of_failure f)
  log_unsaved closed (failure.CannotOpen which) h = not_opened store path _ h.1
  log_unsaved closed (failure.WriteFailed which) h = broken_off store path _ h.1
  log_unsaved closed f h = absurd h

  pub bytes_unsaved : (bytes : Bor (List ℕ)) (f : Failure) → IsUnsavedFor IsSavedText store (record { operand = operand; path = path; text = saved.Bytes bytes }) f
      → FailsSaving store path (Some bytes.now) (fate_of_failure f)
  bytes_unsaved bytes (failure.CannotOpen which) h = not_opened store path _ h.1
  bytes_unsaved bytes (failure.WriteFailed which) h = broken_off store path _ h.1
  bytes_unsaved bytes f h = absurd h

module _ {F : Type 0} (disk : F → Disk) (first left : F) (bytes : Bor (List ℕ)) (named : Operand) where
  abbrev pub bytes_at : Option (Bor (List ℕ)) → Save Saved
  bytes_at path = record { operand = named; path = path; text = saved.Bytes bytes }

  -- a text alone
  pub text_saved : (X : Type 0) (x : X) (path : Option (Bor (List ℕ))) → AreAllSaved IsSavedText (store disk first left) (bytes_at path ∷ []) → IsSavedAt (store disk first left) path bytes.now (Ok x)
  text_saved X x path (between, one, end) =
      subst (λ (s : F). Saves (store disk first s) path (Some bytes.now)) (sym end) (whole_saved (store disk first between) path bytes.now one)

  pub text_unsaved : (X : Type 0) (path : Option (Bor (List ℕ))) (f : Failure) → IsOneUnsaved IsSavedText (store disk first left) (bytes_at path ∷ []) f → IsSavedAt {X = X} (store disk first left) path bytes.now (Err (fate_of_failure f))
  text_unsaved X path f (inl h) = bytes_unsaved (store disk first left) named path bytes f h
  text_unsaved X path f (inr h) = absurd h.2
