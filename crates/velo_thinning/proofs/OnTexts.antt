-- How an answer goes out.
use Rattle.std.proofs.Common.{◌≡◌, ℕ, List, Ok, Err, Some, inl, inr, refl, subst}
use Rattle.std.specs.Prelude.{⊤, Result, OnOk, OnErr}
use Rattle.std.specs.Io.KnownBytes.{Appends}
use Rattle.std.specs.Borrow.{Bor}
use Rattle.velo_bytes.specs.Device.{AppendsBeginning, with_failure}
use Rattle.velo_check.specs.declared.answer.Answer.{Answer}
use Rattle.velo_check.specs.declared.answer.Save.{Save}
use Rattle.velo_check.specs.declared.failure.Failure.{Failure}
use Rattle.velo_check.specs.declared.failure.Failure.TheVariants.{PrintFailed}
use Rattle.velo_check.specs.Answers.{IsAnswered, PrintsText}
use Rattle.velo_check.specs.Disk.{Store}
use Rattle.velo_check.specs.Writing.{Writing, Writes, BreaksOff, Delivers}
use Rattle.velo_thinning.specs.declared.delivering.CountsText.{CountsText}
use Rattle.velo_thinning.specs.declared.delivering.Outgoing.{Outgoing}
use Rattle.velo_thinning.specs.Texts.{IsOutgoingText, IsCountsText, IsSent}

pub delivers : {X F : Type 0} (out : Writing) (text : List ℕ) (result : Result X F) → OnOk result (Appends out.old out.new text) → OnErr result (AppendsBeginning out.old out.new text)
    → OnOk result (out.failures_after ≡ out.failures_before) → OnErr result (out.failures_after ≡ with_failure out.failures_before) → Delivers out text result
delivers out text (Ok x) went broke none failed = (went, none)
delivers out text (Err f) went broke none failed = (broke, failed)

abbrev answer_of : Bor (List (Save Outgoing)) → Bor (List ℕ) → Answer Outgoing CountsText ⊤
answer_of saves counts = record { saves = saves; printed = Some (record { bytes = counts }); end = tt }

broken : (stdout : Writing) (counts : Bor (List ℕ)) (failure : Failure) → PrintsText {X = ⊤} IsCountsText stdout (Some (record { bytes = counts })) (Err failure) → (failure ≡ PrintFailed) × BreaksOff stdout counts.now
broken stdout counts PrintFailed (text, is, w) = (refl, subst (BreaksOff stdout) is w)
broken stdout counts failure w = absurd w

pub sent : (store : Store) (stdout : Writing) (saves : Bor (List (Save Outgoing))) (counts : Bor (List ℕ)) (result : Result ⊤ Failure)
    → IsAnswered IsOutgoingText IsCountsText store stdout (answer_of saves counts) result → IsSent saves.now counts.now store stdout result
sent store stdout saves counts (Ok end) (same, all, (text, is, w)) = (all, subst (Writes stdout) is w)
sent store stdout saves counts (Err failure) (inl h) = inl h
sent store stdout saves counts (Err failure) (inr (all, w)) = let b = broken stdout counts failure w in inr (all, b.0, b.1)
