-- What becomes of an answer.
use Rattle.std.proofs.Common.{◌≡◌, ◌∙◌, ap, inr, refl, subst, sym}
use Rattle.std.specs.Prelude.{ℕ, List, Option, None, Result, Ok, Err, OnErr, OnOk}
use Rattle.std.specs.Borrow.{Bor}
use Rattle.velo_check.specs.declared.fate.Fate.{Fate}
use Rattle.velo_check.specs.declared.fate.Fate.TheVariants as fate
use Rattle.velo_check.specs.Delivery.{CommandAnswer, IsDelivered, IsPrinted, Saves}
use Rattle.velo_check.specs.Disk.{Store}
use Rattle.velo_check.specs.Failures.{failures_told}
use Rattle.velo_check.specs.Writing.{Writing, Delivers}
use Rattle.std.specs.Io.KnownBytes.{Appends}
use Rattle.velo_bytes.specs.Device.{AppendsBeginning, with_failure}

module _ (store : Store) (target : Option (Bor (List ℕ))) (stdout : Writing) where
  -- what was saved, and does not come to an unopened file, is delivered where it is printed
  pub printed_put : (saved other printed : Option (List ℕ)) (end : Fate) → Saves store target saved → (end ≡ fate.CannotOpen → ⊥) → (f : Fate)
      → IsPrinted stdout (record { saved = other; printed = printed; fate = end }) f → IsDelivered store target stdout (record { saved = saved; printed = printed; fate = end }) f
  printed_put saved other printed end kept opened fate.CannotOpen told = absurd (opened (sym told.0))
  printed_put saved other printed end kept opened fate.WriteFailed told = inr (kept, told)
  printed_put saved other printed end kept opened f told = (told.0, kept, told.1)

  pub put_of : (answer : CommandAnswer) (printed : Option (List ℕ)) (end : Fate) → store.is_kept → answer ≡ record { saved = None; printed = printed; fate = end } → (end ≡ fate.CannotOpen → ⊥)
      → (f : Fate) → IsPrinted stdout answer f → IsDelivered store target stdout answer f
  put_of answer printed end kept is opened f told =
      subst (λ (a : CommandAnswer). IsDelivered store target stdout a f) (sym is) (printed_put None None printed end kept opened f (subst (λ (a : CommandAnswer). IsPrinted stdout a f) is told))

  -- an answer whose fate is no failed read is delivered with none
  pub delivered_reads : (answer : CommandAnswer) (n : ℕ) → failures_told answer.fate n ≡ n → (f : Fate) → IsDelivered store target stdout answer f → failures_told f n ≡ n
  delivered_reads answer n none fate.CannotOpen put = refl
  delivered_reads answer n none fate.WriteFailed put = refl
  delivered_reads answer n none f put = ap (λ (f : Fate). failures_told f n) put.0 ∙ none

-- ---- what goes out

-- what a writer's clauses say
pub delivers : {X F : Type 0} (out : Writing) (text : List ℕ) (result : Result X F) → OnOk result (Appends out.old out.new text) → OnErr result (AppendsBeginning out.old out.new text)
    → OnOk result (out.failures_after ≡ out.failures_before) → OnErr result (out.failures_after ≡ with_failure out.failures_before) → Delivers out text result
delivers out text (Ok x) went broke none failed = (went, none)
delivers out text (Err f) went broke none failed = (broke, failed)
