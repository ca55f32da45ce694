-- What a parser answers is what the text means.
use Rattle.std.proofs.Common.{◌≡◌, ℕ, List, [], ◌∷◌, length, Option, None, Ok, Err, suc, refl, sym, ap, subst, ◌∙◌}
use Rattle.velo_workload.specs.declared.fault.WorkFault.{WorkFault}
use Rattle.velo_workload.specs.declared.fault.WorkFault.TheVariants.{BadLine, Unknown, Twice, Unmatched, TooMany, Memory}
use Rattle.velo_workload.specs.declared.statement.Statement.{Statement}
use Rattle.velo_workload.specs.Phrase.{phrases, Phrase, Blank, Bad, BadThread, Variable, Lock, Thread, Body}
use Rattle.velo_workload.specs.Outline.{Judges, Names, names_in, known, threads, first_fault}
use Rattle.velo_workload.specs.Program.{program_of, Program, program, bodies, first_unknown, fault_in, unless_fault, meaning_of, ParsesAs}
use Rattle.velo_workload.proofs.OnReading.{wrong, judged_first, none_first}

-- each thread has a body
pub count_bodies : (names : Names) (ps : List Phrase) → length (bodies names ps) ≡ length (threads ps)
count_bodies names [] = refl
count_bodies names (Thread name ∷ ps) = ap suc (count_bodies names ps)
count_bodies names (Blank ∷ ps) = count_bodies names ps
count_bodies names (Bad ∷ ps) = count_bodies names ps
count_bodies names (BadThread ∷ ps) = count_bodies names ps
count_bodies names (Variable name ∷ ps) = count_bodies names ps
count_bodies names (Lock name ∷ ps) = count_bodies names ps
count_bodies names (Body s ∷ ps) = count_bodies names ps

-- ---- faults

answered : (g : Option WorkFault) (w : Program) (f : WorkFault) → Judges g (wrong f) → ParsesAs (unless_fault g w) (Err f)
answered g w (BadLine n) h = ap (λ (g : Option WorkFault). unless_fault g w) h
answered g w (Unknown n) h = ap (λ (g : Option WorkFault). unless_fault g w) h
answered g w (Twice n) h = ap (λ (g : Option WorkFault). unless_fault g w) h
answered g w (Unmatched n) h = ap (λ (g : Option WorkFault). unless_fault g w) h
answered g w (TooMany n) h = ap (λ (g : Option WorkFault). unless_fault g w) h
answered g w Memory h = h

module _ (text : List ℕ) where
  pub first_wrong : (f : WorkFault) → Judges (first_fault (phrases text)) (wrong f) → ParsesAs (meaning_of text) (Err f)
  unfolding meaning_of
  first_wrong f h =
      answered (fault_in (phrases text)) (program (phrases text)) f
      (judged_first (first_fault (phrases text)) (first_unknown (names_in (known (phrases text))) 0 (phrases text)) f h)

  -- the second pass is over the names that the first one kept
  second_is : (names : Names) → names ≡ names_in (known (phrases text)) → first_fault (phrases text) ≡ None → fault_in (phrases text) ≡ first_unknown names 0 (phrases text)
  second_is names e fine =
      none_first (first_fault (phrases text)) (first_unknown (names_in (known (phrases text))) 0 (phrases text)) fine
      ∙ ap (λ (names : Names). first_unknown names 0 (phrases text)) (sym e)

  pub second_wrong : (names : Names) (f : WorkFault) → names ≡ names_in (known (phrases text)) → first_fault (phrases text) ≡ None → Judges (first_unknown names 0 (phrases text)) (wrong f) → ParsesAs (meaning_of text) (Err f)
  unfolding meaning_of
  second_wrong names f e fine h =
      answered (fault_in (phrases text)) (program (phrases text)) f
      (subst (λ (g : Option WorkFault). Judges g (wrong f)) (sym (second_is names e fine)) h)

  pub all_right : (names : Names) (found : List (List Statement)) (w : Program) → names ≡ names_in (known (phrases text)) → first_fault (phrases text) ≡ None → first_unknown names 0 (phrases text) ≡ None
      → found ≡ bodies names (phrases text) → w ≡ program_of names found → meaning_of text ≡ Ok w
  unfolding meaning_of
  all_right names found w e fine all_known found-is w-is =
      let same : found ≡ bodies (names_in (known (phrases text))) (phrases text) = found-is ∙ ap (λ (names : Names). bodies names (phrases text)) e in
      let whole : w ≡ program (phrases text) = w-is ∙ (λ i. program_of (e i) (same i)) in
      ap (λ (g : Option WorkFault). unless_fault g (program (phrases text))) (second_is names e fine ∙ all_known) ∙ ap (λ (p : Program). Ok p) (sym whole)
