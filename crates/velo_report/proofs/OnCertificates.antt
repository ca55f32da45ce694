-- The lines of a certificate, one after another.
use Rattle.std.proofs.Common.{◌≡◌, ℕ, ◌+◌, ◌-◌, List, [], ◌∷◌, ◌++◌, take, drop, refl, sym, ap, ◌∙◌, subst, arith, append_assoc, length-take, inl, inr}
use Rattle.std.proofs.lemmas.Grind.{flat_map-append}
use Rattle.std.proofs.lemmas.List.{append-nil, take-append-drop, drop-take, drop_at}
use Rattle.std.proofs.lemmas.List.Elements.{filter-append}
use Rattle.std.specs.Prelude.{Option, codes, filter, slice_index}
use Rattle.std.specs.List.{flat_map}
use Rattle.std.specs.Io.KnownBytes.{Appends}
use Rattle.velo_events.specs.declared.event.Event.{Event}
use Rattle.velo_events.specs.Certificate.{positions_of}
use Rattle.velo_events.specs.Graph.{HasCycle}
use Rattle.velo_events.proofs.OnGraphs.{HasCycle-from_closing}
use Rattle.velo_bytes.specs.Device.{AppendsBeginning}
use Rattle.velo_report.specs.Certificate.{Certifies, CertifiesOrder, is_first, serial_line, serial_lines, IsCertificate, FailsInCertificate, AppendsCertificate, AppendsPartOfCertificate}
use Rattle.velo_report.specs.Lines.{numbers_line}
use Rattle.velo_report.specs.Runs.{IsOneTransaction}

module _ (log : List Event) (order : List ℕ) (from end : ℕ) (run : IsOneTransaction log order from end) where
  abbrev a : ℕ
  a = slice_index order from

  -- what stands in the run
  pub run_items : take (end - from) (drop from order) ≡ positions_of log a
  run_items =
      sym (drop-take from (end - from) order)
      ∙ (ap (λ n. drop from (take n order)) (let upto : from + (end - from) ≡ end = let h = run.after in omega (arith, h) in upto)
      ∙ (ap (drop from) run.items
      ∙ drop_at (take from order) (positions_of log a) from (let h = run.after in let w = run.within in let l = length-take from order in omega (arith, h, w, l))))

  -- the lines of the first places
  abbrev pub lines_before : ℕ → List ℕ
  lines_before k = flat_map (serial_line log) (filter (is_first log) (take k order))

  abbrev pub lines_from : ℕ → List ℕ
  lines_from k = flat_map (serial_line log) (filter (is_first log) (drop k order))

  pub run_next : lines_before from ++ serial_line log a ≡ lines_before end
  run_next =
      ap (λ (t : List ℕ). lines_before from ++ t) (sym (append-nil (serial_line log a)))
      ∙ (sym (flat_map-append (serial_line log) (filter (is_first log) (take from order)) (a ∷ []))
      ∙ ap (flat_map (serial_line log)) (sym run.firsts))

  pub run_split : serial_lines log order ≡ lines_before from ++ (serial_line log a ++ lines_from end)
  run_split =
      ap (λ (xs : List ℕ). flat_map (serial_line log) (filter (is_first log) xs)) (sym (take-append-drop end order))
      ∙ (ap (flat_map (serial_line log)) (filter-append (is_first log) (take end order) (drop end order))
      ∙ (flat_map-append (serial_line log) (filter (is_first log) (take end order)) (filter (is_first log) (drop end order))
      ∙ (ap (λ (t : List ℕ). t ++ lines_from end) (sym run_next)
      ∙ append_assoc (lines_before from) (serial_line log a) (lines_from end))))

-- ---- by the alarm

pub certifies_order : (log : List Event) (list : List ℕ) → ¬ HasCycle log → Certifies log list → CertifiesOrder log list
certifies_order log list none (inl w) = w
certifies_order log list none (inr w) = absurd (none (HasCycle-from_closing log w.position w.closing))

pub IsCertificate-order : (log : List Event) (list : List ℕ) → ¬ HasCycle log → IsCertificate log list (serial_lines log list)
IsCertificate-order log list none = record { order = λ _. refl; cycle = λ some. absurd (none some) }

pub IsCertificate-cycle : (log : List Event) (list : List ℕ) → HasCycle log → IsCertificate log list (numbers_line (codes "cycle") list)
IsCertificate-cycle log list some = record { order = λ none. absurd (none some); cycle = λ _. refl }

-- ---- the whole

module _ (old new : Option (List ℕ)) (before : List ℕ) (log : List Event) (list : List ℕ) where
  pub whole_certificate : (text : List ℕ) → before ≡ [] → IsCertificate log list text → Appends old new (before ++ text) → AppendsCertificate old new log list
  whole_certificate text nothing is p = record { text = text; is_certificate = is; appends = subst (λ (b : List ℕ). Appends old new (b ++ text)) nothing p }

  pub part_of_certificate : before ≡ [] → FailsInCertificate old new before log list → AppendsPartOfCertificate old new log list
  part_of_certificate nothing f = record { text = f.text; is_certificate = f.is_certificate; appends = subst (λ (b : List ℕ). AppendsBeginning old new (b ++ f.text)) nothing f.appends }
