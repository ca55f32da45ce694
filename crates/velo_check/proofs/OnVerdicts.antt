-- The verdict of a log that was done to its end.
use Rattle.std.proofs.Common.{◌≡◌, ℕ, ◌+◌, true, false, List, [], ◌∷◌, ◌++◌, Option, Some, None, Ok, Err, refl, sym, ap, ◌∙◌, inl, inr}
use Rattle.std.proofs.lemmas.List.{append-nil}
use Rattle.std.specs.Prelude.{IfSome, OnOk, OnErr, Result, ◌⊎◌, codes, is_some}
use Rattle.std.specs.Borrow.{Bor}
use Rattle.velo_events.specs.declared.event.Event.{Event}
use Rattle.velo_events.specs.Graph.{HasCycle, IsClosing}
use Rattle.velo_events.specs.Reordering.{IsSerializable}
use Rattle.velo_events.proofs.OnGraphs.{HasCycle-from_closing}
use Rattle.velo_bytes.proofs.OnDevices.{appends_then, appends_nothing, beginning_then}
use Rattle.velo_bytes.specs.Device.{with_failure}
use Rattle.velo_world.specs.World.{WorldState}
use Rattle.velo_check.specs.declared.verdict.Verdict.TheVariants as verdict
use Rattle.velo_check.specs.Verdict.{IsOrderOrCycle, IsOutput, IsVerdict, WritesOutput}
use Rattle.velo_check.specs.Writing.{BreaksOff, Writes, Writing}
use Rattle.velo_report.specs.declared.names.Names.{Names}
use Rattle.velo_report.specs.Lines.{numbers_line}
use Rattle.velo_report.specs.Certificate.{Certifies, IsCertificate, AppendsCertificate, AppendsPartOfCertificate, serial_lines}
use Rattle.velo_report.specs.Report.{IsReport, AppendsReport, AppendsPartOfReport}
use Rattle.velo_report.proofs.OnCertificates.{IsCertificate-order, IsCertificate-cycle}

no_alarm : verdict.Clean ≡ verdict.Alarm → ⊥
no_alarm h = cc

not_clean : verdict.Alarm ≡ verdict.Clean → ⊥
not_clean h = cc

-- a closing event, and no serial reordering
pub IsVerdict-alarm : (log : List Event) (p : ℕ) → IsClosing log p → ¬ IsSerializable log → IsVerdict log verdict.Alarm
IsVerdict-alarm log p closing no_order =
    record {
      cycle = (λ _. HasCycle-from_closing log p closing, λ _. refl);
      no_order = (λ _. no_order, λ _. refl);
      order = (λ h. absurd (not_clean h), λ order. absurd (no_order order));
    }

-- no cycle, and a serial reordering
pub IsVerdict-clean : (log : List Event) → ¬ HasCycle log → IsSerializable log → IsVerdict log verdict.Clean
IsVerdict-clean log no_cycle order =
    record {
      cycle = (λ h. absurd (no_alarm h), λ cycle. absurd (no_cycle cycle));
      no_order = (λ h. absurd (no_alarm h), λ none. absurd (none order));
      order = (λ _. order, λ _. refl);
    }

-- ---- the report, and behind it the certificate

-- an order or a cycle has lines
lines_exist : (log : List Event) (list : List ℕ) → IsOrderOrCycle log list → (lines : List ℕ) × IsCertificate log list lines
lines_exist log list (inl w) = (serial_lines log list, IsCertificate-order log list w.no_cycle)
lines_exist log list (inr w) = (numbers_line (codes "cycle") list, IsCertificate-cycle log list (HasCycle-from_closing log w.position w.closing))

-- it certifies
pub Certifies-order_or_cycle : (log : List Event) (list : List ℕ) → IsOrderOrCycle log list → Certifies log list
Certifies-order_or_cycle log list (inl w) = inl (record { no_cycle = w.no_cycle; reorders = w.serial.reorders; serial = w.serial.serial })
Certifies-order_or_cycle log list (inr w) = inr (record { position = w.position; closing = w.closing; is_cycle = w.shortest.is_cycle })

abbrev MayCertify : List Event → Option (Bor (List ℕ)) → Type 0
MayCertify log list = IfSome list (λ list. IsOrderOrCycle log list.now)

-- behind a report stands the certificate, if there is an order or a cycle
output_of : (names : Names) (threads : ℕ) (log : List Event) (list : Option (Bor (List ℕ))) → MayCertify log list
    → (report : List ℕ) → IsReport names threads log report → (lines : List ℕ) × IsOutput names (is_some list) threads log (report ++ lines)
output_of names threads log None certifies report is =
    ([], record { report = report; is_report = is; lines = []; certified = refl; whole = refl })
output_of names threads log (Some list) certifies report is =
    let lines = lines_exist log list.now certifies in
    (lines.0, record { report = report; is_report = is; lines = lines.0; certified = (list.now, certifies, lines.1); whole = refl })

module _ (names : Names) (w : WorldState) where
  abbrev threads : ℕ
  threads = w.config.bounds.threads

  -- the report broke off
  pub report_breaks : (list : Option (Bor (List ℕ))) → MayCertify w.log list → (out : Writing)
      → AppendsPartOfReport out.old out.new names threads w.log → out.failures_after ≡ with_failure out.failures_before
      → (text : List ℕ) × IsOutput names (is_some list) threads w.log text × BreaksOff out text
  report_breaks list certifies out part failed =
      let output = output_of names threads w.log list certifies part.text part.is_report in
      (part.text ++ output.0, output.1, (beginning_then out.old out.old out.new [] part.text output.0 (part.text ++ output.0) (appends_nothing out.old) part.appends refl, failed))

  -- the report is all
  pub report_alone : (out : Writing) → AppendsReport out.old out.new names threads w.log → out.failures_after ≡ out.failures_before
      → (text : List ℕ) × IsOutput names false threads w.log text × Writes out text
  report_alone out whole kept =
      (whole.text, record { report = whole.text; is_report = whole.is_report; lines = []; certified = refl; whole = sym (append-nil whole.text) }, (whole.appends, kept))

  -- the certificate went out behind the report, or a beginning of it
  pub behind_report : {X F : Type 0} (list : List ℕ) → IsOrderOrCycle w.log list → (out : Writing) (middle : Option (List ℕ)) (count : ℕ)
      → AppendsReport out.old middle names threads w.log → count ≡ out.failures_before → (result : Result X F)
      → OnOk result (AppendsCertificate middle out.new w.log list) → OnErr result (AppendsPartOfCertificate middle out.new w.log list)
      → OnOk result (out.failures_after ≡ count) → OnErr result (out.failures_after ≡ with_failure count) → WritesOutput names true w out result
  behind_report list certifies out middle count report kept (Ok x) whole part ok err =
      (report.text ++ whole.text, output whole.text whole.is_certificate, (appends_then out.old middle out.new report.text whole.text report.appends whole.appends, ok ∙ kept))
    where
      output : (lines : List ℕ) → IsCertificate w.log list lines → IsOutput names true threads w.log (report.text ++ lines)
      output lines is = record { report = report.text; is_report = report.is_report; lines = lines; certified = (list, certifies, is); whole = refl }
  behind_report list certifies out middle count report kept (Err f) whole part ok err = (
    report.text ++ part.text,
    record { report = report.text; is_report = report.is_report; lines = part.text; certified = (list, certifies, part.is_certificate); whole = refl },
    (beginning_then out.old middle out.new report.text part.text [] (report.text ++ part.text) report.appends part.appends (sym (append-nil (report.text ++ part.text))), err ∙ ap with_failure kept),
  )
