use Rattle.std.proofs.Common.{◌+◌, ◌*◌, ◌/◌, ◌%◌, arith, ap, sym, subst, refl, ◌∙◌, not, get_or}
use Rattle.std.specs.Prelude.{◌==◌, if◌then◌else◌, slice_index, slice_set}
use Rattle.velo_traces.proofs.Past.{past}
use Rattle.velo_events.proofs.OnScans.{other_kind}
use Rattle.velo_filter.specs.Marks.{AreMarks}
use Rattle.velo_filter.specs.Tables.{left_of}
use Rattle.velo_filter.proofs.OnMarks.{AreMarks-Begin, AreMarks-End, AreMarks-same, is_left_out-Begin, is_left_out-End, is_left_out-kind, row-small}
use Rattle.velo_filter.proofs.marks.stays_at.Goals as goal

pub open-requires-clause-within : goal.open-requires-clause-within
open-requires-clause-within c = omega (arith, c.row_of-thread.ensures.within, c.requires.rows)

pub open-requires-clause-small : goal.open-requires-clause-small
open-requires-clause-small c =
    let is = c.row_of-thread.ensures.row in
    let small = row-small (left_of c.args.left.now) c.args.events.now c.args.position c.requires.within c.args.rows.now c.requires.marks c.requires.shallow (omega (arith, c.row_of-thread.ensures, c.requires.rows)) in
    omega (arith, small, ap (slice_index c.args.rows.now) is)

pub close-requires : goal.close-requires
close-requires c = record { within = omega (arith, c.row_of-thread.ensures.within, c.requires.rows) }

pub returns-in-Begin-clause-stays : goal.returns-in-Begin-clause-stays
returns-in-Begin-clause-stays c = ap not (c.has_label-out.ensures ∙ sym (is_left_out-Begin (left_of c.args.left.now) c.args.events.now c.args.position c.requires.within c.args.rows.now c.requires.marks c.in-Begin.label c.in-Begin.is))

pub returns-in-Begin-clause-marks : goal.returns-in-Begin-clause-marks
returns-in-Begin-clause-marks c =
    let marks = AreMarks-Begin (left_of c.args.left.now) c.args.events.now c.args.position c.requires.within c.args.rows.now c.requires.marks c.in-Begin.label c.in-Begin.is (omega (arith, c.row_of-thread.ensures, c.requires.rows)) c.has_label-out.result c.has_label-out.ensures in
    subst (AreMarks (left_of c.args.left.now) c.args.events.now (c.args.position + 1))
    (ap (λ r. slice_set c.args.rows.now r (slice_index c.args.rows.now r * 2 + (if c.has_label-out.result then 1 else 0))) (sym c.row_of-thread.ensures.row) ∙ sym c.open.ensures) marks

pub returns-in-End-clause-stays : goal.returns-in-End-clause-stays
returns-in-End-clause-stays c =
    ap not (c.close.ensures.out ∙ (ap (λ r. slice_index c.args.rows.now r % 2 == 1) c.row_of-thread.ensures.row
    ∙ is_left_out-End (left_of c.args.left.now) c.args.events.now c.args.position c.requires.within c.args.rows.now c.requires.marks c.in-End.is (omega (arith, c.row_of-thread.ensures, c.requires.rows))))

pub returns-in-End-clause-marks : goal.returns-in-End-clause-marks
returns-in-End-clause-marks c =
    let marks = AreMarks-End (left_of c.args.left.now) c.args.events.now c.args.position c.requires.within c.args.rows.now c.requires.marks c.in-End.is (omega (arith, c.row_of-thread.ensures, c.requires.rows)) in
    subst (AreMarks (left_of c.args.left.now) c.args.events.now (c.args.position + 1))
    (ap (λ r. slice_set c.args.rows.now r (slice_index c.args.rows.now r / 2)) (sym c.row_of-thread.ensures.row) ∙ sym c.close.ensures.rows) marks

pub returns-in_default-clause-stays : goal.returns-in_default-clause-stays
returns-in_default-clause-stays c =
    let kind = (get_or c.args.events.now c.args.position past).kind in
    let other = other_kind kind c.in_default.not-Begin c.in_default.not-End in
    ap not (c.has_access.ensures ∙ sym (is_left_out-kind (left_of c.args.left.now) c.args.events.now c.args.position c.requires.within c.args.rows.now c.requires.marks kind refl other.0 other.1))

pub returns-in_default-clause-marks : goal.returns-in_default-clause-marks
returns-in_default-clause-marks c =
    let kind = (get_or c.args.events.now c.args.position past).kind in
    let other = other_kind kind c.in_default.not-Begin c.in_default.not-End in
    AreMarks-same (left_of c.args.left.now) c.args.events.now c.args.position c.requires.within c.args.rows.now c.requires.marks other.0 other.1
