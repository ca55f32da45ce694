use Rattle.std.proofs.Common.{◌≡◌, length, get_or, ap, ◌∙◌, sym, subst, arith}
use Rattle.std.specs.Prelude.{not}
use Rattle.std.proofs.lemmas.Option.{slice_get-get_or}
use Rattle.velo_events.proofs.OnScans.{passes_at-is}
use Rattle.velo_traces.proofs.Past.{past}
use Rattle.velo_audit.specs.Marks.{AreMarks}
use Rattle.velo_audit.specs.Tally.{IsTally, begins_label, is_block_of}
use Rattle.velo_audit.proofs.OnTally.{count_below-zero, count_below-le, counted-next, is_blamed_of, is_innermost_of, IsTally-counted, mark-is, both-are}
use Rattle.velo_audit.proofs.tally.tally_of.Goals as goal

pub loop-at-init : goal.loop-at-init
loop-at-init c = record { blocks = count_below-zero _; blamed = count_below-zero _; innermost = count_below-zero _ }

pub counted-tally-requires-clause-blocks : goal.counted-tally-requires-clause-blocks
counted-tally-requires-clause-blocks c = omega (arith, count_below-le c.loop-at.at (is_block_of c.as_slice-events.result.now c.args.label.0))

pub counted-tally-requires-clause-blamed : goal.counted-tally-requires-clause-blamed
counted-tally-requires-clause-blamed c = omega (arith, count_below-le c.loop-at.at (is_blamed_of c.as_slice-events.result.now c.args.marks.now c.args.label.0))

pub counted-tally-requires-clause-innermost : goal.counted-tally-requires-clause-innermost
counted-tally-requires-clause-innermost c = omega (arith, count_below-le c.loop-at.at (is_innermost_of c.as_slice-events.result.now c.args.marks.now c.args.label.0))

pub loop-at-preserved : goal.loop-at-preserved
loop-at-preserved c =
    let events = c.as_slice-events.result.now in let at = c.loop-at.at in let l = c.args.label.0 in let marks = c.args.marks.now in
    let e = get_or events at past in
    let here = slice_get-get_or events at past c.loop-at-test.true in
    let log_long : length events ≡ length c.args.log.now.events = ap length c.as_slice-events.ensures in
    let block : is_block_of events l at ≡ c.begins-block.result = passes_at-is events (λ f. begins_label l f.kind) at e here ∙ sym c.begins-block.ensures in
    let blamed = mark-is marks.blamed.items at c.index.result.now (omega (arith, c.requires.as_many, log_long, c.loop-at-test.true)) c.index.ensures in
    let around = mark-is marks.around.items at c.index-in-loop-at.result.now (omega (arith, c.requires.as_many_around, log_long, c.loop-at-test.true)) c.index-in-loop-at.ensures in
    record {
      blocks = counted-next at (is_block_of events l) _ _ _ block c.loop-at.invariant.blocks c.counted-tally.ensures.blocks;
      blamed = counted-next at (is_blamed_of events marks l) _ _ _ (both-are _ _ _ _ block blamed) c.loop-at.invariant.blamed c.counted-tally.ensures.blamed;
      innermost = counted-next at (is_innermost_of events marks l) _ _ _ (both-are _ _ _ _ block (both-are _ _ _ _ blamed (ap not around))) c.loop-at.invariant.innermost c.counted-tally.ensures.innermost;
    }

pub returns : goal.returns
returns c =
    let events = c.as_slice-events.result.now in
    let all : c.loop-at.at ≡ length events = omega arith in
    subst (λ es. IsTally es c.args.label.0 c.loop-at.tally) c.as_slice-events.ensures
    (IsTally-counted events c.args.marks.now c.args.label.0 c.loop-at.at c.loop-at.tally (subst (λ es. AreMarks es c.args.marks.now) (sym c.as_slice-events.ensures) c.requires) all c.loop-at.invariant.blocks c.loop-at.invariant.blamed c.loop-at.invariant.innermost)
