use Rattle.std.proofs.Common.{◌≡◌, Some, get_or, sym, ap, ◌∙◌, arith}
use Rattle.std.specs.Option.{option_map_or}
use Rattle.std.proofs.lemmas.Bool.{not-true, not-false, and_left, and_right, and_from}
use Rattle.std.proofs.lemmas.Option.{slice_get-get_or}
use Rattle.velo_events.specs.Event.{is_begin, is_end}
use Rattle.velo_events.proofs.OnScans.{end_by-no_begin_by, other_kind}
use Rattle.velo_events.proofs.OnOpenBlocks.{LeavesEnds-other, LeavesEnds-begin, LeavesEnds-open, LeavesEnds-end, is_open-begin, is_open-ended, is_open-no_begin}
use Rattle.velo_traces.specs.Blocks.{label_of}
use Rattle.velo_traces.proofs.Past.{past}
use Rattle.velo_traces.proofs.OnOpen.{open_block_at-closed, open_block_at-opened}
use Rattle.velo_traces.proofs.open.scan_back.Goals as goal

pub returns-then-ne-clause-ends : goal.returns-then-ne-clause-ends
returns-then-ne-clause-ends c =
    let trace = c.args.events.now in let n = c.args.at in
    let another = not-true _ (sym c.ne.ensures ∙ c.if-ne.true) in
    LeavesEnds-other trace c.args.thread.0 n (get_or trace n past) (slice_get-get_or trace n past c.requires.within) c.args.ends
    (and_left _ _ another) (and_left _ _ another) c.requires.ends

pub returns-then-ne-clause-block : goal.returns-then-ne-clause-block
returns-then-ne-clause-block c =
    let trace = c.args.events.now in let n = c.args.at in
    let another = not-true _ (sym c.ne.ensures ∙ c.if-ne.true) in
    open_block_at-closed trace c.args.thread.0 n
    (is_open-no_begin trace c.args.thread.0 n (get_or trace n past) (slice_get-get_or trace n past c.requires.within) (and_left _ _ another))

pub returns-in-End-clause-ends : goal.returns-in-End-clause-ends
returns-in-End-clause-ends c =
    let trace = c.args.events.now in let n = c.args.at in
    let own = not-false _ (sym c.ne.ensures ∙ c.if-ne.false) in
    LeavesEnds-end trace c.args.thread.0 n (get_or trace n past) (slice_get-get_or trace n past c.requires.within) c.args.ends
    (and_from _ _ own (ap is_end c.in-End.is)) c.requires.ends

pub returns-in-End-clause-block : goal.returns-in-End-clause-block
returns-in-End-clause-block c =
    let trace = c.args.events.now in let n = c.args.at in let e = get_or trace n past in
    let own = not-false _ (sym c.ne.ensures ∙ c.if-ne.false) in
    open_block_at-closed trace c.args.thread.0 n
    (is_open-no_begin trace c.args.thread.0 n e (slice_get-get_or trace n past c.requires.within) (end_by-no_begin_by c.args.thread.0 e (and_from _ _ own (ap is_end c.in-End.is))))

pub returns-in_default : goal.returns-in_default
returns-in_default c =
    let trace = c.args.events.now in let n = c.args.at in let e = get_or trace n past in
    let here = slice_get-get_or trace n past c.requires.within in
    let other = other_kind e.kind c.in_default.not-Begin c.in_default.not-End in
    record {
      few_ends = omega arith;
      ends = LeavesEnds-other trace c.args.thread.0 n e here c.args.ends (and_right _ _ other.0) (and_right _ _ other.1) c.requires.ends;
      block = open_block_at-closed trace c.args.thread.0 n (is_open-no_begin trace c.args.thread.0 n e here (and_right _ _ other.0));
    }

pub returns-then-ends-gt0-clause-ends : goal.returns-then-ends-gt0-clause-ends
returns-then-ends-gt0-clause-ends c =
    let trace = c.args.events.now in let n = c.args.at in
    let own = not-false _ (sym c.ne.ensures ∙ c.if-ne.false) in
    LeavesEnds-begin trace c.args.thread.0 n (get_or trace n past) (slice_get-get_or trace n past c.requires.within) c.args.ends
    c.if-ends-gt0.true (and_from _ _ own (ap is_begin c.in-Begin.is)) c.requires.ends

pub returns-then-ends-gt0-clause-block : goal.returns-then-ends-gt0-clause-block
returns-then-ends-gt0-clause-block c =
    let trace = c.args.events.now in let n = c.args.at in
    let own = not-false _ (sym c.ne.ensures ∙ c.if-ne.false) in
    open_block_at-closed trace c.args.thread.0 n
    (is_open-ended trace c.args.thread.0 n (get_or trace n past) (slice_get-get_or trace n past c.requires.within) c.args.ends c.if-ends-gt0.true (and_from _ _ own (ap is_begin c.in-Begin.is)) c.requires.ends)

pub returns-else-ends-gt0-clause-ends : goal.returns-else-ends-gt0-clause-ends
returns-else-ends-gt0-clause-ends c =
    let trace = c.args.events.now in let n = c.args.at in
    let none : c.args.ends ≡ 0 = omega arith in
    let own = not-false _ (sym c.ne.ensures ∙ c.if-ne.false) in
    LeavesEnds-open trace c.args.thread.0 n (get_or trace n past) (slice_get-get_or trace n past c.requires.within) c.args.ends none (and_from _ _ own (ap is_begin c.in-Begin.is)) c.requires.ends

pub returns-else-ends-gt0-clause-block : goal.returns-else-ends-gt0-clause-block
returns-else-ends-gt0-clause-block c =
    let trace = c.args.events.now in let n = c.args.at in
    let here = slice_get-get_or trace n past c.requires.within in
    let none : c.args.ends ≡ 0 = omega arith in
    let own = not-false _ (sym c.ne.ensures ∙ c.if-ne.false) in
    let opened = is_open-begin trace c.args.thread.0 n (get_or trace n past) here c.args.ends none (and_from _ _ own (ap is_begin c.in-Begin.is)) c.requires.ends in
    let label_is = sym (ap (λ o. option_map_or (λ f. label_of f.kind) o (record { 0 = 0 })) here ∙ ap label_of c.in-Begin.is) in
    ap (λ l. Some (record { first = n; label = l })) label_is ∙ open_block_at-opened trace c.args.thread.0 n opened
