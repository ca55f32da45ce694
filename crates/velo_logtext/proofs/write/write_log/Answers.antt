use Rattle.std.proofs.Common.{◌≡◌, true, refl, ◌+◌, ◌++◌, [], ◌∷◌, take, drop, get_or, subst, sym, rules}
use Rattle.std.proofs.lemmas.List.{take_more}
use Rattle.std.proofs.lemmas.Result.{IfErr-weaker, err_from_is_err_and}
use Rattle.velo_events.specs.declared.event.Event.{Event}
use Rattle.velo_events.specs.declared.event.Kind.TheVariants.{Read}
use Rattle.velo_logtext.specs.Text.{AreEventsIn, event_line, event_lines, header_line, log_text}
use Rattle.velo_bytes.proofs.OnDevices.{WroteSome, wrote_part, wrote_held, wrote_out}
use Rattle.velo_logtext.proofs.OnStreams.{text_split, text_more, fit_more}
use Rattle.velo_logtext.proofs.write.write_log.Goals as goal
use Rattle.velo_logtext.proofs.write.write_log.Goals.{then-used+in_ok-write_all, else-used}

pub loop-event-preserved : goal.loop-event-preserved
loop-event-preserved g c =
    let contents = g.S.Sink.contents in
    let items = c.as_slice-event-items.result.now in
    let i = c.loop-event.event-index in
    let buffer = c.loop-event.buffer in
    let text = header_line (true, c.args.bounds) ++ event_lines (take i items) in
    let e : Event = get_or items i (record { thread = record { 0 = 0 }; kind = Read (record { 0 = 0 }) 0 }) in
    let more : take (i + 1) items ≡ take i items ++ e ∷ [] = take_more items i _ c.loop-event-test.true in
    let wrote : WroteSome (contents c.args.sink.now) (contents c.if-used.sink) (take c.if-used.used buffer) text =
    elim c.if-used.branch [
      | then-used+in_ok-write_all w ↦
          rw (w.used-is, w.sink-is) (wrote_out _ _ _ (take c.loop-event.used buffer) text c.loop-event.invariant.wrote w.in_ok-write_all.ensures.ok)
      | else-used w ↦ rw (w.used-is, w.sink-is) c.loop-event.invariant.wrote
    ] in
    let held = wrote_held _ _ (take c.if-used.used buffer) text (event_line e) wrote in
    record {
      within = search rules;
      wrote = rw (c.put_event-used.ensures.text, text_more c.args.bounds items i e more) held;
      fits = subst (AreEventsIn true) (sym more) (fit_more true (take i items) e c.loop-event.invariant.fits (record { fits = c.put_event-used.ensures.fits; known = refl }));
      failures = search rules;
    }

pub returns-in_err-write_all-clause-err : goal.returns-in_err-write_all-clause-err
returns-in_err-write_all-clause-err g c =
    let items = c.as_slice-event-items.result.now in
    let i = c.loop-event.event-index in
    let p = err_from_is_err_and c.from_residual.result c.from_residual.ensures.1 in
    rw p.1 (wrote_part _ _ _ (take c.loop-event.used c.loop-event.buffer) (header_line (true, c.args.bounds) ++ event_lines (take i items)) (event_lines (drop i items)) (log_text c.args.bounds c.args.trace.now.events) c.loop-event.invariant.wrote c.in_err-write_all.ensures.err (text_split c.args.bounds c.args.trace.now.events items i c.as_slice-event-items.ensures))

pub returns-clause-err : goal.returns-clause-err
returns-clause-err g c =
    let items = c.as_slice-event-items.result.now in
    let i = c.loop-event.event-index in
    IfErr-weaker c.write_all-2.result _ _ (λ f part. wrote_part _ _ _ (take c.loop-event.used c.loop-event.buffer) (header_line (true, c.args.bounds) ++ event_lines (take i items)) (event_lines (drop i items)) (log_text c.args.bounds c.args.trace.now.events) c.loop-event.invariant.wrote part (text_split c.args.bounds c.args.trace.now.events items i c.as_slice-event-items.ensures)) c.write_all-2.ensures.err
