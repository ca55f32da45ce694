use Rattle.std.proofs.Common.{◌+◌, get_or, sym, ◌∙◌, subst, arith}
use Rattle.std.proofs.lemmas.Bool.{not-true, not-false, both_ways, eq-eqb, eqb-true, and_left}
use Rattle.std.proofs.lemmas.Option.{slice_get-get_or}
use Rattle.velo_events.specs.Event.{thread_of, is_by}
use Rattle.velo_traces.proofs.Past.{past}
use Rattle.velo_audit.specs.Open.{AreOpen}
use Rattle.velo_audit.proofs.OnOpen.{AreOpen-other}
use Rattle.velo_audit.proofs.OnMarks.{AreOpen-next, AreMarksSoFar-own, AreMarksSoFar-other}
use Rattle.velo_audit.proofs.marks.step.Goals as goal

pub take_in-requires-clause-known : goal.take_in-requires-clause-known
take_in-requires-clause-known c = let events = c.args.events.now in c.requires.known.each c.args.at (get_or events c.args.at past) c.requires.within (slice_get-get_or events c.args.at past c.requires.within)

pub take_in-requires-clause-others : goal.take_in-requires-clause-others
take_in-requires-clause-others c = let events = c.args.events.now in c.requires.others.each c.args.at (get_or events c.args.at past) c.requires.within (slice_get-get_or events c.args.at past c.requires.within)

pub mark_open-requires-clause-within : goal.mark_open-requires-clause-within
mark_open-requires-clause-within c =
    let events = c.args.events.now in let t = c.args.thread.0 in let at = c.args.at in let e = get_or events at past in
    let here = slice_get-get_or events at past c.requires.within in
    let are = AreOpen-next events t at e c.args.pass.now.blocks.items c.follow.new.blocks.items (not-false _ (sym c.ne.ensures ∙ c.if-ne.false)) here c.in_ok-follow.ensures c.requires.stands.are_open in
    let these : AreOpen events t (at + 1) c.deref.result.now = subst (AreOpen events t (at + 1)) (sym c.deref.ensures.value) are in
    λ j l. let low = these.earlier j l in omega (arith, low, c.requires.stands.are_marks.as_many, c.requires.within)

pub mark_open-requires-clause-alike : goal.mark_open-requires-clause-alike
mark_open-requires-clause-alike c = c.requires.stands.are_marks.as_many_around ∙ sym c.requires.stands.are_marks.as_many

pub mark_open-requires-clause-rise : goal.mark_open-requires-clause-rise
mark_open-requires-clause-rise c =
    let events = c.args.events.now in let t = c.args.thread.0 in let at = c.args.at in let e = get_or events at past in
    let here = slice_get-get_or events at past c.requires.within in
    let are = AreOpen-next events t at e c.args.pass.now.blocks.items c.follow.new.blocks.items (not-false _ (sym c.ne.ensures ∙ c.if-ne.false)) here c.in_ok-follow.ensures c.requires.stands.are_open in
    let these : AreOpen events t (at + 1) c.deref.result.now = subst (AreOpen events t (at + 1)) (sym c.deref.ensures.value) are in
    these.rise

pub returns-then-ne-clause-stands : goal.returns-then-ne-clause-stands
returns-then-ne-clause-stands c =
    let events = c.args.events.now in let t = c.args.thread.0 in let at = c.args.at in let e = get_or events at past in
    let here = slice_get-get_or events at past c.requires.within in
    let other = not-true _ (sym c.ne.ensures ∙ c.if-ne.true) in
    record {
      reaches = c.take_in.ensures.next events here c.requires.stands.reaches;
      are_open = AreOpen-other events t at e here c.args.pass.now.blocks.items c.requires.stands.are_open (and_left _ _ other) (and_left _ _ other);
      are_marks = AreMarksSoFar-other events t at e c.args.marks.now here (λ same. both_ways (is_by t e) other (eq-eqb (thread_of e) t same)) c.requires.stands.are_marks;
    }

pub returns-clause-stands : goal.returns-clause-stands
returns-clause-stands c =
    let events = c.args.events.now in let t = c.args.thread.0 in let at = c.args.at in let e = get_or events at past in
    let here = slice_get-get_or events at past c.requires.within in
    let own = not-false _ (sym c.ne.ensures ∙ c.if-ne.false) in
    let are = AreOpen-next events t at e c.args.pass.now.blocks.items c.follow.new.blocks.items own here c.in_ok-follow.ensures c.requires.stands.are_open in
    let these : AreOpen events t (at + 1) c.deref.result.now = subst (AreOpen events t (at + 1)) (sym c.deref.ensures.value) are in
    let reaches = c.take_in.ensures.next events here c.requires.stands.reaches in
    record {
      reaches = reaches;
      are_open = are;
      are_marks = AreMarksSoFar-own events t at e here (eqb-true (thread_of e) t own) c.deref.result.now these c.take_in.new.self.bound reaches.is_bound
          c.args.marks.now c.mark_open.new.marks c.mark_open.ensures.size c.mark_open.ensures.size_around c.mark_open.ensures.blamed c.mark_open.ensures.around c.requires.stands.are_marks;
    }
