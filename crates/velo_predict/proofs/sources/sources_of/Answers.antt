use Rattle.std.proofs.Common.{◌≡◌, ◌+◌, List, [], ◌∷◌, ◌++◌, drop, get_or, length, take, sym, subst, arith}
use Rattle.std.proofs.lemmas.Grind.{common_steps}
use Rattle.std.proofs.lemmas.List.{take_more}
use Rattle.velo_events.specs.declared.event.Event.{Event}
use Rattle.velo_traces.proofs.Past.{past}
use Rattle.velo_predict.specs.Sources.{AreSources, AreTrails, TellsSource}
use Rattle.velo_predict.proofs.OnSources.{AreSources-nil, AreSources-push, AreTrails-nil}
use Rattle.velo_predict.proofs.sources.sources_of.Goals as goal

pub loop-position-init : goal.loop-position-init
loop-position-init c = record {
  trails = AreTrails-nil c.args.log.now.events _ (grind (arith, common_steps));
  sources = AreSources-nil c.args.log.now.events _ (grind (arith, common_steps));
  room = grind (arith, common_steps);
}

pub take_in-requires : goal.take_in-requires
take_in-requires c =
    let trace = take c.loop-position.position c.as_slice-events.result.now in
    record {
      stands = (
        trace,
        subst (AreTrails c.as_slice.result.now trace) (sym c.deref_mut.ensures.value) (subst (λ (es : List Event). AreTrails es trace c.loop-position.trails.items) (sym c.as_slice.ensures) c.loop-position.invariant.trails),
      );
    }

pub loop-position-preserved : goal.loop-position-preserved
loop-position-preserved c =
    let log = c.args.log.now.events in
    let events = c.as_slice-events.result.now in
    let i = c.loop-position.position in
    let trace = take i events in
    let e = get_or events i past in
    let more : take (i + 1) events ≡ trace ++ e ∷ [] = take_more events i past c.loop-position-test.true in
    let old = c.loop-position.trails.items in
    let new = c.take_in.new.trails in
    let stands : AreTrails c.as_slice.result.now trace c.deref_mut.result.now = subst (AreTrails c.as_slice.result.now trace) (sym c.deref_mut.ensures.value) (subst (λ (es : List Event). AreTrails es trace old) (sym c.as_slice.ensures) c.loop-position.invariant.trails) in
    let after : AreTrails log (trace ++ e ∷ []) new = subst (λ (es : List Event). AreTrails es (trace ++ e ∷ []) new) c.as_slice.ensures (c.take_in.ensures.trails trace stands) in
    let tells : TellsSource log trace e c.take_in.result = subst (λ (es : List Event). TellsSource es trace e c.take_in.result) c.as_slice.ensures (c.take_in.ensures.source trace stands) in
    let before = c.loop-position.invariant.trails.as_many in
    let behind = after.as_many in
    let back : take c.loop-position.trails.len (new ++ drop (length new) old) ≡ new = grind (arith, common_steps) in
    record {
      trails = subst (λ (es : List Event). AreTrails log es (take c.loop-position.trails.len (new ++ drop (length new) old))) (sym more) (subst (AreTrails log (trace ++ e ∷ [])) (sym back) after);
      sources = subst (λ (es : List Event). AreSources log es c.push_reserved.new.self.items) (sym more)
          (subst (AreSources log (trace ++ e ∷ [])) (sym c.push_reserved.ensures.items) (AreSources-push log trace c.loop-position.sources.items e c.take_in.result c.loop-position.invariant.sources tells));
      room = grind (arith, common_steps);
    }
