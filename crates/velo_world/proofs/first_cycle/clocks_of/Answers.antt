use Rattle.std.proofs.Common.{◌≡◌, ℕ, ◌+◌, ◌<◌, List, [], ◌∷◌, ◌++◌, length, take, take_all, Some, sym, ap, ◌∙◌, subst, arith}
use Rattle.std.specs.Prelude.{slice_get}
use Rattle.std.proofs.lemmas.Option.{slice_get-get_or}
use Rattle.velo_events.specs.declared.config.Bounds.{Bounds}
use Rattle.velo_events.specs.declared.event.Event.{Event}
use Rattle.velo_events.specs.WellFormed.{IsWellFormed}
use Rattle.velo_events.proofs.OnScans.{take-next}
use Rattle.velo_events.proofs.OnWellFormed.{IsWellFormed-take}
use Rattle.velo_tables.specs.Clocks.{AreClocksOf, HasRoomToNote, IsOfThreads}
use Rattle.velo_tables.proofs.OnThreads.{IsOfThreads-follows}
use Rattle.velo_world.proofs.OnAlarms.{length-before}
use Rattle.velo_world.proofs.first_cycle.clocks_of.Goals.{then-not-has_room_for+in_ok-reserve_for, else-not-has_room_for}
use Rattle.velo_world.proofs.first_cycle.clocks_of.Goals as goal

-- the threads of an event are among those of the run
threads_at : (bounds bounds' : Bounds) (events : List Event) (p : ℕ) (e : Event) → bounds' ≡ bounds → IsWellFormed bounds events → slice_get events p ≡ Some e → IsOfThreads bounds'.threads e
threads_at bounds bounds' events p e same well here = subst (λ (b : Bounds). IsOfThreads b.threads e) (sym same) (IsOfThreads-follows bounds (take p events) e (well.each p e here))

well_next : (bounds bounds' : Bounds) (events : List Event) (p : ℕ) (e : Event) → bounds' ≡ bounds → IsWellFormed bounds events → p < length events → slice_get events p ≡ Some e → IsWellFormed bounds' (take p events ++ e ∷ [])
well_next bounds bounds' events p e same well within here =
    subst (λ b. IsWellFormed b (take p events ++ e ∷ [])) (sym same) (subst (IsWellFormed bounds) (take-next events p e here) (IsWellFormed-take bounds events (p + 1) (omega (arith, within)) well))

pub loop-position-init : goal.loop-position-init
loop-position-init c = record { bounds = c.in_ok-clocks.ensures.bounds; stands = c.in_ok-clocks.ensures.start [] }

pub note_resolved-requires-clause-room : goal.note_resolved-requires-clause-room
note_resolved-requires-clause-room c =
    let kept = c.loop-position.invariant in
    let here : slice_get c.args.events.now c.loop-position.position ≡ Some c.of-event.result = slice_get-get_or c.args.events.now c.loop-position.position _ c.loop-position-test.true ∙ ap Some (sym c.of-event.ensures) in
    let threads = threads_at _ _ c.args.events.now c.loop-position.position c.of-event.result kept.bounds c.requires.well_formed here in
    elim c.if-not-has_room_for.branch [
      | then-not-has_room_for+in_ok-reserve_for w ↦
          rw w.clocks-is (subst (HasRoomToNote _ _) w.event.ensures (w.in_ok-reserve_for.ensures.ok (rw w.event.ensures threads)))
      | else-not-has_room_for w ↦
          rw w.clocks-is (c.has_room_for.ensures w.if-not-has_room_for.false threads)
    ]

pub note_resolved-requires-clause-fits : goal.note_resolved-requires-clause-fits
note_resolved-requires-clause-fits c = (let few = c.requires.few in let within = c.loop-position-test.true in omega (arith, few, within))

pub loop-position-preserved : goal.loop-position-preserved
loop-position-preserved c =
    let kept = c.loop-position.invariant in
    let events = c.args.events.now in
    let p = c.loop-position.position in
    let here : slice_get events p ≡ Some c.of-event.result = slice_get-get_or events p _ c.loop-position-test.true ∙ ap Some (sym c.of-event.ensures) in
    let same : c.if-not-has_room_for.clocks.bounds ≡ c.args.config.now.bounds = elim c.if-not-has_room_for.branch [
      | then-not-has_room_for+in_ok-reserve_for w ↦ rw w.clocks-is (w.reserve_for.ensures.bounds ∙ kept.bounds)
      | else-not-has_room_for w ↦ rw w.clocks-is kept.bounds
    ] in
    let stands : AreClocksOf c.if-not-has_room_for.clocks.state (take p events) = elim c.if-not-has_room_for.branch [
      | then-not-has_room_for+in_ok-reserve_for w ↦ rw w.clocks-is (w.reserve_for.ensures.same 0 (take p events) kept.stands)
      | else-not-has_room_for w ↦ rw w.clocks-is kept.stands
    ] in
    record {
      bounds = c.note_resolved.ensures.bounds ∙ same;
      stands = subst (AreClocksOf c.note_resolved.new.self.state) (sym (take-next events p c.of-event.result here))
          (c.note_resolved.ensures.next 0 (take p events) stands (length-before events p c.of-event.result here) (well_next _ _ events p c.of-event.result same c.requires.well_formed c.loop-position-test.true here));
    }

pub returns-clause-bounds : goal.returns-clause-bounds
returns-clause-bounds c = c.loop-position.invariant.bounds

pub returns-clause-clocks : goal.returns-clause-clocks
returns-clause-clocks c =
    subst (AreClocksOf c.loop-position.clocks.state) (take_all c.loop-position.position c.args.events.now c.loop-position-test.false) c.loop-position.invariant.stands
