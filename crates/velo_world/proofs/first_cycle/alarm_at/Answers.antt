use Rattle.std.proofs.Common.{◌≡◌, ℕ, Some, ◌+◌, ◌<◌, List, [], ◌∷◌, ◌++◌, length, map, take, get_or, sym, ap, ◌∙◌, subst, arith}
use Rattle.std.specs.Prelude.{slice_get, IsFalse}
use Rattle.std.proofs.lemmas.List.{length-map}
use Rattle.std.proofs.lemmas.Option.{slice_get-get_or}
use Rattle.velo_events.specs.declared.event.Event.{Event}
use Rattle.velo_events.specs.declared.event.Kind.TheVariants.{Read}
use Rattle.velo_events.specs.declared.config.Bounds.{Bounds}
use Rattle.velo_events.specs.Block.{is_open_at, open_blocks, owner}
use Rattle.velo_events.specs.WellFormed.{IsWellFormed}
use Rattle.velo_events.proofs.OnDepths.{length-open_blocks-le}
use Rattle.velo_events.proofs.OnGraphs.{HasCycle-from_closing}
use Rattle.velo_events.proofs.OnScans.{take-next}
use Rattle.velo_events.proofs.OnWellFormed.{IsWellFormed-take}
use Rattle.velo_traces.specs.Blocks.{block_at}
use Rattle.velo_blame.specs.Blamed.{begins_of}
use Rattle.velo_blame.proofs.OnAnswers.{begins_of-blocks}
use Rattle.velo_world.specs.declared.analysis.Alarm.{Alarm}
use Rattle.velo_world.specs.declared.first_cycle.Closing.{Closing}
use Rattle.velo_world.specs.FirstCycle.{ClosesFirst}
use Rattle.velo_world.specs.World.{IsAlarm}
use Rattle.velo_world.proofs.OnAlarms.{IsAlarm-closing, length-before}
use Rattle.velo_world.proofs.OnFirstCycle.{ClosesFirst-part, IsAlarm-whole, acyclic-before, none_open}
use Rattle.velo_world.proofs.first_cycle.alarm_at.Goals as goal

-- what the list gives where it has no event
abbrev no_event : Event
no_event = record { thread = record { 0 = 0 }; kind = Read (record { 0 = 0 }) 0 }

well_part : (bounds : Bounds) (events : List Event) (p : ℕ) → p < length events → IsWellFormed bounds events → IsWellFormed bounds (take (p + 1) events)
well_part bounds events p within well = IsWellFormed-take bounds events (p + 1) (omega (arith, within)) well

none_before : (events : List Event) (closing : Closing) (e : Event) → ClosesFirst events closing → slice_get events closing.position ≡ Some e → (b : ℕ) → b < closing.transaction → IsFalse (is_open_at (take (closing.position + 1) events) e.thread.0 b (length (take (closing.position + 1) events)))
none_before events closing e first here b below =
    let p = closing.position in
    let past = take p events in
    let next = take-next events p e here in
    let part = ClosesFirst-part events closing first in
    let last : closing.transaction ≡ owner (past ++ e ∷ []) (length past) = part.transaction ∙ (ap (λ l. owner l p) next ∙ ap (owner (past ++ e ∷ [])) (sym (length-before events p e here))) in
    subst (λ l. IsFalse (is_open_at l e.thread.0 b (length l))) (sym next) (none_open past e b (omega (arith, below, last)))

pub open_blocks_since-blocks-requires-clause-few : goal.open_blocks_since-blocks-requires-clause-few
open_blocks_since-blocks-requires-clause-few c =
    let within = c.requires.closes.closes.in_trace in
    length-open_blocks-le c.args.clocks.now.bounds (take (c.args.closing.position + 1) c.args.events.now) _ (well_part _ c.args.events.now c.args.closing.position within c.requires.well_formed)

pub open_blocks_since-blocks-requires-clause-none_before : goal.open_blocks_since-blocks-requires-clause-none_before
open_blocks_since-blocks-requires-clause-none_before c =
    none_before c.args.events.now c.args.closing _ c.requires.closes (slice_get-get_or c.args.events.now c.args.closing.position _ c.requires.closes.closes.in_trace)

pub blamed-blamed-requires : goal.blamed-blamed-requires
blamed-blamed-requires c = record {
  few = (let within = c.requires.closes.closes.in_trace in
      let few = length-open_blocks-le c.args.clocks.now.bounds (take (c.args.closing.position + 1) c.args.events.now) (get_or c.args.events.now c.args.closing.position no_event).thread.0 (well_part _ c.args.events.now c.args.closing.position within c.requires.well_formed) in
      let count = ap length (c.deref.ensures ∙ c.open_blocks_since-blocks.ensures) ∙ length-map _ _ in
      omega (arith, few, count));
}

pub returns-clause-alarm : goal.returns-clause-alarm
returns-clause-alarm c =
    let bounds = c.args.clocks.now.bounds in
    let events = c.args.events.now in
    let closing = c.args.closing in
    let p = closing.position in
    let alarm : Alarm = record { position = p; transaction = closing.transaction; blamed = c.blamed-blamed.result } in
    let first = c.requires.closes in
    let e : Event = get_or events p no_event in
    let here : slice_get events p ≡ Some e = slice_get-get_or events p no_event first.closes.in_trace in
    let past = take p events in
    let whole = past ++ e ∷ [] in
    let next : take (p + 1) events ≡ whole = take-next events p e here in
    let part : ClosesFirst whole closing = subst (λ l. ClosesFirst l closing) next (ClosesFirst-part events closing first) in
    let before : length past ≡ p = length-before events p e here in
    let well : IsWellFormed bounds whole = subst (IsWellFormed bounds) next (well_part bounds events p first.closes.in_trace c.requires.well_formed) in
    let acyclic = acyclic-before events p first.closes in
    let blocks = c.deref.ensures ∙ (c.open_blocks_since-blocks.ensures ∙ ap (λ xs. map (block_at xs) (open_blocks xs e.thread.0)) next) in
    let begins = ap begins_of blocks ∙ begins_of-blocks whole (open_blocks whole e.thread.0) in
    IsAlarm-whole events (p + 1) alarm (subst (λ l. IsAlarm l alarm) (sym next)
    (IsAlarm-closing past e alarm acyclic (HasCycle-from_closing whole p part.closes) (sym before) part.transaction
    (c.blamed-blamed.ensures.blamed 0 past c.requires.clocks before well acyclic (λ b below. absurd (omega (arith, below))) blocks)
    (c.blamed-blamed.ensures.blocks whole (blocks ∙ ap (map (block_at whole)) (sym begins)))))
