-- What clocks note, and which blocks they blame.
use Rattle.std.proofs.Common.{◌≡◌, ℕ, ◌+◌, ◌<◌, ◌≤◌, List, [], ◌∷◌, ◌++◌, length, take, map, filter, sym, ap, ◌∙◌, subst, arith}
use Rattle.std.specs.Prelude.{nat_lt, Option, IsFalse}
use Rattle.std.specs.Option.{option_map_or}
use Rattle.std.proofs.lemmas.List.{take_all, length_push}
use Rattle.velo_events.specs.declared.config.Bounds.{Bounds}
use Rattle.velo_events.specs.declared.event.Event.{Event}
use Rattle.velo_events.specs.Event.{thread_of}
use Rattle.velo_events.specs.Block.{is_open_at, open_blocks}
use Rattle.velo_events.specs.Graph.{HasCycle}
use Rattle.velo_events.specs.Reordering.{AreBlamed}
use Rattle.velo_events.specs.WellFormed.{IsWellFormed}
use Rattle.velo_events.proofs.OnTraces.{slice_get-push}
use Rattle.velo_traces.specs.declared.block.Block.{Block}
use Rattle.velo_traces.specs.Blocks.{block_at}
use Rattle.velo_tables.specs.Clocks.{ClockState, AreClocksSince, IsNoted, blame_bound}
use Rattle.velo_tables.proofs.OnClocks.{notes, blames}
use Rattle.velo_blame.specs.Blamed.{begins_of, AreBlamedAt}
use Rattle.velo_blame.specs.Clocks.{RunClocks}
use Rattle.velo_blame.proofs.OnOuter.{filter-blocks}
use Rattle.velo_blame.proofs.OnAnswers.{begins_of-blocks}

-- the clocks of one event more, which was noted at the position that comes next
pub clocks-next : (tables new : ClockState) (bounds : Bounds) (now : RunClocks) (position : ℕ) (e : Event) → record { state = tables; bounds = bounds } ≡ now → bounds.threads ≤ 64 → IsNoted tables position e new
    → (first : ℕ) (trace : List Event) → AreClocksSince first now.state trace → length trace ≡ position → IsWellFormed now.bounds (trace ++ e ∷ []) → AreClocksSince first new (trace ++ e ∷ [])
clocks-next tables new bounds now position e is few noted first trace clocks at_end well =
    notes first bounds tables new trace e few (subst (λ (k : RunClocks). IsWellFormed k.bounds (trace ++ e ∷ [])) (sym is) well) (subst (λ (k : RunClocks). AreClocksSince first k.state trace) (sym is) clocks)
    (subst (λ n. IsNoted tables n e new) (sym at_end) noted)

-- what is blamed at the last event
AreBlamedAt-last : (trace : List Event) (e : Event) (begins : List ℕ) → AreBlamed (trace ++ e ∷ []) (thread_of e) begins → AreBlamedAt (trace ++ e ∷ []) (length trace) begins
AreBlamedAt-last trace e begins w =
    let whole = trace ++ e ∷ [] in
    let long = length_push trace e in
    let all : take (length trace + 1) whole ≡ whole = take_all (length trace + 1) whole (omega (arith, long)) in
    subst (λ t. AreBlamed (take (length trace + 1) whole) t begins) (sym (ap (λ (o : Option Event). option_map_or thread_of o 0) (slice_get-push trace e)))
    (subst (λ xs. AreBlamed xs (thread_of e) begins) (sym all) w)

module _ (tables : ClockState) (bounds : Bounds) (now : RunClocks) (e : Event) (bound : ℕ) (is : record { state = tables; bounds = bounds } ≡ now) (few : bounds.threads ≤ 64) (same : bound ≡ blame_bound tables e) where
  -- the open blocks below the bound are to blame
  pub clocks-blamed : (blocks items : List Block) → items ≡ filter (λ block. nat_lt block.first bound) blocks → (position first : ℕ) (trace : List Event) → AreClocksSince first now.state trace → length trace ≡ position
      → IsWellFormed now.bounds (trace ++ e ∷ []) → ¬ HasCycle trace → ((b : ℕ) → b < first → IsFalse (is_open_at (trace ++ e ∷ []) (thread_of e) b (length (trace ++ e ∷ [])))) → blocks ≡ map (block_at (trace ++ e ∷ [])) (open_blocks (trace ++ e ∷ []) (thread_of e)) → AreBlamedAt (trace ++ e ∷ []) position (begins_of items)
  clocks-blamed blocks items kept position first trace clocks at_end well none none_before opened =
      let whole = trace ++ e ∷ [] in
      let begins = filter (λ b. nat_lt b bound) (open_blocks whole (thread_of e)) in
      let are : items ≡ map (block_at whole) begins = kept ∙ (ap (filter (λ block. nat_lt block.first bound)) opened ∙ filter-blocks whole bound (open_blocks whole (thread_of e))) in
      let begins-are : begins_of items ≡ begins = ap begins_of are ∙ begins_of-blocks whole begins in
      let to_blame : AreBlamed whole (thread_of e) begins = subst (λ n. AreBlamed whole (thread_of e) (filter (λ b. nat_lt b n) (open_blocks whole (thread_of e)))) (sym same)
      (blames first bounds tables trace e few (subst (λ (k : RunClocks). IsWellFormed k.bounds whole) (sym is) well) none (subst (λ (k : RunClocks). AreClocksSince first k.state trace) (sym is) clocks) none_before) in
      subst (λ p. AreBlamedAt whole p (begins_of items)) at_end (AreBlamedAt-last trace e (begins_of items) (subst (AreBlamed whole (thread_of e)) (sym begins-are) to_blame))

-- blocks that are those of their begins stay so where some are left out
pub kept-blocks : (bound : ℕ) (blocks items : List Block) → items ≡ filter (λ block. nat_lt block.first bound) blocks → (trace : List Event) → blocks ≡ map (block_at trace) (begins_of blocks) → items ≡ map (block_at trace) (begins_of items)
kept-blocks bound blocks items kept trace whole =
    let begins = filter (λ b. nat_lt b bound) (begins_of blocks) in
    let are : items ≡ map (block_at trace) begins = kept ∙ (ap (filter (λ block. nat_lt block.first bound)) whole ∙ filter-blocks trace bound (begins_of blocks)) in
    are ∙ ap (map (block_at trace)) (sym (ap begins_of are ∙ begins_of-blocks trace begins))
