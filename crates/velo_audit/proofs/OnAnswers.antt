-- What is told of the alarm of what is left is a round's.
use Rattle.std.proofs.Common.{◌≡◌, ℕ, zero, suc, ◌<◌, ◌≤◌, Bool, List, [], ◌∷◌, length, map, Option, Some, None, Result, Ok, Err, refl, sym, ap, ◌∙◌, subst, arith}
use Rattle.std.specs.Prelude.{IfOk, IfErr, slice_get, slice_index, slice_index_or, Contains, IsTrue}
use Rattle.std.specs.Option.{option_map_or}
use Rattle.std.specs.List.{range_with_len}
use Rattle.std.proofs.lemmas.List.FromFn.{length-range_with_len}
use Rattle.std.proofs.lemmas.List.Sums.{count_by-le-length, length-filter}
use Rattle.std.proofs.lemmas.Simd.{map-map}
use Rattle.velo_events.specs.declared.config.Config.{Config}
use Rattle.velo_events.specs.declared.event.Event.{Event}
use Rattle.velo_events.specs.Event.{is_begin}
use Rattle.velo_events.specs.Block.{owner, is_begin_at}
use Rattle.velo_events.proofs.OnOwners.{passes_at-within}
use Rattle.velo_traces.specs.declared.block.Block.{Block}
use Rattle.velo_traces.specs.Blocks.{block_at, label_of}
use Rattle.velo_blame.specs.Blamed.{begins_of}
use Rattle.velo_world.specs.Faults.{FindsNoNodeAt}
use Rattle.velo_events.specs.Graph.{HasCycle}
use Rattle.velo_filter.specs.Left.{Omitted, rest_of, places_of, place_of}
use Rattle.velo_audit.specs.Rounds.{told_of, IsRound, labels_told}
use Rattle.velo_audit.specs.Tells.{numbers_of}
use Rattle.velo_audit.specs.Witness.{block_as_read}
use Rattle.velo_audit.specs.Audit.{HasItsLabels, RoundTells, IsRoundFault, IsToldOf, CheckTells, IsCheckFault}
use Rattle.velo_audit.specs.declared.told.Told.{Told}
use Rattle.velo_audit.specs.declared.round.AuditFault.{AuditFault}
use Rattle.velo_audit.specs.declared.round.AuditFault.TheVariants.{Memory, GraphFull}
use Rattle.velo_filter.proofs.OnRanks.{length-staying}
use Rattle.velo_filter.proofs.OnLeft.{stays, rest_of-is, length-sub, sub-at, stands_for}
use Rattle.velo_audit.proofs.OnWitness.{HasWitness-told}
use Rattle.velo_audit.proofs.OnRounds.{closing-begins, blamed-begins}

-- as many places as events
pub length-places : (left : Omitted) (log : List Event) → length (places_of left log) ≡ length (rest_of left log)
unfolding places_of
length-places left log =
    let a = length-staying (stays left log) (length log) in
    let b = length-sub left log in
    let c = ap length (rest_of-is left log) in
    omega (arith, a, b, c)

-- and no more than in the log
pub length-rest : (left : Omitted) (log : List Event) → length (rest_of left log) ≤ length log
unfolding places_of
length-rest left log =
    let a = length-filter (stays left log) (range_with_len 0 (length log)) in
    let b = count_by-le-length (stays left log) (range_with_len 0 (length log)) in
    let c = length-range_with_len 0 (length log) in
    let d = length-places left log in
    omega (arith, a, b, c, d)

pub map_same : {Y : Type 0} (f g : ℕ → Y) (xs : List ℕ) → ((x : ℕ) → Contains xs x → f x ≡ g x) → map f xs ≡ map g xs
map_same f g [] h = refl
map_same f g (x ∷ xs) h = ap (λ y. y ∷ map f xs) (h x (0, omega arith, refl)) ∙ ap (λ ys. g x ∷ ys) (map_same f g xs (λ z w. h z (suc w.0, let l = w.1 in omega (arith, l), w.2)))

module _ (with_witness : Bool) (log : List Event) (left : Omitted) (told : Told) (w : IsToldOf with_witness (rest_of left log) (places_of left log) told) where
  abbrev what : List Event
  what = rest_of left log

  abbrev bs : List ℕ
  bs = told_of (begins_of w.alarm.blamed.items) (owner what w.alarm.position)

  same_transaction : told_of (begins_of w.alarm.blamed.items) w.alarm.transaction ≡ bs
  same_transaction = ap (told_of (begins_of w.alarm.blamed.items)) w.is_alarm.transaction

  items : told.blocks.items ≡ map (λ b. block_as_read (slice_index (places_of left log)) (block_at what b)) bs
  items = w.tells.blocks ∙ ap (map (λ b. block_as_read (slice_index (places_of left log)) (block_at what b))) same_transaction

  firsts : begins_of told.blocks.items ≡ map (place_of left log) bs
  unfolding place_of
  firsts = ap begins_of items ∙ map-map (λ (b : Block). b.first) (λ b. block_as_read (slice_index (places_of left log)) (block_at what b)) bs

  IsRound-told : IsRound log left (numbers_of told)
  unfolding place_of
  IsRound-told = record {
    position = w.alarm.position;
    blamed = begins_of w.alarm.blamed.items;
    closes = w.is_alarm.closing;
    are_blamed = w.is_alarm.blamed;
    closing = w.tells.closing;
    transaction = w.tells.transaction ∙ ap (place_of left log) w.is_alarm.transaction;
    blocks = firsts;
    to_blame = w.tells.to_blame;
  }

  -- a block of what is left has its label in the log
  same_block : (b : ℕ) → IsTrue (is_begin_at what b) → block_as_read (slice_index (places_of left log)) (block_at what b) ≡ block_at log (place_of left log b)
  unfolding place_of
  same_block b begun =
      let within = passes_at-within what (λ e. is_begin e.kind) b begun in
      let s = stands_for left log b (let long = ap length (rest_of-is left log) in omega (arith, within, long)) in
      let there : slice_get what b ≡ slice_get log (place_of left log b) = ap (λ es. slice_get es b) (rest_of-is left log) ∙ (ap (slice_get _) (sym s.ranked) ∙ sub-at left log (place_of left log b) s.within s.here) in
      ap (λ (o : Option Event). record { first = place_of left log b; label = option_map_or (λ e. label_of e.kind) o (record { 0 = 0 }) }) there

  told-begins : (xs : List ℕ) → begins_of w.alarm.blamed.items ≡ xs → (b : ℕ) → Contains (told_of xs (owner what w.alarm.position)) b → IsTrue (is_begin_at what b)
  told-begins [] is b v = subst (λ k. is_begin_at what k ≡ Bool.true) (first v.0 v.1 v.2) (closing-begins what w.alarm.position w.is_alarm.closing)
    where
      first : (k : ℕ) → k < 1 → slice_index_or (owner what w.alarm.position ∷ []) k b ≡ b → owner what w.alarm.position ≡ b
      first zero l at = at
      first (suc k) l at = absurd (omega (arith, l))
  told-begins (x ∷ xs) is b v = blamed-begins what w.alarm.position (begins_of w.alarm.blamed.items) w.is_alarm.closing.in_trace w.is_alarm.blamed b (subst (λ ys. Contains ys b) (sym is) v)

  labels : HasItsLabels log told
  labels = items
      ∙ (map_same _ _ bs (λ b v. same_block b (told-begins (begins_of w.alarm.blamed.items) refl b v))
      ∙ (sym (map-map (block_at log) (place_of left log) bs) ∙ ap (map (block_at log)) (sym firsts)))

-- so of a check of what is left
pub RoundTells-check : (with_witness : Bool) (log : List Event) (left : Omitted) (es : List Event) (ps : List ℕ) → es ≡ rest_of left log → ps ≡ places_of left log → (told : Option Told) → CheckTells with_witness es ps told → RoundTells with_witness log left told
RoundTells-check with_witness log left es ps events places None h = subst (λ xs. ¬ HasCycle xs) events h
RoundTells-check with_witness log left es ps events places (Some told) h =
    let w = subst (λ xs. IsToldOf with_witness xs (places_of left log) told) events (subst (λ xs. IsToldOf with_witness es xs told) places h) in
    (IsRound-told with_witness log left told w, labels with_witness log left told w, HasWitness-told with_witness log left told w.alarm w.is_alarm w.tells)

pub IsRoundFault-check : (config : Config) (log : List Event) (left : Omitted) (es : List Event) (ps : List ℕ) → es ≡ rest_of left log → ps ≡ places_of left log → (fault : AuditFault) → IsCheckFault config es ps fault → IsRoundFault config log left fault
unfolding place_of
IsRoundFault-check config log left es ps events places Memory h = h
IsRoundFault-check config log left es ps events places (GraphFull place) h = record {
  position = h.position;
  there = h.there ∙ ap (λ xs. slice_index xs h.position) places;
  finds_none = subst (λ xs. FindsNoNodeAt config.bounds.threads config.nodes xs h.position) events h.finds_none;
}

-- the labels of the blocks are those that are told
pub labels-told : (log : List Event) (told : Told) → HasItsLabels log told → map (λ (b : Block). b.label.0) told.blocks.items ≡ labels_told log (numbers_of told)
labels-told log told h = ap (map (λ (b : Block). b.label.0)) h ∙ map-map (λ (b : Block). b.label.0) (block_at log) (begins_of told.blocks.items)

pub if_ok : {T E : Type 0} {P Q : T → Type 0} (r : Result T E) → ((x : T) → P x → Q x) → IfOk r P → IfOk r Q
if_ok (Ok x) f h = f x h
if_ok (Err e) f h = tt

pub if_err : {T E : Type 0} {P Q : E → Type 0} (r : Result T E) → ((x : E) → P x → Q x) → IfErr r P → IfErr r Q
if_err (Ok x) f h = tt
if_err (Err e) f h = f e h
