-- A prologue becomes the log of a world, unless it is too long.
use Rattle.std.proofs.Common.{Option, Some, None, Result, Ok, Err, drop, ◌≡◌, ◌≢◌, ℕ, suc, ◌+◌, ◌-◌, ◌<◌, ◌≤◌, Bool, false, List, [], ◌∷◌, ◌++◌, length, take, refl, sym, ap, ◌∙◌, subst, arith, ⊎_elim}
use Rattle.std.specs.Prelude.{Contains, IfOk, IfErr, IsTrue, IsFalse, slice_get}
use Rattle.std.specs.Option.{option_map_or}
use Rattle.std.proofs.lemmas.List.{take-append-drop}
use Rattle.std.proofs.lemmas.Bool.{and_left, cases_lt, both_ways, ne_eqb, false_from_ne_true}
use Rattle.velo_events.specs.declared.config.Config.{Config}
use Rattle.velo_events.specs.declared.config.Bounds.{Bounds}
use Rattle.velo_events.specs.declared.event.Event.{Event}
use Rattle.velo_events.specs.declared.refusal.Refusal.{Refusal}
use Rattle.velo_events.specs.Event.{thread_of, is_begin, is_begin_by}
use Rattle.velo_events.specs.Heap.{times, depth_in}
use Rattle.velo_events.specs.WellFormed.{MayFollow, IsWellFormed}
use Rattle.velo_events.specs.Graph.{HasCycle}
use Rattle.velo_events.specs.Block.{passes_at, is_open_at, is_open, IsUnfinished}
use Rattle.velo_monitor.specs.Collection.{HasManyLive}
use Rattle.velo_events.proofs.OnTraces.{times-nil, times-no, passes_at-append}
use Rattle.velo_events.proofs.OnOwners.{passes_at-within}
use Rattle.velo_events.proofs.OnWellFormed.{IsWellFormed-induct}
use Rattle.velo_traces.specs.declared.judge.Flaw.{Flaw}
use Rattle.velo_traces.specs.Flaws.{IsFirstFlaw}
use Rattle.velo_laws.specs.Cut.{NoBlockOpen}
use Rattle.velo_laws.specs.Length.{events_to_leave}
use Rattle.velo_laws.specs.Restart.{HasNoBegin, IsPrologueOf}
use Rattle.velo_laws.proofs.OnFresh.{fresh_law}
use Rattle.velo_laws.proofs.OnRestart.{prologue_law}
use Rattle.velo_world.specs.World.{WorldState}
use Rattle.velo_world.specs.Faults.{world_of, IsRefusedAt}
use Rattle.velo_laws.specs.declared.renewal.NotRenewed.{NotRenewed}
use Rattle.velo_laws.specs.declared.renewal.NotRenewed.TheVariants.{Alarm, BlockOpen, LogFull, Memory}
use Rattle.velo_laws.specs.Opening.{IsReasonToRefuse}
use Rattle.velo_laws.specs.Renewal.{Renews, Restarts, StandsInTheWay, IsReasonAgainst}

-- a thread that is not there has no block open
module _ (bounds : Bounds) (t : ℕ) (out : bounds.threads ≤ t) where
  never_begins : (log : List Event) → IsWellFormed bounds log → times (is_begin_by t) log ≡ 0
  never_begins = IsWellFormed-induct bounds (λ l. times (is_begin_by t) l ≡ 0) (times-nil (is_begin_by t)) step
    where
      step : (earlier : List Event) (e : Event) → IsWellFormed bounds earlier → times (is_begin_by t) earlier ≡ 0 → MayFollow bounds earlier e → times (is_begin_by t) (earlier ++ e ∷ []) ≡ 0
      step earlier e well before follows =
          let other : thread_of e ≢ t = λ is. let known = follows.known_thread in omega (arith, is, known, out) in
          times-no (is_begin_by t) earlier e (and_left _ (is_begin e.kind) (ne_eqb (thread_of e) t other)) ∙ before

  pub depth-out : (log : List Event) → IsWellFormed bounds log → depth_in log t ≡ 0
  depth-out log well = omega (arith, never_begins log well)

-- none of the first threads has a block open, and there are no others
pub none_open : (bounds : Bounds) (log : List Event) → IsWellFormed bounds log → ((t : ℕ) → t < bounds.threads → depth_in log t ≡ 0) → NoBlockOpen log
none_open bounds log well none t = ⊎_elim (λ l. none t l) (λ g. depth-out bounds t g log well) (cases_lt t bounds.threads)

-- ---- the log of a world

no_flaw : (bounds : Bounds) (log : List Event) (p : ℕ) (flaw : Flaw) → IsWellFormed bounds log → IsFirstFlaw bounds log p flaw → ⊥
no_flaw bounds log p flaw well first = first.does_not_follow (well.each p first.event first.here)

-- where no block begins no transaction is live
no_begin-take : (made : List Event) (p : ℕ) → HasNoBegin made → HasNoBegin (take p made)
no_begin-take made p none i = false_from_ne_true _ (λ h.
    let test : Event → Bool = λ e. is_begin e.kind in
    let within = passes_at-within (take p made) test i h in
    let all : IsTrue (passes_at (take p made ++ drop p made) test i) = passes_at-append (take p made) (drop p made) test i within ∙ h in
    both_ways _ (none i) (subst (λ l. IsTrue (passes_at l test i)) (take-append-drop p made) all))

map_or-none : (test : Event → Bool) (o : Option Event) → ((e : Event) → IsFalse (test e)) → IsFalse (option_map_or test o false)
map_or-none test None none = refl
map_or-none test (Some e) none = none e

never_passes : (trace : List Event) (test : Event → Bool) (i : ℕ) → ((e : Event) → IsFalse (test e)) → IsFalse (passes_at trace test i)
unfolding passes_at
never_passes trace test i none = map_or-none test (slice_get trace i) none

not_unfinished : (log : List Event) (a : ℕ) → HasNoBegin log → IsUnfinished log a → ⊥
unfolding is_open
not_unfinished log a none h =
    both_ways _ (never_passes log (λ e. is_open_at log (thread_of e) a (length log)) a (λ e. (prologue_law log none).1 (thread_of e) a)) h.open_block

not_live : (log : List Event) (n : ℕ) → HasNoBegin log → 1 ≤ n → HasManyLive log n → ⊥
not_live log n none some many = first many.transactions refl
  where
    first : (all : List ℕ) → many.transactions ≡ all → ⊥
    first [] is = let count : length many.transactions ≡ 0 = ap length is in let counted = many.counted in omega (arith, count, counted, some)
    first (a ∷ rest) is =
        let live = many.each_live a (subst (λ l. Contains l a) (sym is) (0, omega arith, refl)) in
        not_unfinished log live.root none live.unfinished

-- a prologue is refused only where it is longer than the limit
pub too_long : (config : Config) (made : List Event) (p : ℕ) (refusal : Refusal) → IsWellFormed config.bounds made → HasNoBegin made → IsRefusedAt config.events config.nodes config.bounds made p refusal → config.events < length made
too_long config made p refusal well none h = ⊎_elim
    (λ flaw. absurd (no_flaw config.bounds made p _ well flaw.first))
    (λ limit. ⊎_elim
    (λ full. let within = full.1.within in omega (arith, full.1.full, within))
    (λ full. absurd (not_live (take p made) config.nodes (no_begin-take made p none) config.some_node full.1.no_node.finds_none.many_live))
    limit)
    h

-- ---- the world of a prologue

pub if_ok : {T E : Type 0} {P Q : T → Type 0} (r : Result T E) → ((x : T) → P x → Q x) → IfOk r P → IfOk r Q
if_ok (Ok x) f h = f x h
if_ok (Err e) f h = tt

pub if_err : {T E : Type 0} {P Q : E → Type 0} (r : Result T E) → ((x : E) → P x → Q x) → IfErr r P → IfErr r Q
if_err (Ok x) f h = tt
if_err (Err e) f h = f e h

-- the prologue that was made is that of a log which leaves the heap
pub restarts : (bounds : Bounds) (log made : List Event) → NoBlockOpen log → IsPrologueOf bounds log made → length made ≡ events_to_leave bounds log → Restarts bounds log made
restarts bounds log made ended stands as_many = record { ended = ended; prologue = stands; length = as_many }

pub in_the_way : (config : Config) (log made : List Event) → Restarts config.bounds log made → (reason : NotRenewed) → IsReasonToRefuse config made reason → StandsInTheWay config log reason
in_the_way config log made is LogFull long = (is.ended, subst (λ n. config.events < n) is.length long)
in_the_way config log made is Memory refused = refused
in_the_way config log made is Alarm never = absurd never
in_the_way config log made is (BlockOpen thread) never = absurd never

-- ---- the renewal of a world

module _ (w : WorldState) (well : IsWellFormed w.config.bounds w.log) (none : ¬ HasCycle w.log) where
  pub renews : (w' : WorldState) → w' ≡ world_of w.config w'.log → Restarts w.config.bounds w.log w'.log → Renews w w'
  renews w' is h = record {
    config = ap (λ (v : WorldState). v.config) is;
    live = ap (λ (v : WorldState). v.halted) is;
    ended = h.ended;
    no_cycle = none;
    prologue = h.prologue;
    goes_on = λ after. fresh_law w.config.bounds w.log w'.log after h.prologue well h.ended none;
  }

  pub reason_against : (reason : NotRenewed) → StandsInTheWay w.config w.log reason → IsReasonAgainst w reason
  reason_against LogFull h = (none, h)
  reason_against Memory refused = refused
  reason_against Alarm never = absurd never
  reason_against (BlockOpen thread) h = (none, h)

-- both facts of one result
pub if_ok_both : {T E : Type 0} {P Q R : T → Type 0} (r : Result T E) → ((x : T) → P x → Q x → R x) → IfOk r P → IfOk r Q → IfOk r R
if_ok_both (Ok x) f h i = f x h i
if_ok_both (Err e) f h i = tt
