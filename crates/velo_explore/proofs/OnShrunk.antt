-- How soon a run reaches a goal, and what is made of its schedule.
use Rattle.std.proofs.Common.{◌≡◌, ◌∙◌, ◌+◌, ◌-◌, ◌<◌, ◌≤◌, ℕ, zero, suc, Bool, true, false, List, [], drop, length, take, Option, Some, None, Result, Ok, Err, ap, arith, inl, inr, refl, sym, subst, ⊎_elim}
use Rattle.std.specs.Borrow.{Bor}
use Rattle.std.specs.Global.{Vec}
use Rattle.std.specs.Option.{option_or}
use Rattle.std.specs.Prelude.{◌⊎◌, ◌↔◌, All, IfNone, IfOk, IfSome, IsFalse, IsTrue, is_some}
use Rattle.std.proofs.lemmas.Bool.{cases_lt, false≢true}
use Rattle.std.proofs.lemmas.List.Elements.{All-append, All-drop, All-take}
use Rattle.std.proofs.lemmas.Option.{none-some, same_Some}
use Rattle.velo_events.specs.declared.config.Config.{Config}
use Rattle.velo_events.specs.declared.event.ThreadId.{ThreadId}
use Rattle.velo_events.specs.declared.event.Event.{Event}
use Rattle.velo_events.specs.declared.limits.TheConstants.{MAX_THREADS}
use Rattle.velo_events.specs.Graph.{HasCycle, IsClosing, Edge}
use Rattle.velo_events.proofs.OnGraphs.{HasCycle-from_closing, HasCycle-from_take, IsCycle-none_by_rank}
use Rattle.velo_workload.specs.Program.{Program}
use Rattle.velo_world.specs.declared.analysis.Alarm.{Alarm as AlarmOf}
use Rattle.velo_world.specs.World.{WorldState, IsAlarm}
use Rattle.velo_worker.specs.declared.ending.Ending.{Ending}
use Rattle.velo_worker.specs.declared.ending.Ending.TheVariants as endings
use Rattle.velo_worker.specs.Schedule.{Replays}
use Rattle.velo_explore.specs.declared.finding.Finding.{Finding}
use Rattle.velo_explore.specs.declared.finding.Finding.TheVariants.{Shown, Never, Open}
use Rattle.velo_explore.specs.declared.finding.Witness.{Witness}
use Rattle.velo_explore.specs.declared.goal.Goal.{Goal}
use Rattle.velo_explore.specs.declared.goal.Goal.TheVariants.{Alarm, Stuck, Refused}
use Rattle.velo_explore.specs.Goals.{KnowsAlarm, Reached, Reaches, lacks_memory, shown_by}
use Rattle.velo_explore.specs.declared.findings.Replay.{Replay}
use Rattle.velo_explore.specs.Simple.{IsAbove, IsLimited, IsNeeded, IsReplayBy, IsReplayFor, IsSayable, KeepsFirst, KeepsReplay, Misses, ReachesWithin, without}
use Rattle.velo_schedule_text.specs.declared.limits.TheConstants.{MAX_TURNS}
use Rattle.velo_schedule_text.specs.Short.{short_text}
use Rattle.velo_schedule_text.proofs.OnShort.{short_reads_back}

-- what a run reaches, its turns reach
pub reached : {X E : Type 0} (program : Program) (config : Config) (goal : Goal) (turns : List ThreadId) (ending : Ending) (closed : WorldState) → Replays program turns config ending closed → lacks_memory ending ≡ false
    → (result : Result (Option X) E) → IfOk result (λ found. KnowsAlarm closed.log) → IfOk result (λ found. IfSome found (λ x. Reaches goal ending closed))
    → IfOk result (λ found. IfSome found (λ x. Reached program config goal turns))
reached program config goal turns ending closed replays memory (Ok (Some x)) known reaches =
    record { closed = closed; replay = record { ending = ending; replays = replays; memory = memory; alarm = known; reaches = reaches } }
reached program config goal turns ending closed replays memory (Ok None) known reaches = tt
reached program config goal turns ending closed replays memory (Err e) known reaches = tt

pub at_some : {X P : Type 0} (found : Option X) (x : X) → found ≡ Some x → IfSome found (λ y. P) → P
at_some (Some y) x is given = given
at_some None x is given = absurd (none-some x is)

-- ---- how soon the goal is reached

-- what a run reaches within some turns, it reaches
pub within-reaches : (n : ℕ) (goal : Goal) (ending : Ending) (closed : WorldState) → ReachesWithin n goal ending closed → Reaches goal ending closed
within-reaches n Alarm ending closed within = HasCycle-from_take closed.log n within
within-reaches n Stuck ending closed within = within.0
within-reaches n (Refused t r) ending closed within = within.0

no_cycle-nil : ¬ HasCycle []
no_cycle-nil c = IsCycle-none_by_rank (Edge []) (λ a. a) (λ a b e. let w = e.in_trace in absurd (omega (arith, w))) c.cycle c.is_cycle

-- the first events have a cycle only from the closing event on
pub closing-within : (log : List Event) (p n : ℕ) → IsClosing log p → HasCycle (take n log) → p + 1 ≤ n
closing-within log p zero closing c = absurd (no_cycle-nil c)
closing-within log p (suc m) closing c =
    ⊎_elim (λ before. absurd (closing.least m before (subst (λ k. HasCycle (take k log)) (let one : suc m ≡ m + 1 = omega arith in one) c)))
    (λ h. omega (arith, h))
    (cases_lt m p)

-- so many turns up to the goal, or more
pub soonest-alarm : (goal : Goal) (closed : WorldState) (alarm : Option (Bor AlarmOf)) (a : Bor AlarmOf) (turns : ℕ) → goal ≡ Alarm → alarm ≡ Some a
    → IfSome alarm (λ a. IsAlarm closed.log a.now) → turns ≤ a.now.position + 1 → (n : ℕ) (ending : Ending) → ReachesWithin n goal ending closed → turns ≤ n
soonest-alarm goal closed None a turns same is shown few n ending within = absurd (none-some a is)
soonest-alarm goal closed (Some b) a turns same is shown few n ending within =
    let here : IsAlarm closed.log a.now = subst (λ (x : Bor AlarmOf). IsAlarm closed.log x.now) (same_Some b a is) shown in
    let least = closing-within closed.log a.now.position n here.closing (subst (λ g. ReachesWithin n g ending closed) same within) in
    omega (arith, few, least)

pub soonest-none : (goal : Goal) (closed : WorldState) (alarm : Option (Bor AlarmOf)) (turns : ℕ) → goal ≡ Alarm → alarm ≡ None
    → IfNone alarm (¬ HasCycle closed.log) → (n : ℕ) (ending : Ending) → ReachesWithin n goal ending closed → turns ≤ n
soonest-none goal closed (Some b) turns same is none n ending within = absurd (none-some b (sym is))
soonest-none goal closed None turns same is none n ending within = absurd (none (HasCycle-from_take closed.log n (subst (λ g. ReachesWithin n g ending closed) same within)))

-- a run that does not reach the goal, or later
pub misses-none : (found : Bool) (n : ℕ) (goal : Goal) (ending : Ending) (closed : WorldState) → IsTrue found ↔ Reaches goal ending closed → IsFalse found → ¬ ReachesWithin n goal ending closed
misses-none found n goal ending closed is none within = false≢true (sym none ∙ is.1 (within-reaches n goal ending closed within))

-- what follows of what is answered
pub if_ok : {X E : Type 0} (result : Result X E) {P Q : X → Type 0} → ((x : X) → P x → Q x) → IfOk result P → IfOk result Q
if_ok (Ok x) step given = step x given
if_ok (Err e) step given = tt

-- a turn is needed by a replay without it
pub needed : (program : Program) (config limits : Config) (goal : Goal) (turns others : List ThreadId) (i : ℕ)
    → (limits ≡ config) ⊎ IsLimited (length turns - 1) goal config limits → others ≡ without i turns → Misses (length turns - 1) program limits goal others
    → IsNeeded program config goal turns i
needed program config limits goal turns others i limited is misses =
    record { limits = limits; limited = limited; misses = subst (λ (o : List ThreadId). Misses (length turns - 1) program limits goal o) is misses }

-- without one of them they are of threads that there may be
pub threads-without : (i : ℕ) (turns others : List ThreadId) → others ≡ without i turns → All (λ t. t.0 < MAX_THREADS) turns → All (λ t. t.0 < MAX_THREADS) others
threads-without i turns others is all =
    let P = λ (t : ThreadId). t.0 < MAX_THREADS in
    subst (All P) (sym is) (All-append P (take i turns) (drop (i + 1) turns) (All-take P i turns all) (All-drop P (i + 1) turns all))

-- there are more than n of them, or none
pub above-none : (n : ℕ) (found : Option (Vec ThreadId)) → found ≡ None → IsAbove n found
above-none n None is = tt
above-none n (Some t) is = absurd (none-some t (sym is))

pub above-some : (n : ℕ) (found : Option (Vec ThreadId)) (turns : Vec ThreadId) → found ≡ Some turns → n < length turns.items → IsAbove n found
above-some n (Some x) turns is more = subst (λ (v : Vec ThreadId). n < length v.items) (sym (same_Some x turns is)) more
above-some n None turns is more = absurd (none-some turns is)

pub at_is_none : {X P : Type 0} (found : Option X) → IsFalse (is_some found) → IfNone found P → P
at_is_none None is given = given
at_is_none (Some y) is given = absurd (false≢true (sym is))

-- ---- the best schedule

module _ (program : Program) (config : Config) (goal : Goal) (schedule best now : Vec ThreadId) where
  -- it shows the goal, is no longer than the one that was found, and its turns are of threads that there may be
  abbrev IsGood : Type 0
  IsGood = Reached program config goal now.items × (length now.items ≤ length schedule.items) × All (λ t. t.0 < MAX_THREADS) now.items

  pub best-next : (turns : Vec ThreadId) (lent : List ThreadId) (found : Option (Vec ThreadId)) → found ≡ Some turns → now ≡ turns → lent ≡ best.items → length best.items ≤ length schedule.items
      → IfSome found (λ t. Reached program config goal t.items) → IfSome found (λ t. length t.items ≤ length lent) → IfSome found (λ turns. All (λ t. t.0 < MAX_THREADS) turns.items) → IsGood
  best-next turns lent (Some t) is same value few shows shorter threads =
      let one = same_Some t turns is ∙ sym same in (
        subst (λ (v : Vec ThreadId). Reached program config goal v.items) one shows,
        (let long = ap (λ (v : Vec ThreadId). length v.items) one in let lends = ap (λ (l : List ThreadId). length l) value in omega (arith, shorter, long, lends, few)),
        subst (λ (v : Vec ThreadId). All (λ (t : ThreadId). t.0 < MAX_THREADS) v.items) one threads,
      )
  best-next turns lent None is same value few shows shorter threads = absurd (none-some turns is)

  pub best-stays : now ≡ best → Reached program config goal best.items → length best.items ≤ length schedule.items → All (λ t. t.0 < MAX_THREADS) best.items → IsGood
  best-stays same shows few threads = (
    subst (λ (v : Vec ThreadId). Reached program config goal v.items) (sym same) shows,
    subst (λ (v : Vec ThreadId). length v.items ≤ length schedule.items) (sym same) few,
    subst (λ (v : Vec ThreadId). All (λ (t : ThreadId). t.0 < MAX_THREADS) v.items) (sym same) threads,
  )

-- ---- what can be said

pub sayable_by : (schedule : List ThreadId) → length schedule ≤ MAX_TURNS → All (λ t. t.0 < MAX_THREADS) schedule → IsSayable schedule
sayable_by schedule few threads = short_reads_back schedule threads few

-- ---- the replay of the first finding

module _ (program : Program) (config : Config) where
  -- what is kept after the finding, where this was kept before
  kept : (shown : Option Witness) (old : Option Replay) (told : Finding) (now : Option Replay) → IsReplayFor program config shown old → KeepsFirst program config told old now
      → IsReplayFor program config (option_or shown (shown_by told)) now
  kept None None (Shown w) now before keeps = subst (IsReplayFor program config (Some w)) (sym keeps.2) keeps.1
  kept None None Never now before keeps = subst (IsReplayFor program config None) (sym keeps) tt
  kept None None Open now before keeps = subst (IsReplayFor program config None) (sym keeps) tt
  kept (Some v) (Some replay) (Shown w) now before keeps = subst (IsReplayFor program config (Some v)) (sym keeps) before
  kept (Some v) (Some replay) Never now before keeps = subst (IsReplayFor program config (Some v)) (sym keeps) before
  kept (Some v) (Some replay) Open now before keeps = subst (IsReplayFor program config (Some v)) (sym keeps) before
  kept None (Some replay) told now before keeps = absurd before
  kept (Some v) None told now before keeps = absurd before

  -- one that is kept stays, and where none is the replay is
  pub keeps-old : (w : Witness) (old : Option Replay) → IsTrue (is_some old) → KeepsReplay program config w old old
  keeps-old w (Some r) is = refl
  keeps-old w None is = absurd (false≢true is)

  pub keeps-new : (w : Witness) (old now : Option Replay) → is_some old ≡ false → IfSome now (IsReplayBy program config w) → is_some now ≡ true → KeepsReplay program config w old now
  keeps-new w None (Some r) none shows is = (r, shows, refl)
  keeps-new w None None none shows is = absurd (false≢true is)
  keeps-new w (Some r) now none shows is = absurd (false≢true (sym none))

  pub keeps-none : {D : Type 0} (old now : Option Replay) → is_some old ≡ false → IfNone now D → is_some now ≡ false → (now ≡ old) × D
  keeps-none None None none lacks is = (refl, lacks)
  keeps-none None (Some r) none lacks is = absurd (false≢true (sym is))
  keeps-none (Some r) now none lacks is = absurd (false≢true (sym none))

  assoc : (one two three : Option Witness) → option_or (option_or one two) three ≡ option_or one (option_or two three)
  assoc None two three = refl
  assoc (Some w) two three = refl

  pub kept-first : (alarm stuck refused : Finding) (start one two three : Option Replay) → start ≡ None → KeepsFirst program config alarm start one → KeepsFirst program config stuck one two → KeepsFirst program config refused two three
      → IsReplayFor program config (option_or (shown_by alarm) (option_or (shown_by stuck) (shown_by refused))) three
  kept-first alarm stuck refused start one two three none a s r =
      subst (λ (w : Option Witness). IsReplayFor program config w three) (assoc (shown_by alarm) (shown_by stuck) (shown_by refused))
      (kept (option_or (shown_by alarm) (shown_by stuck)) two refused three (kept (shown_by alarm) one stuck two (kept None None alarm one tt (subst (λ (o : Option Replay). KeepsFirst program config alarm o one) none a)) s) r)
