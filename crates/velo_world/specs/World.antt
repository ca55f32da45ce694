-- A world as callers see it: its log tells heap, alarm and book, and an action is one event or a refusal.
use Rattle.std.specs.Prelude.{◌≡◌, ◌≢◌, ◌*◌, ◌≤◌, ◌<◌, ◌↔◌, ◌⊎◌, ◌&&◌, ℕ, Bool, true, false, List, [], ◌∷◌, ◌++◌, length, ⊤, Option, Some, None, Result, Ok, Err, IsOk, IsTrue, slice_get, slice_set, sum_by, map, take}
use Rattle.velo_events.specs.declared.config.Config.{Config}
use Rattle.velo_events.specs.declared.event.Action.{Action}
use Rattle.velo_events.specs.declared.event.Action.TheVariants.{Fork}
use Rattle.velo_events.specs.declared.event.Event.{Event}
use Rattle.velo_events.specs.declared.event.Status.TheVariants.{Unborn, Live}
use Rattle.velo_events.specs.declared.event.ThreadId.{ThreadId}
use Rattle.velo_events.specs.declared.refusal.Refusal.{Refusal}
use Rattle.velo_events.specs.declared.refusal.Refusal.TheVariants.{GraphFull, Memory}
use Rattle.velo_events.specs.Block.{owner}
use Rattle.velo_events.specs.Event.{thread_of, value_read}
use Rattle.velo_events.specs.Graph.{HasCycle, IsClosing}
use Rattle.velo_events.specs.Heap.{depth_in, status_in}
use Rattle.velo_events.specs.Meaning.{answer_to, event_for}
use Rattle.velo_events.specs.Refusals.{GrowthRefused}
use Rattle.velo_ledger.specs.Book.{with_tally}
use Rattle.velo_ledger.specs.Logs.{tally_of, AreTalliesOf}
use Rattle.velo_ledger.specs.Shares.{opening_share}
use Rattle.velo_ledger.specs.Tally.{with_event}
use Rattle.velo_ledger.specs.Views.{Accounts, Holding}
use Rattle.velo_monitor.specs.Collection.{HasManyLive}
use Rattle.velo_traces.specs.Blocks.{block_at}
use Rattle.velo_blame.specs.Blamed.{AreBlamedAt, begins_of}
use Rattle.velo_world.specs.declared.analysis.Alarm.{Alarm}
use Rattle.velo_world.specs.declared.analysis.Reply.{Reply}

pub record WorldState : Type 0 where
  pub config : Config
  pub halted : Bool
  pub log : List Event

-- the world at its start
abbrev pub opening : Config → WorldState
opening config = record { config = config; halted = false; log = [] }

abbrev pub halted_world : WorldState → WorldState
halted_world w = record w { halted = true }

-- the first refusal of an action that applies, or else its one event
abbrev pub meaning : WorldState → ThreadId → Action → Result Event Refusal
meaning w t action = answer_to w.config.bounds w.config.events w.halted w.log t action

-- ---- the alarm

-- the alarm is at the first event that closes a cycle, names this event's transaction, and blames exactly the blocks that its
-- thread has open there and that are not self-serializable in the events up to and including it, outermost first
pub record IsAlarm (log : List Event) (alarm : Alarm) : Type 0 where
  pub closing : IsClosing log alarm.position
  pub transaction : alarm.transaction ≡ owner log alarm.position
  pub blamed : AreBlamedAt log alarm.position (begins_of alarm.blamed.items)
  -- each with its label
  pub blocks : alarm.blamed.items ≡ map (block_at log) (begins_of alarm.blamed.items)

-- an alarm is kept exactly where the log has a cycle
abbrev pub AlarmOf : List Event → Option Alarm → Type 0
AlarmOf log None = ¬ HasCycle log
AlarmOf log (Some alarm) = IsAlarm log alarm

-- the events whose graph is kept: the whole log while it has no cycle, else those before the closing event
pub record IsWatchedPart (log trace : List Event) : Type 0 where
  pub part : ((¬ HasCycle log) × (trace ≡ log)) ⊎ ((p : ℕ) × IsClosing log p × (trace ≡ take p log))

-- a fact about the events whose graph is kept
abbrev pub ForWatchedPart : List Event → (List Event → Type 0) → Type 0
ForWatchedPart log Fact = (trace : List Event) → IsWatchedPart log trace → Fact trace

-- ---- the book, and the shares of the threads

-- the share is of this run and one of its threads, and says what the thread's events in the log come to
pub record FitsLog (w : WorldState) (share : Holding) : Type 0 where
  pub run : share.run ≡ w.config.run
  pub thread : share.thread.0 < w.config.bounds.threads
  pub tally : share.tally ≡ tally_of w.log share.thread.0

-- of the threads other than t, each share that fitted still fits
pub record OthersStillFit (w : WorldState) (t : ThreadId) (w' : WorldState) : Type 0 where
  pub each : (share : Holding) → share.thread.0 ≢ t.0 → FitsLog w share → FitsLog w' share

-- the book has a row for each thread: what its events in the log come to. Together the rows count the log
pub record IsBookOf (w : WorldState) (book : Accounts) : Type 0 where
  pub run : book.run ≡ w.config.run
  pub count : length book.rows ≡ w.config.bounds.threads
  pub rows : AreTalliesOf w.log book.rows
  pub total : sum_by (λ row. row.events) book.rows ≡ length w.log

-- how far a thread of the world has come
abbrev pub IsUnborn : WorldState → ℕ → Type 0
IsUnborn w t = (t < w.config.bounds.threads) × (status_in w.log t ≡ Unborn)

abbrev pub IsLiveThread : WorldState → ℕ → Type 0
IsLiveThread w t = (t < w.config.bounds.threads) × (status_in w.log t ≡ Live)

abbrev pub IsBorn : WorldState → ℕ → Type 0
IsBorn w t = (t < w.config.bounds.threads) × (status_in w.log t ≢ Unborn)

-- the thread's share is at its place, and fits
pub record HasShare (w : WorldState) (places : List (Option Holding)) (t : ℕ) : Type 0 where
  pub share : Holding
  pub there : slice_get places t ≡ Some (Some share)
  pub own : share.thread.0 ≡ t
  pub fits : FitsLog w share

-- each live thread's share is at its place and fits, and each unborn thread's place is there and empty
pub record HoldsLiveShares (w : WorldState) (places : List (Option Holding)) : Type 0 where
  pub live : (t : ℕ) → IsLiveThread w t → HasShare w places t
  pub unborn : (t : ℕ) → IsUnborn w t → slice_get places t ≡ Some None

-- with the shares of unborn threads, which the world keeps, the given ones are one fitting share of each thread
pub record CompletesShares (w : WorldState) (given : List (Option Holding)) : Type 0 where
  -- each thread that was born has its fitting share there
  pub born : (t : ℕ) → IsBorn w t → HasShare w given t
  -- and no other share is there
  pub no_other : (t : ℕ) (share : Holding) → slice_get given t ≡ Some (Some share) → IsBorn w t

-- ---- one action

abbrev pub IsNoFork : Action → Type 0
IsNoFork (Fork u) = ⊥
IsNoFork _ = ⊤

-- the reply to an event after the log
pub record Replies (log : List Event) (e : Event) (reply : Reply) : Type 0 where
  pub position : reply.position ≡ length log
  pub value : reply.value ≡ value_read e.kind
  -- an alarm is kept now
  pub alarmed : IsTrue reply.alarmed ↔ HasCycle (log ++ e ∷ [])

-- the log has one event more, and so has the thread's share; a world that stops at an alarm is halted by the event that raises it
pub record AddsEvent (w : WorldState) (share : Holding) (e : Event) (reply : Reply) (w' : WorldState) (share' : Holding) : Type 0 where
  pub config : w'.config ≡ w.config
  pub log : w'.log ≡ w.log ++ e ∷ []
  pub halted : w'.halted ≡ (w.config.stop && reply.alarmed)
  pub replies : Replies w.log e reply
  pub holding : share' ≡ with_tally share (with_event share.tally (length w.log) e)
  pub later : share.tally.next ≤ reply.position

-- an event after the log may find no node: no alarm is kept, the event's thread has no block open, at least as many transactions
-- are live as there may be nodes, and these are fewer than the threads squared
pub record FindsNoNode (threads : ℕ) (log : List Event) (e : Event) (nodes : ℕ) : Type 0 where
  pub no_alarm : ¬ HasCycle log
  pub outside : depth_in log (thread_of e) ≡ 0
  pub many_live : HasManyLive log nodes
  pub few_nodes : nodes < threads * threads

-- an event is due, and may find no node
pub record FillsGraph (w : WorldState) (due : Result Event Refusal) : Type 0 where
  pub event : Event
  pub is_due : due ≡ Ok event
  pub finds_none : FindsNoNode w.config.bounds.threads w.log event w.config.nodes

-- nothing changed, shares neither, and the refusal is the one that is due; or memory for the due event was refused, or the
-- graph is full
pub record Refuses {X : Type 0} (w : WorldState) (held : X) (due : Result Event Refusal) (refusal : Refusal) (w' : WorldState) (held' : X) : Type 0 where
  pub world : w' ≡ w
  pub holding : held' ≡ held
  pub cause : (due ≡ Err refusal) ⊎ (((refusal ≡ Memory) × (IsOk due × GrowthRefused)) ⊎ ((refusal ≡ GraphFull) × FillsGraph w due))

-- an action of the share's thread: the one event that it is, or a refusal
abbrev pub Acts : WorldState → Holding → Action → Result Reply Refusal → WorldState → Holding → Type 0
Acts w share action (Ok reply) w' share' =
    (meaning w share.thread action ≡ Ok (event_for w.log share.thread action)) × AddsEvent w share (event_for w.log share.thread action) reply w' share'
Acts w share action (Err refusal) w' share' = Refuses w share (meaning w share.thread action) refusal w' share'

-- a fork also gives the share that the child begins with
abbrev pub Forks : WorldState → Holding → ThreadId → Result (Reply × Holding) Refusal → WorldState → Holding → Type 0
Forks w share child (Ok forked) w' share' =
    Acts w share (Fork child) (Ok forked.0) w' share' × (forked.1 ≡ opening_share w.config.run child.0)
Forks w share child (Err refusal) w' share' = Acts w share (Fork child) (Err refusal) w' share'

-- closing: the same world where the shares are complete, and else all is given back
abbrev pub Closes : WorldState → List (Option Holding) → Result WorldState (WorldState × List (Option Holding)) → Type 0
Closes w given (Ok closed) = CompletesShares w given × (closed ≡ w)
Closes w given (Err back) = (¬ CompletesShares w given) × (back.0 ≡ w) × (back.1 ≡ given)

-- ---- steps one after another, where the shares of the threads stand at their places

-- a forked thread's opening share comes to its place
abbrev pub with_born : ℕ → Action → List (Option Holding) → List (Option Holding)
with_born run (Fork child) places = slice_set places child.0 (Some (opening_share run child.0))
with_born run _ places = places

-- the thread acts by the share at its place, or forks
pub record ActsAt (w : WorldState) (places : List (Option Holding)) (t : ThreadId) (action : Action) (reply : Reply) (w' : WorldState) (places' : List (Option Holding)) : Type 0 where
  pub share : Holding
  pub share' : Holding
  pub there : slice_get places t.0 ≡ Some (Some share)
  pub own : share.thread ≡ t
  pub acts : Acts w share action (Ok reply) w' share'
  pub after : places' ≡ with_born w.config.run action (slice_set places t.0 (Some share'))

-- one step of a thread, which may be a fork
abbrev pub StepsTo : WorldState → List (Option Holding) → ThreadId → Action → Result Reply Refusal → WorldState → List (Option Holding) → Type 0
StepsTo w places t action (Ok reply) w' places' = ActsAt w places t action reply w' places'
StepsTo w places t action (Err refusal) w' places' = Refuses w places (meaning w t action) refusal w' places'

-- steps one after another, each with its own outcome
unfoldable pub RunsTo : WorldState → List (Option Holding) → List (ThreadId × Action) → List (Result Reply Refusal) → WorldState → List (Option Holding) → Type 0
RunsTo w places [] [] w' places' = (w' ≡ w) × (places' ≡ places)
RunsTo w places (step ∷ steps) (outcome ∷ outcomes) w' places' =
    (w1 : WorldState) × (places1 : List (Option Holding)) × StepsTo w places step.0 step.1 outcome w1 places1 × RunsTo w1 places1 steps outcomes w' places'
RunsTo w places _ _ w' places' = ⊥
