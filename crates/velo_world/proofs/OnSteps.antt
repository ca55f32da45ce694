-- What an event that was taken in makes of a world.
use Rattle.std.proofs.Common.{◌≡◌, ℕ, ◌≤◌, Bool, List, [], ◌∷◌, ◌++◌, set, Option, Some, None, Ok, refl, sym, ap, ◌∙◌, subst, arith}
use Rattle.std.specs.Prelude.{IsFalse}
use Rattle.velo_events.specs.declared.event.Event.{Event}
use Rattle.velo_events.specs.declared.event.Action.{Action}
use Rattle.velo_events.specs.declared.event.ThreadId.{ThreadId}
use Rattle.velo_events.specs.Event.{is_fork_of}
use Rattle.velo_events.specs.WellFormed.{MayFollow, IsWellFormed}
use Rattle.velo_events.specs.Meaning.{event_for}
use Rattle.velo_ledger.specs.Tally.{with_event}
use Rattle.velo_ledger.specs.Views.{Accounts, Holding}
use Rattle.velo_ledger.specs.Book.{FitsBook, with_row, with_tally}
use Rattle.velo_ledger.specs.Shares.{opening_share, share_at}
use Rattle.velo_world.specs.declared.analysis.Reply.{Reply}
use Rattle.velo_world.specs.World.{WorldState, meaning, FitsLog, OthersStillFit, IsBookOf, IsNoFork, AddsEvent, Acts}
use Rattle.velo_world.specs.LoggedRun.{AddsToLog}
use Rattle.velo_world.specs.Kept.{KeepsUnborn, left_by}
use Rattle.velo_world.proofs.OnAnswers.{MayFollow-meaning, event-meaning}
use Rattle.velo_world.proofs.OnHoldings.{longer, FitsBook-from, FitsLog-next_le, FitsLog-own, FitsLog-other, FitsLog-forked, IsBookOf-next, KeepsUnborn-next, KeepsUnborn-fork, kept-born, fork_by}

forks_none : (log : List Event) (t : ThreadId) (action : Action) (u : ℕ) → IsNoFork action → IsFalse (is_fork_of u (event_for log t action))
forks_none log t (Action.Read x) u h = refl
forks_none log t (Action.Write x v) u h = refl
forks_none log t (Action.Acquire m) u h = refl
forks_none log t (Action.Release m) u h = refl
forks_none log t (Action.AcquireShared m) u h = refl
forks_none log t (Action.ReleaseShared m) u h = refl
forks_none log t (Action.Begin l) u h = refl
forks_none log t Action.End u h = refl
forks_none log t (Action.Fork v) u h = absurd h
forks_none log t (Action.Join v) u h = refl
forks_none log t Action.Exit u h = refl

own_event : (w : WorldState) (t : ThreadId) (action : Action) (e : Event) → meaning w t action ≡ Ok e → e.thread ≡ t
own_event w t action e due = ap (λ (f : Event). f.thread) (event-meaning w t action e due)

-- ---- what the type keeps

pub kept-committed : (w : WorldState) (t : ThreadId) (action : Action) (e : Event) (halted : Bool) (log log' : List Event) (kept : List (Option Holding)) → IsNoFork action → IsWellFormed w.config.bounds w.log → meaning w t action ≡ Ok e → KeepsUnborn w kept → log ≡ w.log → log' ≡ log ++ e ∷ [] → KeepsUnborn (record { config = w.config; halted = halted; log = log' }) kept
kept-committed w t action e halted log log' kept no_fork well due keeps log_is log'_is =
    let none : (u : ℕ) → IsFalse (is_fork_of u e) = λ u. subst (λ f. IsFalse (is_fork_of u f)) (sym (event-meaning w t action e due)) (forks_none w.log t action u no_fork) in
    rw (log'_is, log_is) (KeepsUnborn-next w e halted kept (MayFollow-meaning w t action e well due) none keeps)

module _ (w : WorldState) (t child : ThreadId) (e : Event) (well : IsWellFormed w.config.bounds w.log) (due : meaning w t (Action.Fork child) ≡ Ok e) (kept : List (Option Holding)) (keeps : KeepsUnborn w kept) where
  fork_follows : MayFollow w.config.bounds w.log (fork_by t child)
  fork_follows = subst (MayFollow w.config.bounds w.log) (event-meaning w t (Action.Fork child) e due) (MayFollow-meaning w t (Action.Fork child) e well due)

  -- the share of a thread that is forked
  pub born-committed : share_at kept child ≡ Some (opening_share w.config.run child.0)
  born-committed = rw (kept-born w kept t child well fork_follows keeps) refl

  pub kept-forked : (halted : Bool) (log log' : List Event) (kept' : List (Option Holding)) → log ≡ w.log → log' ≡ log ++ e ∷ [] → kept' ≡ set kept child.0 None → KeepsUnborn (record { config = w.config; halted = halted; log = log' }) kept'
  kept-forked halted log log' kept' log_is log'_is kept'_is =
      rw (log'_is, kept'_is, log_is, event-meaning w t (Action.Fork child) e due) (KeepsUnborn-fork w t child halted kept fork_follows keeps)

-- an action leaves the kept shares but for that of a thread that it forks
pub kept-performed : (w : WorldState) (t : ThreadId) (action : Action) (e : Event) (halted : Bool) (log log' : List Event) (kept kept' : List (Option Holding)) → IsWellFormed w.config.bounds w.log → meaning w t action ≡ Ok e → KeepsUnborn w kept → log ≡ w.log → log' ≡ log ++ e ∷ [] → kept' ≡ left_by kept action → KeepsUnborn (record { config = w.config; halted = halted; log = log' }) kept'
kept-performed w t (Action.Read x) e halted log log' kept kept' well due keeps log_is log'_is kept'_is = rw kept'_is (kept-committed w t (Action.Read x) e halted log log' kept tt well due keeps log_is log'_is)
kept-performed w t (Action.Write x v) e halted log log' kept kept' well due keeps log_is log'_is kept'_is = rw kept'_is (kept-committed w t (Action.Write x v) e halted log log' kept tt well due keeps log_is log'_is)
kept-performed w t (Action.Acquire m) e halted log log' kept kept' well due keeps log_is log'_is kept'_is = rw kept'_is (kept-committed w t (Action.Acquire m) e halted log log' kept tt well due keeps log_is log'_is)
kept-performed w t (Action.Release m) e halted log log' kept kept' well due keeps log_is log'_is kept'_is = rw kept'_is (kept-committed w t (Action.Release m) e halted log log' kept tt well due keeps log_is log'_is)
kept-performed w t (Action.AcquireShared m) e halted log log' kept kept' well due keeps log_is log'_is kept'_is = rw kept'_is (kept-committed w t (Action.AcquireShared m) e halted log log' kept tt well due keeps log_is log'_is)
kept-performed w t (Action.ReleaseShared m) e halted log log' kept kept' well due keeps log_is log'_is kept'_is = rw kept'_is (kept-committed w t (Action.ReleaseShared m) e halted log log' kept tt well due keeps log_is log'_is)
kept-performed w t (Action.Begin l) e halted log log' kept kept' well due keeps log_is log'_is kept'_is = rw kept'_is (kept-committed w t (Action.Begin l) e halted log log' kept tt well due keeps log_is log'_is)
kept-performed w t Action.End e halted log log' kept kept' well due keeps log_is log'_is kept'_is = rw kept'_is (kept-committed w t Action.End e halted log log' kept tt well due keeps log_is log'_is)
kept-performed w t (Action.Fork u) e halted log log' kept kept' well due keeps log_is log'_is kept'_is = kept-forked w t u e well due kept keeps halted log log' kept' log_is log'_is kept'_is
kept-performed w t (Action.Join u) e halted log log' kept kept' well due keeps log_is log'_is kept'_is = rw kept'_is (kept-committed w t (Action.Join u) e halted log log' kept tt well due keeps log_is log'_is)
kept-performed w t Action.Exit e halted log log' kept kept' well due keeps log_is log'_is kept'_is = rw kept'_is (kept-committed w t Action.Exit e halted log log' kept tt well due keeps log_is log'_is)

-- ---- what the caller learns

-- the world after an event has one event more
pub world_is : (w w' : WorldState) (x : Event) → w'.config ≡ w.config → w'.log ≡ w.log ++ x ∷ [] → w' ≡ longer w x w'.halted
world_is w w' x config log = rw (← config, ← log) refl

-- an action that forks no thread takes no share out
pub left_by-no_fork : (kept : List (Option Holding)) (action : Action) → IsNoFork action → kept ≡ left_by kept action
left_by-no_fork kept (Action.Read x) h = refl
left_by-no_fork kept (Action.Write x v) h = refl
left_by-no_fork kept (Action.Acquire m) h = refl
left_by-no_fork kept (Action.Release m) h = refl
left_by-no_fork kept (Action.AcquireShared m) h = refl
left_by-no_fork kept (Action.ReleaseShared m) h = refl
left_by-no_fork kept (Action.Begin l) h = refl
left_by-no_fork kept Action.End h = refl
left_by-no_fork kept (Action.Fork u) h = absurd h
left_by-no_fork kept (Action.Join u) h = refl
left_by-no_fork kept Action.Exit h = refl

-- the event that is due was added to the log
module _ (w w' : WorldState) (t : ThreadId) (action : Action) (e : Event) (reply : Reply) (well : IsWellFormed w.config.bounds w.log) (adds : AddsToLog w t action e reply w') where
  event_is : e ≡ event_for w.log t action
  event_is = event-meaning w t action e adds.due

  after_is : w' ≡ longer w e w'.halted
  after_is = world_is w w' e adds.config adds.log

  pub follows-added : MayFollow w.config.bounds w.log e
  follows-added = MayFollow-meaning w t action e well adds.due

  pub thread-added : e.thread ≡ t
  thread-added = own_event w t action e adds.due

  -- the book has the event in its row
  pub IsBookOf-added : (book book' : Accounts) (share : Holding) → IsBookOf w book → FitsLog w share → t ≡ share.thread → book' ≡ with_row book share.thread (with_event share.tally reply.position e) → IsBookOf w' book'
  IsBookOf-added book book' share is fits own book_is =
      rw (after_is, book_is, adds.replies.position) (IsBookOf-next w e w'.halted book share well follows-added is fits (thread-added ∙ own))

  -- the kept shares are left but for that of a thread that is forked
  pub KeepsUnborn-added : (kept kept' : List (Option Holding)) → KeepsUnborn w kept → kept' ≡ left_by kept action → KeepsUnborn w' kept'
  KeepsUnborn-added kept kept' keeps kept_is =
      rw after_is (kept-performed w t action e w'.halted w.log (w.log ++ e ∷ []) kept kept' well adds.due keeps refl refl kept_is)

  -- and the caller learns what was done
  pub Acts-added : (share share' : Holding) → FitsLog w share → t ≡ share.thread → share' ≡ with_tally share (with_event share.tally reply.position e) → Acts w share action (Ok reply) w' share'
  Acts-added share share' fits own share_is =
      let due : meaning w share.thread action ≡ Ok e = subst (λ u. meaning w u action ≡ Ok e) own adds.due in
      subst (λ f. (meaning w share.thread action ≡ Ok f) × AddsEvent w share f reply w' share') (event-meaning w share.thread action e due) (
        due,
        record {
          config = adds.config;
          log = adds.log;
          halted = adds.halted;
          replies = adds.replies;
          holding = share_is ∙ ap (λ n. with_tally share (with_event share.tally n e)) adds.replies.position;
          later = (let le = FitsLog-next_le w share fits in let here = adds.replies.position in omega arith);
        },
      )

  -- the share of a thread that is forked fits
  pub FitsLog-forked-added : (kept : List (Option Holding)) (child : ThreadId) → action ≡ Action.Fork child → KeepsUnborn w kept → FitsLog w' (opening_share w.config.run child.0)
  FitsLog-forked-added kept child is keeps =
      let due : meaning w t (Action.Fork child) ≡ Ok e = subst (λ a. meaning w t a ≡ Ok e) is adds.due in
      let event : e ≡ fork_by t child = event-meaning w t (Action.Fork child) e due in
      rw (after_is, event) (FitsLog-forked w t child w'.halted kept well (subst (MayFollow w.config.bounds w.log) event follows-added) keeps)

  -- the book takes the event
  pub CanEnter-added : (book : Accounts) (share : Holding) → IsBookOf w book → FitsLog w share → t ≡ share.thread → FitsBook book share × (e.thread ≡ share.thread) × (share.tally.next ≤ reply.position)
  CanEnter-added book share is fits own =
      (FitsBook-from w book share is fits, thread-added ∙ own, (let le = FitsLog-next_le w share fits in let here = adds.replies.position in omega arith))

-- the share fits again
pub FitsLog-acts : (w w' : WorldState) (share share' : Holding) (action : Action) (reply : Reply) → FitsLog w share → Acts w share action (Ok reply) w' share' → FitsLog w' share'
FitsLog-acts w w' share share' action reply fits acts =
    let event : Event = event_for w.log share.thread action in
    rw (world_is w w' (event_for w.log share.thread action) acts.1.config acts.1.log, acts.1.holding) (FitsLog-own w (event_for w.log share.thread action) w'.halted share refl fits)

-- and so do the shares of other threads
pub OthersStillFit-acts : (w w' : WorldState) (share share' : Holding) (action : Action) (reply : Reply) → Acts w share action (Ok reply) w' share' → OthersStillFit w share.thread w'
OthersStillFit-acts w w' share share' action reply acts = record {
  each = λ other apart fits. rw (world_is w w' (event_for w.log share.thread action) acts.1.config acts.1.log) (FitsLog-other w (event_for w.log share.thread action) w'.halted other (λ is. apart (sym is)) fits);
}
