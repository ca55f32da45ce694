-- What an action's event makes of a world, seen from outside and inside.
use Rattle.std.proofs.Common.{◌≡◌, ◌≤◌, List, Option, Some, Ok, refl, sym, subst}
use Rattle.velo_events.specs.declared.event.Action.{Action}
use Rattle.velo_events.specs.declared.event.Event.{Event}
use Rattle.velo_events.specs.declared.event.ThreadId.{ThreadId}
use Rattle.velo_events.specs.WellFormed.{IsWellFormed}
use Rattle.velo_ledger.specs.Book.{with_row, with_tally}
use Rattle.velo_ledger.specs.Shares.{opening_share, share_at}
use Rattle.velo_ledger.specs.Tally.{with_event}
use Rattle.velo_ledger.specs.Views.{Accounts, Holding}
use Rattle.velo_monitor.specs.Watched.{IsMonitorOf}
use Rattle.velo_world.specs.declared.logged_run.LoggedRun.{LoggedRun}
use Rattle.velo_world.specs.declared.analysis.Reply.{Reply}
use Rattle.velo_world.specs.declared.world.World.TheInside.{Inside}
use Rattle.velo_world.specs.World.{WorldState, meaning, FitsLog, OthersStillFit, IsWatchedPart, Acts}
use Rattle.velo_world.specs.LoggedRun.{logged_state, FollowsFromItsLog, AddsToLog}
use Rattle.velo_world.specs.Inside.{state_of, IsWorldOfItsLog}
use Rattle.velo_world.specs.Kept.{left_by}
use Rattle.velo_world.specs.FirstCycle.{events_watched}
use Rattle.velo_world.proofs.OnLoggedRuns.{well_formed-logged}
use Rattle.velo_world.proofs.OnAnalyses.{events_watched-part}
use Rattle.velo_world.proofs.OnSteps.{CanEnter-added, IsBookOf-added, KeepsUnborn-added, Acts-added, FitsLog-acts, OthersStillFit-acts, born-committed, FitsLog-forked-added}

-- an action added its event to the log
module _ (old : Inside) (w : WorldState) (t : ThreadId) (share : Holding) (action : Action) (e : Event) (reply : Reply) (logged : LoggedRun) (same : state_of old ≡ w) (was : IsWorldOfItsLog old) (own : t ≡ share.thread) (fits : FitsLog w share) (adds : AddsToLog (logged_state old.logged) t action e reply (logged_state logged)) where
  well : IsWellFormed (state_of old).config.bounds (state_of old).log
  well = well_formed-logged old.logged was.logged

  fits_inside : FitsLog (state_of old) share
  fits_inside = subst (λ v. FitsLog v share) (sym same) fits

  pub later-added : share.tally.next ≤ reply.position
  later-added = (CanEnter-added (state_of old) (logged_state logged) t action e reply well adds old.book share was.book fits_inside own).2

  pub IsWorldOfItsLog-added : (book : Accounts) (kept : List (Option Holding)) → FollowsFromItsLog logged → book ≡ with_row old.book share.thread (with_event share.tally reply.position e) → kept ≡ left_by old.kept action → IsWorldOfItsLog (record old { logged = logged; book = book; kept = kept })
  IsWorldOfItsLog-added book kept stands book_is kept_is = record {
    logged = stands;
    book = IsBookOf-added (state_of old) (logged_state logged) t action e reply well adds old.book book share was.book fits_inside own book_is;
    keeps = KeepsUnborn-added (state_of old) (logged_state logged) t action e reply well adds old.kept kept was.keeps kept_is;
  }

  acts_inside : (share' : Holding) → share' ≡ with_tally share (with_event share.tally reply.position e) → Acts (state_of old) share action (Ok reply) (logged_state logged) share'
  acts_inside share' share_is = Acts-added (state_of old) (logged_state logged) t action e reply well adds share share' fits_inside own share_is

  pub Acts-performed : (share' : Holding) → share' ≡ with_tally share (with_event share.tally reply.position e) → Acts w share action (Ok reply) (logged_state logged) share'
  Acts-performed share' share_is = subst (λ v. Acts v share action (Ok reply) (logged_state logged) share') same (acts_inside share' share_is)

  pub FitsLog-performed : (share' : Holding) → share' ≡ with_tally share (with_event share.tally reply.position e) → FitsLog (logged_state logged) share'
  FitsLog-performed share' share_is = FitsLog-acts (state_of old) (logged_state logged) share share' action reply fits_inside (acts_inside share' share_is)

  pub OthersStillFit-performed : OthersStillFit w share.thread (logged_state logged)
  OthersStillFit-performed = subst (λ v. OthersStillFit v share.thread (logged_state logged)) same (OthersStillFit-acts (state_of old) (logged_state logged) share _ action reply (acts_inside _ refl))

  pub born-performed : (child : ThreadId) → action ≡ Action.Fork child → share_at old.kept child ≡ Some (opening_share w.config.run child.0)
  born-performed child is = subst (λ (v : WorldState). share_at old.kept child ≡ Some (opening_share v.config.run child.0)) same (born-committed (state_of old) t child e well (subst (λ a. meaning (state_of old) t a ≡ Ok e) is adds.due) old.kept was.keeps)

  pub FitsLog-born : (child : ThreadId) → action ≡ Action.Fork child → FitsLog (logged_state logged) (opening_share w.config.run child.0)
  FitsLog-born child is =
      subst (λ (v : WorldState). FitsLog (logged_state logged) (opening_share v.config.run child.0)) same
      (FitsLog-forked-added (state_of old) (logged_state logged) t action e reply well adds old.kept child is was.keeps)

-- ---- the monitor

pub IsMonitorOf-part : (old : Inside) (w : WorldState) (trace : List Event) → state_of old ≡ w → IsWorldOfItsLog old → IsWatchedPart w.log trace → IsMonitorOf w.config.bounds old.logged.analysis.monitor trace
IsMonitorOf-part old w trace same was part =
    let inside : IsWatchedPart old.logged.log.events trace = subst (λ (v : WorldState). IsWatchedPart v.log trace) (sym same) part in
    let stands : IsMonitorOf old.logged.config.bounds old.logged.analysis.monitor trace =
    rw (events_watched-part old.logged.log.events trace old.logged.analysis.alarm was.logged.analysis.watched.alarm inside) (subst (λ b. IsMonitorOf b old.logged.analysis.monitor (events_watched old.logged.log.events old.logged.analysis.alarm)) was.logged.bounds was.logged.analysis.watched.monitor) in
    subst (λ (v : WorldState). IsMonitorOf v.config.bounds old.logged.analysis.monitor trace) same stands
