-- What a step leaves of the shares at their places, and steps one after another.
use Rattle.std.proofs.Common.{◌≡◌, ◌≢◌, ℕ, ◌+◌, ◌<◌, Bool, List, [], ◌∷◌, ◌++◌, length, set, length-set, Option, Some, None, Ok, refl, sym, ap, ◌∙◌, subst, arith, ⊎_elim, take, get_or}
use Rattle.std.specs.Prelude.{slice_get, Result, IfSome, IsTrue, IsFalse}
use Rattle.std.proofs.lemmas.Bool.{cases_Bool, cases_eq, eq-eqb, eqb-true, eqb-false, false≢true, false_from_ne_true}
use Rattle.std.proofs.lemmas.List.{take_more}
use Rattle.std.proofs.lemmas.Option.{slice_get_within}
use Rattle.velo_events.specs.declared.config.Bounds.{Bounds}
use Rattle.velo_events.specs.declared.event.Event.{Event}
use Rattle.velo_events.specs.declared.event.Action.{Action}
use Rattle.velo_events.specs.declared.event.ThreadId.{ThreadId}
use Rattle.velo_events.specs.declared.event.Kind.{Kind}
use Rattle.velo_events.specs.declared.event.Kind.TheVariants.{Read, Write, Acquire, Release, AcquireShared, ReleaseShared, Begin, End, Fork, Join, Exit}
use Rattle.velo_events.specs.declared.event.Status.{Status}
use Rattle.velo_events.specs.declared.event.Status.TheVariants.{Unborn, Live}
use Rattle.velo_events.specs.declared.refusal.Refusal.{Refusal}
use Rattle.velo_events.specs.Event.{thread_of, is_fork_of, thread_forked, are_same}
use Rattle.velo_events.specs.Heap.{status_in}
use Rattle.velo_events.specs.WellFormed.{MayFollow, IsWellFormed, NamesKnown}
use Rattle.velo_events.specs.Meaning.{is_unborn, event_for}
use Rattle.velo_ledger.specs.Tally.{with_event}
use Rattle.velo_ledger.specs.Views.{Accounts, Holding}
use Rattle.velo_ledger.specs.Book.{CanEnterAt, EntersAt, IsFilled, with_row, with_tally}
use Rattle.velo_ledger.specs.Shares.{opening_share, share_at}
use Rattle.velo_events.proofs.OnLists.{slice_get-set_same, slice_get-set_other}
use Rattle.velo_world.specs.declared.analysis.Reply.{Reply}
use Rattle.velo_world.specs.World.{WorldState, meaning, IsBookOf, FitsLog, IsUnborn, IsLiveThread, HasShare, HoldsLiveShares, CompletesShares, Acts, with_born, StepsTo, RunsTo}
use Rattle.velo_world.specs.LoggedRun.{AddsToLog}
use Rattle.velo_world.specs.Kept.{KeepsUnborn, with_share, taken_by}
use Rattle.velo_world.proofs.OnAnswers.{event-meaning, meaning-live}
use Rattle.velo_events.proofs.OnStatuses.{is_Unborn, unborn-before, live-before, unborn-same, actor-born, forked-after, forked-before}
use Rattle.velo_world.proofs.OnHoldings.{longer, FitsLog-own, FitsLog-other}
use Rattle.velo_world.proofs.OnSteps.{world_is, follows-added, thread-added, born-committed, CanEnter-added, IsBookOf-added, Acts-added}

-- ---- places

not_there : (places : List (Option Holding)) (u : ℕ) (share : Holding) → slice_get places u ≡ Some None → slice_get places u ≡ Some (Some share) → ⊥
not_there places u share none some = let same : ◌≡◌ {A = Option (Option Holding)} (Some None) (Some (Some share)) = sym none ∙ some in cc

-- ---- the thread that is forked

forked-known : (bounds : Bounds) (k : Kind) (u : ℕ) → NamesKnown bounds k → IsTrue (are_same (thread_forked k) (Some u)) → u < bounds.threads
forked-known bounds (Read x v) u known fork = absurd (false≢true fork)
forked-known bounds (Write x v) u known fork = absurd (false≢true fork)
forked-known bounds (Acquire m) u known fork = absurd (false≢true fork)
forked-known bounds (Release m) u known fork = absurd (false≢true fork)
forked-known bounds (AcquireShared m) u known fork = absurd (false≢true fork)
forked-known bounds (ReleaseShared m) u known fork = absurd (false≢true fork)
forked-known bounds (Begin l) u known fork = absurd (false≢true fork)
forked-known bounds End u known fork = absurd (false≢true fork)
forked-known bounds (Fork v) u known fork = subst (λ n. n < bounds.threads) (eqb-true v.0 u fork) known
forked-known bounds (Join v) u known fork = absurd (false≢true fork)
forked-known bounds Exit u known fork = absurd (false≢true fork)

at-forked : (run : ℕ) (action : Action) (places : List (Option Holding)) (log : List Event) (t : ThreadId) (u : ℕ) → u < length places → IsTrue (is_fork_of u (event_for log t action)) → slice_get (with_born run action places) u ≡ Some (Some (opening_share run u))
at-forked run (Action.Read x) places log t u room fork = absurd (false≢true fork)
at-forked run (Action.Write x v) places log t u room fork = absurd (false≢true fork)
at-forked run (Action.Acquire m) places log t u room fork = absurd (false≢true fork)
at-forked run (Action.Release m) places log t u room fork = absurd (false≢true fork)
at-forked run (Action.AcquireShared m) places log t u room fork = absurd (false≢true fork)
at-forked run (Action.ReleaseShared m) places log t u room fork = absurd (false≢true fork)
at-forked run (Action.Begin l) places log t u room fork = absurd (false≢true fork)
at-forked run Action.End places log t u room fork = absurd (false≢true fork)
at-forked run (Action.Fork v) places log t u room fork =
    subst (λ n. slice_get (set places n (Some (opening_share run n))) u ≡ Some (Some (opening_share run u))) (sym (eqb-true v.0 u fork)) (slice_get-set_same places u (Some (opening_share run u)) room)
at-forked run (Action.Join v) places log t u room fork = absurd (false≢true fork)
at-forked run Action.Exit places log t u room fork = absurd (false≢true fork)

at-unforked : (run : ℕ) (action : Action) (places : List (Option Holding)) (log : List Event) (t : ThreadId) (u : ℕ) → IsFalse (is_fork_of u (event_for log t action)) → slice_get (with_born run action places) u ≡ slice_get places u
at-unforked run (Action.Read x) places log t u no_fork = refl
at-unforked run (Action.Write x v) places log t u no_fork = refl
at-unforked run (Action.Acquire m) places log t u no_fork = refl
at-unforked run (Action.Release m) places log t u no_fork = refl
at-unforked run (Action.AcquireShared m) places log t u no_fork = refl
at-unforked run (Action.ReleaseShared m) places log t u no_fork = refl
at-unforked run (Action.Begin l) places log t u no_fork = refl
at-unforked run Action.End places log t u no_fork = refl
at-unforked run (Action.Fork v) places log t u no_fork = slice_get-set_other places v.0 u (Some (opening_share run v.0)) (eqb-false v.0 u no_fork)
at-unforked run (Action.Join v) places log t u no_fork = refl
at-unforked run Action.Exit places log t u no_fork = refl

-- ---- an event of a live thread, by the share at its place

module _ (w : WorldState) (places : List (Option Holding)) (share : Holding) (action : Action) (halted : Bool) (well : IsWellFormed w.config.bounds w.log) (opening_fits : (u : ℕ) → u < w.config.bounds.threads → IsTrue (is_unborn (status_in w.log u)) → FitsLog w (opening_share w.config.run u)) (ready : HoldsLiveShares w places) (live : IsLiveThread w share.thread.0) (there : slice_get places share.thread.0 ≡ Some (Some share)) (fits : FitsLog w share) (follows : MayFollow w.config.bounds w.log (event_for w.log share.thread action)) where
  abbrev event : Event
  event = event_for w.log share.thread action

  abbrev after : WorldState
  after = longer w event halted

  abbrev own_after : Holding
  own_after = with_tally share (with_event share.tally (length w.log) event)

  abbrev places_after : List (Option Holding)
  places_after = with_born w.config.run action (set places share.thread.0 (Some own_after))

  born_not : (u : ℕ) → IsTrue (is_fork_of u event) → IsUnborn w u
  born_not u fork = (forked-known w.config.bounds event.kind u follows.known_names fork, is_Unborn (status_in w.log u) (forked-before w.config.bounds w.log event u well follows fork))

  other_forked : (u : ℕ) → u ≡ share.thread.0 → IsFalse (is_fork_of u event)
  other_forked u is = false_from_ne_true _ (λ fork.
      let unborn : status_in w.log share.thread.0 ≡ Unborn = subst (λ n. status_in w.log n ≡ Unborn) is (born_not u fork).1 in
      let same : ◌≡◌ {A = Status} Unborn Live = sym unborn ∙ live.1 in
      cc)

  at_own : (u : ℕ) → u ≡ share.thread.0 → slice_get places_after u ≡ Some (Some own_after)
  at_own u is =
      at-unforked w.config.run action (set places share.thread.0 (Some own_after)) w.log share.thread u (other_forked u is)
      ∙ subst (λ n. slice_get (set places share.thread.0 (Some own_after)) n ≡ Some (Some own_after)) (sym is) (slice_get-set_same places share.thread.0 (Some own_after) (slice_get_within places share.thread.0 (Some share) there))

  at_forked : (u : ℕ) → IsTrue (is_fork_of u event) → slice_get places_after u ≡ Some (Some (opening_share w.config.run u))
  at_forked u fork =
      let room = slice_get_within places u None (ready.unborn u (born_not u fork)) in
      let same = length-set places share.thread.0 (Some own_after) in
      at-forked w.config.run action (set places share.thread.0 (Some own_after)) w.log share.thread u (omega (arith, room, same)) fork

  at_other : (u : ℕ) → u ≢ share.thread.0 → IsFalse (is_fork_of u event) → slice_get places_after u ≡ slice_get places u
  at_other u other no_fork =
      at-unforked w.config.run action (set places share.thread.0 (Some own_after)) w.log share.thread u no_fork
      ∙ slice_get-set_other places share.thread.0 u (Some own_after) (λ is. other (sym is))

  -- no share is at the place of a thread that is forked
  pub place-forked : (u : ℕ) (place : Option Holding) → IsTrue (is_fork_of u event) → slice_get (set places share.thread.0 place) u ≡ Some None
  place-forked u place fork =
      slice_get-set_other places share.thread.0 u place (λ is. false≢true (sym (other_forked u (sym is)) ∙ fork)) ∙ ready.unborn u (born_not u fork)

  HasShare-own : (u : ℕ) → u ≡ share.thread.0 → HasShare after places_after u
  HasShare-own u is = record { share = own_after; there = at_own u is; own = sym is; fits = FitsLog-own w event halted share refl fits }

  HasShare-forked : (u : ℕ) → IsTrue (is_fork_of u event) → HasShare after places_after u
  HasShare-forked u fork =
      let unborn = born_not u fork in
      let acts : thread_of event ≢ u = λ is. false≢true (sym (actor-born w.config.bounds w.log event follows) ∙ subst (λ n. IsTrue (is_unborn (status_in w.log n))) (sym is) (ap is_unborn unborn.1)) in
      record {
        share = opening_share w.config.run u;
        there = at_forked u fork;
        own = refl;
        fits = FitsLog-other w event halted (opening_share w.config.run u) acts (opening_fits u unborn.0 (ap is_unborn unborn.1));
      }

  HasShare-next : (u : ℕ) → IsFalse (is_fork_of u event) → HasShare w places u → HasShare after places_after u
  HasShare-next u no_fork has = ⊎_elim (HasShare-own u) elsewhere (cases_eq u share.thread.0)
    where
      elsewhere : u ≢ share.thread.0 → HasShare after places_after u
      elsewhere other = record {
        share = has.share;
        there = at_other u other no_fork ∙ has.there;
        own = has.own;
        fits = FitsLog-other w event halted has.share (λ is. other (sym has.own ∙ sym is)) has.fits;
      }

  pub HoldsLiveShares-next : HoldsLiveShares after places_after
  HoldsLiveShares-next = record {
    live = λ u alive. ⊎_elim (HasShare-forked u) (λ no_fork. HasShare-next u no_fork (ready.live u (alive.0, live-before w.log event u alive.1 no_fork))) (cases_Bool (is_fork_of u event));
    unborn = λ u unborn.
        let before = unborn-before w.log event u (ap is_unborn unborn.1) in
        let was : status_in w.log u ≡ Unborn = is_Unborn (status_in w.log u) before.0 in
        let other : u ≢ share.thread.0 = λ is. (let same : ◌≡◌ {A = Status} Unborn Live = sym was ∙ subst (λ n. status_in w.log n ≡ Live) (sym is) live.1 in cc) in
        at_other u other before.1 ∙ ready.unborn u (unborn.0, was);
  }

  born_same : (u : ℕ) → IsFalse (is_fork_of u event) → is_unborn (status_in after.log u) ≡ is_unborn (status_in w.log u)
  born_same u no_fork = unborn-same w.config.bounds w.log event u follows no_fork

  pub IsFilled-next : (u : ℕ) → IsFilled places u → IsFilled places_after u
  IsFilled-next u filled =
      ⊎_elim (λ is. (own_after, at_own u is))
      (λ other. ⊎_elim (λ fork. (opening_share w.config.run u, at_forked u fork)) (λ no_fork. (filled.0, at_other u other no_fork ∙ filled.1)) (cases_Bool (is_fork_of u event)))
      (cases_eq u share.thread.0)

  pub CompletesShares-next : CompletesShares w places → CompletesShares after places_after
  CompletesShares-next complete = record {
    born = λ u born. ⊎_elim (HasShare-forked u) (λ no_fork. HasShare-next u no_fork (complete.born u (born.0, was_born u no_fork born.1))) (cases_Bool (is_fork_of u event));
    no_other = λ u s is. ⊎_elim (λ own. (subst (λ n. n < w.config.bounds.threads) (sym own) live.0, own_born u own))
        (λ other. ⊎_elim (λ fork. ((born_not u fork).0, still_born u (forked-after w.log event u fork)))
        (λ no_fork. let before = complete.no_other u s (sym (at_other u other no_fork) ∙ is) in (before.0, stays_born u no_fork before.1)) (cases_Bool (is_fork_of u event)))
        (cases_eq u share.thread.0);
  }
    where
      still_born : (u : ℕ) → IsFalse (is_unborn (status_in after.log u)) → status_in after.log u ≢ Unborn
      still_born u not_unborn is = false≢true (sym not_unborn ∙ ap is_unborn is)

      was_born : (u : ℕ) → IsFalse (is_fork_of u event) → status_in after.log u ≢ Unborn → status_in w.log u ≢ Unborn
      was_born u no_fork born is = born (is_Unborn (status_in after.log u) (born_same u no_fork ∙ ap is_unborn is))

      stays_born : (u : ℕ) → IsFalse (is_fork_of u event) → status_in w.log u ≢ Unborn → status_in after.log u ≢ Unborn
      stays_born u no_fork born is = born (is_Unborn (status_in w.log u) (sym (born_same u no_fork) ∙ ap is_unborn is))

      own_born : (u : ℕ) → u ≡ share.thread.0 → status_in after.log u ≢ Unborn
      own_born u is = stays_born u (other_forked u is) (λ unborn. let same : ◌≡◌ {A = Status} Unborn Live = sym unborn ∙ subst (λ n. status_in w.log n ≡ Live) (sym is) live.1 in cc)

-- ---- a step

with_share-born : (run : ℕ) (kept : List (Option Holding)) (action : Action) (places : List (Option Holding)) → ((child : ThreadId) → action ≡ Action.Fork child → share_at kept child ≡ Some (opening_share run child.0)) → with_share places (taken_by kept action) ≡ with_born run action places
with_share-born run kept (Action.Read x) places born = refl
with_share-born run kept (Action.Write x v) places born = refl
with_share-born run kept (Action.Acquire m) places born = refl
with_share-born run kept (Action.Release m) places born = refl
with_share-born run kept (Action.AcquireShared m) places born = refl
with_share-born run kept (Action.ReleaseShared m) places born = refl
with_share-born run kept (Action.Begin l) places born = refl
with_share-born run kept Action.End places born = refl
with_share-born run kept (Action.Fork u) places born = rw (born u refl) refl
with_share-born run kept (Action.Join u) places born = refl
with_share-born run kept Action.Exit places born = refl

-- what a step leaves, beside its outcome
pub record Stepped (w : WorldState) (places : List (Option Holding)) (t : ThreadId) (action : Action) (outcome : Result Reply Refusal) (w' : WorldState) (places' : List (Option Holding)) : Type 0 where
  pub outcome_is : StepsTo w places t action outcome w' places'
  pub ready : HoldsLiveShares w' places'
  pub filled : (u : ℕ) → IsFilled places u → IsFilled places' u
  pub complete : CompletesShares w places → CompletesShares w' places'

pub Stepped-from : (w w' : WorldState) (places places' : List (Option Holding)) (share share' : Holding) (action : Action) (reply : Reply) → IsWellFormed w.config.bounds w.log → ((u : ℕ) → u < w.config.bounds.threads → IsTrue (is_unborn (status_in w.log u)) → FitsLog w (opening_share w.config.run u)) → HoldsLiveShares w places → IsLiveThread w share.thread.0 → slice_get places share.thread.0 ≡ Some (Some share) → FitsLog w share → MayFollow w.config.bounds w.log (event_for w.log share.thread action) → Acts w share action (Ok reply) w' share' → places' ≡ with_born w.config.run action (set places share.thread.0 (Some share')) → Stepped w places share.thread action (Ok reply) w' places'
Stepped-from w w' places places' share share' action reply well opening_fits ready live there fits follows acts put =
    let world = world_is w w' (event_for w.log share.thread action) acts.1.config acts.1.log in
    let own = acts.1.holding in
    record {
      outcome_is = record { share = share; share' = share'; there = there; own = refl; acts = acts; after = put };
      ready = rw (put, own, world) (HoldsLiveShares-next w places share action w'.halted well opening_fits ready live there fits follows);
      filled = rw (put, own) (IsFilled-next w places share action w'.halted well opening_fits ready live there fits follows);
      complete = rw (put, own, world) (CompletesShares-next w places share action w'.halted well opening_fits ready live there fits follows);
    }

-- the event of a live thread was added, by the share at its place
module _ (w w' : WorldState) (places kept : List (Option Holding)) (t : ThreadId) (action : Action) (e : Event) (reply : Reply) (well : IsWellFormed w.config.bounds w.log) (adds : AddsToLog w t action e reply w') (keeps : KeepsUnborn w kept) (ready : HoldsLiveShares w places) where
  live_own : IsLiveThread w t.0
  live_own = meaning-live w t action e adds.due

  has_own : HasShare w places t.0
  has_own = ready.live t.0 live_own

  abbrev own_share : Holding
  own_share = has_own.share

  own_is : has_own.share.thread ≡ t
  own_is = ap (λ n. let named : ThreadId = record { 0 = n } in named) has_own.own

  live_share : IsLiveThread w has_own.share.thread.0
  live_share = subst (λ (u : ThreadId). IsLiveThread w u.0) (sym own_is) live_own

  there_share : slice_get places has_own.share.thread.0 ≡ Some (Some has_own.share)
  there_share = subst (λ (u : ThreadId). slice_get places u.0 ≡ Some (Some has_own.share)) (sym own_is) has_own.there

  follows_share : MayFollow w.config.bounds w.log (event_for w.log has_own.share.thread action)
  follows_share = subst (λ (u : ThreadId). MayFollow w.config.bounds w.log (event_for w.log u action)) (sym own_is) (subst (MayFollow w.config.bounds w.log) (event-meaning w t action e adds.due) (follows-added w w' t action e reply well adds))

  thread_is : e.thread ≡ t
  thread_is = thread-added w w' t action e reply well adds

  -- the book takes the event by the share at its place
  pub CanEnterAt-added : (book : Accounts) → IsBookOf w book → CanEnterAt book places reply.position e
  CanEnterAt-added book is =
      let can = CanEnter-added w w' t action e reply well adds book has_own.share is has_own.fits (sym own_is) in
      record {
        share = has_own.share;
        there = subst (λ (u : ThreadId). slice_get places u.0 ≡ Some (Some has_own.share)) (sym thread_is) has_own.there;
        fits = can.0;
        later = can.2;
      }

  entered : (book book' : Accounts) (places1 : List (Option Holding)) → EntersAt book places reply.position e book' places1 → (book' ≡ with_row book has_own.share.thread (with_event has_own.share.tally reply.position e)) × (places1 ≡ set places has_own.share.thread.0 (Some (with_tally has_own.share (with_event has_own.share.tally reply.position e))))
  entered book book' places1 enters =
      let at = subst (λ (u : ThreadId). slice_get places u.0 ≡ Some (Some has_own.share)) (sym thread_is) has_own.there in
      let same : e.thread ≡ has_own.share.thread = thread_is ∙ sym own_is in (
        enters.row has_own.share at ∙ ap (λ (u : ThreadId). with_row book u (with_event has_own.share.tally reply.position e)) same,
        enters.share has_own.share at ∙ ap (λ (u : ThreadId). set places u.0 (Some (with_tally has_own.share (with_event has_own.share.tally reply.position e)))) same,
      )

  pub IsBookOf-stepped : (book book' : Accounts) (places1 : List (Option Holding)) → IsBookOf w book → EntersAt book places reply.position e book' places1 → IsBookOf w' book'
  IsBookOf-stepped book book' places1 is enters =
      IsBookOf-added w w' t action e reply well adds book book' has_own.share is has_own.fits (sym own_is) (entered book book' places1 enters).0

  kept_share : (child : ThreadId) → action ≡ Action.Fork child → share_at kept child ≡ Some (opening_share w.config.run child.0)
  kept_share child is = born-committed w t child e well (subst (λ a. meaning w t a ≡ Ok e) is adds.due) kept keeps

  -- the share of a thread that is forked comes where none is
  pub place-born : (book book' : Accounts) (places1 : List (Option Holding)) → EntersAt book places reply.position e book' places1 → IfSome (taken_by kept action) (λ s. slice_get places1 s.thread.0 ≡ Some None)
  place-born book book' places1 enters = by_action action refl
    where
      fork : (child : ThreadId) → action ≡ Action.Fork child → slice_get places1 child.0 ≡ Some None
      fork child is =
          rw (entered book book' places1 enters).1 (place-forked w places has_own.share action w'.halted well keeps.fit ready live_share there_share has_own.fits follows_share child.0 _
          (subst (λ a. IsTrue (is_fork_of child.0 (event_for w.log has_own.share.thread a))) (sym is) (eq-eqb child.0 child.0 refl)))

      by_action : (a : Action) → action ≡ a → IfSome (taken_by kept a) (λ s. slice_get places1 s.thread.0 ≡ Some None)
      by_action (Action.Read x) is = tt
      by_action (Action.Write x v) is = tt
      by_action (Action.Acquire m) is = tt
      by_action (Action.Release m) is = tt
      by_action (Action.AcquireShared m) is = tt
      by_action (Action.ReleaseShared m) is = tt
      by_action (Action.Begin l) is = tt
      by_action Action.End is = tt
      by_action (Action.Fork u) is = rw (kept_share u is) (fork u is)
      by_action (Action.Join u) is = tt
      by_action Action.Exit is = tt

  pub Stepped-added : (book book' : Accounts) (places1 places2 : List (Option Holding)) → EntersAt book places reply.position e book' places1 → places2 ≡ with_share places1 (taken_by kept action) → Stepped w places t action (Ok reply) w' places2
  Stepped-added book book' places1 places2 enters places_is =
      let share = has_own.share in
      let share' : Holding = with_tally has_own.share (with_event has_own.share.tally reply.position e) in
      let acts = Acts-added w w' t action e reply well adds share share' has_own.fits (sym own_is) refl in
      let put : places2 ≡ with_born w.config.run action (set places share.thread.0 (Some share')) =
      places_is ∙ (with_share-born w.config.run kept action places1 kept_share ∙ ap (with_born w.config.run action) (entered book book' places1 enters).1) in
      subst (λ u. Stepped w places u action (Ok reply) w' places2) own_is
      (Stepped-from w w' places places2 share share' action reply well keeps.fit ready live_share there_share has_own.fits follows_share acts put)

-- ---- steps one after another

pub RunsTo-nil : (w : WorldState) (places : List (Option Holding)) → RunsTo w places [] [] w places
unfolding RunsTo
RunsTo-nil w places = (refl, refl)

pub RunsTo-push : (w : WorldState) (places : List (Option Holding)) (steps : List (ThreadId × Action)) (outcomes : List (Result Reply Refusal)) (w1 w2 : WorldState) (places1 places2 : List (Option Holding)) (step : ThreadId × Action) (outcome : Result Reply Refusal) → RunsTo w places steps outcomes w1 places1 → StepsTo w1 places1 step.0 step.1 outcome w2 places2 → RunsTo w places (steps ++ step ∷ []) (outcomes ++ outcome ∷ []) w2 places2
unfolding RunsTo
RunsTo-push w places [] [] w1 w2 places1 places2 step outcome runs next = (w2, places2, rw (← runs.0, ← runs.1) next, (refl, refl))
RunsTo-push w places [] (o ∷ os) w1 w2 places1 places2 step outcome runs next = absurd runs
RunsTo-push w places (s ∷ ss) [] w1 w2 places1 places2 step outcome runs next = absurd runs
RunsTo-push w places (s ∷ ss) (o ∷ os) w1 w2 places1 places2 step outcome runs next = (runs.0, runs.1, runs.2, RunsTo-push runs.0 runs.1 ss os w1 w2 places1 places2 step outcome runs.3 next)

-- one step more of a list
pub RunsTo-more : (w : WorldState) (places : List (Option Holding)) (steps : List (ThreadId × Action)) (i : ℕ) (d : ThreadId × Action) (outcomes outcomes' : List (Result Reply Refusal)) (w1 w2 : WorldState) (places1 places2 : List (Option Holding)) (outcome : Result Reply Refusal) → i < length steps → outcomes' ≡ outcomes ++ outcome ∷ [] → RunsTo w places (take i steps) outcomes w1 places1 → StepsTo w1 places1 (get_or steps i d).0 (get_or steps i d).1 outcome w2 places2 → RunsTo w places (take (i + 1) steps) outcomes' w2 places2
RunsTo-more w places steps i d outcomes outcomes' w1 w2 places1 places2 outcome lt outcomes_is runs next =
    rw (take_more steps i d lt, outcomes_is) (RunsTo-push w places (take i steps) outcomes w1 w2 places1 places2 (get_or steps i d) outcome runs next)
