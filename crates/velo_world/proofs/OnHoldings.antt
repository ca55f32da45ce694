-- The book and the shares of a world after one more event.
use Rattle.std.proofs.Common.{◌≡◌, ◌≢◌, ℕ, zero, suc, ◌<◌, ◌≤◌, Bool, List, [], ◌∷◌, ◌++◌, length, set, length-set, Option, Some, None, refl, sym, ap, ◌∙◌, subst, arith, sum_by, inl, inr, replicate}
use Rattle.std.specs.Prelude.{slice_get, ◌⊎◌, if◌then◌else◌, IsTrue, IsFalse}
use Rattle.std.proofs.lemmas.Bool.{cases_eq, eq-eqb, ne_eqb, false≢true}
use Rattle.std.proofs.lemmas.List.{length-replicate}
use Rattle.std.proofs.lemmas.Option.{slice_get_within, same_Some}
use Rattle.velo_events.specs.declared.config.Bounds.{Bounds}
use Rattle.velo_events.specs.declared.config.Config.{Config}
use Rattle.velo_events.specs.declared.event.Event.{Event}
use Rattle.velo_events.specs.declared.event.ThreadId.{ThreadId}
use Rattle.velo_events.specs.declared.event.Kind.TheVariants.{Fork}
use Rattle.velo_events.specs.Event.{thread_of, is_fork_of}
use Rattle.velo_events.specs.Heap.{status_in}
use Rattle.velo_events.specs.WellFormed.{MayFollow, IsWellFormed}
use Rattle.velo_events.specs.Meaning.{is_unborn}
use Rattle.velo_events.proofs.OnWellFormed.{IsWellFormed-push}
use Rattle.velo_ledger.specs.declared.tally.Tally.{Tally}
use Rattle.velo_ledger.specs.Tally.{blank, with_event}
use Rattle.velo_ledger.specs.Views.{Accounts, Holding}
use Rattle.velo_ledger.specs.Book.{FitsBook, with_row, with_tally, opening_accounts}
use Rattle.velo_ledger.specs.Shares.{opening_share, AreOpening}
use Rattle.velo_ledger.specs.Logs.{events_below, tally_of}
use Rattle.velo_events.proofs.OnLists.{slice_get-set_same, slice_get-set_other}
use Rattle.velo_ledger.proofs.OnLogs.{IsOfThreadsBelow, tally_of-nil, tally_of-own, tally_of-other, next_of-le, opening-rows, with_event-rows, sum_by-rows, events_below-all}
use Rattle.velo_world.specs.World.{WorldState, opening, FitsLog, IsBookOf}
use Rattle.velo_world.specs.Kept.{KeptAt, KeepsUnborn}
use Rattle.velo_events.proofs.OnStatuses.{first-born, others-unborn, unborn-before, unborn-same, actor-born, forked-after, forked-before}

-- the world with one event more
abbrev pub longer : WorldState → Event → Bool → WorldState
longer w e halted = record { config = w.config; halted = halted; log = w.log ++ e ∷ [] }

-- ---- every event is of a thread that is there

pub IsOfThreadsBelow-well_formed : (bounds : Bounds) (log : List Event) → IsWellFormed bounds log → IsOfThreadsBelow bounds.threads log
IsOfThreadsBelow-well_formed bounds log well = record { each = λ i e is. (well.each i e is).known_thread }

pub events_below-log : (bounds : Bounds) (log : List Event) → IsWellFormed bounds log → events_below log bounds.threads ≡ length log
events_below-log bounds log well = events_below-all log bounds.threads (IsOfThreadsBelow-well_formed bounds log well)

-- ---- a share that fits

pub FitsBook-from : (w : WorldState) (book : Accounts) (share : Holding) → IsBookOf w book → FitsLog w share → FitsBook book share
FitsBook-from w book share is fits = record {
  run = fits.run ∙ sym is.run;
  row = is.rows.each share.thread.0 (let lt = fits.thread in let count = is.count in omega arith) ∙ ap Some (sym fits.tally);
}

pub FitsLog-from : (w : WorldState) (book : Accounts) (share : Holding) → IsBookOf w book → FitsBook book share → FitsLog w share
FitsLog-from w book share is fits =
    let lt = slice_get_within book.rows share.thread.0 share.tally fits.row in
    record {
      run = fits.run ∙ is.run;
      thread = (let count = is.count in omega arith);
      tally = same_Some share.tally (tally_of w.log share.thread.0) (sym fits.row ∙ is.rows.each share.thread.0 lt);
    }

pub FitsLog-next_le : (w : WorldState) (share : Holding) → FitsLog w share → share.tally.next ≤ length w.log
FitsLog-next_le w share fits = subst (λ (tally : Tally). tally.next ≤ length w.log) (sym fits.tally) (next_of-le w.log share.thread.0)

-- the share with the event of its thread fits the longer log
pub FitsLog-own : (w : WorldState) (e : Event) (halted : Bool) (share : Holding) → e.thread ≡ share.thread → FitsLog w share → FitsLog (longer w e halted) (with_tally share (with_event share.tally (length w.log) e))
FitsLog-own w e halted share own fits = record {
  run = fits.run;
  thread = fits.thread;
  tally = ap (λ (tally : Tally). with_event tally (length w.log) e) fits.tally ∙ sym (tally_of-own w.log share.thread.0 e (ap (λ (t : ThreadId). t.0) own));
}

-- and so does the share of another thread as it was
pub FitsLog-other : (w : WorldState) (e : Event) (halted : Bool) (share : Holding) → thread_of e ≢ share.thread.0 → FitsLog w share → FitsLog (longer w e halted) share
FitsLog-other w e halted share other fits = record {
  run = fits.run;
  thread = fits.thread;
  tally = fits.tally ∙ sym (tally_of-other w.log share.thread.0 e other);
}

-- ---- the book

pub IsBookOf-opening : (config : Config) → IsBookOf (opening config) (opening_accounts config.run config.bounds.threads)
IsBookOf-opening config = record {
  run = refl;
  count = length-replicate config.bounds.threads blank;
  rows = opening-rows config.run config.bounds.threads;
  total = no_events config.bounds.threads;
}
  where
    no_events : (n : ℕ) → sum_by (λ (row : Tally). row.events) (replicate n blank) ≡ 0
    no_events zero = refl
    no_events (suc n) = let rest = no_events n in omega (arith, rest)

pub IsBookOf-next : (w : WorldState) (e : Event) (halted : Bool) (book : Accounts) (share : Holding) → IsWellFormed w.config.bounds w.log → MayFollow w.config.bounds w.log e → IsBookOf w book → FitsLog w share → e.thread ≡ share.thread → IsBookOf (longer w e halted) (with_row book share.thread (with_event share.tally (length w.log) e))
IsBookOf-next w e halted book share well follows is fits own =
    let rows = with_event-rows w.log book share e (FitsBook-from w book share is fits) own is.rows in
    let count = length-set book.rows share.thread.0 (with_event share.tally (length w.log) e) ∙ is.count in
    let known = IsOfThreadsBelow-well_formed w.config.bounds (w.log ++ e ∷ []) (IsWellFormed-push w.config.bounds w.log e well follows) in
    record {
      run = is.run;
      count = count;
      rows = rows;
      total = sum_by-rows (w.log ++ e ∷ []) _ rows (subst (λ n. IsOfThreadsBelow n (w.log ++ e ∷ [])) (sym count) known);
    }

-- ---- the shares that the world keeps

-- thread 0's share goes out, and all others stay
pub KeepsUnborn-opening : (config : Config) (places : List (Option Holding)) → 0 < config.bounds.threads → AreOpening config.run config.bounds.threads places → KeepsUnborn (opening config) (set places 0 None)
KeepsUnborn-opening config places some are = record {
  count = length-set places 0 None ∙ are.all;
  each = λ t lt. at t lt (cases_eq t 0);
  fit = λ t lt unborn. record { run = refl; thread = lt; tally = sym (tally_of-nil t) };
}
  where
    at : (t : ℕ) → t < config.bounds.threads → (t ≡ 0) ⊎ (t ≢ 0) → KeptAt (opening config) t (slice_get (set places 0 None) t)
    at t lt (inl is) =
        let room : 0 < length places = let all = are.all in omega arith in
        rw (first-born t is) (rw is (slice_get-set_same places 0 None room))
    at t lt (inr other) =
        rw (others-unborn t other) (slice_get-set_other places 0 t None (λ is. other (sym is)) ∙ are.each t lt)

-- a thread that acts is none of those whose shares are kept
pub other_acts : (bounds : Bounds) (log : List Event) (e : Event) (t : ℕ) → MayFollow bounds log e → IsTrue (is_unborn (status_in log t)) → thread_of e ≢ t
other_acts bounds log e t follows unborn = λ is. false≢true (sym (actor-born bounds log e follows) ∙ subst (λ n. IsTrue (is_unborn (status_in log n))) (sym is) unborn)

still_fits : (w : WorldState) (e : Event) (halted : Bool) (kept : List (Option Holding)) → MayFollow w.config.bounds w.log e → KeepsUnborn w kept → (t : ℕ) → t < w.config.bounds.threads → IsTrue (is_unborn (status_in (w.log ++ e ∷ []) t)) → FitsLog (longer w e halted) (opening_share w.config.run t)
still_fits w e halted kept follows keeps t lt unborn =
    let before = (unborn-before w.log e t unborn).0 in
    FitsLog-other w e halted (opening_share w.config.run t) (other_acts w.config.bounds w.log e t follows before) (keeps.fit t lt before)

-- what is right at a place stays so while the thread's birth stays as it is
kept_at-same : (w : WorldState) (e : Event) (halted : Bool) (t : ℕ) (place : Option (Option Holding)) → is_unborn (status_in (w.log ++ e ∷ []) t) ≡ is_unborn (status_in w.log t) → KeptAt w t place → KeptAt (longer w e halted) t place
kept_at-same w e halted t place same is = subst (λ b. place ≡ Some (if b then Some (opening_share w.config.run t) else None)) (sym same) is

-- an event that forks no thread leaves the kept shares
pub KeepsUnborn-next : (w : WorldState) (e : Event) (halted : Bool) (kept : List (Option Holding)) → MayFollow w.config.bounds w.log e → ((t : ℕ) → IsFalse (is_fork_of t e)) → KeepsUnborn w kept → KeepsUnborn (longer w e halted) kept
KeepsUnborn-next w e halted kept follows no_fork keeps = record {
  count = keeps.count;
  each = λ t lt. kept_at-same w e halted t (slice_get kept t) (unborn-same w.config.bounds w.log e t follows (no_fork t)) (keeps.each t lt);
  fit = still_fits w e halted kept follows keeps;
}

abbrev pub fork_by : ThreadId → ThreadId → Event
fork_by t child = record { thread = t; kind = Fork child }

-- the share of a thread that may be forked is kept
pub kept-born : (w : WorldState) (kept : List (Option Holding)) (t child : ThreadId) → IsWellFormed w.config.bounds w.log → MayFollow w.config.bounds w.log (fork_by t child) → KeepsUnborn w kept → slice_get kept child.0 ≡ Some (Some (opening_share w.config.run child.0))
kept-born w kept t child well follows keeps =
    let unborn = forked-before w.config.bounds w.log (fork_by t child) child.0 well follows (eq-eqb child.0 child.0 refl) in
    subst (λ b. slice_get kept child.0 ≡ Some (if b then Some (opening_share w.config.run child.0) else None)) unborn (keeps.each child.0 follows.known_names)

-- a fork takes it out
pub KeepsUnborn-fork : (w : WorldState) (t child : ThreadId) (halted : Bool) (kept : List (Option Holding)) → MayFollow w.config.bounds w.log (fork_by t child) → KeepsUnborn w kept → KeepsUnborn (longer w (fork_by t child) halted) (set kept child.0 None)
KeepsUnborn-fork w t child halted kept follows keeps = record {
  count = length-set kept child.0 None ∙ keeps.count;
  each = λ u lt. at u lt (cases_eq u child.0);
  fit = still_fits w (fork_by t child) halted kept follows keeps;
}
  where
    at : (u : ℕ) → u < w.config.bounds.threads → (u ≡ child.0) ⊎ (u ≢ child.0) → KeptAt (longer w (fork_by t child) halted) u (slice_get (set kept child.0 None) u)
    at u lt (inl is) =
        let room : child.0 < length kept = let count = keeps.count in omega arith in
        let born = forked-after w.log (fork_by t child) u (eq-eqb child.0 u (sym is)) in
        subst (λ b. slice_get (set kept child.0 None) u ≡ Some (if b then Some (opening_share w.config.run u) else None)) (sym born)
        (subst (λ n. slice_get (set kept child.0 None) n ≡ Some None) (sym is) (slice_get-set_same kept child.0 None room))
    at u lt (inr other) =
        kept_at-same w (fork_by t child) halted u (slice_get (set kept child.0 None) u) (unborn-same w.config.bounds w.log (fork_by t child) u follows (ne_eqb child.0 u (λ is. other (sym is))))
        (slice_get-set_other kept child.0 u None (λ is. other (sym is)) ∙ keeps.each u lt)

-- and it fits the longer log
pub FitsLog-forked : (w : WorldState) (t child : ThreadId) (halted : Bool) (kept : List (Option Holding)) → IsWellFormed w.config.bounds w.log → MayFollow w.config.bounds w.log (fork_by t child) → KeepsUnborn w kept → FitsLog (longer w (fork_by t child) halted) (opening_share w.config.run child.0)
FitsLog-forked w t child halted kept well follows keeps =
    let unborn = forked-before w.config.bounds w.log (fork_by t child) child.0 well follows (eq-eqb child.0 child.0 refl) in
    FitsLog-other w (fork_by t child) halted (opening_share w.config.run child.0) (other_acts w.config.bounds w.log (fork_by t child) child.0 follows unborn) (keeps.fit child.0 follows.known_names unborn)
