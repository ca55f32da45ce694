-- A run that goes on in a new log, and why it does not.
use Rattle.std.specs.Prelude.{◌≡◌, ◌⊎◌, ℕ, Option, Some, None}
use Rattle.velo_laws.specs.declared.renewal.NotRenewed.{NotRenewed}
use Rattle.velo_laws.specs.declared.renewal.NotRenewed.TheVariants.{Alarm, BlockOpen, LogFull, Memory}
use Rattle.velo_laws.specs.Renewal.{IsReasonAgainst, Renews}
use Rattle.velo_ffi.specs.declared.answers.TheConstants.{ALARMED, CLOSED, DONE, IN_BLOCK, NO_MEMORY}
use Rattle.velo_ffi.specs.Watch.{WatchState}

-- the status for a reason; a log that is full has the number of that refusal
abbrev pub status_of : NotRenewed → ℕ
status_of Alarm = ALARMED
status_of (BlockOpen thread) = IN_BLOCK
status_of LogFull = 17
status_of Memory = NO_MEMORY

-- nothing has changed, for a reason that is there
pub record Refuses (w : WatchState) (status : ℕ) (w' : WatchState) : Type 0 where
  pub reason : NotRenewed
  pub is_reason : IsReasonAgainst w.world reason
  pub told : status ≡ status_of reason
  pub same : w' ≡ w

abbrev pub RenewsOrNot : WatchState → ℕ → WatchState → Type 0
RenewsOrNot w status w' = ((status ≡ DONE) × Renews w.world w'.world) ⊎ Refuses w status w'

-- a call that renews, by what the handle keeps before and after
abbrev pub RenewsKept : Option WatchState → ℕ → Option WatchState → Type 0
RenewsKept None status kept = (status ≡ CLOSED) × (kept ≡ None)
RenewsKept (Some w) status None = ⊥
RenewsKept (Some w) status (Some w') = RenewsOrNot w status w'
