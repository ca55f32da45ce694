-- Each log that can come about has a prologue: stage by stage, at each number an event or none.
use Rattle.std.proofs.Common.{◌≡◌, ℕ, zero, suc, ◌+◌, ◌<◌, ◌≤◌, List, [], refl, subst, arith, ⊎_elim}
use Rattle.std.proofs.lemmas.Bool.{cases_Bool, cases_eq}
use Rattle.velo_events.specs.declared.config.Bounds.{Bounds}
use Rattle.velo_events.specs.declared.event.Event.{Event}
use Rattle.velo_events.specs.Heap.{value_in, holder_in, shares_in}
use Rattle.velo_events.specs.WellFormed.{IsWellFormed}
use Rattle.velo_laws.specs.Restart.{IsPrologueOf}
use Rattle.velo_laws.specs.Length.{forks, exits}
use Rattle.velo_laws.specs.Stages.{HasForked, HasWritten, HasAcquired, HasShared, HasExited}
use Rattle.velo_laws.proofs.OnPrologues.{cases_Option, forked-start, forked-none, forked-one, written-start, written-none, written-one, acquired-start, acquired-none, acquired-one, shared-start, shared-next, shared-none, shared-one, exited-start, exited-none, exited-one, is_prologue}

-- some events have come so far
abbrev Some_at : (List Event → ℕ → Type 0) → ℕ → Type 0
Some_at At k = (P : List Event) × At P k

-- from number to number
module _ (At : List Event → ℕ → Type 0) (n : ℕ) (step : (P : List Event) (k : ℕ) → k < n → At P k → Some_at At (k + 1)) (start : Some_at At 0) where
  steps : (k : ℕ) → k ≤ n → Some_at At k
  steps zero h = start
  steps (suc k) h =
      let next : k + 1 ≡ suc k = omega arith in
      let rest = steps k (omega (arith, h)) in
      subst (Some_at At) next (step rest.0 k (omega (arith, h)) rest.1)

  all_steps : Some_at At n
  all_steps = steps n (omega arith)

module _ (bounds : Bounds) (log : List Event) (well : IsWellFormed bounds log) where
  fork_next : (P : List Event) (k : ℕ) → k < bounds.threads → HasForked bounds log P k → Some_at (HasForked bounds log) (k + 1)
  fork_next P k h at = ⊎_elim
      (λ some. (_, forked-one bounds log well P k _ refl h some at))
      (λ none. (P, forked-none bounds log well P k none at))
      (cases_Bool (forks log k))

  write_next : (P : List Event) (k : ℕ) → k < bounds.variables → HasWritten bounds log P k → Some_at (HasWritten bounds log) (k + 1)
  write_next P k h at = ⊎_elim
      (λ none. (P, written-none bounds log well P k none at))
      (λ some. (_, written-one bounds log well P k _ refl h some at))
      (cases_eq (value_in log k) 0)

  acquire_next : (P : List Event) (k : ℕ) → k < bounds.locks → HasAcquired bounds log P k → Some_at (HasAcquired bounds log) (k + 1)
  acquire_next P k h at = ⊎_elim
      (λ none. (P, acquired-none bounds log well P k none at))
      (λ some. (_, acquired-one bounds log well P k some.0 _ refl h some.1 at))
      (cases_Option (holder_in log k))

  share_next : (m : ℕ) → m < bounds.locks → (P : List Event) (u : ℕ) → u < bounds.threads → HasShared bounds log P m u → Some_at (λ Q. HasShared bounds log Q m) (u + 1)
  share_next m within P u h at = ⊎_elim
      (λ some. (_, shared-one bounds log well P m u _ refl within h some at))
      (λ none. (P, shared-none bounds log well P m u none at))
      (cases_Bool (shares_in log m u))

  share_row : (P : List Event) (m : ℕ) → m < bounds.locks → HasShared bounds log P m 0 → Some_at (λ Q n. HasShared bounds log Q n 0) (m + 1)
  share_row P m h at =
      let row = all_steps (λ Q. HasShared bounds log Q m) bounds.threads (share_next m h) (P, at) in
      (row.0, shared-next bounds log well row.0 m row.1)

  exit_next : (P : List Event) (k : ℕ) → k < bounds.threads → HasExited bounds log P k → Some_at (HasExited bounds log) (k + 1)
  exit_next P k h at = ⊎_elim
      (λ some. (_, exited-one bounds log well P k _ refl h some at))
      (λ none. (P, exited-none bounds log well P k none at))
      (cases_Bool (exits log k))

  pub has_prologue_law : (prologue : List Event) × IsPrologueOf bounds log prologue
  has_prologue_law =
      let forked = all_steps (HasForked bounds log) bounds.threads fork_next ([], forked-start bounds log well [] refl) in
      let written = all_steps (HasWritten bounds log) bounds.variables write_next (forked.0, written-start bounds log well forked.0 forked.1) in
      let acquired = all_steps (HasAcquired bounds log) bounds.locks acquire_next (written.0, acquired-start bounds log well written.0 written.1) in
      let shared = all_steps (λ Q n. HasShared bounds log Q n 0) bounds.locks share_row (acquired.0, shared-start bounds log well acquired.0 acquired.1) in
      let exited = all_steps (HasExited bounds log) bounds.threads exit_next (shared.0, exited-start bounds log well shared.0 shared.1) in
      (exited.0, is_prologue bounds log well exited.0 exited.1)
