-- What is known of a state once one more of its threads was looked at.
use Rattle.std.proofs.Common.{◌≡◌, ℕ, ◌+◌, ◌<◌, true, List, sym, subst, arith, ⊎_elim, inl, inr}
use Rattle.std.specs.Prelude.{◌⊎◌, Contains}
use Rattle.std.proofs.lemmas.Bool.{cases_lt, false≢true}
use Rattle.velo_events.specs.declared.config.Bounds.{Bounds}
use Rattle.velo_events.specs.declared.event.Event.{Event}
use Rattle.velo_events.specs.declared.event.Kind.{Kind}
use Rattle.velo_events.specs.Event.{thread_of}
use Rattle.velo_search.specs.declared.seen.ThreadsSeen.{ThreadsSeen}
use Rattle.velo_search.specs.declared.state.State.{State}
use Rattle.velo_search.specs.Faults.{Fault, IsIdle, IsWaiting, IsRefused}
use Rattle.velo_search.specs.Runs.{IsRunOf, IsNext}
use Rattle.velo_search.specs.States.{IsStateOf}
use Rattle.velo_search.specs.Search.{IsReached, IsClean, IsCleanBy, IsSeen, IsTried, StandsAmong}
use Rattle.velo_search.proofs.OnFaults.{turned-not_idle, refused-not_waiting, refused-not_idle, next-not_turned, next-not_idle}
use Rattle.velo_search.proofs.OnKept.{All-kept, All-before, clean-among}

below_next : (P : ℕ → Type 0) (t : ℕ) → ((u : ℕ) → u < t → P u) → P t → (u : ℕ) → u < t + 1 → P u
below_next P t below here u l = ⊎_elim (λ before. below u before) (λ past. subst P (let same : t ≡ u = omega (arith, past, l) in same) here) (cases_lt u t)

wider : (P : ℕ → Type 0) (t : ℕ) → (u : ℕ) × (u < t) × P u → (u : ℕ) × (u < t + 1) × P u
wider P t w = (w.0, omega (arith, w.1), w.2)

-- ---- after one log

module _ (bounds : Bounds) (scripts : List (List Kind)) (log : List Event) (run : IsRunOf bounds scripts log) (t : ℕ) (seen : ThreadsSeen) (before : IsSeen bounds scripts log seen t) where
  -- 76. the thread is idle
  seen-idle : IsIdle scripts log t → IsSeen bounds scripts log seen (t + 1)
  seen-idle idle = record {
    acts = before.acts;
    waits = λ h. wider (IsWaiting bounds scripts log) t (before.waits h);
    none_waits = λ h. below_next (λ u. ¬ IsWaiting bounds scripts log u) t (before.none_waits h) (λ w. turned-not_idle bounds scripts log t w.refusal w.turned idle);
    refused = λ h. wider (IsRefused bounds scripts log) t (before.refused h);
    none_refused = λ h. below_next (λ u. ¬ IsRefused bounds scripts log u) t (before.none_refused h) (λ w. refused-not_idle bounds scripts log t w idle);
    others = λ a r. below_next (λ u. IsIdle scripts log u ⊎ IsWaiting bounds scripts log u) t (before.others a r) (inl idle);
  }

  -- 77. it waits
  seen-waits : IsWaiting bounds scripts log t → IsSeen bounds scripts log (record seen { waits = true }) (t + 1)
  seen-waits waiting = record {
    acts = before.acts;
    waits = λ h. (t, omega arith, waiting);
    none_waits = λ h. absurd (false≢true (sym h));
    refused = λ h. wider (IsRefused bounds scripts log) t (before.refused h);
    none_refused = λ h. below_next (λ u. ¬ IsRefused bounds scripts log u) t (before.none_refused h) (λ w. refused-not_waiting bounds scripts log t w waiting);
    others = λ a r. below_next (λ u. IsIdle scripts log u ⊎ IsWaiting bounds scripts log u) t (before.others a r) (inr waiting);
  }

  -- 78. it is refused
  seen-refused : IsRefused bounds scripts log t → IsSeen bounds scripts log (record seen { refused = true }) (t + 1)
  seen-refused refusing = record {
    acts = before.acts;
    waits = λ h. wider (IsWaiting bounds scripts log) t (before.waits h);
    none_waits = λ h. below_next (λ u. ¬ IsWaiting bounds scripts log u) t (before.none_waits h) (λ w. refused-not_waiting bounds scripts log t refusing w);
    refused = λ h. (t, omega arith, refusing);
    none_refused = λ h. absurd (false≢true (sym h));
    others = λ a r. absurd (false≢true (sym r));
  }

  -- 79. it may go on
  seen-acts : (e : Event) → thread_of e ≡ t → IsNext bounds scripts log e → IsSeen bounds scripts log (record seen { acts = true }) (t + 1)
  seen-acts e own next = record {
    acts = λ h. (e, next);
    waits = λ h. wider (IsWaiting bounds scripts log) t (before.waits h);
    none_waits = λ h. below_next (λ u. ¬ IsWaiting bounds scripts log u) t (before.none_waits h) (λ w. next-not_turned bounds scripts log t e run own next w.refusal w.turned);
    refused = λ h. wider (IsRefused bounds scripts log) t (before.refused h);
    none_refused = λ h. below_next (λ u. ¬ IsRefused bounds scripts log u) t (before.none_refused h) (λ w. next-not_turned bounds scripts log t e run own next w.refusal w.turned);
    others = λ a r. absurd (false≢true (sym a));
  }

-- ---- after all logs for which the state stands

module _ (bounds : Bounds) (scripts : List (List Kind)) (rest : List Event → List Event) (state : State) (t : ℕ) where
  Each : (List Event → Type 0) → Type 0
  Each P = (log : List Event) → IsRunOf bounds scripts log → IsStateOf rest log state → P log

  -- who is turned down or idle has no next event
  clean-none : Each (λ log. (e : Event) → thread_of e ≡ t → IsNext bounds scripts log e → ⊥) → (n : ℕ) (fault : Fault) → IsCleanBy bounds scripts rest n fault state t
  unfolding Each
  clean-none none n fault = record { each = λ log e run stands own next. absurd (none log run stands e own next) }

  kept_on : (start now : List State) (seen after : ThreadsSeen) → IsTried bounds scripts rest state start now seen t → ((n : ℕ) (fault : Fault) → IsCleanBy bounds scripts rest n fault state t) →
      ((log : List Event) → IsRunOf bounds scripts log → IsStateOf rest log state → IsSeen bounds scripts log after (t + 1)) → IsTried bounds scripts rest state start now after (t + 1)
  kept_on start now seen after tried clean threads = record {
    reached = tried.reached;
    leads = λ n fault all. let w = tried.leads n fault all in (w.0, below_next (IsCleanBy bounds scripts rest n fault state) t w.1 (clean n fault));
    threads = threads;
  }

  -- 80. the thread is idle
  pub tried-idle : (start now : List State) (seen : ThreadsSeen) → ((log : List Event) → IsRunOf bounds scripts log → IsStateOf rest log state → IsIdle scripts log t) → IsTried bounds scripts rest state start now seen t → IsTried bounds scripts rest state start now seen (t + 1)
  unfolding Each
  tried-idle start now seen idle tried = kept_on start now seen seen tried
      (clean-none (λ log run stands e own next. next-not_idle bounds scripts log t e run own next (idle log run stands)))
      (λ log run stands. seen-idle bounds scripts log run t seen (tried.threads log run stands) (idle log run stands))

  -- 81. it waits
  pub tried-waits : (start now : List State) (seen : ThreadsSeen) → ((log : List Event) → IsRunOf bounds scripts log → IsStateOf rest log state → IsWaiting bounds scripts log t) → IsTried bounds scripts rest state start now seen t → IsTried bounds scripts rest state start now (record seen { waits = true }) (t + 1)
  unfolding Each
  tried-waits start now seen waits tried = kept_on start now seen (record seen { waits = true }) tried
      (clean-none (λ log run stands e own next. let w = waits log run stands in next-not_turned bounds scripts log t e run own next w.refusal w.turned))
      (λ log run stands. seen-waits bounds scripts log run t seen (tried.threads log run stands) (waits log run stands))

  -- 82. it is refused
  pub tried-refused : (start now : List State) (seen : ThreadsSeen) → ((log : List Event) → IsRunOf bounds scripts log → IsStateOf rest log state → IsRefused bounds scripts log t) → IsTried bounds scripts rest state start now seen t → IsTried bounds scripts rest state start now (record seen { refused = true }) (t + 1)
  unfolding Each
  tried-refused start now seen refused tried = kept_on start now seen (record seen { refused = true }) tried
      (clean-none (λ log run stands e own next. let w = refused log run stands in next-not_turned bounds scripts log t e run own next w.refusal w.turned))
      (λ log run stands. seen-refused bounds scripts log run t seen (tried.threads log run stands) (refused log run stands))

  -- 83. it goes on to a state that is kept
  pub tried-acts : (start old now : List State) (seen : ThreadsSeen) (e : Event) (after : State) → thread_of e ≡ t → ((log : List Event) → IsRunOf bounds scripts log → IsStateOf rest log state → IsNext bounds scripts log e) →
      ((s : State) → Contains now s → Contains old s ⊎ (after ≡ s)) → ((s : State) → Contains old s → Contains now s) → StandsAmong now after →
      IsReached bounds scripts rest after → ((n : ℕ) (fault : Fault) → IsClean bounds scripts rest n fault after → IsCleanBy bounds scripts rest n fault state t) →
      IsTried bounds scripts rest state start old seen t → IsTried bounds scripts rest state start now (record seen { acts = true }) (t + 1)
  tried-acts start old now seen e after own next members before among reached leads tried = record {
    reached = All-kept (IsReached bounds scripts rest) old now after members tried.reached reached;
    leads = λ n fault all.
        let w = tried.leads n fault (All-before (IsClean bounds scripts rest n fault) old now before all) in
        (w.0, below_next (IsCleanBy bounds scripts rest n fault state) t w.1 (leads n fault (clean-among bounds scripts rest n fault now after among all)));
    threads = λ log run stands. seen-acts bounds scripts log run t seen (tried.threads log run stands) e own (next log run stands);
  }
