-- In bounds in which the operations of scripts name as much, the scripts have the same runs, and these the same faults.
use Rattle.std.proofs.Common.{◌≡◌, ℕ, ◌+◌, ◌<◌, List, [], ◌∷◌, ◌++◌, take, drop, Some, refl, sym, ap, ◌∙◌, subst, arith, ⊎_elim, inl, inr}
use Rattle.std.specs.Prelude.{◌↔◌, nat_le, slice_get, IsFalse}
use Rattle.std.proofs.lemmas.Bool.{cases_Bool, cases_lt, leb-false, lt-leb, leb-true, le-leb, or_from, or_parts, false≢true}
use Rattle.std.proofs.lemmas.List.{take-append-drop, take_more}
use Rattle.std.proofs.lemmas.Option.{slice_get_within, get_or_from_slice_get}
use Rattle.velo_events.specs.declared.config.Bounds.{Bounds}
use Rattle.velo_events.specs.declared.event.Event.{Event}
use Rattle.velo_events.specs.declared.event.Kind.{Kind}
use Rattle.velo_events.specs.declared.event.Kind.TheVariants.{Read, Write, Acquire, Release, AcquireShared, ReleaseShared}
use Rattle.velo_events.specs.declared.refusal.Refusal.{Refusal}
use Rattle.velo_events.specs.Event.{thread_of, variable_of, lock_of, is_acquire_by, is_release_by, is_acquire_shared_by, is_release_shared_by}
use Rattle.velo_events.specs.Heap.{shares_in, times}
use Rattle.velo_events.specs.Meaning.{holds, holds_a_lock, is_beyond, is_shared_beside, refusal_of}
use Rattle.velo_events.specs.Tally.{events_of}
use Rattle.velo_events.specs.WellFormed.{NamesKnown}
use Rattle.velo_events.proofs.OnBlocks.{any_below-none}
use Rattle.velo_events.proofs.OnWellFormed.{Facts, Facts-from, any_below-never, count_below, count_below-none, count_below-zero, is_held_by}
use Rattle.velo_search.specs.Faults.{Fault, Cycle, Stuck, Refusing, IsFault, IsRefused, IsTurnedDown, IsWaiting}
use Rattle.velo_search.specs.Fitting.{AreAlike}
use Rattle.velo_search.specs.Runs.{IsRunOf}
use Rattle.velo_search.proofs.OnRuns.{IsNext-last, IsRunOf-before}

pub AreAlike-back : (one other : Bounds) (scripts : List (List Kind)) → AreAlike one other scripts → AreAlike other one scripts
AreAlike-back one other scripts alike = record {
  threads = sym alike.threads;
  names = λ t i k due. let both = alike.names t i k due in (both.1, both.0);
}

-- ---- one operation

-- a number is beyond both counts or none
pub beyond-alike : (x m n : ℕ) → (x < m → x < n) → (x < n → x < m) → nat_le m x ≡ nat_le n x
beyond-alike x m n there back = ⊎_elim
    (λ past. past ∙ sym (le-leb n x (let far = leb-true m x past in ⊎_elim (λ below. absurd (let near = back below in omega (arith, far, near))) (λ above. above) (cases_lt x n))))
    (λ within. within ∙ sym (lt-leb n x (there (leb-false m x within))))
    (cases_Bool (nat_le m x))

module _ (one other : Bounds) (same : one.threads ≡ other.threads) (k : Kind) (names : NamesKnown one k ↔ NamesKnown other k) where
  variable-alike : is_beyond (variable_of k) one.variables ≡ is_beyond (variable_of k) other.variables
  variable-alike = at k names
    where
      at : (k : Kind) → (NamesKnown one k ↔ NamesKnown other k) → is_beyond (variable_of k) one.variables ≡ is_beyond (variable_of k) other.variables
      at (Read x v) both = beyond-alike x.0 _ _ both.0 both.1
      at (Write x v) both = beyond-alike x.0 _ _ both.0 both.1
      at _ both = refl

  lock-alike : is_beyond (lock_of k) one.locks ≡ is_beyond (lock_of k) other.locks
  lock-alike = at k names
    where
      at : (k : Kind) → (NamesKnown one k ↔ NamesKnown other k) → is_beyond (lock_of k) one.locks ≡ is_beyond (lock_of k) other.locks
      at (Acquire m) both = beyond-alike m.0 _ _ both.0 both.1
      at (Release m) both = beyond-alike m.0 _ _ both.0 both.1
      at (AcquireShared m) both = beyond-alike m.0 _ _ both.0 both.1
      at (ReleaseShared m) both = beyond-alike m.0 _ _ both.0 both.1
      at _ both = refl

-- ---- the locks that a thread holds

-- A thread acquires and releases as often in both logs
pub record AreAsOften (log after : List Event) (t : ℕ) : Type 0 where
  pub acquires : times (is_acquire_by t) after ≡ times (is_acquire_by t) log
  pub releases : times (is_release_by t) after ≡ times (is_release_by t) log
  pub shares : times (is_acquire_shared_by t) after ≡ times (is_acquire_shared_by t) log
  pub unshares : times (is_release_shared_by t) after ≡ times (is_release_shared_by t) log

-- where it holds none after the first, it holds none after the second
none-held : (one other : Bounds) (log after : List Event) (t : ℕ) → Facts one log → Facts other after → AreAsOften log after t → IsFalse (holds_a_lock one log t) → IsFalse (holds_a_lock other after t)
unfolding holds_a_lock
none-held one other log after t here there often none =
    let free : (m : ℕ) → m < one.locks → IsFalse (holds log t m) = λ m l. any_below-none one.locks (holds log t) none m l in
    let no_held : count_below one.locks (is_held_by log t) ≡ 0 = count_below-zero one.locks (is_held_by log t) (any_below-never one.locks (is_held_by log t) (λ m l. (or_parts (is_held_by log t m) (shares_in log m t) (free m l)).0)) in
    let no_shared : count_below one.locks (λ m. shares_in log m t) ≡ 0 = count_below-zero one.locks (λ m. shares_in log m t) (any_below-never one.locks (λ m. shares_in log m t) (λ m l. (or_parts (is_held_by log t m) (shares_in log m t) (free m l)).1)) in
    let held : count_below other.locks (is_held_by after t) ≡ 0 = omega (arith, here.held t, there.held t, no_held, often.acquires, often.releases) in
    let shared : count_below other.locks (λ m. shares_in after m t) ≡ 0 = omega (arith, here.shared t, there.shared t, no_shared, often.shares, often.unshares) in
    any_below-never other.locks (holds after t) (λ m l. or_from _ _
    (any_below-none other.locks _ (count_below-none other.locks (is_held_by after t) held) m l)
    (any_below-none other.locks _ (count_below-none other.locks _ shared) m l))

-- so it holds some after both or after none
pub held-alike : (one other : Bounds) (log after : List Event) (t : ℕ) → Facts one log → Facts other after → AreAsOften log after t → holds_a_lock one log t ≡ holds_a_lock other after t
held-alike one other log after t here there often =
    let back : AreAsOften after log t = record { acquires = sym often.acquires; releases = sym often.releases; shares = sym often.shares; unshares = sym often.unshares } in
    ⊎_elim
    (λ some. some ∙ sym (⊎_elim (λ also. also) (λ none. absurd (false≢true (sym (none-held other one after log t there here back none) ∙ some))) (cases_Bool (holds_a_lock other after t))))
    (λ none. none ∙ sym (none-held one other log after t here there often none))
    (cases_Bool (holds_a_lock one log t))

-- ---- refusals

refusal-alike : (one other : Bounds) (log : List Event) (t : ℕ) (k : Kind) → one.threads ≡ other.threads → (NamesKnown one k ↔ NamesKnown other k) → Facts one log → Facts other log →
    refusal_of one log t k ≡ refusal_of other log t k
unfolding refusal_of is_shared_beside holds_a_lock
refusal-alike one other log t k same names here there = rw (same, variable-alike one other same k names, lock-alike one other same k names, held-alike one other log log t here there (record { acquires = refl; releases = refl; shares = refl; unshares = refl })) refl

-- ---- runs

module _ (one other : Bounds) (scripts : List (List Kind)) (alike : AreAlike one other scripts) where
  -- each event of a run does an operation of the scripts
  named : (log : List Event) (i : ℕ) (e : Event) → IsRunOf one scripts log → slice_get log i ≡ Some e → NamesKnown one e.kind ↔ NamesKnown other e.kind
  named log i e run here =
      let first : take (i + 1) log ≡ take i log ++ e ∷ [] =
      take_more log i e (slice_get_within log i e here) ∙ ap (λ f. take i log ++ f ∷ []) (get_or_from_slice_get log i e e here) in
      let split : (take i log ++ e ∷ []) ++ drop (i + 1) log ≡ log = ap (λ xs. xs ++ drop (i + 1) log) (sym first) ∙ take-append-drop (i + 1) log in
      let next = IsNext-last one scripts (take i log) e (IsRunOf-before one scripts (take i log ++ e ∷ []) (drop (i + 1) log) (subst (IsRunOf one scripts) (sym split) run)) in
      alike.names (thread_of e) (events_of (take i log) (thread_of e)) e.kind next.due

  -- the runs are the same
  pub IsRunOf-alike : (log : List Event) → IsRunOf one scripts log → IsRunOf other scripts log
  IsRunOf-alike log run = record {
    well_formed = record {
      each = λ i e here.
          let follows = run.well_formed.each i e here in
          record {
            known_thread = subst (λ n. thread_of e < n) alike.threads follows.known_thread;
            known_names = (named log i e run here).0 follows.known_names;
            born = follows.born;
            not_exited = follows.not_exited;
            in_turn = follows.in_turn;
          };
    };
    own = run.own;
  }

  -- ---- faults

  turned-alike : (log : List Event) (t : ℕ) (r : Refusal) → IsRunOf one scripts log → IsTurnedDown one scripts log t r → IsTurnedDown other scripts log t r
  turned-alike log t r run turned = record {
    kind = turned.kind;
    due = turned.due;
    refused =
        sym (refusal-alike one other log t turned.kind alike.threads (alike.names t (events_of log t) turned.kind turned.due)
        (Facts-from one log run.well_formed) (Facts-from other log (IsRunOf-alike log run).well_formed))
        ∙ turned.refused;
    born = turned.born;
  }

  waiting-alike : (log : List Event) (t : ℕ) → IsRunOf one scripts log → IsWaiting one scripts log t → IsWaiting other scripts log t
  waiting-alike log t run w = record { refusal = w.refusal; turned = turned-alike log t w.refusal run w.turned; waits = w.waits }

  refused-alike : (log : List Event) (t : ℕ) → IsRunOf one scripts log → IsRefused one scripts log t → IsRefused other scripts log t
  refused-alike log t run w = record { refusal = w.refusal; turned = turned-alike log t w.refusal run w.turned; for_good = w.for_good }

  -- and have the same faults
  pub IsFault-alike : (rest : List Event → List Event) (fault : Fault) (log : List Event) → IsRunOf one scripts log → IsFault one scripts rest fault log → IsFault other scripts rest fault log
  IsFault-alike rest Cycle log run bad = bad
  IsFault-alike rest Stuck log run bad = record {
    each = λ t below. ⊎_elim (λ idle. inl idle) (λ waits. inr (waiting-alike log t run waits)) (bad.each t (subst (λ n. t < n) (sym alike.threads) below));
    some = (bad.some.0, subst (λ n. bad.some.0 < n) alike.threads bad.some.1, waiting-alike log bad.some.0 run bad.some.2);
  }
  IsFault-alike rest Refusing log run bad = record {
    some = (bad.some.0, subst (λ n. bad.some.0 < n) alike.threads bad.some.1, refused-alike log bad.some.0 run bad.some.2);
  }
