-- How the ends of workers are gone through, one after another.
use Rattle.std.proofs.Common.{◌≡◌, ◌≢◌, ◌<◌, ◌≤◌, ℕ, ◌+◌, true, false, List, length, get_or, refl, sym, ◌∙◌, ap, subst, inl, inr, arith, Some, None, Option}
use Rattle.std.specs.Prelude.{slice_get, ◌⊎◌, All, nat_le}
use Rattle.std.proofs.lemmas.Bool.{cases_Bool, cases_eq, leb-true, leb-false}
use Rattle.std.proofs.lemmas.Option.{slice_get-get_or, slice_get_within, get_or_from_slice_get}
use Rattle.velo_events.specs.declared.event.ThreadId.{ThreadId}
use Rattle.velo_events.specs.declared.refusal.Refusal.{Refusal}
use Rattle.velo_events.specs.declared.refusal.Refusal.TheVariants.{Halted}
use Rattle.velo_worker.specs.declared.outcome.Outcome.{Outcome}
use Rattle.velo_worker.specs.declared.outcome.Outcome.TheVariants.{Done, Gated, Refused}
use Rattle.velo_worker.specs.Live.{IsAnyGated, IsAnyHalted, LeastMet, WorkerEnd, lesser, met}

-- among the first n workers, the least thread that met a refusal
pub record IsLeastUpTo (ended : List WorkerEnd) (n : ℕ) (t : ThreadId) (r : Refusal) : Type 0 where
  pub place : ℕ
  pub worker : WorkerEnd
  pub there : slice_get ended place ≡ Some worker
  pub own : worker.seat.thread ≡ t
  pub refused : met worker.outcome ≡ Some r
  pub least : (i : ℕ) (other : WorkerEnd) (s : Refusal) → i < n → slice_get ended i ≡ Some other → met other.outcome ≡ Some s → t.0 ≤ other.seat.thread.0

abbrev pub LeastUpTo : List WorkerEnd → ℕ → Option (ThreadId × Refusal) → Type 0
LeastUpTo ended n None = (i : ℕ) (other : WorkerEnd) → i < n → slice_get ended i ≡ Some other → met other.outcome ≡ None
LeastUpTo ended n (Some found) = IsLeastUpTo ended n found.0 found.1

-- the n-th worker, or one before it
next : (ended : List WorkerEnd) (n : ℕ) (worker : WorkerEnd) → slice_get ended n ≡ Some worker → (P : WorkerEnd → Type 0) → P worker
    → ((i : ℕ) (other : WorkerEnd) → i < n → slice_get ended i ≡ Some other → P other)
    → (i : ℕ) (other : WorkerEnd) → i < n + 1 → slice_get ended i ≡ Some other → P other
next ended n worker here P now before i other lt there = go (cases_eq i n)
  where
    go : (i ≡ n) ⊎ (i ≢ n) → P other
    go (inl e) = let both : Some other ≡ Some worker = sym there ∙ ap (slice_get ended) e ∙ here in let same : other ≡ worker = cc in subst P (sym same) now
    go (inr ne) = before i other (omega (arith, lt, ne)) there

pub Least-first : (ended : List WorkerEnd) (n : ℕ) (worker : WorkerEnd) (r : Refusal) → slice_get ended n ≡ Some worker → met worker.outcome ≡ Some r
    → ((i : ℕ) (other : WorkerEnd) (s : Refusal) → i < n → slice_get ended i ≡ Some other → met other.outcome ≡ Some s → worker.seat.thread.0 ≤ other.seat.thread.0)
    → IsLeastUpTo ended (n + 1) worker.seat.thread r
Least-first ended n worker r here m before =
    let Beyond : WorkerEnd → Type 0 = λ other. (s : Refusal) → met other.outcome ≡ Some s → worker.seat.thread.0 ≤ other.seat.thread.0 in
    let all = next ended n worker here Beyond (λ s e. omega arith) (λ i other lt there s e. before i other s lt there e) in
    record { place = n; worker = worker; there = here; own = refl; refused = m; least = λ i other s lt there e. all i other lt there s e }

pub Least-kept : (ended : List WorkerEnd) (n : ℕ) (t : ThreadId) (u r : Refusal) (worker : WorkerEnd) → slice_get ended n ≡ Some worker → t.0 ≤ worker.seat.thread.0
    → IsLeastUpTo ended n t u → IsLeastUpTo ended (n + 1) t u
Least-kept ended n t u r worker here le h =
    let Beyond : WorkerEnd → Type 0 = λ other. (s : Refusal) → met other.outcome ≡ Some s → t.0 ≤ other.seat.thread.0 in
    let all = next ended n worker here Beyond (λ s e. le) (λ i other lt there s e. h.least i other s lt there e) in
    record { place = h.place; worker = h.worker; there = h.there; own = h.own; refused = h.refused; least = λ i other s lt there e. all i other lt there s e }

pub Least-take : (ended : List WorkerEnd) (n : ℕ) (least : Option (ThreadId × Refusal)) (worker : WorkerEnd) (r : Refusal) → slice_get ended n ≡ Some worker → met worker.outcome ≡ Some r
    → LeastUpTo ended n least → LeastUpTo ended (n + 1) (Some (lesser least worker.seat.thread r))
Least-take ended n None worker r here m before = Least-first ended n worker r here m (λ i other s lt there e. absurd (none_some (sym (before i other lt there) ∙ e)))
  where
    none_some : {s : Refusal} → None ≡ Some s → ⊥
    none_some e = cc
Least-take ended n (Some found) worker r here m h = go (cases_Bool (nat_le found.0.0 worker.seat.thread.0))
  where
    go : (nat_le found.0.0 worker.seat.thread.0 ≡ true) ⊎ (nat_le found.0.0 worker.seat.thread.0 ≡ false) → LeastUpTo ended (n + 1) (Some (lesser (Some found) worker.seat.thread r))
    go (inl yes') = rw yes' (Least-kept ended n found.0 found.1 r worker here (leb-true found.0.0 worker.seat.thread.0 yes') h)
    go (inr no') =
        let lt : worker.seat.thread.0 < found.0.0 = leb-false found.0.0 worker.seat.thread.0 no' in
        rw no' (Least-first ended n worker r here m (λ i other s l there e. let le = h.least i other s l there e in omega (arith, lt, le)))

pub Least-end : (ended : List WorkerEnd) (n : ℕ) (least : Option (ThreadId × Refusal)) → length ended ≤ n → LeastUpTo ended n least → LeastMet ended least
Least-end ended n None end before = λ i other there. let lt = slice_get_within ended i other there in before i other (omega (arith, lt, end)) there
Least-end ended n (Some found) end h =
    record {
      place = h.place;
      worker = h.worker;
      there = h.there;
      own = h.own;
      refused = h.refused;
      least = λ i other s there m. let lt = slice_get_within ended i other there in h.least i other s (omega (arith, lt, end)) there m;
    }

-- ---- no worker was gated, met a refusal or found the world halted

done_of : (outcome : Outcome) → outcome ≢ Gated → met outcome ≡ None → outcome ≢ Refused Halted → outcome ≡ Done
done_of Done g m h = refl
done_of Gated g m h = absurd (g refl)
done_of (Refused Halted) g m h = absurd (h refl)
done_of (Refused r) g m h = cc

pub all_done : (ended : List WorkerEnd) → ¬ IsAnyGated ended → LeastMet ended None → ¬ IsAnyHalted ended → All (λ worker. worker.outcome ≡ Done) ended
all_done ended gated none halted k d lt =
    let worker = get_or ended k d in
    let here = slice_get-get_or ended k d lt in
    let same = get_or_from_slice_get ended k worker worker here in
    done_of worker.outcome (λ e. gated (k, worker, lt, same, e)) (none k worker here) (λ e. halted (k, worker, lt, same, e))
