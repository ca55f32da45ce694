-- What the seats of a run that is done say of its threads.
use Rattle.std.proofs.Common.{◌≡◌, ℕ, zero, suc, ◌+◌, ◌<◌, Bool, true, false, cond, List, [], ◌∷◌, length, get_or, refl, sym, ◌∙◌, ap, subst, inl, inr, arith, Some, None, Option}
use Rattle.std.specs.Prelude.{All, count_by, ◌==◌, ◌⊎◌, if◌then◌else◌, slice_get}
use Rattle.std.specs.Prelude.{◌||◌}
use Rattle.std.specs.List.{list_any}
use Rattle.std.specs.Option.{option_or}
use Rattle.std.proofs.lemmas.Bool.{eqb-true, eq-eqb, or_left, or_right}
use Rattle.std.proofs.lemmas.List.Sums.{sum_by-cons}
use Rattle.velo_events.specs.declared.event.Event.{Event}
use Rattle.velo_events.specs.declared.event.Kind.TheVariants.{Exit}
use Rattle.velo_events.specs.declared.event.Status.{Status}
use Rattle.velo_events.specs.declared.event.Status.TheVariants.{Unborn, Exited, Joined}
use Rattle.velo_events.specs.Event.{is_by, is_exit_by, is_join_of}
use Rattle.velo_events.specs.Heap.{happened, latest, was_born, status_in}
use Rattle.velo_events.specs.Meaning.{is_unborn}
use Rattle.velo_events.proofs.OnStatuses.{is_Unborn, status_by}
use Rattle.velo_ledger.specs.Views.{Holding}
use Rattle.velo_runtime.specs.Seats.{AreSeatsOf, event_by, is_of}
use Rattle.velo_workload.specs.Program.{Program}
use Rattle.velo_world.specs.World.{WorldState, FitsLog}
use Rattle.velo_worker.specs.Live.{AllDone, DidBody, HasDone}

-- ---- a seat that is counted is there

record Found (p : Holding → Bool) (seats : List Holding) : Type 0 where
  seat : Holding
  place : ℕ
  within : place < length seats
  there : get_or seats place seat ≡ seat
  passes : p seat ≡ true

further : (p : Holding → Bool) (x : Holding) (xs : List Holding) → Found p xs → Found p (x ∷ xs)
further p x xs f = let lt = f.within in record { seat = f.seat; place = suc f.place; within = omega (arith, lt); there = f.there; passes = f.passes }

found_at : (p : Holding → Bool) (x : Holding) (xs : List Holding) (b : Bool) → p x ≡ b → cond b 1 0 + count_by p xs ≡ 1 → (count_by p xs ≡ 1 → Found p xs) → Found p (x ∷ xs)
found_at p x xs true is e rest = record { seat = x; place = 0; within = omega arith; there = refl; passes = is }
found_at p x xs false is e rest = further p x xs (rest (omega (arith, e)))

found : (p : Holding → Bool) (xs : List Holding) → count_by p xs ≡ 1 → Found p xs
found p [] e = absurd (omega (arith, e))
found p (x ∷ xs) e = found_at p x xs (p x) refl (rw (sum_by-cons (λ y. cond (p y) 1 0) x xs) at e) (λ h. found p xs h)

-- ---- a thread whose last event is its exit

some_or : {X : Type 0} (o p : Option X) (x : X) → option_or o p ≡ Some x → (o ≡ Some x) ⊎ (p ≡ Some x)
some_or None p x h = inr h
some_or (Some y) p x h = inl h

first_passes : (b : Bool) (f e : Event) → (if b then Some f else None) ≡ Some e → f ≡ e
first_passes true f e h = cc
first_passes false f e h = cc

passes_in : (other : Event → Bool) (f e : Event) (fs : List Event) (o : Option Event) (b : Bool) → other e ≡ true → (o ≡ Some e → list_any other fs ≡ true)
    → (o ≡ Some e) ⊎ ((if b then Some f else None) ≡ Some e) → (other f || list_any other fs) ≡ true
passes_in other f e fs o b passes rest (inl later) = or_right _ _ (rest later)
passes_in other f e fs o b passes rest (inr now) = or_left _ _ (ap other (first_passes b f e now) ∙ passes)

latest_passes : (test other : Event → Bool) (log : List Event) (e : Event) → other e ≡ true → latest test log ≡ Some e → happened other log ≡ true
unfolding latest happened
latest_passes test other [] e passes h = cc
latest_passes test other (f ∷ fs) e passes h =
    passes_in other f e fs (latest test fs) (test f) passes (latest_passes test other fs e passes) (some_or (latest test fs) (if test f then Some f else None) e h)

exited_by : (j b : Bool) → (status_by j true b ≡ Exited) ⊎ (status_by j true b ≡ Joined)
exited_by true b = inr refl
exited_by false b = inl refl

exited : (log : List Event) (t : ℕ) → happened (is_exit_by t) log ≡ true → (status_in log t ≡ Exited) ⊎ (status_in log t ≡ Joined)
exited log t h = rw h (exited_by (happened (is_join_of t) log) (was_born log t))

-- ---- all threads

did_body : (program : Program) (w : WorldState) (t : ℕ) (seat : Holding) → seat.thread.0 ≡ t → HasDone program seat → FitsLog w seat → DidBody program w.log t
did_body program w t seat own done fits =
    let tally = fits.tally in
    let last : latest (is_by seat.thread.0) w.log ≡ Some (event_by seat Exit) = ap (λ y. y.last) (sym tally) ∙ done.last in
    let exit : is_exit_by seat.thread.0 (event_by seat Exit) ≡ true = rw (eq-eqb seat.thread.0 seat.thread.0 refl) refl in
    rw (← own) (record {
      exited = exited w.log seat.thread.0 (latest_passes (is_by seat.thread.0) (is_exit_by seat.thread.0) w.log (event_by seat Exit) exit last);
      body = done.body;
      here = done.here;
      count = ap (λ y. y.events) (sym tally) ∙ done.count;
    })

-- the seats with which a world closes are those of the threads that were born
pub all_did : (program : Program) (w : WorldState) (seats : List Holding) → AreSeatsOf w seats → All (HasDone program) seats → AllDone program w
all_did program w seats of done = record { each = each }
  where
    born : (t : ℕ) → count_by (is_of t) seats ≡ 1 → DidBody program w.log t
    born t one =
        let f = found (is_of t) seats one in
        did_body program w t f.seat (eqb-true f.seat.thread.0 t f.passes) (rw f.there at (done f.place f.seat f.within)) (rw f.there at (of.fit f.place f.seat f.within))

    go : (t : ℕ) (b : Bool) → is_unborn (status_in w.log t) ≡ b → count_by (is_of t) seats ≡ (if b then 0 else 1) → (status_in w.log t ≡ Unborn) ⊎ DidBody program w.log t
    go t true is count = inl (is_Unborn (status_in w.log t) is)
    go t false is count = inr (born t count)

    each : (t : ℕ) → t < w.config.bounds.threads → (status_in w.log t ≡ Unborn) ⊎ DidBody program w.log t
    each t lt = go t (is_unborn (status_in w.log t)) refl (of.each t lt)
