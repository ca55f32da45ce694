-- Seats that go to the places of their threads.
use Rattle.std.proofs.Common.{◌≡◌, ◌≢◌, ⊎_elim, refl, sym, ap, ◌∙◌, subst, ℕ, ◌+◌, ◌<◌, ◌≤◌, cond, List, [], ◌∷◌, ◌++◌, length, set, replicate, arith, get_or}
use Rattle.std.specs.Prelude.{Option, Some, None, slice_get, All, count_by, if◌then◌else◌}
use Rattle.std.proofs.lemmas.Bool.{cases_eq, cases_Bool, eq-eqb, ne_eqb, false≢true}
use Rattle.std.proofs.lemmas.List.{set-set, set-get_or}
use Rattle.std.proofs.lemmas.List.Elements.{All-nil, All-pop, All-push}
use Rattle.std.proofs.lemmas.List.Sums.{sum_by_push, sum_by-set}
use Rattle.std.proofs.lemmas.Option.{slice_get_within, slice_get-get_or, get_or_from_slice_get, same_Some, none-some}
use Rattle.velo_events.specs.declared.event.Status.{Status}
use Rattle.velo_events.specs.declared.event.Status.TheVariants.{Unborn, Live, Exited, Joined}
use Rattle.velo_events.specs.Heap.{status_in}
use Rattle.velo_events.specs.Meaning.{is_unborn}
use Rattle.velo_ledger.specs.Views.{Holding}
use Rattle.velo_ledger.specs.Shares.{events_in, events_in_all, share_at}
use Rattle.velo_ledger.proofs.Places.{slice_get-set_same, slice_get-set_other, slice_get-replicate}
use Rattle.velo_world.specs.World.{WorldState}
use Rattle.velo_world.specs.World.{FitsLog, HasShare, CompletesShares}
use Rattle.velo_runtime.specs.Seats.{AreSeatsOf, is_of}
use Rattle.velo_runtime.specs.Places.{seats_due, events_of_all, PlaceAwaits, AreTogether}

pub no_items : (xs : List Holding) → length xs ≡ 0 → xs ≡ []
no_items [] none = refl
no_items (x ∷ xs) none = absurd (omega (arith, none))

-- ---- no share is at a place yet

pub AreTogether-start : (w : WorldState) (seats : List Holding) → AreSeatsOf w seats → AreTogether w (replicate w.config.bounds.threads None) seats
AreTogether-start w seats are = record {
  fit = are.fit;
  each = λ t lt. rw (slice_get-replicate {X = Option Holding} w.config.bounds.threads t None lt) (are.each t lt);
}

pub AreSeatsOf-start : (w : WorldState) (seats : List Holding) → AreTogether w (replicate w.config.bounds.threads None) seats → AreSeatsOf w seats
AreSeatsOf-start w seats are = record {
  fit = are.fit;
  each = λ t lt. rw (slice_get-replicate {X = Option Holding} w.config.bounds.threads t None lt) at (are.each t lt);
}

-- ---- one seat more

count-push : (t : ℕ) (rest : List Holding) (s : Holding) → count_by (is_of t) (rest ++ s ∷ []) ≡ count_by (is_of t) rest + (if is_of t s then 1 else 0)
count-push t rest s = sum_by_push (λ x. cond {A = ℕ} (is_of t x) 1 0) rest s

count-own : (t : ℕ) (rest : List Holding) (s : Holding) → s.thread.0 ≡ t → count_by (is_of t) (rest ++ s ∷ []) ≡ count_by (is_of t) rest + 1
count-own t rest s is = count-push t rest s ∙ ap (λ b. count_by (is_of t) rest + cond {A = ℕ} b 1 0) (eq-eqb _ _ is)

count-other : (t : ℕ) (rest : List Holding) (s : Holding) → s.thread.0 ≢ t → count_by (is_of t) (rest ++ s ∷ []) ≡ count_by (is_of t) rest
count-other t rest s other =
    let zero : count_by (is_of t) rest + 0 ≡ count_by (is_of t) rest = omega arith in
    count-push t rest s ∙ (ap (λ b. count_by (is_of t) rest + cond {A = ℕ} b 1 0) (ne_eqb _ _ other) ∙ zero)

seats_due-le : (w : WorldState) (t : ℕ) → seats_due w t ≤ 1
seats_due-le w t = ⊎_elim (λ h. rw h (omega arith)) (λ h. rw h (omega arith)) (cases_Bool (is_unborn (status_in w.log t)))

empty_at : (w : WorldState) (t left : ℕ) (place : Option (Option Holding)) → 0 < left → PlaceAwaits w t left place → place ≡ Some None
empty_at w t left None some h = absurd h
empty_at w t left (Some None) some h = refl
empty_at w t left (Some (Some share)) some h = let none = h.2 in absurd (omega arith)

module _ (w : WorldState) (places : List (Option Holding)) (rest : List Holding) (s : Holding) where
  -- while the seat is left, its place is empty
  pub place_is_empty : AreTogether w places (rest ++ s ∷ []) → slice_get places s.thread.0 ≡ Some None
  place_is_empty are = empty_at w s.thread.0 (count_by (is_of s.thread.0) rest + 1) (slice_get places s.thread.0) (omega arith) own
    where
      own : PlaceAwaits w s.thread.0 (count_by (is_of s.thread.0) rest + 1) (slice_get places s.thread.0)
      own = rw (count-own s.thread.0 rest s refl) at (are.each s.thread.0 (All-pop (FitsLog w) (rest ++ s ∷ []) rest (Some s) refl are.fit).1.thread)

  module _ (is_empty : slice_get places s.thread.0 ≡ Some None) where
    within : s.thread.0 < length places
    within = slice_get_within places s.thread.0 None is_empty

    there : slice_get (set places s.thread.0 (Some s)) s.thread.0 ≡ Some (Some s)
    there = slice_get-set_same places s.thread.0 (Some s) within

    pub AreTogether-next : AreTogether w places (rest ++ s ∷ []) → AreTogether w (set places s.thread.0 (Some s)) rest
    AreTogether-next are = record {
      fit = parts.0;
      each = λ t lt. ⊎_elim
          (λ is. subst (λ k. PlaceAwaits w k (count_by (is_of k) rest) (slice_get (set places s.thread.0 (Some s)) k)) is filled)
          (λ other. rw (slice_get-set_other places s.thread.0 t (Some s) other) (rw (count-other t rest s other) at (are.each t lt)))
          (cases_eq s.thread.0 t);
    }
      where
        parts : All (FitsLog w) rest × FitsLog w s
        parts = All-pop (FitsLog w) (rest ++ s ∷ []) rest (Some s) refl are.fit

        due : count_by (is_of s.thread.0) rest + 1 ≡ seats_due w s.thread.0
        due = rw (count-own s.thread.0 rest s refl, is_empty) at (are.each s.thread.0 parts.1.thread)

        filled : PlaceAwaits w s.thread.0 (count_by (is_of s.thread.0) rest) (slice_get (set places s.thread.0 (Some s)) s.thread.0)
        filled = let most = seats_due-le w s.thread.0 in rw there (parts.1, refl, omega (arith, due, most), omega (arith, due, most))

    pub AreTogether-before : length places ≡ w.config.bounds.threads → AreTogether w (set places s.thread.0 (Some s)) rest → AreTogether w places (rest ++ s ∷ [])
    AreTogether-before count are = record {
      fit = All-push (FitsLog w) rest s are.fit filled.0;
      each = λ t lt. ⊎_elim
          (λ is. subst (λ k. PlaceAwaits w k (count_by (is_of k) (rest ++ s ∷ [])) (slice_get places k)) is due)
          (λ other. rw (count-other t rest s other) (rw (slice_get-set_other places s.thread.0 t (Some s) other) at (are.each t lt)))
          (cases_eq s.thread.0 t);
    }
      where
        filled : FitsLog w s × (s.thread.0 ≡ s.thread.0) × (count_by (is_of s.thread.0) rest ≡ 0) × (seats_due w s.thread.0 ≡ 1)
        filled = rw there at (are.each s.thread.0 (let lt = within in omega arith))

        due : PlaceAwaits w s.thread.0 (count_by (is_of s.thread.0) (rest ++ s ∷ [])) (slice_get places s.thread.0)
        due = let none = filled.2 in let one = filled.3 in rw (is_empty, count-own s.thread.0 rest s refl) (omega (arith, none, one))

    -- the events that are counted stay
    pub events-next : events_in_all (set places s.thread.0 (Some s)) + events_of_all rest ≡ events_in_all places + events_of_all (rest ++ s ∷ [])
    events-next =
        let counted = sum_by_push (λ x. x.tally.events) rest s in
        let placed = sum_by-set events_in places s.thread.0 (Some s) None within in
        let none : events_in (get_or places s.thread.0 None) ≡ 0 = ap events_in (get_or_from_slice_get places s.thread.0 None None is_empty) in
        omega (arith, counted, placed, none)

    -- the share is at its place
    pub taken_is : share_at (set places s.thread.0 (Some s)) s.thread ≡ Some s
    taken_is = rw there refl

    -- and without it the places are as they were
    pub places-back : set (set places s.thread.0 (Some s)) s.thread.0 None ≡ places
    places-back =
        set-set places s.thread.0 (Some s) None
        ∙ (ap (set places s.thread.0) (sym (get_or_from_slice_get places s.thread.0 None None is_empty)) ∙ set-get_or places s.thread.0 None)

-- ---- all seats are at their places

due_of : (status : Status) → status ≢ Unborn → cond {A = ℕ} (is_unborn status) 0 1 ≡ 1
due_of Unborn other = absurd (other refl)
due_of Live other = refl
due_of Exited other = refl
due_of Joined other = refl

share_at_end : (w : WorldState) (places : List (Option Holding)) (t : ℕ) (place : Option (Option Holding)) → slice_get places t ≡ place → PlaceAwaits w t 0 place → seats_due w t ≡ 1 → HasShare w places t
share_at_end w places t None is h due = absurd h
share_at_end w places t (Some None) is h due = absurd (omega (arith, h, due))
share_at_end w places t (Some (Some share)) is h due = record { share = share; there = is; own = h.1; fits = h.0 }

born_at_end : (w : WorldState) (places : List (Option Holding)) (t : ℕ) (share : Holding) → slice_get places t ≡ Some (Some share) → PlaceAwaits w t 0 (slice_get places t) → status_in w.log t ≢ Unborn
born_at_end w places t share there h unborn =
    let at : PlaceAwaits w t 0 (Some (Some share)) = rw there at h in
    let none : seats_due w t ≡ 0 = ap (λ status. cond {A = ℕ} (is_unborn status) 0 1) unborn in
    let one = at.3 in
    omega (arith, none, one)

module _ (w : WorldState) (places : List (Option Holding)) (count : length places ≡ w.config.bounds.threads) where
  pub CompletesShares-end : AreTogether w places [] → CompletesShares w places
  CompletesShares-end are = record {
    born = λ t born. share_at_end w places t (slice_get places t) refl (are.each t born.0) (due_of (status_in w.log t) born.1);
    no_other = λ t share there. let lt = below t share there in (lt, born_at_end w places t share there (are.each t lt));
  }
    where
      below : (t : ℕ) (share : Holding) → slice_get places t ≡ Some (Some share) → t < w.config.bounds.threads
      below t share there = let inside = slice_get_within places t (Some share) there in omega (arith, inside, count)

  awaits_at : (t : ℕ) (place : Option (Option Holding)) → slice_get places t ≡ place → t < w.config.bounds.threads → CompletesShares w places → PlaceAwaits w t 0 place
  awaits_at t None is lt complete = absurd (none-some (get_or places t None) (sym is ∙ slice_get-get_or places t None (omega (arith, lt, count))))
  awaits_at t (Some None) is lt complete = ⊎_elim
      (λ unborn. rw unborn refl)
      (λ born. (let has = complete.born t (lt, λ unborn. false≢true (sym born ∙ ap is_unborn unborn)) in absurd (none-some has.share (same_Some None (Some has.share) (sym is ∙ has.there)))))
      (cases_Bool (is_unborn (status_in w.log t)))
  awaits_at t (Some (Some share)) is lt complete =
      let born = complete.no_other t share is in
      let has = complete.born t born in
      let same : has.share ≡ share = same_Some has.share share (same_Some (Some has.share) (Some share) (sym has.there ∙ is)) in
      (subst (FitsLog w) same has.fits, ap (λ (s : Holding). s.thread.0) (sym same) ∙ has.own, refl, due_of (status_in w.log t) born.1)

  pub AreTogether-end : CompletesShares w places → AreTogether w places []
  AreTogether-end complete = record {
    fit = All-nil (FitsLog w);
    each = λ t lt. awaits_at t (slice_get places t) refl lt complete;
  }
