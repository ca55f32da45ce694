-- Shares that are there and fit.
use Rattle.std.proofs.Common.{◌≡◌, ◌<◌, ◌≤◌, ◌⊎◌, inl, inr, ⊎_elim, ℕ, ◌+◌, List, [], ◌∷◌, ◌++◌, length, Option, Some, None, option_and_then, refl, sym, ap, subst, ◌∙◌, arith, add-zero, get_or, sum_by, take, take_all, below_more}
use Rattle.std.specs.Prelude.{slice_get}
use Rattle.std.specs.Option.{option_map_or, SomeIff}
use Rattle.std.proofs.lemmas.Option.{slice_get_within, slice_get_past, slice_get_cases, same_Some, none-some}
use Rattle.std.proofs.lemmas.List.{length_push, length-replicate}
use Rattle.std.proofs.lemmas.List.Sums.{sum_by_more}
use Rattle.velo_events.proofs.OnTraces.{slice_get-append, slice_get-push}
use Rattle.velo_ledger.specs.declared.tally.Tally.{Tally}
use Rattle.velo_ledger.specs.Tally.{blank}
use Rattle.velo_ledger.specs.Views.{Accounts, Holding}
use Rattle.velo_ledger.specs.Shares.{AreInPlace, AreOpening, opening_share, events_in, events_in_all, share_in}
use Rattle.velo_ledger.specs.Book.{FitsBook, PlacesFit, IsFilled, HasAllShares, HaveAllShares, opening_accounts}
use Rattle.velo_ledger.proofs.Places.{slice_get-replicate, some_below, not_both, not_in_nil}

-- ---- the share in a place

in_place : (place : Option (Option Holding)) (share : Holding) → option_and_then (λ p. p) place ≡ Some share → place ≡ Some (Some share)
in_place None share is = absurd (none-some share is)
in_place (Some None) share is = absurd (none-some share is)
in_place (Some (Some other)) share is = ap Some is

is_there : (places : List (Option Holding)) (t : ℕ) (share : Holding) → share_in places t ≡ Some share → slice_get places t ≡ Some (Some share)
is_there places t share is = in_place (slice_get places t) share is

not_filled : (places : List (Option Holding)) (t : ℕ) → share_in places t ≡ None → ¬ IsFilled places t
not_filled places t none has = not_both (share_in places t) has.0 none (ap (option_and_then (λ p. p)) has.1)

-- ---- place by place

fits_beside : (book : Accounts) (t : ℕ) (share : Holding) (other : Option Holding) → PlacesFit book t (Some share) other → FitsBook book share
fits_beside book t share None fit = fit
fits_beside book t share (Some other) fit = absurd fit

fits_after : (book : Accounts) (t : ℕ) (other : Option Holding) (share : Holding) → PlacesFit book t other (Some share) → FitsBook book share
fits_after book t None share fit = fit
fits_after book t (Some other) share fit = absurd fit

module _ (book : Accounts) (kept given : List (Option Holding)) where
  there_at : (t : ℕ) (k g : Option Holding) → share_in kept t ≡ k → share_in given t ≡ g → PlacesFit book t k g → t < length book.rows → IsFilled kept t ⊎ IsFilled given t
  there_at t None None k_is g_is fit lt = absurd (omega arith)
  there_at t (Some share) None k_is g_is fit lt = inl (share, is_there kept t share k_is)
  there_at t None (Some share) k_is g_is fit lt = inr (share, is_there given t share g_is)
  there_at t (Some share) (Some other) k_is g_is fit lt = absurd fit

  -- where each place of both is as it should be, and none is further on
  pub complete_by_places : (n : ℕ) → length book.rows ≤ n → length kept ≤ n → length given ≤ n → ((t : ℕ) → t < n → PlacesFit book t (share_in kept t) (share_in given t)) → HaveAllShares book kept given
  complete_by_places n rows kepts givens fit = record {
    there = λ t lt. there_at t (share_in kept t) (share_in given t) refl refl (fit t (omega arith)) lt;
    once = λ t k g. (let inside = slice_get_within kept t (Some k.0) k.1 in rw (k.1, g.1) at (fit t (omega arith)));
    kept_fit = λ t share is. (let inside = slice_get_within kept t (Some share) is in fits_beside book t share (share_in given t) (rw is at (fit t (omega arith))));
    given_fit = λ t share is. (let inside = slice_get_within given t (Some share) is in fits_after book t (share_in kept t) share (rw is at (fit t (omega arith))));
  }

  fit_at : (t : ℕ) (k g : Option Holding) → share_in kept t ≡ k → share_in given t ≡ g → HaveAllShares book kept given → PlacesFit book t k g
  fit_at t None None k_is g_is complete = some_below t (length book.rows) (λ lt. ⊎_elim (not_filled kept t k_is) (not_filled given t g_is) (complete.there t lt))
  fit_at t (Some share) None k_is g_is complete = complete.kept_fit t share (is_there kept t share k_is)
  fit_at t None (Some share) k_is g_is complete = complete.given_fit t share (is_there given t share g_is)
  fit_at t (Some share) (Some other) k_is g_is complete = complete.once t (share, is_there kept t share k_is) (other, is_there given t other g_is)

  pub places_fit : (t : ℕ) → HaveAllShares book kept given → PlacesFit book t (share_in kept t) (share_in given t)
  places_fit t complete = fit_at t (share_in kept t) (share_in given t) refl refl complete

-- one list of places is two, of which the first has no place
pub all-alone : (book : Accounts) (places : List (Option Holding)) → HasAllShares book places → HaveAllShares book [] places
all-alone book places all = record {
  there = λ t lt. inr (all.there t lt);
  once = λ t none. absurd (not_in_nil t (Some none.0) none.1);
  kept_fit = λ t share is. absurd (not_in_nil t (Some share) is);
  given_fit = all.fit;
}

pub alone-all : (book : Accounts) (places : List (Option Holding)) → HaveAllShares book [] places → HasAllShares book places
alone-all book places all = record {
  there = λ t lt. ⊎_elim (λ none. absurd (not_in_nil t (Some none.0) none.1)) (λ has. has) (all.there t lt);
  fit = all.given_fit;
}

-- what decides and counts for two lists decides and counts for one
pub same_answer : {P Q : Type 0} (answer : Option ℕ) (m n : ℕ) → (P → Q) → (Q → P) → m ≡ n → SomeIff answer P m → SomeIff answer Q n
same_answer None m n to from is refused = λ q. refused (from q)
same_answer (Some x) m n to from is given = (to given.0, given.1 ∙ is)

-- ---- the next place

-- the sum of the first elements and one more, if there is one
sum_by_next : {X : Type 0} (f : X → ℕ) (xs : List X) (n : ℕ) → sum_by f (take (n + 1) xs) ≡ sum_by f (take n xs) + option_map_or f (slice_get xs n) 0
sum_by_next {X = X} f xs n = at (slice_get_cases xs n).1
  where
    at : ((x : X) × (n < length xs) × (slice_get xs n ≡ Some x) × (get_or xs n x ≡ x)) ⊎ ((length xs ≤ n) × (slice_get xs n ≡ None)) → sum_by f (take (n + 1) xs) ≡ sum_by f (take n xs) + option_map_or f (slice_get xs n) 0
    at (inl there) = rw there.2 (sum_by_more f xs n there.0 there.1 ∙ ap (λ x. sum_by f (take n xs) + f x) there.3)
    at (inr past) =
        let all : take n xs ≡ xs = take_all n xs past.0 in
        let more : take (n + 1) xs ≡ xs = take_all (n + 1) xs (let le = past.0 in omega arith) in
        rw (past.1, all, more) (omega arith)

events_at : (place : Option (Option Holding)) → option_map_or events_in place 0 ≡ events_in (option_and_then (λ p. p) place)
events_at None = refl
events_at (Some place) = refl

pub sum-next : (places : List (Option Holding)) (n : ℕ) → events_in_all (take (n + 1) places) ≡ events_in_all (take n places) + events_in (share_in places n)
sum-next places n = sum_by_next events_in places n ∙ ap (λ m. events_in_all (take n places) + m) (events_at (slice_get places n))

pub fits-next : (book : Accounts) (kept given : List (Option Holding)) (n : ℕ) → PlacesFit book n (share_in kept n) (share_in given n) → ((t : ℕ) → t < n → PlacesFit book t (share_in kept t) (share_in given t)) → (t : ℕ) → t < n + 1 → PlacesFit book t (share_in kept t) (share_in given t)
fits-next book kept given n fit before = below_more (λ t. PlacesFit book t (share_in kept t) (share_in given t)) n before fit

-- ---- the same by rows

row_events : (book : Accounts) (t : ℕ) (share : Holding) → share.thread.0 ≡ t → FitsBook book share → share.tally.events ≡ option_map_or (λ (row : Tally). row.events) (slice_get book.rows t) 0
row_events book t share own fits =
    let row : slice_get book.rows t ≡ Some share.tally = subst (λ n. slice_get book.rows n ≡ Some share.tally) own fits.row in
    rw row refl

counted : (book : Accounts) (t : ℕ) (k g : Option Holding) → ((share : Holding) → k ≡ Some share → share.thread.0 ≡ t) → ((share : Holding) → g ≡ Some share → share.thread.0 ≡ t) → PlacesFit book t k g → events_in k + events_in g ≡ option_map_or (λ (row : Tally). row.events) (slice_get book.rows t) 0
counted book t None None k_own g_own fit = rw (slice_get_past book.rows t fit) refl
counted book t (Some share) None k_own g_own fit = add-zero share.tally.events ∙ row_events book t share (k_own share refl) fit
counted book t None (Some share) k_own g_own fit = let alone : 0 + share.tally.events ≡ share.tally.events = omega arith in alone ∙ row_events book t share (g_own share refl) fit
counted book t (Some share) (Some other) k_own g_own fit = absurd fit

-- the place's shares count what its row does
pub rows-next : (book : Accounts) (kept given : List (Option Holding)) (n : ℕ) → AreInPlace kept → AreInPlace given → PlacesFit book n (share_in kept n) (share_in given n)
    → sum_by (λ (row : Tally). row.events) (take (n + 1) book.rows) ≡ sum_by (λ (row : Tally). row.events) (take n book.rows) + (events_in (share_in kept n) + events_in (share_in given n))
rows-next book kept given n kept_own given_own fit =
    sum_by_next (λ (row : Tally). row.events) book.rows n
    ∙ ap (λ m. sum_by (λ (row : Tally). row.events) (take n book.rows) + m)
    (sym (counted book n (share_in kept n) (share_in given n) (λ share is. kept_own.own n share (is_there kept n share is)) (λ share is. given_own.own n share (is_there given n share is)) fit))

-- ---- shares of an opening

-- the shares of one thread more
pub opening-next : (run n : ℕ) (xs ys : List (Option Holding)) (share : Holding) → share ≡ opening_share run n → ys ≡ xs ++ Some share ∷ [] → AreOpening run n xs → AreOpening run (n + 1) ys
opening-next run n xs ys share first more opening = record {
  all = rw more (length_push xs (Some share) ∙ ap (λ k. k + 1) opening.all);
  each = below_more _ n
      (λ k lt. rw more (let inside : k < length xs = omega (arith, opening.all) in slice_get-append xs (Some share ∷ []) k inside ∙ opening.each k lt))
      (rw (more, ← opening.all) (slice_get-push xs (Some share) ∙ ap (λ s. Some (Some s)) (rw opening.all first)));
}

pub opening-in_place : (run n : ℕ) (places : List (Option Holding)) → n ≤ 255 → AreOpening run n places → AreInPlace places
opening-in_place run n places few opening = record {
  few = omega (arith, opening.all);
  own = λ t share is.
      let inside = slice_get_within places t (Some share) is in
      let lt : t < n = omega (arith, opening.all) in
      ap (λ s. s.thread.0) (same_Some _ _ (same_Some _ _ (sym is ∙ opening.each t lt)));
}

pub opening-complete : (run n : ℕ) (places : List (Option Holding)) → AreOpening run n places → HasAllShares (opening_accounts run n) places
opening-complete run n places opening = record {
  there = λ t lt. (opening_share run t, opening.each t (let all = length-replicate n blank in omega arith));
  fit = λ t share is.
      let inside = slice_get_within places t (Some share) is in
      let lt : t < n = omega (arith, opening.all) in
      let same : share ≡ opening_share run t = same_Some _ _ (same_Some _ _ (sym is ∙ opening.each t lt)) in
      rw same (record { run = refl; row = slice_get-replicate n t blank lt });
}
