-- When the given shares, with those that the world keeps, are one fitting share of each thread.
use Rattle.std.proofs.Common.{◌≡◌, inl, inr, ⊎_elim, ℕ, suc, ◌<◌, List, [], ◌∷◌, length, Option, Some, None, refl, sym, ap, ◌∙◌, subst, arith}
use Rattle.std.specs.Prelude.{slice_get, IsTrue}
use Rattle.std.proofs.lemmas.Bool.{cases_Bool, false≢true}
use Rattle.std.proofs.lemmas.List.Sums.{sum_by-cons}
use Rattle.std.proofs.lemmas.Option.{slice_get_within, same_Some}
use Rattle.velo_events.specs.Heap.{status_in}
use Rattle.velo_events.specs.Meaning.{is_unborn}
use Rattle.velo_events.proofs.OnStatuses.{is_Unborn}
use Rattle.velo_ledger.specs.Views.{Accounts, Holding}
use Rattle.velo_ledger.specs.Shares.{AreInPlace, events_in, events_in_all, opening_share}
use Rattle.velo_ledger.specs.Book.{FitsBook, HaveAllShares, IsFilled}
use Rattle.velo_world.specs.World.{WorldState, IsBookOf, IsBorn, HasShare, CompletesShares}
use Rattle.velo_world.specs.Kept.{KeepsUnborn}
use Rattle.velo_world.proofs.OnHoldings.{FitsBook-from, FitsLog-from}

empty : (place : Option (Option Holding)) (share : Holding) → place ≡ Some None → place ≡ Some (Some share) → ⊥
empty place share none some = let same : ◌≡◌ {A = Option (Option Holding)} (Some None) (Some (Some share)) = sym none ∙ some in cc

-- shares without events count none
none_counted : (places : List (Option Holding)) → ((t : ℕ) (share : Holding) → slice_get places t ≡ Some (Some share) → share.tally.events ≡ 0) → events_in_all places ≡ 0
none_counted [] each = refl
none_counted (None ∷ places) each =
    let rest = none_counted places (λ t. each (suc t)) in
    omega (arith, sum_by-cons events_in None places, rest)
none_counted (Some share ∷ places) each =
    let rest = none_counted places (λ t. each (suc t)) in
    omega (arith, sum_by-cons events_in (Some share) places, each 0 share refl, rest)

module _ (w : WorldState) (kept : List (Option Holding)) (keeps : KeepsUnborn w kept) where
  unborn_kept : (t : ℕ) → t < w.config.bounds.threads → IsTrue (is_unborn (status_in w.log t)) → slice_get kept t ≡ Some (Some (opening_share w.config.run t))
  unborn_kept t lt unborn = rw unborn at (keeps.each t lt)

  kept_below : (t : ℕ) (share : Holding) → slice_get kept t ≡ Some (Some share) → t < w.config.bounds.threads
  kept_below t share is = let inside = slice_get_within kept t (Some share) is in let count = keeps.count in omega arith

  kept_unborn : (t : ℕ) (share : Holding) → slice_get kept t ≡ Some (Some share) → IsTrue (is_unborn (status_in w.log t))
  kept_unborn t share is = ⊎_elim (λ unborn. unborn) (λ born. absurd (empty (slice_get kept t) share (rw born at (keeps.each t (kept_below t share is))) is)) (cases_Bool (is_unborn (status_in w.log t)))

  kept_is : (t : ℕ) (share : Holding) → slice_get kept t ≡ Some (Some share) → opening_share w.config.run t ≡ share
  kept_is t share is =
      let there = unborn_kept t (kept_below t share is) (kept_unborn t share is) in
      same_Some (opening_share w.config.run t) share (same_Some (Some (opening_share w.config.run t)) (Some share) (sym there ∙ is))

  -- the kept shares count no event
  pub kept-counts_none : events_in_all kept ≡ 0
  kept-counts_none = none_counted kept (λ t share is. ap (λ (s : Holding). s.tally.events) (sym (kept_is t share is)))

  module _ (book : Accounts) (given : List (Option Holding)) (are : IsBookOf w book) where
    below : (t : ℕ) → t < length book.rows → t < w.config.bounds.threads
    below t lt = let count = are.count in omega arith

    -- a place with a given share is that of a thread whose share is not kept
    not_kept : (t : ℕ) → IsBorn w t → ¬ IsFilled kept t
    not_kept t born has = born.1 (is_Unborn (status_in w.log t) (kept_unborn t has.0 has.1))

    given_is : (t : ℕ) (share : Holding) → slice_get given t ≡ Some (Some share) → (has : HasShare w given t) → has.share ≡ share
    given_is t share is has = same_Some has.share share (same_Some (Some has.share) (Some share) (sym has.there ∙ is))

    pub HaveAllShares-complete : CompletesShares w given → HaveAllShares book kept given
    HaveAllShares-complete complete = record {
      there = λ t lt. ⊎_elim
          (λ unborn. inl (opening_share w.config.run t, unborn_kept t (below t lt) unborn))
          (λ born. (let has = complete.born t (below t lt, λ unborn. false≢true (sym born ∙ ap is_unborn unborn)) in inr (has.share, has.there)))
          (cases_Bool (is_unborn (status_in w.log t)));
      once = λ t k g. not_kept t (complete.no_other t g.0 g.1) k;
      kept_fit = λ t share is. subst (FitsBook book) (kept_is t share is) (FitsBook-from w book (opening_share w.config.run t) are (keeps.fit t (kept_below t share is) (kept_unborn t share is)));
      given_fit = λ t share is. (let has = complete.born t (complete.no_other t share is) in subst (FitsBook book) (given_is t share is has) (FitsBook-from w book has.share are has.fits));
    }

    pub CompletesShares-have : AreInPlace given → HaveAllShares book kept given → CompletesShares w given
    CompletesShares-have own all = record {
      born = λ t born. ⊎_elim (λ k. absurd (not_kept t born k)) (λ g. given_at t g) (all.there t (let lt = born.0 in let count = are.count in omega arith));
      no_other = λ t share is. (let lt = given_below t share is in (lt, λ unborn. all.once t (opening_share w.config.run t, unborn_kept t lt (ap is_unborn unborn)) (share, is)));
    }
      where
        given_at : (t : ℕ) → IsFilled given t → HasShare w given t
        given_at t g = record { share = g.0; there = g.1; own = own.own t g.0 g.1; fits = FitsLog-from w book g.0 are (all.given_fit t g.0 g.1) }

        given_below : (t : ℕ) (share : Holding) → slice_get given t ≡ Some (Some share) → t < w.config.bounds.threads
        given_below t share is =
            let fits = FitsLog-from w book share are (all.given_fit t share is) in
            let lt = fits.thread in
            let at = own.own t share is in
            omega arith
