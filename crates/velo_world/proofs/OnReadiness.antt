-- Shares that are ready: those of a world that was just opened, and of a world that is halted.
use Rattle.std.proofs.Common.{◌≡◌, ◌≢◌, ℕ, ◌<◌, List, [], set, replicate, Option, Some, None, refl, sym, ap, ◌∙◌, subst, arith, ⊎_elim}
use Rattle.std.specs.Prelude.{slice_get}
use Rattle.std.proofs.lemmas.Bool.{cases_eq, false≢true}
use Rattle.std.proofs.lemmas.List.{length-replicate}
use Rattle.std.proofs.lemmas.Option.{slice_get_within}
use Rattle.velo_events.specs.declared.config.Config.{Config}
use Rattle.velo_events.specs.declared.event.Status.{Status}
use Rattle.velo_events.specs.declared.event.Status.TheVariants.{Unborn, Live}
use Rattle.velo_events.specs.Heap.{status_in}
use Rattle.velo_events.specs.Meaning.{is_unborn}
use Rattle.velo_ledger.specs.Views.{Holding}
use Rattle.velo_ledger.specs.Shares.{opening_share}
use Rattle.velo_events.proofs.OnLists.{slice_get-set_same, slice_get-set_other, slice_get-replicate}
use Rattle.velo_ledger.proofs.OnLogs.{tally_of-nil}
use Rattle.velo_world.specs.World.{opening, HasShare, HoldsLiveShares, CompletesShares}
use Rattle.velo_events.proofs.OnStatuses.{first-born, others-unborn, is_Unborn}

-- thread 0's share is at its place, and every other place is empty
module _ (config : Config) where
  abbrev opened : List (Option Holding)
  opened = set (replicate config.bounds.threads None) 0 (Some (opening_share config.run 0))

  first-there : slice_get opened 0 ≡ Some (Some (opening_share config.run 0))
  first-there =
      let some = config.some_thread in
      let count = length-replicate config.bounds.threads (let none : Option Holding = None in none) in
      slice_get-set_same (replicate config.bounds.threads None) 0 (Some (opening_share config.run 0)) (omega arith)

  others-empty : (t : ℕ) → t ≢ 0 → slice_get opened t ≡ slice_get (replicate config.bounds.threads None) t
  others-empty t other = slice_get-set_other (replicate config.bounds.threads None) 0 t (Some (opening_share config.run 0)) (λ is. other (sym is))

  HasShare-first : (t : ℕ) → t ≡ 0 → HasShare (opening config) opened t
  HasShare-first t is = record {
    share = opening_share config.run 0;
    there = subst (λ n. slice_get opened n ≡ Some (Some (opening_share config.run 0))) (sym is) first-there;
    own = sym is;
    fits = record { run = refl; thread = config.some_thread; tally = sym (tally_of-nil 0) };
  }

  not_live : (t : ℕ) → t ≢ 0 → status_in [] t ≡ Live → ⊥
  not_live t other live = let same : ◌≡◌ {A = Status} Unborn Live = sym (is_Unborn (status_in [] t) (others-unborn t other)) ∙ live in cc

  pub HoldsLiveShares-opened : HoldsLiveShares (opening config) opened
  HoldsLiveShares-opened = record {
    live = λ t live. ⊎_elim (HasShare-first t) (λ other. absurd (not_live t other live.1)) (cases_eq t 0);
    unborn = λ t unborn. ⊎_elim (λ is. absurd (false≢true (sym (first-born t is) ∙ ap is_unborn unborn.1))) (λ other. others-empty t other ∙ slice_get-replicate config.bounds.threads t None unborn.0) (cases_eq t 0);
  }

  none_there : (t : ℕ) (share : Holding) → slice_get (replicate config.bounds.threads None) t ≡ Some (Some share) → ⊥
  none_there t share is =
      let lt = slice_get_within (replicate config.bounds.threads None) t (Some share) is in
      let count = length-replicate config.bounds.threads (let none : Option Holding = None in none) in
      let same : ◌≡◌ {A = Option (Option Holding)} (Some None) (Some (Some share)) = sym (slice_get-replicate config.bounds.threads t None (omega arith)) ∙ is in
      cc

  pub CompletesShares-opened : CompletesShares (opening config) opened
  CompletesShares-opened = record {
    born = λ t born. ⊎_elim (HasShare-first t) (λ other. absurd (born.1 (is_Unborn (status_in [] t) (others-unborn t other)))) (cases_eq t 0);
    no_other = λ t share is. ⊎_elim
        (λ first. (subst (λ n. n < config.bounds.threads) (sym first) config.some_thread, λ unborn. false≢true (sym (first-born t first) ∙ ap is_unborn unborn)))
        (λ other. absurd (none_there t share (sym (others-empty t other) ∙ is))) (cases_eq t 0);
  }
