-- The shares of a recorded log's threads, as they are handed out one after another.
use Rattle.std.proofs.Common.{◌≡◌, ◌≢◌, ℕ, ◌+◌, ◌<◌, Bool, true, false, List, length, set, length-set, replicate, Option, Some, None, leb, refl, sym, ap, ◌∙◌, subst, arith, ⊎_elim}
use Rattle.std.specs.Prelude.{slice_get, if◌then◌else◌, IsTrue, IsFalse}
use Rattle.std.proofs.lemmas.Bool.{cases_Bool, cases_eq, cases_lt, le-leb, lt-leb}
use Rattle.std.proofs.lemmas.List.{length-replicate}
use Rattle.std.proofs.lemmas.Option.{slice_get_within, same_Some}
use Rattle.velo_events.specs.declared.config.Config.{Config}
use Rattle.velo_events.specs.declared.event.Event.{Event}
use Rattle.velo_events.specs.declared.event.Status.TheVariants.{Unborn}
use Rattle.velo_events.specs.Event.{thread_of}
use Rattle.velo_events.specs.Heap.{status_in}
use Rattle.velo_events.specs.WellFormed.{MayFollow, IsWellFormed}
use Rattle.velo_events.specs.Meaning.{is_unborn}
use Rattle.velo_events.proofs.OnLists.{slice_get-set_same, slice_get-set_other, slice_get-replicate}
use Rattle.velo_events.proofs.OnStatuses.{is_Unborn, unborn-before}
use Rattle.velo_ledger.specs.Book.{CanCount, CountsIn, FitsBook, with_row, with_tally}
use Rattle.velo_ledger.specs.Shares.{opening_share, AreOpening}
use Rattle.velo_ledger.specs.Tally.{with_event}
use Rattle.velo_ledger.specs.Views.{Accounts, Holding}
use Rattle.velo_ledger.specs.Logs.{tally_of}
use Rattle.velo_ledger.proofs.OnLogs.{tally_of-nil, next_of-le}
use Rattle.velo_world.specs.World.{WorldState, opening, FitsLog, IsBookOf, HasShare, HoldsLiveShares, CompletesShares}
use Rattle.velo_world.specs.Kept.{KeepsUnborn}
use Rattle.velo_world.specs.LogReplay.{share_of, stays, AreHandedOut, FitUnborn}
use Rattle.velo_world.proofs.OnHoldings.{longer, FitsLog-other, other_acts, IsBookOf-next}

-- ---- whose share stays

stays-first : (w : WorldState) (t : ℕ) → stays w 0 t ≡ true
stays-first w t = rw (le-leb 0 t (omega arith)) refl

stays-here : (w : WorldState) (n : ℕ) → stays w n n ≡ true
stays-here w n = rw (le-leb n n (omega arith)) refl

stays-behind : (w : WorldState) (n t : ℕ) → t < n → stays w n t ≡ is_unborn (status_in w.log t)
stays-behind w n t lt = rw (lt-leb n t lt) refl

same_test : (n t : ℕ) → t ≢ n → leb (n + 1) t ≡ leb n t
same_test n t other = ⊎_elim
    (λ less. lt-leb (n + 1) t (omega (arith, less)) ∙ sym (lt-leb n t less))
    (λ more. le-leb (n + 1) t (omega (arith, more, other)) ∙ sym (le-leb n t more))
    (cases_lt t n)

stays-other : (w : WorldState) (n t : ℕ) → t ≢ n → stays w (n + 1) t ≡ stays w n t
stays-other w n t other = rw (same_test n t other) refl

-- ---- the places, one thread after another

abbrev kept_if : WorldState → ℕ → Bool → Option (Option Holding)
kept_if w t b = Some (if b then Some (opening_share w.config.run t) else None)

abbrev given_if : WorldState → ℕ → Bool → Option (Option Holding)
given_if w t b = Some (if b then None else Some (share_of w t))

pub handed-none : (w : WorldState) (kept given : List (Option Holding)) → AreOpening w.config.run w.config.bounds.threads kept → given ≡ replicate w.config.bounds.threads None → AreHandedOut w 0 kept given
handed-none w kept given are is = record {
  count = are.all;
  count_given = ap length is ∙ length-replicate w.config.bounds.threads None;
  each = λ t lt. are.each t lt ∙ ap (kept_if w t) (sym (stays-first w t));
  each_given = λ t lt. ap (λ places. slice_get places t) is ∙ slice_get-replicate w.config.bounds.threads t None lt ∙ ap (given_if w t) (sym (stays-first w t));
}

-- more events change nothing while none is handed out
pub handed-longer : (w w' : WorldState) (kept given : List (Option Holding)) → w.config ≡ w'.config → AreHandedOut w 0 kept given → AreHandedOut w' 0 kept given
handed-longer w w' kept given same are = record {
  count = are.count ∙ ap (λ (c : Config). c.bounds.threads) same;
  count_given = are.count_given ∙ ap (λ (c : Config). c.bounds.threads) same;
  each = λ t lt. are.each t (subst (λ (c : Config). t < c.bounds.threads) (sym same) lt) ∙ ap (kept_if w t) (stays-first w t) ∙ ap (λ (c : Config). Some (Some (opening_share c.run t))) same ∙ ap (kept_if w' t) (sym (stays-first w' t));
  each_given = λ t lt. are.each_given t (subst (λ (c : Config). t < c.bounds.threads) (sym same) lt) ∙ ap (given_if w t) (stays-first w t) ∙ ap (given_if w' t) (sym (stays-first w' t));
}

module _ (w : WorldState) (n : ℕ) (kept given : List (Option Holding)) (are : AreHandedOut w n kept given) where
  -- the share of an unborn thread stays
  pub handed-unborn : IsTrue (is_unborn (status_in w.log n)) → AreHandedOut w (n + 1) kept given
  handed-unborn unborn = record {
    count = are.count;
    count_given = are.count_given;
    each = λ t lt. are.each t lt ∙ ap (kept_if w t) (same t);
    each_given = λ t lt. are.each_given t lt ∙ ap (given_if w t) (same t);
  }
    where
      same : (t : ℕ) → stays w n t ≡ stays w (n + 1) t
      same t = ⊎_elim
          (λ is. rw is (stays-here w n ∙ sym (stays-behind w (n + 1) n (omega arith) ∙ unborn)))
          (λ other. sym (stays-other w n t other))
          (cases_eq t n)

  -- that of another goes from its place to the other
  module _ (lt : n < w.config.bounds.threads) where
    pub kept-here : slice_get kept n ≡ Some (Some (opening_share w.config.run n))
    kept-here = are.each n lt ∙ ap (kept_if w n) (stays-here w n)

    pub handed-born : IsFalse (is_unborn (status_in w.log n)) → AreHandedOut w (n + 1) (set kept n None) (set given n (Some (share_of w n)))
    handed-born born = record {
      count = length-set kept n None ∙ are.count;
      count_given = length-set given n (Some (share_of w n)) ∙ are.count_given;
      each = λ t l. ⊎_elim
          (λ is. rw is (slice_get-set_same kept n None (omega (arith, lt, are.count)) ∙ ap (kept_if w n) (sym gone)))
          (λ other. slice_get-set_other kept n t None (λ is. other (sym is)) ∙ (are.each t l ∙ ap (kept_if w t) (sym (stays-other w n t other))))
          (cases_eq t n);
      each_given = λ t l. ⊎_elim
          (λ is. rw is (slice_get-set_same given n (Some (share_of w n)) (omega (arith, lt, are.count_given)) ∙ ap (given_if w n) (sym gone)))
          (λ other. slice_get-set_other given n t (Some (share_of w n)) (λ is. other (sym is)) ∙ (are.each_given t l ∙ ap (given_if w t) (sym (stays-other w n t other))))
          (cases_eq t n);
    }
      where
        gone : stays w (n + 1) n ≡ false
        gone = stays-behind w (n + 1) n (omega arith) ∙ born

-- ---- when all are handed out

module _ (w : WorldState) (kept given : List (Option Holding)) (are : AreHandedOut w w.config.bounds.threads kept given) where
  pub keeps-handed : FitUnborn w → KeepsUnborn w kept
  keeps-handed unborn = record {
    count = are.count;
    each = λ t lt. are.each t lt ∙ ap (kept_if w t) (stays-behind w w.config.bounds.threads t lt);
    fit = unborn.fit;
  }

  given-at : (t : ℕ) (b : Bool) → t < w.config.bounds.threads → is_unborn (status_in w.log t) ≡ b → slice_get given t ≡ given_if w t b
  given-at t b lt is = are.each_given t lt ∙ ap (given_if w t) (stays-behind w w.config.bounds.threads t lt ∙ is)

  has-share : (t : ℕ) → t < w.config.bounds.threads → is_unborn (status_in w.log t) ≡ false → HasShare w given t
  has-share t lt born = record {
    share = share_of w t;
    there = given-at t false lt born;
    own = refl;
    fits = record { run = refl; thread = lt; tally = refl };
  }

  born-test : (t : ℕ) → (status_in w.log t ≡ Unborn → ⊥) → is_unborn (status_in w.log t) ≡ false
  born-test t born = ⊎_elim (λ yes. absurd (born (is_Unborn (status_in w.log t) yes))) (λ no. no) (cases_Bool (is_unborn (status_in w.log t)))

  pub ready-handed : HoldsLiveShares w given
  ready-handed = record {
    live = λ t live. has-share t live.0 (ap is_unborn live.1);
    unborn = λ t none. given-at t true none.0 (ap is_unborn none.1);
  }

  pub complete-handed : CompletesShares w given
  complete-handed = record {
    born = λ t born. has-share t born.0 (born-test t born.1);
    no_other = λ t share is.
        let lt : t < w.config.bounds.threads = (let in_list = slice_get_within given t (Some share) is in let count = are.count_given in omega arith) in
        (lt, λ unborn. let same : ◌≡◌ {A = Option (Option Holding)} (Some None) (Some (Some share)) = sym (given-at t true lt (ap is_unborn unborn)) ∙ is in cc);
  }

-- ---- one event more

pub unborn-opening : (config : Config) → FitUnborn (opening config)
unborn-opening config = record { fit = λ t lt unborn. record { run = refl; thread = lt; tally = sym (tally_of-nil t) } }

pub unborn-longer : (w : WorldState) (e : Event) (halted : Bool) → MayFollow w.config.bounds w.log e → FitUnborn w → FitUnborn (longer w e halted)
unborn-longer w e halted follows unborn = record {
  fit = λ t lt is.
      let before = (unborn-before w.log e t is).0 in
      FitsLog-other w e halted (opening_share w.config.run t) (other_acts w.config.bounds w.log e t follows before) (unborn.fit t lt before);
}

module _ (w : WorldState) (e : Event) (book : Accounts) (is : IsBookOf w book) (follows : MayFollow w.config.bounds w.log e) where
  row-there : slice_get book.rows (thread_of e) ≡ Some (tally_of w.log (thread_of e))
  row-there = is.rows.each (thread_of e) (omega (arith, is.count, follows.known_thread))

  pub CanCount-next : (position : ℕ) → position ≡ length w.log → CanCount book position e
  CanCount-next position here = record {
    row = tally_of w.log (thread_of e);
    there = row-there;
    later = omega (arith, here, next_of-le w.log (thread_of e));
  }

  pub IsBookOf-counted : (position : ℕ) (halted : Bool) (book' : Accounts) → IsWellFormed w.config.bounds w.log → position ≡ length w.log → CountsIn book position e book' → IsBookOf (longer w e halted) book'
  IsBookOf-counted position halted book' well here counts =
      let fits : FitsLog w (share_of w (thread_of e)) = record { run = refl; thread = follows.known_thread; tally = refl } in
      let after : book' ≡ with_row book e.thread (with_event (tally_of w.log (thread_of e)) (length w.log) e) = counts.row (tally_of w.log (thread_of e)) row-there ∙ ap (λ n. with_row book e.thread (with_event (tally_of w.log (thread_of e)) n e)) here in
      subst (IsBookOf (longer w e halted)) (sym after) (IsBookOf-next w e halted book (share_of w (thread_of e)) well follows is fits refl)

-- ---- the share that is handed out

-- it says what its row does
pub settled-is : (w : WorldState) (n : ℕ) (book : Accounts) (share share' : Holding) → IsBookOf w book → n < w.config.bounds.threads → share ≡ opening_share w.config.run n → share' ≡ with_tally share share'.tally → FitsBook book share' → share' ≡ share_of w n
settled-is w n book share share' is lt opens settled fits =
    let whole : share' ≡ with_tally (opening_share w.config.run n) share'.tally = settled ∙ ap (λ s. with_tally s share'.tally) opens in
    let row : slice_get book.rows n ≡ Some share'.tally = subst (λ (s : Holding). slice_get book.rows s.thread.0 ≡ Some share'.tally) whole fits.row in
    let tally : share'.tally ≡ tally_of w.log n = same_Some _ _ (sym row ∙ is.rows.each n (omega (arith, lt, is.count))) in
    whole ∙ ap (λ t. with_tally (opening_share w.config.run n) t) tally
