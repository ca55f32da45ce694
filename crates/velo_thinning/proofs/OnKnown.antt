-- What a chain of events that synchronize leads to a thread is known by its clock.
use Rattle.std.proofs.Common.{◌≡◌, ℕ, suc, ◌<◌, ◌≤◌, Bool, true, List, [], ◌∷◌, length, take, Some, refl, sym, ◌∙◌, subst, arith, ⊎_elim, inl, inr}
use Rattle.std.specs.Prelude.{slice_get, ◌==◌, nat_le, IsTrue, IsFalse, All}
use Rattle.std.proofs.lemmas.Bool.{cases_lt, cases_order, and_parts, or_cases, or_left, or_right, both_ways, eq-eqb, eqb-true, le-leb}
use Rattle.std.proofs.lemmas.Option.{same_Some}
use Rattle.velo_events.specs.declared.config.Bounds.{Bounds}
use Rattle.velo_events.specs.declared.event.Event.{Event}
use Rattle.velo_events.specs.Event.{thread_of, is_by, is_exit, is_fork_of}
use Rattle.velo_events.specs.WellFormed.{IsWellFormed}
use Rattle.velo_events.specs.Block.{passes_at}
use Rattle.velo_events.specs.Graph.{Path, Reaches, ConflictsInOrder, conflict_at}
use Rattle.velo_events.specs.Place.{LastOf, is_recorded}
use Rattle.velo_events.proofs.OnGraphs.{Reaches-trans, Path-rises}
use Rattle.velo_events.proofs.OnLast.{last_at-is, last_position-at}
use Rattle.velo_events.proofs.OnLookUps.{fork-first, happened-from}
use Rattle.velo_events.proofs.OnOwners.{passes_at-one_thread}
use Rattle.velo_events.proofs.OnReorderings.{conflict_at-within}
use Rattle.velo_events.proofs.OnScans.{passes_at-event, passes_at-is}
use Rattle.velo_events.proofs.OnWellFormed.{IsWellFormed-take}
use Rattle.velo_tables.specs.Clocks.{ClockState, OfLast, known_at, AreClocksOf}
use Rattle.velo_filter.specs.Left.{is_left_out}
use Rattle.velo_filter.proofs.OnRanks.{rank, rank-le, rank-lt}
use Rattle.velo_laws.specs.Ordered.{only}
use Rattle.velo_laws.proofs.OnOrderedKinds.{near, near-conflict_before}
use Rattle.velo_laws.proofs.OnOrderedPlaces.{conflict-is, near-later, near-earlier, near-conflicts_after, fork-turn, exit-before_join, not_behind_exit, earlier-forks, later-joins}
use Rattle.velo_thinning.specs.Races.{synchronizes, no_lock, AreSynchronized}
use Rattle.velo_thinning.specs.Sweep.{stamp_at, is_known}
use Rattle.velo_thinning.proofs.OnSynchronizing.{stays, sub, sub-rank, sub-get}
use Rattle.velo_thinning.proofs.OnSynchronizedRuns.{exit_kind, well-synchronizing}
use Rattle.velo_thinning.proofs.OnJoined.{stay, near-recorded}

-- every variable
abbrev pub each : ℕ → Bool
each x = true

module _ (bounds : Bounds) (log : List Event) (well : IsWellFormed bounds log) (n : ℕ) (within : n < length log) where
  abbrev Goes : ℕ → Type 0
  Goes i = IsTrue (is_left_out (only no_lock each) log i)

  abbrev IsSync : ℕ → Type 0
  IsSync i = IsTrue (stays log i)

  abbrev own : List Event
  own = sub log n

  abbrev at : ℕ → ℕ
  at i = rank (stays log) i

  upto : n ≤ length log
  upto = omega (arith, within)

  -- ---- from the log to the events that synchronize

  link : (a b : ℕ) → IsSync a → IsSync b → b < n → ConflictsInOrder log a b → ConflictsInOrder own (at a) (at b)
  link a b sync_a sync_b below c =
      let e = passes_at-event log synchronizes a sync_a in
      let f = passes_at-event log synchronizes b sync_b in (
        rank-lt (stays log) a b sync_a c.0,
        conflict-is own (at a) (at b) e.0 f.0 (sub-get log n a e.0 upto (omega (arith, c.0, below)) e.1 e.2) (sub-get log n b f.0 upto below f.1 f.2) ∙ (sym (conflict-is log a b e.0 f.0 e.1 f.1) ∙ c.1),
      )

  -- a chain of them up to position n, as far as its last link
  record Leads_to (a : ℕ) : Type 0 where
    last : ℕ
    sync : IsSync last
    to : ConflictsInOrder log last n
    from : Reaches (ConflictsInOrder own) (at a) (at last)

  leads_to : (a : ℕ) (between : List ℕ) → IsSync a → All (λ k. IsSync k) between → Path (ConflictsInOrder log) a between n → Leads_to a
  leads_to a [] sync all p = record { last = a; sync = sync; to = p; from = inl refl }
  leads_to a (c ∷ cs) sync all p =
      let sync_c = all 0 0 (omega arith) in
      let rest = leads_to c cs sync_c (λ k i l. all (suc k) i (omega arith)) p.1 in
      let below = Path-rises (ConflictsInOrder log) (λ i. i) (λ i j d. d.0) c cs n p.1 in
      record { last = rest.last; sync = rest.sync; to = rest.to; from = Reaches-trans (ConflictsInOrder own) (at a) (at c) (at rest.last) (inr ([], link a c sync sync_c below p.0)) rest.from }

  -- ---- the first link leaves the thread of its access by an event of the thread

  record Leaves (t m b : ℕ) : Type 0 where
    by : ℕ
    after : m < by
    sync : IsSync by
    mine : IsTrue (passes_at log (is_by t) by)
    below : by < n
    to : Reaches (ConflictsInOrder own) (at by) (at b)

  leaves : (t m b : ℕ) → IsTrue (passes_at log (is_by t) m) → Goes m → IsFalse (stays log m) → IsSync b → b < n → ConflictsInOrder log m b → Leaves t m b
  leaves t m b mine goes access sync below c =
      let near = near-later no_lock each log t m b (conflict_at-within log m b c.1).0 (conflict_at-within log m b c.1).1 mine goes (stay log each b sync) c.1 in
      ⊎_elim
      (λ same. record { by = b; after = c.0; sync = sync; mine = same; below = below; to = inl refl })
      (λ joins.
      let x = exit-before_join no_lock each log bounds well t b joins in
      let parts = and_parts (is_by t x.1) (is_exit x.1.kind) x.4 in
      let sync_x : IsSync x.0 = passes_at-is log synchronizes x.0 x.1 x.3 ∙ exit_kind x.1.kind parts.1 in
      let mine_x : IsTrue (passes_at log (is_by t) x.0) = passes_at-is log (is_by t) x.0 x.1 x.3 ∙ parts.0 in
      record {
        by = x.0;
        after = ⊎_elim (λ same. absurd (both_ways (stays log m) access (subst (λ i. IsSync i) (sym same) sync_x))) (⊎_elim (λ h. h) (λ h. absurd (not_behind_exit no_lock each log bounds well t m x.0 x.1 mine x.3 x.4 h))) (cases_order m x.0);
        sync = sync_x;
        mine = mine_x;
        below = (let l = x.2 in omega (arith, l, below));
        to = inr ([], link x.0 b sync_x sync below (x.2, near-conflicts_after no_lock each log t x.0 b mine_x near));
      })
      (later-joins no_lock each log bounds well t b m c.0 near mine)

  -- ---- the last link comes to the thread, to its fork or one of its events: the last of them is there too

  module _ (e : Event) (here : slice_get log n ≡ Some e) (goes : Goes n) where
    abbrev Recorded : Event → Bool
    Recorded f = is_recorded f (LastOf (thread_of e))

    runs : IsWellFormed bounds own
    runs = well-synchronizing bounds (take n log) (IsWellFormed-take bounds log n upto well)

    recorded : (b : ℕ) → IsSync b → ConflictsInOrder log b n → (f : Event) × (slice_get log b ≡ Some f) × IsTrue (synchronizes f) × IsTrue (Recorded f)
    recorded b sync c =
        let u = thread_of e in
        let f = passes_at-event log synchronizes b sync in
        let mine : IsTrue (passes_at log (is_by u) n) = passes_at-is log (is_by u) n e here ∙ eq-eqb u u refl in
        let near = near-earlier no_lock each log u n b within (conflict_at-within log b n c.1).0 mine goes (stay log each b sync) c.1 in (
          f.0,
          f.1,
          f.2,
          ⊎_elim
              (λ same. or_left (thread_of f.0 == u) (is_fork_of u f.0) (sym (passes_at-is log (is_by u) b f.0 f.1) ∙ same))
              (λ forks. or_right (thread_of f.0 == u) (is_fork_of u f.0) (sym (passes_at-is log (is_fork_of u) b f.0 f.1) ∙ forks))
              (earlier-forks no_lock each log bounds well u b n c.0 near mine),
        )

    -- two of them conflict
    both : (k l : ℕ) (f g : Event) → k < l → slice_get own k ≡ Some f → slice_get own l ≡ Some g → IsTrue (Recorded f) → IsTrue (Recorded g) → IsTrue (conflict_at own k l)
    both k l f g less at_k at_l rec_f rec_g =
        let u = thread_of e in
        conflict-is own k l f g at_k at_l
        ∙ ⊎_elim
        (λ own_g. near-conflict_before g f (subst (λ v. IsTrue (near v f)) (sym (eqb-true (thread_of g) u own_g)) (near-recorded u f rec_f)))
        (λ forks_g. ⊎_elim
        (λ own_f. let first = fork-first bounds own u l k g f runs at_l forks_g at_k (eqb-true _ _ own_f) in absurd (omega (arith, first, less)))
        (λ forks_f. absurd (both_ways _ (fork-turn (take l own) (thread_of g) u g.kind (runs.each l g at_l).in_turn forks_g).1 (happened-from (is_fork_of u) own l k f less at_k forks_f)))
        (or_cases (thread_of f == u) (is_fork_of u f) rec_f))
        (or_cases (thread_of g == u) (is_fork_of u g) rec_g)

    module _ (s : ClockState) (clocks : AreClocksOf s own) (m t : ℕ) (before : m < n) (mine : IsTrue (passes_at log (is_by t) m)) (goes_m : Goes m) (access : IsFalse (stays log m)) where
      by_chain : (between : List ℕ) → 0 < length between → All (λ k. IsSync k) between → Path (ConflictsInOrder log) m between n → stamp_at log m ≤ known_at s (OfLast (thread_of e)) t
      by_chain [] some all p = absurd (omega (arith, some))
      by_chain (b ∷ bs) some all p =
          let sync_b = all 0 0 (omega arith) in
          let below = Path-rises (ConflictsInOrder log) (λ i. i) (λ i j d. d.0) b bs n p.1 in
          let first = leaves t m b mine goes_m access sync_b below p.0 in
          let chain = leads_to b bs sync_b (λ k i l. all (suc k) i (omega arith)) p.1 in
          let f = recorded chain.last chain.sync chain.to in
          let there = sub-get log n chain.last f.0 upto chain.to.0 f.1 f.2 in
          let l = last_position-at Recorded own (at chain.last) f.0 there f.3 in
          let last = last_at-is (LastOf (thread_of e)) own l.0 l.1 in
          let ends : Reaches (ConflictsInOrder own) (at chain.last) l.0 = ⊎_elim
          (λ less. inr ([], (less, both (at chain.last) l.0 f.0 last.event less there last.here f.3 last.passes)))
          (λ same. inl (let k = l.2 in let e : at chain.last ≡ l.0 = omega (arith, same, k) in e))
          (cases_lt (at chain.last) l.0) in
          let x = passes_at-event log (is_by t) first.by first.mine in
          let y = passes_at-event log synchronizes first.by first.sync in
          let mine_x : IsTrue (passes_at own (is_by t) (at first.by)) =
          passes_at-is own (is_by t) (at first.by) y.0 (sub-get log n first.by y.0 upto first.below y.1 y.2) ∙ subst (λ g. IsTrue (is_by t g)) (same_Some x.0 y.0 (sym x.1 ∙ y.1)) x.2 in
          let high = (clocks.known (OfLast (thread_of e)) t).none_later (at first.by) l.0 (omega arith) l.1 mine_x
          (Reaches-trans (ConflictsInOrder own) (at first.by) (at chain.last) l.0 (Reaches-trans (ConflictsInOrder own) (at first.by) (at b) (at chain.last) first.to chain.from) ends) in
          let count = sub-rank log m (omega (arith, before, within)) in
          let low = rank-le (stays log) m first.by (let a = first.after in omega (arith, a)) in
          omega (arith, count, low, high)

      pub synchronized-known : AreSynchronized log m n → IsTrue (is_known s (thread_of e) t (stamp_at log m))
      synchronized-known h = ⊎_elim
          (λ one.
          let t_is = passes_at-one_thread log one.0 t m one.1 mine in
          let u_is = eqb-true (thread_of e) one.0 (sym (passes_at-is log (is_by one.0) n e here) ∙ one.2) in
          or_left (t == thread_of e) (nat_le (stamp_at log m) (known_at s (OfLast (thread_of e)) t)) (eq-eqb t (thread_of e) (omega (arith, t_is, u_is))))
          (λ chain. or_right (t == thread_of e) (nat_le (stamp_at log m) (known_at s (OfLast (thread_of e)) t)) (le-leb _ _ (by_chain chain.0 chain.1 chain.2 chain.3)))
          h
