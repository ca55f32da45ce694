-- What a thread knows by its clock is joined to its next event by a path of events that synchronize.
use Rattle.std.proofs.Common.{◌≡◌, ℕ, ◌<◌, ◌≤◌, Bool, List, [], ◌∷◌, length, Some, refl, sym, ◌∙◌, subst, arith, ⊎_elim, inl, inr}
use Rattle.std.specs.Prelude.{◌⊎◌, slice_get, not, ◌||◌, IsTrue, IsFalse}
use Rattle.std.proofs.lemmas.Bool.{cases_lt, or_cases, or_left, or_right, both_ways, false≢true, eq-eqb, eqb-true, leb-true}
use Rattle.std.proofs.lemmas.Option.{same_Some, slice_get_within}
use Rattle.velo_events.specs.declared.event.Event.{Event}
use Rattle.velo_events.specs.declared.event.Kind.{Kind}
use Rattle.velo_events.specs.declared.event.Kind.TheVariants.{Read, Write, Begin, End}
use Rattle.velo_events.specs.Event.{thread_of, is_by, is_begin, is_end, access_of, thread_forked_or_joined, lock_of, variable_of}
use Rattle.velo_events.specs.Block.{passes_at}
use Rattle.velo_events.specs.Graph.{Path, Leads, ConflictsInOrder}
use Rattle.velo_events.specs.Place.{LastOf, is_recorded, last_at}
use Rattle.velo_events.proofs.OnScans.{passes_at-event, passes_at-is}
use Rattle.velo_events.proofs.OnGraphs.{Leads-trans}
use Rattle.velo_events.proofs.OnHappening.{ConflictsInOrder-same_thread}
use Rattle.velo_events.proofs.OnLast.{last_at-is}
use Rattle.velo_events.proofs.OnLookUps.{are_same-from, fork_handles}
use Rattle.velo_events.proofs.OnReorderings.{conflict_at-within}
use Rattle.velo_tables.specs.Clocks.{ClockState, OfLast, known_at, AreClocksOf}
use Rattle.velo_filter.specs.Left.{is_left_out, is_among}
use Rattle.velo_filter.proofs.OnRanks.{rank-lt_back, rank-le_back}
use Rattle.velo_laws.specs.Ordered.{only, IsInner, IsInnerStep}
use Rattle.velo_laws.proofs.OnOrderedKinds.{near, near-conflict_before}
use Rattle.velo_laws.proofs.OnOrderedPlaces.{goes-is, conflict-is}
use Rattle.velo_thinning.specs.Races.{is_synchronizing, synchronizes, no_lock}
use Rattle.velo_thinning.specs.Sweep.{stamp_at, is_known, IsJoined}
use Rattle.velo_thinning.proofs.OnSynchronizing.{stays, sub, sub-rank, IsPlace, place}

-- ---- by kinds

-- what synchronizes is on no variable
on_none : (variables : ℕ → Bool) (k : Kind) → IsTrue (is_synchronizing k) → IsFalse (is_among no_lock (lock_of k) || is_among variables (variable_of k))
on_none variables (Read x v) h = absurd (false≢true h)
on_none variables (Write x v) h = absurd (false≢true h)
on_none variables (Begin l) h = absurd (false≢true h)
on_none variables End h = absurd (false≢true h)
on_none variables _ h = refl

-- and neither begins a block nor ends one
inner_kind : (k : Kind) → IsTrue (is_synchronizing k) → IsTrue (not (is_begin k || is_end k))
inner_kind (Begin l) h = absurd (false≢true h)
inner_kind End h = absurd (false≢true h)
inner_kind _ h = refl

-- the last event of a thread, or the fork of it, is near the thread
pub near-recorded : (t : ℕ) (f : Event) → IsTrue (is_recorded f (LastOf t)) → IsTrue (near t f)
near-recorded t f h = ⊎_elim
    (λ own. or_left _ _ own)
    (λ forks. or_right _ _ (are_same-from (thread_forked_or_joined f.kind) (Some t) t (fork_handles (access_of f.kind) t forks) refl))
    (or_cases _ _ h)

module _ (log : List Event) where
  pub stay : (variables : ℕ → Bool) (a : ℕ) → IsTrue (stays log a) → IsFalse (is_left_out (only no_lock variables) log a)
  stay variables a h =
      let e = passes_at-event log synchronizes a h in
      goes-is no_lock variables log a e.0 e.1 ∙ on_none variables e.0.kind e.2

  inner : (a : ℕ) → IsTrue (stays log a) → IsInner log a
  inner a h =
      let e = passes_at-event log synchronizes a h in
      passes_at-is log (λ f. not (is_begin f.kind || is_end f.kind)) a e.0 e.1 ∙ inner_kind e.0.kind e.2

  module _ (variables : ℕ → Bool) (n : ℕ) (upto : n ≤ length log) where
    abbrev Step : ℕ → ℕ → Type 0
    Step = IsInnerStep (only no_lock variables) log

    -- a conflict between two that synchronize is a step
    step : (a k b l : ℕ) → IsPlace log n a k → IsPlace log n b l → ConflictsInOrder (sub log n) k l → Step a b
    step a k b l at_a at_b c = record {
      step = record {
        in_order = rank-lt_back (stays log) a b (let r = at_a.rank_is in let q = at_b.rank_is in omega (arith, c.0, r, q));
        in_conflict = conflict-is log a b at_a.event at_b.event at_a.here at_b.here ∙ (sym (conflict-is (sub log n) k l at_a.event at_b.event at_a.there at_b.there) ∙ c.1);
        side = inl (stay variables a at_a.stay);
      };
      from = inner a at_a.stay;
      to = inner b at_b.stay;
    }

    -- and a chain of them a path
    chain : (k : ℕ) (between : List ℕ) (l : ℕ) (a : ℕ) → IsPlace log n a k → Path (ConflictsInOrder (sub log n)) k between l → (b : ℕ) × IsPlace log n b l × Leads Step a b
    chain k [] l a at_a p =
        let b = place log n l upto (conflict_at-within (sub log n) k l p.1).1 in
        (b.0, b.1, ([], step a k b.0 l at_a b.1 p))
    chain k (c ∷ cs) l a at_a p =
        let b = place log n c upto (conflict_at-within (sub log n) k c p.0.1).1 in
        let rest = chain c cs l b.0 b.1 p.1 in
        (rest.0, rest.1, (b.0 ∷ rest.2.0, (step a k b.0 c at_a b.1 p.0, rest.2.1)))

    from : (k l a : ℕ) → IsPlace log n a k → (k ≡ l) ⊎ Leads (ConflictsInOrder (sub log n)) k l → (b : ℕ) × IsPlace log n b l × ((a ≡ b) ⊎ Leads Step a b)
    from k l a at_a r = ⊎_elim
        (λ same. (a, subst (IsPlace log n a) same at_a, inl refl))
        (λ p. let w = chain k p.0 l a at_a p.1 in (w.0, w.1, inr w.2)) r

  -- ---- the next event, at position n

  module _ (n : ℕ) (e : Event) (here : slice_get log n ≡ Some e) (inner_e : IsInner log n) (within : n < length log) (s : ClockState) (clocks : AreClocksOf s (sub log n)) where
    module _ (variables : ℕ → Bool) where
      last-step : (b l : ℕ) → IsPlace log n b l → last_at (LastOf (thread_of e)) (sub log n) ≡ Some l → IsInnerStep (only no_lock variables) log b n
      last-step b l at_b last =
          let w = last_at-is (LastOf (thread_of e)) (sub log n) l last in
          let same : w.event ≡ at_b.event = same_Some w.event at_b.event (sym w.here ∙ at_b.there) in
          record {
            step = record {
              in_order = at_b.below;
              in_conflict = conflict-is log b n at_b.event e at_b.here here ∙ near-conflict_before e at_b.event (subst (λ f. IsTrue (near (thread_of e) f)) same (near-recorded (thread_of e) w.event w.passes));
              side = inl (stay variables b at_b.stay);
            };
            from = inner b at_b.stay;
            to = inner_e;
          }

      -- an access of another thread that is known
      known : (m t : ℕ) → m < n → IsTrue (passes_at log (is_by t) m) → IsInner log m → IsFalse (stays log m) → stamp_at log m ≤ known_at s (OfLast (thread_of e)) t → Leads (IsInnerStep (only no_lock variables) log) m n
      known m t before own inner_m access low =
          let upto : n ≤ length log = omega (arith, within) in
          let w = (clocks.known (OfLast (thread_of e)) t).latest (omega (arith, low)) in
          let at = passes_at-event (sub log n) (is_by t) w.at w.own in
          let a = place log n w.at upto (slice_get_within (sub log n) w.at at.0 at.1) in
          let count = sub-rank log m (omega (arith, before, within)) in
          let le = rank-le_back (stays log) m a.0 a.1.stay (let r = a.1.rank_is in let next = w.next in omega (arith, low, count, r, next)) in
          let own_a : IsTrue (passes_at log (is_by t) a.0) =
          passes_at-is log (is_by t) a.0 a.1.event a.1.here ∙ subst (λ f. IsTrue (is_by t f)) (same_Some at.0 a.1.event (sym at.1 ∙ a.1.there)) at.2 in
          let less : m < a.0 = ⊎_elim (λ l. l) (λ g. let same : m ≡ a.0 = omega (arith, le, g) in absurd (both_ways (stays log a.0) (subst (λ i. IsFalse (stays log i)) same access) a.1.stay)) (cases_lt m a.0) in
          let c = ConflictsInOrder-same_thread log t m a.0 less own own_a in
          let first : IsInnerStep (only no_lock variables) log m a.0 = record {
            step = record { in_order = c.0; in_conflict = c.1; side = inr (inl (stay variables a.0 a.1.stay)) };
            from = inner_m;
            to = inner a.0 a.1.stay;
          } in
          let b = from variables n upto w.at w.by a.0 a.1 w.from in
          let last = last-step b.0 w.by b.1 w.among in
          ⊎_elim
          (λ same. (a.0 ∷ [], (first, subst (λ i. IsInnerStep (only no_lock variables) log i n) (sym same) last)))
          (λ path. Leads-trans (IsInnerStep (only no_lock variables) log) m a.0 n ([], first) (Leads-trans (IsInnerStep (only no_lock variables) log) a.0 b.0 n path ([], last)))
          b.2

    -- any access that is known is joined to it
    pub known-joined : (m t : ℕ) → m < n → IsTrue (passes_at log (is_by t) m) → IsInner log m → IsFalse (stays log m) → IsTrue (is_known s (thread_of e) t (stamp_at log m)) → IsJoined log m n
    known-joined m t before own inner_m access h variables = ⊎_elim
        (λ mine.
        let own_e : IsTrue (passes_at log (is_by t) n) = passes_at-is log (is_by t) n e here ∙ eq-eqb (thread_of e) t (sym (eqb-true t (thread_of e) mine)) in
        let c = ConflictsInOrder-same_thread log t m n before own own_e in
        ([], record { step = record { in_order = c.0; in_conflict = c.1; side = inr (inr (t, own, own_e)) }; from = inner_m; to = inner_e }))
        (λ other. known variables m t before own inner_m access (leb-true _ _ other))
        (or_cases _ _ h)
