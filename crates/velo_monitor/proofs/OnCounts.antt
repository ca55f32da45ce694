-- The list of depths after one more event.
use Rattle.std.proofs.Common.{◌≡◌, ◌≢◌, ℕ, ◌+◌, ◌-◌, ◌<◌, ◌&&◌, List, [], ◌∷◌, ◌++◌, get_or, set, refl, sym, ap, ◌∙◌, ⊎_elim, arith, get_or-set_same, get_or-set_other, length-set}
use Rattle.std.specs.Prelude.{IsTrue, IsFalse, slice_index_or, slice_set}
use Rattle.std.proofs.lemmas.Bool.{cases_eq, and_right, eq-eqb, ne_eqb, false≢true, and_from}
use Rattle.velo_events.specs.declared.config.Bounds.{Bounds}
use Rattle.velo_events.specs.declared.event.Event.{Event}
use Rattle.velo_events.specs.declared.event.Kind.{Kind}
use Rattle.velo_events.specs.declared.event.Kind.TheVariants.{End}
use Rattle.velo_events.specs.Event.{thread_of, is_by, is_begin, is_end, is_begin_by, is_end_by}
use Rattle.velo_events.specs.Heap.{times, depth_in}
use Rattle.velo_events.specs.WellFormed.{IsWellFormed, IsInTurn, MayFollow}
use Rattle.velo_events.proofs.OnScans.{begin-no_end, end-no_begin}
use Rattle.velo_events.proofs.OnWellFormed.{Facts-from}
use Rattle.velo_monitor.specs.Watched.{AreDepths}
use Rattle.velo_monitor.proofs.OnDepthsAfter.{depth-other, depth-begin, depth-end}

end-in_turn : (trace : List Event) (t : ℕ) (k : Kind) → IsTrue (is_end k) → IsInTurn trace t k → times (is_end_by t) trace < times (is_begin_by t) trace
end-in_turn trace t End h turn = turn
end-in_turn trace t _ h turn = absurd (false≢true h)

module _ (bounds : Bounds) (trace : List Event) (e : Event) (well : IsWellFormed bounds trace) (follows : MayFollow bounds trace e) where
  no_begin_by : (u : ℕ) → IsFalse (is_begin e.kind) → IsFalse (is_begin_by u e)
  no_begin_by u none = and_right (is_by u e) (is_begin e.kind) none

  no_end_by : (u : ℕ) → IsFalse (is_end e.kind) → IsFalse (is_end_by u e)
  no_end_by u none = and_right (is_by u e) (is_end e.kind) none

  not_by : (u : ℕ) → u ≢ thread_of e → IsFalse (is_by u e)
  not_by u other = ne_eqb (thread_of e) u (λ (same : thread_of e ≡ u). other (sym same))

  by_own : IsTrue (is_by (thread_of e) e)
  by_own = eq-eqb (thread_of e) (thread_of e) refl

  -- the thread of an end has a block open
  pub end-deep : IsTrue (is_end e.kind) → 0 < depth_in trace (thread_of e)
  end-deep ended = let turn = end-in_turn trace (thread_of e) e.kind ended follows.in_turn in omega (arith, turn)

  -- the depth of the own thread after an event that neither begins nor ends a block
  pub depth-same : IsFalse (is_begin e.kind) → IsFalse (is_end e.kind) → (u : ℕ) → depth_in (trace ++ e ∷ []) u ≡ depth_in trace u
  depth-same no_begin no_end u = depth-other trace e u (no_begin_by u no_begin) (no_end_by u no_end)

  depth-elsewhere : (u : ℕ) → u ≢ thread_of e → depth_in (trace ++ e ∷ []) u ≡ depth_in trace u
  depth-elsewhere u other = depth-other trace e u (ap (λ b. b && is_begin e.kind) (not_by u other)) (ap (λ b. b && is_end e.kind) (not_by u other))

  pub depth-begun : IsTrue (is_begin e.kind) → depth_in (trace ++ e ∷ []) (thread_of e) ≡ depth_in trace (thread_of e) + 1
  depth-begun begun =
      depth-begin trace e (thread_of e) ((Facts-from bounds trace well).nested (thread_of e)) (and_from (is_by (thread_of e) e) (is_begin e.kind) by_own begun) (no_end_by (thread_of e) (begin-no_end e.kind begun))

  pub depth-ended : IsTrue (is_end e.kind) → depth_in (trace ++ e ∷ []) (thread_of e) ≡ depth_in trace (thread_of e) - 1
  depth-ended ended =
      let one = depth-end trace e (thread_of e) (end-in_turn trace (thread_of e) e.kind ended follows.in_turn) (no_begin_by (thread_of e) (end-no_begin e.kind ended)) (and_from (is_by (thread_of e) e) (is_end e.kind) by_own ended) in
      omega (arith, one)

  module _ (depths : List ℕ) (are : AreDepths bounds depths trace) where
    pub depth-now : slice_index_or depths (thread_of e) 0 ≡ depth_in trace (thread_of e)
    depth-now = are.1 (thread_of e) follows.known_thread

    set-depth : (d : ℕ) → d ≡ depth_in (trace ++ e ∷ []) (thread_of e) → AreDepths bounds (slice_set depths (thread_of e) d) (trace ++ e ∷ [])
    set-depth d is = (
      length-set depths (thread_of e) d ∙ are.0,
      λ u l. ⊎_elim
          (λ (same : u ≡ thread_of e).
          ap (λ z. get_or (set depths (thread_of e) d) z 0) same
          ∙ get_or-set_same depths (thread_of e) d 0 (let k = follows.known_thread in let n = are.0 in omega (arith, k, n))
          ∙ is ∙ ap (λ z. depth_in (trace ++ e ∷ []) z) (sym same))
          (λ (other : u ≡ thread_of e → ⊥). get_or-set_other depths (thread_of e) u d 0 other ∙ are.1 u l ∙ sym (depth-elsewhere u other))
          (cases_eq u (thread_of e)),
    )

    pub depths-same : IsFalse (is_begin e.kind) → IsFalse (is_end e.kind) → AreDepths bounds depths (trace ++ e ∷ [])
    depths-same no_begin no_end = (are.0, λ u l. are.1 u l ∙ sym (depth-same no_begin no_end u))

    pub depths-begun : IsTrue (is_begin e.kind) → AreDepths bounds (slice_set depths (thread_of e) (slice_index_or depths (thread_of e) 0 + 1)) (trace ++ e ∷ [])
    depths-begun begun = set-depth (slice_index_or depths (thread_of e) 0 + 1) (ap (λ n. n + 1) depth-now ∙ sym (depth-begun begun))

    pub depths-ended : IsTrue (is_end e.kind) → AreDepths bounds (slice_set depths (thread_of e) (slice_index_or depths (thread_of e) 0 - 1)) (trace ++ e ∷ [])
    depths-ended ended = set-depth (slice_index_or depths (thread_of e) 0 - 1) (ap (λ n. n - 1) depth-now ∙ sym (depth-ended ended))
