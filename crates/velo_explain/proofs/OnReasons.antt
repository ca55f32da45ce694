-- A block to blame has a witness, where the events before the closing one have no cycle.
use Rattle.std.proofs.Common.{◌≡◌, ◌≢◌, ℕ, ◌+◌, ◌<◌, List, [], ◌∷◌, ◌++◌, length, take, drop, Some, sym, ap, ◌∙◌, subst, arith, ⊎_elim}
use Rattle.std.specs.Prelude.{slice_get, slice_index_or, IsTrue, Contains}
use Rattle.std.specs.Option.{option_map_or}
use Rattle.std.proofs.lemmas.Bool.{both_ways, eq-eqb}
use Rattle.std.proofs.lemmas.List.{take-append-drop, length-take-le}
use Rattle.velo_events.specs.declared.event.Event.{Event}
use Rattle.velo_events.specs.Event.{thread_of, is_by}
use Rattle.velo_events.specs.Block.{passes_at, is_open_at, open_blocks}
use Rattle.velo_events.specs.Graph.{ConflictsInOrder, HappensBefore, HasCycle}
use Rattle.velo_events.specs.Reordering.{IsSelfSerializable}
use Rattle.velo_events.proofs.OnTraces.{slice_get-append, passes_at-append}
use Rattle.velo_events.proofs.OnScans.{take-next, event_at, passes_at-is}
use Rattle.velo_events.proofs.OnGraphs.{Path-map}
use Rattle.velo_events.proofs.OnOwners.{is_open_at-thread}
use Rattle.velo_events.proofs.OnUnfinished.{Contains-open_blocks}
use Rattle.velo_events.proofs.OnHappening.{ConflictsInOrder-append, IsFrom-le}
use Rattle.velo_events.proofs.OnBlame.{IsInterruptedAtLast, blame_law-last}
use Rattle.velo_traces.specs.declared.block.Block.{Block}
use Rattle.velo_certify.specs.Witness.{thread_at, IsWitness}
use Rattle.velo_explain.specs.declared.evidence.Evidence.{Evidence}
use Rattle.velo_explain.specs.Evidence.{no_block, AreBlames, HaveReasons}

module _ (trace : List Event) (p b : ℕ) (e : Event) (within : p < length trace) (here : slice_get trace p ≡ Some e) (none : ¬ HasCycle (take p trace)) (opened : Contains (open_blocks (take (p + 1) trace) (thread_of e)) b) (parted : ¬ IsSelfSerializable (take (p + 1) trace) b) where
  next : take (p + 1) trace ≡ take p trace ++ e ∷ []
  next = take-next trace p e here

  long : length (take p trace) ≡ p
  long = length-take-le p trace (omega (arith, within))

  whole : (take p trace ++ e ∷ []) ++ drop (p + 1) trace ≡ trace
  whole = ap (λ (xs : List Event). xs ++ drop (p + 1) trace) (sym next) ∙ take-append-drop (p + 1) trace

  still_open : IsTrue (is_open_at (take p trace ++ e ∷ []) (thread_of e) b (length (take p trace ++ e ∷ [])))
  still_open = subst (λ (xs : List Event). IsTrue (is_open_at xs (thread_of e) b (length xs))) next ((Contains-open_blocks (take (p + 1) trace) (thread_of e) b).0 opened)

  last : IsInterruptedAtLast (take p trace) e b
  last = (blame_law-last (take p trace) e b none still_open).0 (subst (λ (xs : List Event). ¬ IsSelfSerializable xs b) next parted)

  own : IsTrue (passes_at (take p trace) (is_by (thread_of e)) b)
  own =
      let after = IsFrom-le (take p trace) b last.through last.from in let before = last.before in
      sym (passes_at-append (take p trace) (e ∷ []) (is_by (thread_of e)) b (omega (arith, after, before))) ∙ is_open_at-thread (take p trace ++ e ∷ []) (thread_of e) b (length (take p trace ++ e ∷ [])) still_open

  longer : (i j : ℕ) → ConflictsInOrder (take p trace ++ e ∷ []) i j → ConflictsInOrder trace i j
  longer i j c = subst (λ (xs : List Event). ConflictsInOrder xs i j) whole (ConflictsInOrder-append (take p trace ++ e ∷ []) (drop (p + 1) trace) i j c)

  early : (i j : ℕ) → ConflictsInOrder (take p trace) i j → ConflictsInOrder trace i j
  early i j c = subst (λ (xs : List Event). ConflictsInOrder xs i j) (take-append-drop p trace) (ConflictsInOrder-append (take p trace) (drop p trace) i j c)

  out : HappensBefore trace b last.through
  out = ⊎_elim
      (λ at. absurd (both_ways (passes_at (take p trace) (is_by (thread_of e)) last.through) last.of_another (subst (λ k. IsTrue (passes_at (take p trace) (is_by (thread_of e)) k)) at own)))
      (λ h. (h.0, Path-map (ConflictsInOrder (take p trace)) (ConflictsInOrder trace) early b h.0 last.through h.1))
      last.from

  back : ConflictsInOrder trace last.through p
  back = subst (ConflictsInOrder trace last.through) long (longer last.through (length (take p trace)) (last.before, last.in_conflict))

  other : thread_at trace last.through ≢ thread_at trace p
  other same =
      let f = event_at (take p trace) last.through last.before in
      let there : slice_get trace last.through ≡ Some f.0 =
      ap (λ (xs : List Event). slice_get xs last.through) (sym (take-append-drop p trace)) ∙ (slice_get-append (take p trace) (drop p trace) last.through last.before ∙ f.1) in
      let first : thread_at trace last.through ≡ thread_of f.0 = ap (λ o. option_map_or thread_of o 0) there in
      let second : thread_at trace p ≡ thread_of e = ap (λ o. option_map_or thread_of o 0) here in
      both_ways _ last.of_another (passes_at-is (take p trace) (is_by (thread_of e)) last.through f.0 f.1 ∙ eq-eqb (thread_of f.0) (thread_of e) (sym first ∙ same ∙ second))

  pub witness_of-blamed : (w : ℕ) × IsWitness trace b p w
  witness_of-blamed = (last.through, record { after_begin = out; before_end = back; other_thread = other })

pub HaveReasons-by : (trace : List Event) (p : ℕ) (blamed : List Block) (evidence : Evidence) → p < length trace → AreBlames trace p blamed evidence.blames.items → ¬ HasCycle (take p trace) → HaveReasons trace p blamed evidence
HaveReasons-by trace p blamed evidence within blames none = record {
  each = λ j l opened parted.
      let e = event_at trace p within in
      let thread : thread_at trace p ≡ thread_of e.0 = ap (λ o. option_map_or thread_of o 0) e.1 in
      let w = witness_of-blamed trace p (slice_index_or blamed j no_block).first e.0 within e.1 none (subst (λ t. Contains (open_blocks (take (p + 1) trace) t) (slice_index_or blamed j no_block).first) thread opened) parted in
      blames.complete j w.0 l w.1;
}
