-- After the last event the variables that are marked are in order.
use Rattle.std.proofs.Common.{◌≡◌, ℕ, ◌+◌, Bool, List, length, take, Some, refl, sym, ap, ◌∙◌, subst, ⊎_elim}
use Rattle.std.specs.Prelude.{◌||◌, slice_get, IsTrue}
use Rattle.std.proofs.lemmas.Bool.{and_parts, or_cases, false≢true, eq-eqb}
use Rattle.std.proofs.lemmas.Option.{same_Some, slice_get_within}
use Rattle.velo_events.specs.declared.config.Bounds.{Bounds}
use Rattle.velo_events.specs.declared.event.Event.{Event}
use Rattle.velo_events.specs.declared.event.Kind.{Kind}
use Rattle.velo_events.specs.declared.event.Kind.TheVariants.{Read, Write}
use Rattle.velo_events.specs.Event.{are_same, variable_of, lock_of, access_of, cell_of, is_exclusive, is_shared, is_writing, is_reading}
use Rattle.velo_events.specs.Block.{passes_at}
use Rattle.velo_events.specs.Place.{LastWrite, LastRead, last_at}
use Rattle.velo_events.specs.WellFormed.{IsWellFormed}
use Rattle.velo_events.proofs.OnScans.{passes_at-event, passes_at-is}
use Rattle.velo_events.proofs.OnLookUps.{are_same-some}
use Rattle.velo_filter.specs.Left.{is_among, is_left_out, rest_of}
use Rattle.velo_filter.proofs.OnTurns.{IsWellFormed-rest}
use Rattle.velo_laws.specs.Ordered.{only, dissolving, IsOrderedWithin, IsOrderedAtLast}
use Rattle.velo_laws.proofs.OnOrderedBlame.{blame_law}
use Rattle.velo_laws.proofs.OnOrderedClosing.{closing_law}
use Rattle.velo_laws.proofs.OnOrderedCycles.{cycle_law}
use Rattle.velo_laws.proofs.OnOrderedLabels.{ordered-rest, cycle_law-labels}
use Rattle.velo_laws.proofs.OnOrderedLast.{last-within, within-ordered}
use Rattle.velo_laws.proofs.OnOrderedPlaces.{goes-is}
use Rattle.velo_laws.proofs.OnOrderedPlacesOfRests.{closing_law-labels}
use Rattle.velo_thinning.specs.declared.sweep.Sweep.{Sweep}
use Rattle.velo_filter.specs.Tables.{marked}
use Rattle.velo_thinning.specs.Races.{no_lock, is_access_to, IsJudgedWithout}
use Rattle.velo_thinning.specs.Sweep.{IsSwept}

-- what is left out is an access to a variable of the set
on_variable : (variables : ℕ → Bool) (k : Kind) → IsTrue (is_among no_lock (lock_of k) || is_among variables (variable_of k)) → (x : ℕ) × IsTrue (variables x) × (variable_of k ≡ Some x) × (cell_of (access_of k) ≡ Some (x + x))
on_variable variables (Read x v) h = (x.0, h, refl, refl)
on_variable variables (Write x v) h = (x.0, h, refl, refl)
on_variable variables _ h = absurd (false≢true h)

module _ (log : List Event) (s : Sweep) (swept : IsSwept log (length log) s) where
  abbrev chosen : ℕ → Bool
  chosen = marked s.ordered.items

  -- the access at a position that is left out
  record IsAccess (j : ℕ) : Type 0 where
    event : Event
    here : slice_get log j ≡ Some event
    variable : ℕ
    is_marked : IsTrue (chosen variable)
    on : variable_of event.kind ≡ Some variable
    cell : cell_of (access_of event.kind) ≡ Some (variable + variable)

  access : (j : ℕ) (test : Event → Bool) → IsTrue (passes_at log test j) → IsTrue (is_left_out (only no_lock chosen) log j) → IsAccess j
  access j test passes goes =
      let e = passes_at-event log test j passes in
      let w = on_variable chosen e.0.kind (sym (goes-is no_lock chosen log j e.0 e.1) ∙ goes) in
      record { event = e.0; here = e.1; variable = w.0; is_marked = w.1; on = w.2; cell = w.3 }

  of_cell : (j c : ℕ) (a : IsAccess j) → IsTrue (are_same (cell_of (access_of a.event.kind)) (Some c)) → a.variable + a.variable ≡ c
  of_cell j c a h = same_Some (a.variable + a.variable) c (sym a.cell ∙ are_same-some (cell_of (access_of a.event.kind)) c h)

  at_last : IsOrderedAtLast (only no_lock chosen) log
  at_last = record {
    after_write = λ j m c goes passes last.
        let a = access j (λ e. is_writing c e || is_reading c e) passes goes in
        let test = sym (passes_at-is log (λ e. is_writing c e || is_reading c e) j a.event a.here) ∙ passes in
        let cell = ⊎_elim
        (λ w. of_cell j c a (and_parts (is_exclusive (access_of a.event.kind)) _ w).1)
        (λ r. of_cell j c a (and_parts (is_shared (access_of a.event.kind)) _ r).1)
        (or_cases _ _ test) in
        (swept.ordered a.variable a.is_marked).after_write j m (slice_get_within log j a.event a.here)
        (passes_at-is log (is_access_to a.variable) j a.event a.here ∙ (ap (λ o. are_same o (Some a.variable)) a.on ∙ eq-eqb a.variable a.variable refl))
        (ap (λ k. last_at (LastWrite k) (take j log)) cell ∙ last) chosen;
    after_reads = λ j m c u goes passes last.
        let a = access j (is_writing c) passes goes in
        let test = sym (passes_at-is log (is_writing c) j a.event a.here) ∙ passes in
        let cell = of_cell j c a (and_parts (is_exclusive (access_of a.event.kind)) _ test).1 in
        (swept.ordered a.variable a.is_marked).after_reads j m u (slice_get_within log j a.event a.here)
        (subst (λ k. IsTrue (passes_at log (is_writing k) j)) (sym cell) passes)
        (ap (λ k. last_at (LastRead k u) (take j log)) cell ∙ last) chosen;
  }

  pub ordered : IsOrderedWithin (only no_lock chosen) log
  ordered = last-within no_lock chosen log at_last

-- and the laws say what this gives
pub judged : (bounds : Bounds) (log : List Event) (variables : ℕ → Bool) → IsWellFormed bounds log → IsOrderedWithin (only no_lock variables) log → IsJudgedWithout variables log
judged bounds log variables well within =
    let ordered = within-ordered no_lock variables log within in
    record {
      cycles = cycle_law no_lock variables log bounds well ordered;
      closes = closing_law no_lock variables log bounds well ordered;
      blame = blame_law no_lock variables log bounds well ordered;
      cycles_without = λ labels. cycle_law-labels labels no_lock variables bounds log well within;
      closes_without = λ labels. closing_law-labels labels no_lock variables log bounds well within;
      blame_without = λ labels. blame_law no_lock variables (rest_of (dissolving labels) log) bounds (IsWellFormed-rest (dissolving labels) bounds log well) (ordered-rest labels no_lock variables log within);
    }
