-- One event more is taken in.
use Rattle.std.proofs.Common.{◌≡◌, ℕ, suc, ◌+◌, ◌<◌, not, List, [], ◌∷◌, ◌++◌, length, get_or, refl, sym, ap, ◌∙◌, arith, take, replicate}
use Rattle.std.specs.Prelude.{IsTrue, IsFalse}
use Rattle.std.proofs.lemmas.Option.{slice_get-get_or}
use Rattle.std.proofs.lemmas.List.{get_or-replicate, length-replicate}
use Rattle.velo_events.specs.declared.event.Event.{Event}
use Rattle.velo_events.proofs.OnWellFormed.{Facts-from, IsWellFormed-take}
use Rattle.velo_traces.proofs.Past.{past}
use Rattle.velo_filter.specs.Left.{Omitted, is_left_out, rest_of, places_of}
use Rattle.velo_filter.specs.Marks.{number_of, AreMarks, IsShallow}
use Rattle.velo_filter.specs.Stacks.{stack}
use Rattle.velo_filter.specs.Thinned.{CanComeAbout, first_places, first_of_rest}
use Rattle.velo_filter.proofs.OnRanks.{staying-stays, staying-goes, events_staying-stays, events_staying-goes}
use Rattle.velo_filter.proofs.OnLeft.{stays}
use Rattle.velo_filter.proofs.OnTurns.{height}

-- in a log that can come about few blocks are open
pub IsShallow-from : (log : List Event) → CanComeAbout log → IsShallow log
IsShallow-from log can = record {
  each = λ t n l.
      let few = (Facts-from can.bounds (take n log) (IsWellFormed-take can.bounds log n l can.well_formed)).few t in
      omega (arith, few, height can.bounds log can.well_formed t n l);
}

-- no block is open at the start
pub AreMarks-start : (left : Omitted) (log : List Event) (k : ℕ) → AreMarks left log 0 (replicate k 0)
unfolding stack number_of
AreMarks-start left log k = record { each = λ t l. get_or-replicate {A = ℕ} k t 0 0 (omega (arith, l, length-replicate {A = ℕ} k 0)) }

module _ (left : Omitted) (log : List Event) (n : ℕ) (within : n < length log) where
  one : n + 1 ≡ suc n
  one = omega arith

  pub first_places-stays : IsTrue (not (is_left_out left log n)) → first_places left log n ++ n ∷ [] ≡ first_places left log (n + 1)
  first_places-stays h = sym (ap (first_places left log) one ∙ staying-stays (stays left log) n h)

  pub first_of_rest-stays : IsTrue (not (is_left_out left log n)) → first_of_rest left log n ++ get_or log n past ∷ [] ≡ first_of_rest left log (n + 1)
  first_of_rest-stays h = sym (ap (first_of_rest left log) one ∙ events_staying-stays log (stays left log) n (get_or log n past) (slice_get-get_or log n past within) h)

  pub first_places-goes : IsFalse (not (is_left_out left log n)) → first_places left log n ≡ first_places left log (n + 1)
  first_places-goes h = sym (ap (first_places left log) one ∙ staying-goes (stays left log) n h)

  pub first_of_rest-goes : IsFalse (not (is_left_out left log n)) → first_of_rest left log n ≡ first_of_rest left log (n + 1)
  first_of_rest-goes h = sym (ap (first_of_rest left log) one ∙ events_staying-goes log (stays left log) n h)

pub first_of_rest-all : (left : Omitted) (log : List Event) → first_of_rest left log (length log) ≡ rest_of left log
unfolding rest_of places_of
first_of_rest-all left log = refl

pub first_places-all : (left : Omitted) (log : List Event) → first_places left log (length log) ≡ places_of left log
unfolding places_of
first_places-all left log = refl
