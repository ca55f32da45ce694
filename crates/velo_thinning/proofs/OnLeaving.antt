-- One event more is taken in, or not.
use Rattle.std.proofs.Common.{◌≡◌, ℕ, suc, ◌+◌, ◌<◌, Bool, not, List, [], ◌∷◌, ◌++◌, length, get_or, refl, sym, ap, ◌∙◌, arith}
use Rattle.std.specs.Prelude.{IsTrue, IsFalse}
use Rattle.std.proofs.lemmas.Option.{slice_get-get_or}
use Rattle.velo_events.specs.declared.event.Event.{Event}
use Rattle.velo_traces.proofs.Past.{past}
use Rattle.velo_filter.specs.declared.thinned.Thinned.{Thinned}
use Rattle.velo_filter.proofs.OnRanks.{staying, staying-stays, staying-goes, events_staying, events_staying-stays, events_staying-goes}
use Rattle.velo_thinning.specs.Finding.{IsLeftTo}

module _ (goes : ℕ → Bool) (log : List Event) (n : ℕ) (old new : Thinned) (stands : IsLeftTo goes log n old) where
  abbrev keeps : ℕ → Bool
  keeps i = not (goes i)

  one : n + 1 ≡ suc n
  one = omega arith

  pub left-stays : n < length log → IsFalse (goes n) → new.trace.events ≡ old.trace.events ++ get_or log n past ∷ [] → new.places.items ≡ old.places.items ++ n ∷ [] → IsLeftTo goes log (n + 1) new
  left-stays within stay events places = record {
    events = events ∙ (ap (λ es. es ++ get_or log n past ∷ []) stands.events
        ∙ sym (ap (events_staying log keeps) one ∙ events_staying-stays log keeps n (get_or log n past) (slice_get-get_or log n past within) (ap not stay)));
    places = places ∙ (ap (λ xs. xs ++ n ∷ []) stands.places ∙ sym (ap (staying keeps) one ∙ staying-stays keeps n (ap not stay)));
  }

  pub left-goes : IsTrue (goes n) → new.trace.events ≡ old.trace.events → new.places.items ≡ old.places.items → IsLeftTo goes log (n + 1) new
  left-goes gone events places = record {
    events = events ∙ (stands.events ∙ sym (ap (events_staying log keeps) one ∙ events_staying-goes log keeps n (ap not gone)));
    places = places ∙ (stands.places ∙ sym (ap (staying keeps) one ∙ staying-goes keeps n (ap not gone)));
  }
