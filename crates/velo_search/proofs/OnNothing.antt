-- Where nothing is left out, the whole log is left.
use Rattle.std.proofs.Common.{◌≡◌, ℕ, zero, suc, ◌+◌, ◌≤◌, Bool, false, not, List, [], ◌∷◌, ◌++◌, length, take, Option, Some, None, refl, sym, ap, ◌∙◌, arith}
use Rattle.std.specs.Prelude.{◌&&◌, slice_get}
use Rattle.std.specs.Option.{option_map_or}
use Rattle.std.proofs.Math.Seq.{take-length}
use Rattle.std.proofs.lemmas.Bool.{or_from}
use Rattle.velo_events.specs.declared.event.Event.{Event}
use Rattle.velo_events.specs.Event.{lock_of, variable_of}
use Rattle.velo_events.specs.Block.{passes_at}
use Rattle.velo_events.proofs.OnScans.{event_at, take-next}
use Rattle.velo_events.proofs.OnWellFormed.{any_below-never}
use Rattle.velo_filter.specs.Left.{nothing, is_among, label_begun, begins_such, is_on_such, is_dissolved, ends_at, is_left_out, rest_of}
use Rattle.velo_filter.proofs.OnRanks.{events_staying, events_staying-stays}
use Rattle.velo_filter.proofs.OnLeft.{stays, rest_of-is}
use Rattle.velo_search.specs.Parts.{whole_log}

among-none : (o : Option ℕ) → is_among (λ n. false) o ≡ false
among-none (Some n) = refl
among-none None = refl

passes-none : (log : List Event) (test : Event → Bool) → ((e : Event) → test e ≡ false) → (i : ℕ) → passes_at log test i ≡ false
unfolding passes_at
passes-none log test none i = at (slice_get log i)
  where
    at : (o : Option Event) → option_map_or test o false ≡ false
    at (Some e) = none e
    at None = refl

module _ (log : List Event) where
  dissolved-none : (b : ℕ) → is_dissolved nothing log b ≡ false
  unfolding is_dissolved
  dissolved-none b = passes-none log (begins_such nothing) (λ e. among-none (label_begun e.kind)) b

  on-none : (e : Event) → is_on_such nothing e ≡ false
  on-none e = or_from _ _ (among-none (lock_of e.kind)) (among-none (variable_of e.kind))

  out-none : (i : ℕ) → is_left_out nothing log i ≡ false
  unfolding is_left_out
  out-none i = or_from _ _
      (or_from _ _ (dissolved-none i) (any_below-never i _ (λ b l. ap (λ x. x && ends_at log b i) (dissolved-none b))))
      (passes-none log (is_on_such nothing) on-none i)

  all-staying : (n : ℕ) → n ≤ length log → events_staying log (stays nothing log) n ≡ take n log
  all-staying zero l = refl
  all-staying (suc n) l =
      let w = event_at log n (omega arith) in
      let before = all-staying n (omega arith) in
      events_staying-stays log (stays nothing log) n w.0 w.1 (ap not (out-none n))
      ∙ (ap (λ es. es ++ w.0 ∷ []) before
      ∙ (sym (take-next log n w.0 w.1) ∙ ap (λ k. take k log) (let one : n + 1 ≡ suc n = omega arith in one)))

  rest-nothing_of : rest_of nothing log ≡ log
  rest-nothing_of = rest_of-is nothing log ∙ (all-staying (length log) (omega arith) ∙ take-length log)

pub rest-nothing : rest_of nothing ≡ whole_log
rest-nothing = λ i log. rest-nothing_of log i
