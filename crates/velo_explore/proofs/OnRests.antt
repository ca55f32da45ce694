-- What is left of a log: the same with its values or without, and it only grows.
use Rattle.std.proofs.Common.{◌≡◌, ℕ, ◌+◌, ◌<◌, ◌≤◌, Bool, false, not, List, [], ◌∷◌, ◌++◌, length, take, drop, map, Option, Some, None, refl, sym, ap, ◌∙◌, subst, arith}
use Rattle.std.specs.Prelude.{◌&&◌, ◌||◌, slice_get, filter, filter_map, option_map}
use Rattle.std.specs.List.{cons_option, range_with_len}
use Rattle.std.specs.Option.{option_map_or}
use Rattle.std.proofs.Math.Seq.{take-append_seam}
use Rattle.std.proofs.lemmas.List.{length-append, length-map}
use Rattle.std.proofs.lemmas.Option.{slice_get-map}
use Rattle.velo_events.specs.declared.event.Event.{Event}
use Rattle.velo_events.specs.declared.event.Kind.{Kind}
use Rattle.velo_events.specs.declared.event.Kind.TheVariants.{Read, Write}
use Rattle.velo_events.specs.Event.{thread_of, lock_of, variable_of}
use Rattle.velo_events.specs.Block.{any_below, passes_at, is_open_at, positions}
use Rattle.velo_events.specs.Graph.{HasCycle}
use Rattle.velo_events.proofs.OnBlocks.{any_below-same}
use Rattle.velo_events.proofs.OnGraphs.{HasCycle-from_take}
use Rattle.velo_filter.specs.Left.{Omitted, is_among, label_begun, begins_such, is_on_such, is_dissolved, ends_at, is_left_out, places_of, rest_of}
use Rattle.velo_filter.proofs.OnLeft.{stays}
use Rattle.velo_filter.proofs.OnPrefixesLeft.{rest_of-take}
use Rattle.velo_filter.proofs.OnRanks.{rank}
use Rattle.velo_search.specs.Plain.{plain_kind, plain, plain_log}
use Rattle.velo_search.proofs.OnPlain.{IsBlind, is_open_at-plain, passes_at-plain, HasCycle-plain, HasCycle-from_plain}

label-plain : (k : Kind) → label_begun (plain_kind k) ≡ label_begun k
label-plain (Read x v) = refl
label-plain (Write x v) = refl
label-plain _ = refl

lock-plain : (k : Kind) → lock_of (plain_kind k) ≡ lock_of k
lock-plain (Read x v) = refl
lock-plain (Write x v) = refl
lock-plain _ = refl

variable-plain : (k : Kind) → variable_of (plain_kind k) ≡ variable_of k
variable-plain (Read x v) = refl
variable-plain (Write x v) = refl
variable-plain _ = refl

module _ (omitted : Omitted) where
  begins-plain : IsBlind (begins_such omitted)
  begins-plain e = ap (is_among omitted.labels) (label-plain e.kind)

  on-plain : IsBlind (is_on_such omitted)
  on-plain e =
      ap (λ o. is_among omitted.locks o || is_among omitted.variables (variable_of (plain_kind e.kind))) (lock-plain e.kind)
      ∙ ap (λ o. is_among omitted.locks (lock_of e.kind) || is_among omitted.variables o) (variable-plain e.kind)

  module _ (log : List Event) where
    dissolved-plain : (b : ℕ) → is_dissolved omitted (plain_log log) b ≡ is_dissolved omitted log b
    unfolding is_dissolved
    dissolved-plain b = passes_at-plain (begins_such omitted) begins-plain log b

    ends_at-plain : (b i : ℕ) → ends_at (plain_log log) b i ≡ ends_at log b i
    unfolding ends_at passes_at
    ends_at-plain b i =
        ap (λ o. option_map_or (λ e. is_open_at (plain_log log) (thread_of e) b i && not (is_open_at (plain_log log) (thread_of e) b (i + 1))) o false) (slice_get-map plain log i)
        ∙ at (slice_get log i)
      where
        at : (o : Option Event) → option_map_or (λ e. is_open_at (plain_log log) (thread_of e) b i && not (is_open_at (plain_log log) (thread_of e) b (i + 1))) (option_map plain o) false
            ≡ option_map_or (λ e. is_open_at log (thread_of e) b i && not (is_open_at log (thread_of e) b (i + 1))) o false
        at None = refl
        at (Some e) =
            ap (λ x. x && not (is_open_at (plain_log log) (thread_of e) b (i + 1))) (is_open_at-plain log (thread_of e) b i)
            ∙ ap (λ x. is_open_at log (thread_of e) b i && not x) (is_open_at-plain log (thread_of e) b (i + 1))

    pub out-plain : (i : ℕ) → is_left_out omitted (plain_log log) i ≡ is_left_out omitted log i
    unfolding is_left_out
    out-plain i =
        ap (λ x. x || any_below i (λ b. is_dissolved omitted (plain_log log) b && ends_at (plain_log log) b i) || passes_at (plain_log log) (is_on_such omitted) i) (dissolved-plain i)
        ∙ (ap (λ x. is_dissolved omitted log i || x || passes_at (plain_log log) (is_on_such omitted) i)
        (any_below-same i _ _ (λ b l. ap (λ x. x && ends_at (plain_log log) b i) (dissolved-plain b) ∙ ap (λ x. is_dissolved omitted log b && x) (ends_at-plain b i)))
        ∙ ap (λ x. is_dissolved omitted log i || any_below i (λ b. is_dissolved omitted log b && ends_at log b i) || x) (passes_at-plain (is_on_such omitted) on-plain log i))

    places-plain : places_of omitted (plain_log log) ≡ places_of omitted log
    unfolding places_of
    places-plain =
        ap (λ (test : ℕ → Bool). filter test (positions (plain_log log))) (λ d i. ap not (out-plain i) d)
        ∙ ap (filter (λ i. not (is_left_out omitted log i))) (ap (range_with_len 0) (length-map log plain))

    chosen-plain : (is : List ℕ) → filter_map (slice_get (plain_log log)) is ≡ plain_log (filter_map (slice_get log) is)
    chosen-plain [] = refl
    chosen-plain (i ∷ is) = ap (λ o. cons_option o (filter_map (slice_get (plain_log log)) is)) (slice_get-map plain log i) ∙ at (chosen-plain is) (slice_get log i)
      where
        at : filter_map (slice_get (plain_log log)) is ≡ plain_log (filter_map (slice_get log) is) → (o : Option Event)
            → cons_option (option_map plain o) (filter_map (slice_get (plain_log log)) is) ≡ plain_log (cons_option o (filter_map (slice_get log) is))
        at rest None = rest
        at rest (Some e) = ap (λ es. plain e ∷ es) rest

    -- without values is left what is left, without values
    pub rest-plain : rest_of omitted (plain_log log) ≡ plain_log (rest_of omitted log)
    unfolding rest_of
    rest-plain = ap (filter_map (slice_get (plain_log log))) places-plain ∙ chosen-plain (places_of omitted log)

    pub cycle-plain : HasCycle (rest_of omitted log) → HasCycle (rest_of omitted (plain_log log))
    cycle-plain cycle = subst HasCycle (sym rest-plain) (HasCycle-plain (rest_of omitted log) cycle)

    pub cycle-from_plain : HasCycle (rest_of omitted (plain_log log)) → HasCycle (rest_of omitted log)
    cycle-from_plain cycle = HasCycle-from_plain (rest_of omitted log) (subst HasCycle rest-plain cycle)

  -- a cycle of what is left of the first events is one of what is left of all
  pub cycle-longer : (log more : List Event) → HasCycle (rest_of omitted log) → HasCycle (rest_of omitted (log ++ more))
  cycle-longer log more cycle =
      let most : length log ≤ length (log ++ more) = let all = length-append log more in omega (arith, all) in
      HasCycle-from_take (rest_of omitted (log ++ more)) (rank (stays omitted (log ++ more)) (length log))
      (subst HasCycle (rest_of-take omitted (log ++ more) (length log) most) (subst (λ es. HasCycle (rest_of omitted es)) (sym (take-append_seam log more)) cycle))
