-- What holds of all states of a list, and of those kept among them.
use Rattle.std.proofs.Common.{◌≡◌, ℕ, ◌+◌, ◌-◌, ◌<◌, List, length, sym, subst, ◌∙◌, arith, ⊎_elim}
use Rattle.std.specs.List.{ReversedBelow}
use Rattle.std.specs.Prelude.{◌⊎◌, All, Contains, slice_index_or}
use Rattle.std.proofs.lemmas.Bool.{cases_lt}
use Rattle.std.proofs.lemmas.List.{get_or_default}
use Rattle.std.proofs.lemmas.List.Elements.{All-contains, All-weaker, All-contains_itself}
use Rattle.velo_events.specs.declared.config.Bounds.{Bounds}
use Rattle.velo_events.specs.declared.event.Event.{Event}
use Rattle.velo_events.specs.declared.event.Kind.{Kind}
use Rattle.velo_search.specs.declared.state.State.{State}
use Rattle.velo_search.specs.Faults.{Fault}
use Rattle.velo_search.specs.Search.{IsClean, StandsAmong}

-- 62. what holds of the old ones and of the new one holds of all
pub All-kept : {X : Type 0} (P : X → Type 0) (old now : List X) (x : X) → ((s : X) → Contains now s → Contains old s ⊎ (x ≡ s)) → All P old → P x → All P now
All-kept P old now x members all here =
    All-weaker (Contains now) P (λ s w. ⊎_elim (λ was. All-contains P old s all was) (λ is. subst P is here) (members s w)) now (All-contains_itself now)

-- 63. what holds of all holds of the old ones
pub All-before : {X : Type 0} (P : X → Type 0) (old now : List X) → ((s : X) → Contains old s → Contains now s) → All P now → All P old
All-before P old now before all = All-weaker (Contains old) P (λ s w. All-contains P now s all (before s w)) old (All-contains_itself old)

-- what holds of all holds of all the other way round
pub All-turned : {X : Type 0} (P : X → Type 0) (old now : List X) → ReversedBelow old now (length old) → length now ≡ length old → All P old → All P now
All-turned P old now turned same all = λ k d l. subst P (sym (turned k d (omega (arith, l, same)))) (all (length old - 1 - k) d (omega (arith, l, same)))

pub All-turned_back : {X : Type 0} (P : X → Type 0) (old now : List X) → ReversedBelow old now (length old) → length now ≡ length old → All P now → All P old
All-turned_back P old now turned same all = λ k d l.
    let back : length old - 1 - (length old - 1 - k) ≡ k = omega (arith, l) in
    subst (λ j. P (slice_index_or old j d)) back (subst P (turned (length old - 1 - k) d (omega (arith, l))) (all (length old - 1 - k) d (omega (arith, l, same))))

-- and a state is clean, where all of those are among which it stands
pub clean-among : (bounds : Bounds) (scripts : List (List Kind)) (rest : List Event → List Event) (n : ℕ) (fault : Fault) (states : List State) (state : State) → StandsAmong states state → All (IsClean bounds scripts rest n fault) states → IsClean bounds scripts rest n fault state
clean-among bounds scripts rest n fault states state among all = record {
  each = λ log run stands. (All-contains (IsClean bounds scripts rest n fault) states among.member all among.there).each log run (among.logs rest log stands);
}

-- one more member of a list
pub AllBelow-next : {X : Type 0} (P : X → Type 0) (xs : List X) (i : ℕ) (x : X) → i < length xs → x ≡ slice_index_or xs i x → ((k : ℕ) (d : X) → k < i → P (slice_index_or xs k d)) → P x → (k : ℕ) (d : X) → k < i + 1 → P (slice_index_or xs k d)
AllBelow-next P xs i x within is before here k d l = ⊎_elim
    (λ under. before k d under)
    (λ past. subst (λ j. P (slice_index_or xs j d)) (let same : i ≡ k = omega (arith, past, l) in same) (subst P (is ∙ get_or_default xs i x d within) here))
    (cases_lt k i)
