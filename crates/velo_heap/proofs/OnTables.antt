-- Tables, read and written at one place.
use Rattle.std.proofs.Common.{◌≡◌, ℕ, ◌<◌, List, length, set, replicate, get_or, Some, sym, ◌∙◌, subst, ap, arith, ⊎_elim}
use Rattle.std.specs.Prelude.{slice_get}
use Rattle.std.proofs.lemmas.Bool.{cases_eq}
use Rattle.std.proofs.lemmas.List.{length-set, length-replicate}
use Rattle.std.proofs.lemmas.Option.{get_or_from_slice_get}
use Rattle.velo_events.proofs.OnLists.{slice_get-set_same, slice_get-set_other, slice_get-replicate}
use Rattle.velo_heap.specs.Contents.{Tabulates}

pub get_or-tabulated : {X : Type 0} (items : List X) (f : ℕ → X) (d : X) (i : ℕ) → Tabulates items f → i < length items → get_or items i d ≡ f i
get_or-tabulated items f d i table within = get_or_from_slice_get items i (f i) d (table.each i within)

-- nothing changed
pub Tabulates-same : {X : Type 0} (items : List X) (f g : ℕ → X) → Tabulates items f → ((i : ℕ) → g i ≡ f i) → Tabulates items g
Tabulates-same items f g table same = record { each = λ i within. table.each i within ∙ ap Some (sym (same i)) }

-- one place was written
pub Tabulates-set : {X : Type 0} (items : List X) (f g : ℕ → X) (at : ℕ) (x : X) → Tabulates items f → at < length items → g at ≡ x → ((i : ℕ) → (i ≡ at → ⊥) → g i ≡ f i) → Tabulates (set items at x) g
Tabulates-set items f g at x table there here elsewhere = record {
  each = λ i within.
      let below : i < length items = omega (arith, within, length-set items at x) in
      ⊎_elim
      (λ (same : i ≡ at). subst (λ n. slice_get (set items at x) n ≡ Some (g n)) (sym same) (slice_get-set_same items at x there ∙ ap Some (sym here)))
      (λ differ. slice_get-set_other items at i x (λ e. differ (sym e)) ∙ (table.each i below ∙ ap Some (sym (elsewhere i differ))))
      (cases_eq i at);
}

pub Tabulates-replicate : {X : Type 0} (n : ℕ) (x : X) (f : ℕ → X) → ((i : ℕ) → f i ≡ x) → Tabulates (replicate n x) f
Tabulates-replicate n x f same = record {
  each = λ i within. slice_get-replicate n i x (omega (arith, within, length-replicate n x)) ∙ ap Some (sym (same i));
}
