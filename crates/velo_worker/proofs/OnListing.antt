-- The events of a list of statements, one statement after another.
use Rattle.std.proofs.Common.{◌≡◌, ℕ, List, [], ◌∷◌, ◌++◌, drop, Some, None, refl, sym, ap, ◌∙◌, append_assoc, append-nil}
use Rattle.std.specs.Prelude.{filter, slice_get}
use Rattle.std.proofs.lemmas.List.Elements.{filter-append}
use Rattle.std.proofs.lemmas.Option.{same_Some, none-some}
use Rattle.velo_workload.specs.declared.statement.Statement.{Statement}
use Rattle.velo_worker.specs.Counts.{has_event}

-- one more statement goes from those that are left to those that are listed
pub listed-next : (listed left : List Statement) (s : Statement) → slice_get left 0 ≡ Some s → (listed ++ filter has_event (s ∷ [])) ++ filter has_event (drop 1 left) ≡ listed ++ filter has_event left
listed-next listed [] s h = absurd (none-some s h)
listed-next listed (x ∷ left) s h =
    ap (λ y. (listed ++ filter has_event (y ∷ [])) ++ filter has_event left) (sym (same_Some x s h))
    ∙ (append_assoc listed (filter has_event (x ∷ [])) (filter has_event left)
    ∙ ap (λ ys. listed ++ ys) (sym (filter-append has_event (x ∷ []) left)))

-- and where none is left all are listed
pub listed-all : (listed left : List Statement) → slice_get left 0 ≡ None → listed ≡ listed ++ filter has_event left
listed-all listed [] h = sym (append-nil listed)
listed-all listed (x ∷ left) h = absurd (none-some x (sym h))

-- and there is none at any number
pub at-end : (left : List Statement) (n : ℕ) → slice_get left 0 ≡ None → slice_get (filter has_event left) n ≡ None
at-end [] n h = refl
at-end (x ∷ left) n h = absurd (none-some x (sym h))
