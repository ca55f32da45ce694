-- The rounds of a log are determined by what is left out at their start.
use Rattle.std.proofs.Common.{◌≡◌, ℕ, ◌+◌, ◌<◌, ◌≤◌, List, [], ◌∷◌, map, take, refl, sym, ap, ◌∙◌, subst}
use Rattle.std.proofs.lemmas.List.Kept.{AllPairs-from_increasing}
use Rattle.velo_events.specs.declared.event.Event.{Event}
use Rattle.velo_events.specs.Block.{owner}
use Rattle.velo_events.specs.Reordering.{AreBlamed}
use Rattle.velo_events.proofs.OnGraphs.{IsClosing-unique, HasCycle-from_closing}
use Rattle.velo_certify.proofs.OnReordered.{same_rising}
use Rattle.velo_blame.specs.Blamed.{AreBlamedAt, thread_at}
use Rattle.velo_filter.specs.Left.{Omitted, rest_of, place_of, with_labels}
use Rattle.velo_audit.specs.Rounds.{RoundNumbers, IsRound, Rounds, labels_told, told_of, is_some_blamed}

-- the blocks to blame are determined
AreBlamed-unique : (trace : List Event) (t : ℕ) (xs ys : List ℕ) → AreBlamed trace t xs → AreBlamed trace t ys → xs ≡ ys
AreBlamed-unique trace t xs ys v w = same_rising xs ys (AllPairs-from_increasing xs v.outermost_first) (AllPairs-from_increasing ys w.outermost_first)
    (λ b h. (w.which b).1 ((v.which b).0 h)) (λ b h. (v.which b).1 ((w.which b).0 h))

-- so is what a round tells
pub IsRound-unique : (log : List Event) (left : Omitted) (a b : RoundNumbers) → IsRound log left a → IsRound log left b → a ≡ b
IsRound-unique log left a b v w = λ i. record { closing = closing i; transaction = transaction i; blocks = blocks i; to_blame = to_blame i }
  where
    what : List Event
    what = rest_of left log

    position : v.position ≡ w.position
    position = IsClosing-unique (rest_of left log) v.position w.position v.closes w.closes

    blamed : v.blamed ≡ w.blamed
    blamed = AreBlamed-unique (take (w.position + 1) (rest_of left log)) (thread_at (rest_of left log) w.position) v.blamed w.blamed (subst (λ p. AreBlamedAt (rest_of left log) p v.blamed) position v.are_blamed) w.are_blamed

    closing : a.closing ≡ b.closing
    closing = v.closing ∙ (ap (place_of left log) position ∙ sym w.closing)

    transaction : a.transaction ≡ b.transaction
    transaction = v.transaction ∙ (ap (λ p. place_of left log (owner (rest_of left log) p)) position ∙ sym w.transaction)

    blocks : a.blocks ≡ b.blocks
    blocks = v.blocks ∙ (ap (λ p. map (place_of left log) (told_of v.blamed (owner (rest_of left log) p))) position
        ∙ (ap (λ bs. map (place_of left log) (told_of bs (owner (rest_of left log) w.position))) blamed ∙ sym w.blocks))

    to_blame : a.to_blame ≡ b.to_blame
    to_blame = v.to_blame ∙ (ap is_some_blamed blamed ∙ sym w.to_blame)

-- and so are all rounds
pub Rounds-unique : (log : List Event) (left : Omitted) (xs ys : List RoundNumbers) → Rounds log left xs → Rounds log left ys → xs ≡ ys
unfolding Rounds
Rounds-unique log left [] [] v w = refl
Rounds-unique log left [] (y ∷ ys) v w = absurd (v (HasCycle-from_closing (rest_of left log) w.0.position w.0.closes))
Rounds-unique log left (x ∷ xs) [] v w = absurd (w (HasCycle-from_closing (rest_of left log) v.0.position v.0.closes))
Rounds-unique log left (x ∷ xs) (y ∷ ys) v w =
    let same = IsRound-unique log left x y v.0 w.0 in
    ap (λ z. z ∷ xs) same ∙ ap (λ zs. y ∷ zs) (Rounds-unique log (with_labels left (labels_told log y)) xs ys (subst (λ z. Rounds log (with_labels left (labels_told log z)) xs) same v.1) w.1)
