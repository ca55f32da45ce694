-- Bytes that are read piece by piece.
use Rattle.std.proofs.Common.{◌≡◌, ◌∙◌, ◌+◌, ◌≤◌, ◌<◌, ◌++◌, ℕ, List, [], sym, ap, arith, take, drop, length}
use Rattle.std.proofs.lemmas.List.{append_assoc, length-append, length-take, take-append-drop, take-append-le, take_all, take_at}
use Rattle.std.proofs.Math.Seq.{take-append-add}
use Rattle.std.specs.Prelude.{Option, Some, None}
use Rattle.std.specs.Io.KnownBytes.{Consumes, IsAtEnd}
use Rattle.velo_check.specs.Reading.{IsReadOf}

-- ---- a piece behind what is there, in a list that is longer by it

within : (xs : List ℕ) (n k : ℕ) → n ≤ k → n ≤ length xs → take n (take k xs) ≡ take n xs
within xs n k le here =
    sym (take-append-le n (take k xs) (drop k xs) (omega (arith, le, here, length-take k xs))) ∙ ap (take n) (take-append-drop k xs)

pub grown : (front piece behind more : List ℕ) (count n k : ℕ) → n ≡ length front + count → count ≤ length piece → n ≤ k
    → take n (take k ((front ++ (piece ++ behind)) ++ more)) ≡ front ++ take count piece
grown front piece behind more count n k is le within_k =
    within ((front ++ (piece ++ behind)) ++ more) n k within_k (omega (arith, is, le, all, rest, tail))
    ∙ (take-append-le n (front ++ (piece ++ behind)) more (omega (arith, is, le, rest, tail))
    ∙ (ap (λ m. take m (front ++ (piece ++ behind))) is
    ∙ (take-append-add front (piece ++ behind) count
    ∙ ap (λ l. front ++ l) (take-append-le count piece behind le))))
  where
    all : length ((front ++ (piece ++ behind)) ++ more) ≡ length (front ++ (piece ++ behind)) + length more
    all = length-append (front ++ (piece ++ behind)) more

    rest : length (front ++ (piece ++ behind)) ≡ length front + length (piece ++ behind)
    rest = length-append front (piece ++ behind)

    tail : length (piece ++ behind) ≡ length piece + length behind
    tail = length-append piece behind

pub kept : (old more : List ℕ) (done k : ℕ) → done ≡ length old → done ≤ k → take done (take k old ++ more) ≡ old
kept old more done k is le =
    let full = take_all k old (omega (arith, is, le)) in
    take_at (take k old) more done (ap length full ∙ sym is) ∙ full

-- ---- what a source gave

pub gave_then : (a b c : Option (List ℕ)) (xs ys : List ℕ) → Consumes a b xs → Consumes b c ys → Consumes a c (xs ++ ys)
gave_then None b c xs ys first next = tt
gave_then (Some all) None c xs ys first next = absurd first
gave_then (Some all) (Some left) None xs ys first next = absurd next
gave_then (Some all) (Some left) (Some rest) xs ys first next = first ∙ (ap (λ l. xs ++ l) next ∙ sym (append_assoc xs ys rest))

-- all of it
pub gave_all : (a b : Option (List ℕ)) (xs : List ℕ) (most : ℕ) → Consumes a b xs → IsAtEnd b → IsReadOf most a xs
gave_all None b xs most gave end = tt
gave_all (Some all) None xs most gave end = absurd gave
gave_all (Some all) (Some rest) xs most gave end = (rest, gave, λ few. end)

-- more than was wanted
pub gave_more : (a b : Option (List ℕ)) (xs : List ℕ) (most : ℕ) → Consumes a b xs → most < length xs → IsReadOf most a xs
gave_more None b xs most gave more = tt
gave_more (Some all) None xs most gave more = absurd gave
gave_more (Some all) (Some rest) xs most gave more = (rest, gave, λ few. absurd (omega (arith, few, more)))
