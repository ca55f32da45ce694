-- The bytes that a reader holds, as they are moved and as more come.
use Rattle.std.proofs.Common.{◌≡◌, ℕ, ◌+◌, ◌-◌, ◌≤◌, List, ◌++◌, length, take, drop, subst, sym, ap, ◌∙◌, length-append, arith}
use borrow.Rule.Slice.PartMut.{put_mid, post_of}
use Rattle.std.proofs.Math.Seq.{take-paste, paste, take-append-add, drop-append-add, drop-append_seam}
use Rattle.std.proofs.lemmas.List.{drop-take, length-drop, length-take-le, take-append-le}
use Rattle.std.specs.List.{copy_within}

-- the last bytes of those that are there, moved to the front
pub moved_front : (xs : List ℕ) (end left : ℕ) → end ≤ length xs → left ≤ end → take left (copy_within xs (end - left) end 0) ≡ drop (end - left) (take end xs)
moved_front xs end left within few =
    let n : end - (end - left) ≡ left = omega arith in
    let whole : end - left + left ≡ end = omega arith in
    let moved : take left (paste xs 0 (drop (end - left) xs) left) ≡ take left (drop (end - left) xs) = let z : 0 + left ≡ left = omega arith in subst (λ (k : ℕ). take k (paste xs 0 (drop (end - left) xs) left) ≡ take left (drop (end - left) xs)) z (take-paste xs 0 (drop (end - left) xs) left (omega arith) (omega (arith, length-drop (end - left) xs))) in
    let cut = drop-take (end - left) left xs in
    rw n (moved ∙ sym cut ∙ ap (λ (k : ℕ). drop (end - left) (take k xs)) whole)

-- a piece behind the bytes that are there
pub filled_more : (buffer piece : List ℕ) (end count : ℕ) → end ≤ length buffer → count ≤ length piece → take (end + count) (put_mid end (length buffer - end) buffer piece) ≡ take end buffer ++ take count piece
filled_more buffer piece end count within few =
    let front = take end buffer in
    let behind = post_of end (length buffer - end) buffer in
    let len : length front ≡ end = length-take-le end buffer within in
    ap (λ (k : ℕ). take (k + count) (front ++ (piece ++ behind))) (sym len)
    ∙ take-append-add front (piece ++ behind) count
    ∙ ap (λ (t : List ℕ). front ++ t) (take-append-le count piece behind few)

-- what is left of a list is the end of each list that ends it
pub rest_is : (front rest before bytes : List ℕ) → front ++ rest ≡ before ++ bytes → length rest ≤ length bytes → rest ≡ drop (length bytes - length rest) bytes
rest_is front rest before bytes e few =
    let n = length bytes - length rest in
    let len : length front ≡ length before + n = omega (arith, ap length e, length-append front rest, length-append before bytes) in
    sym (drop-append_seam front rest) ∙ ap (drop (length front)) e ∙ ap (λ (k : ℕ). drop k (before ++ bytes)) len ∙ drop-append-add before bytes n
