-- The open repeats of a cursor, where they are kept in an array.
use Rattle.std.proofs.Common.{◌≡◌, ◌≢◌, ◌<◌, ◌≤◌, ℕ, zero, suc, ◌+◌, ◌-◌, List, ◌∷◌, length, set, get_or, refl, sym, ◌∙◌, ap, arith, add-one, get_or-set_other, get_or-set_same}
use Rattle.velo_worker.specs.declared.cursor.OpenRepeat.{OpenRepeat}
use Rattle.velo_worker.specs.Cursor.{innermost_first, entered, repeated_or_left, repeated_or_left_by}

pub innermost_first-length : (rs : List OpenRepeat) (n : ℕ) → length (innermost_first rs n) ≡ n
unfolding innermost_first
innermost_first-length rs zero = refl
innermost_first-length rs (suc n) = ap suc (innermost_first-length rs n)

pub innermost_first-set : (rs : List OpenRepeat) (k n : ℕ) (x : OpenRepeat) → n ≤ k → innermost_first (set rs k x) n ≡ innermost_first rs n
unfolding innermost_first
innermost_first-set rs k zero x h = refl
innermost_first-set rs k (suc n) x h =
    let other : n ≢ k = omega arith in
    let before : n ≤ k = omega arith in
    rw (get_or-set_other rs k n x (record { start = 0; again = 0 }) other, innermost_first-set rs k n x before) refl

pub innermost_first-push : (rs : List OpenRepeat) (n : ℕ) (x : OpenRepeat) → n < length rs → innermost_first (set rs n x) (n + 1) ≡ x ∷ innermost_first rs n
unfolding innermost_first
innermost_first-push rs n x h =
    let same : n ≤ n = omega arith in
    rw add-one (rw (get_or-set_same rs n x (record { start = 0; again = 0 }) h, innermost_first-set rs n n x same) refl)

pub innermost_first-last : (rs : List OpenRepeat) (n : ℕ) → 0 < n → innermost_first rs n ≡ get_or rs (n - 1) (record { start = 0; again = 0 }) ∷ innermost_first rs (n - 1)
unfolding innermost_first
innermost_first-last rs zero h = absurd (omega arith)
innermost_first-last rs (suc n) h = let e : suc n - 1 ≡ n = omega arith in rw e refl

again_one_less : (p start : ℕ) (repeats : List OpenRepeat) (again : ℕ) → again ≢ 0
    → record { position = start; repeats = record { start = start; again = again - 1 } ∷ repeats } ≡ repeated_or_left_by p start repeats again
again_one_less p start repeats zero more = absurd (more refl)
again_one_less p start repeats (suc n) more = let e : suc n - 1 ≡ n = omega arith in rw e refl

-- ---- the cursors that the code makes, as the definitions have them

pub entered-push : (rs : List OpenRepeat) (p n times end : ℕ) → n < length rs → times ≢ 0
    → record { position = p + 1; repeats = innermost_first (set rs n (record { start = p + 1; again = times - 1 })) (n + 1) } ≡ entered (record { position = p; repeats = innermost_first rs n }) times end
entered-push rs p n zero end room some = absurd (some refl)
entered-push rs p n (suc k) end room some =
    let e : suc k - 1 ≡ k = omega arith in
    rw (innermost_first-push rs n (record { start = p + 1; again = suc k - 1 }) room, e) refl

pub repeated_or_left-out : (rs : List OpenRepeat) (p n : ℕ) → 0 < n → (get_or rs (n - 1) (record { start = 0; again = 0 })).again ≡ 0
    → record { position = p + 1; repeats = innermost_first rs (n - 1) } ≡ repeated_or_left p (innermost_first rs n)
repeated_or_left-out rs p n some last = rw (innermost_first-last rs n some, last) refl

pub repeated_or_left-back : (rs : List OpenRepeat) (p n : ℕ) → 0 < n → n ≤ length rs → (get_or rs (n - 1) (record { start = 0; again = 0 })).again ≢ 0
    → record {
      position = (get_or rs (n - 1) (record { start = 0; again = 0 })).start;
      repeats = innermost_first (set rs (n - 1) (record { start = (get_or rs (n - 1) (record { start = 0; again = 0 })).start; again = (get_or rs (n - 1) (record { start = 0; again = 0 })).again - 1 })) n;
    } ≡ repeated_or_left p (innermost_first rs n)
repeated_or_left-back rs p n some room more =
    let r = get_or rs (n - 1) (record { start = 0; again = 0 }) in
    let r' : OpenRepeat = record { start = r.start; again = r.again - 1 } in
    let within : n - 1 < length rs = omega arith in
    let e : n - 1 + 1 ≡ n = omega arith in
    let pushed : innermost_first (set rs (n - 1) r') n ≡ r' ∷ innermost_first rs (n - 1) =
    ap (innermost_first (set rs (n - 1) r')) (sym e) ∙ innermost_first-push rs (n - 1) r' within in
    rw (pushed, innermost_first-last rs n some) (again_one_less p r.start (innermost_first rs (n - 1)) r.again more)
