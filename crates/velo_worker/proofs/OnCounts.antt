-- Counting the events of a body by its levels.
use Rattle.std.proofs.Common.{◌≡◌, ◌<◌, ◌≤◌, ℕ, zero, suc, ◌+◌, ◌*◌, ◌-◌, ◌^◌, get_or, true, false, List, [], ◌∷◌, ◌++◌, drop, length, refl, sym, ◌∙◌, ap, inl, inr, arith, cond}
use Rattle.std.specs.Prelude.{count_by, min, ◌⊎◌}
use Rattle.std.proofs.Math.ListN.{drop_of_length-le}
use Rattle.std.proofs.lemmas.Bool.{cases_lt}
use Rattle.std.proofs.lemmas.List.{drop_more}
use Rattle.std.proofs.lemmas.List.Sums.{sum_by-append, sum_by-cons}
use Rattle.velo_workload.specs.declared.statement.Statement.{Statement}
use Rattle.velo_workload.specs.declared.statement.Statement.TheVariants.{Repeat, Done}
use Rattle.velo_worker.specs.Counts.{body_events, has_event}
use Rattle.velo_worker.specs.Walk.{first, others, levels, repeated, walk_of}
use Rattle.velo_worker.proofs.OnLevels.{IsPlain, levels-plain, levels-repeat, levels-done}

-- ---- numbers that stop at a limit

capped_within : (m n a : ℕ) → a ≤ m → min (n * min a m) m ≡ min (n * a) m
capped_within m n a h = let e : min a m ≡ a = omega (arith, h) in rw e refl

capped_beyond : (m n a : ℕ) → m < a → min (n * min a m) m ≡ min (n * a) m
capped_beyond m zero a h = let e : 0 * min a m ≡ 0 * a = omega arith in rw e refl
capped_beyond m (suc n) a h =
    let e : min a m ≡ m = omega (arith, h) in
    let low : m ≤ suc n * m = omega arith in
    let high : a ≤ suc n * a = omega arith in
    rw e (omega (arith, low, high, h))

-- a product of a number that stopped at the limit
pub capped-mul : (m n a : ℕ) → min (n * min a m) m ≡ min (n * a) m
capped-mul m n a = go (cases_lt m a)
  where
    go : (m < a) ⊎ (a ≤ m) → min (n * min a m) m ≡ min (n * a) m
    go (inl beyond) = capped_beyond m n a beyond
    go (inr within) = capped_within m n a within

-- a repeat: what it repeats was counted up to the limit
pub capped-repeat : (m c n a b p : ℕ) → p ≡ n * a → min (min (c + min (n * min a m) m) m + b) m ≡ min (c + (p + b)) m
capped-repeat m c n a b p e = let same = capped-mul m n a in rw (same, ← e) (omega arith)

-- ---- the events of a level

count : List Statement → ℕ
count statements = count_by has_event statements

count_times : (n : ℕ) (xs : List Statement) → count (repeated n xs) ≡ n * count xs
unfolding count repeated
count_times zero xs = omega arith
count_times (suc n) xs = let rest = count_times n xs in sum_by-append (λ s. cond (has_event s) 1 0) xs (repeated n xs) ∙ omega (arith, rest)

-- of the first level from a position on
abbrev pub level_events : List Statement → ℕ
level_events rest = count_by has_event (first (levels rest))

pub level-end : level_events [] ≡ 0
unfolding levels
level-end = refl

pub level-done : (rest : List Statement) → level_events (Done ∷ rest) ≡ 0
level-done rest = rw (levels-done rest) refl

pub level-plain : (s : Statement) (rest : List Statement) → IsPlain s → level_events (s ∷ rest) ≡ cond (has_event s) 1 0 + level_events rest
level-plain s rest plain = rw (levels-plain s rest plain) (sum_by-cons (λ x. cond (has_event x) 1 0) s (first (levels rest)))

pub level-repeat : (n : ℕ) (rest : List Statement) → level_events (Repeat n ∷ rest) ≡ n * level_events rest + count_by has_event (first (others (levels rest)))
unfolding count
level-repeat n rest =
    let body = first (levels rest) ++ Done ∷ [] in
    let one : count body ≡ count (first (levels rest)) = sum_by-append (λ s. cond (has_event s) 1 0) (first (levels rest)) (Done ∷ []) ∙ omega arith in
    let all = sum_by-append (λ s. cond (has_event s) 1 0) (repeated n body) (first (others (levels rest))) in
    rw (levels-repeat n rest) (all ∙ rw (count_times n body, one) refl)

-- ---- the level behind

pub behind-done : (rest : List Statement) → levels rest ≡ others (levels (Done ∷ rest))
behind-done rest = rw (levels-done rest) refl

pub behind-plain : (s : Statement) (rest : List Statement) → IsPlain s → others (levels (s ∷ rest)) ≡ others (levels rest)
behind-plain s rest plain = rw (levels-plain s rest plain) refl

pub behind-repeat : (n : ℕ) (rest : List Statement) → others (levels (Repeat n ∷ rest)) ≡ others (others (levels rest))
behind-repeat n rest = rw (levels-repeat n rest) refl

-- ---- a count that goes on

pub plain_from : (s : Statement) → ((n : ℕ) → s ≡ Repeat n → ⊥) → (s ≡ Done → ⊥) → IsPlain s
plain_from (Repeat n) h g = h n refl
plain_from Done h g = g refl
plain_from s h g = tt

front : (body : List Statement) (i : ℕ) (s d : Statement) → i < length body → get_or body i d ≡ s → drop i body ≡ s ∷ drop (i + 1) body
front body i s d within here = drop_more body i d within ∙ ap (λ x. x ∷ drop (i + 1) body) here

-- the number that stands for more
abbrev pub full : ℕ
full = 2 ^ 64 - 1

-- from a position up to i so many events were counted, at the level where the count began
pub record Counted (body : List Statement) (from i counted : ℕ) : Type 0 where
  pub fits : counted ≤ full
  pub within : i ≤ length body
  pub later : from ≤ i
  pub count : min (counted + level_events (drop i body)) full ≡ min (level_events (drop from body)) full
  pub behind : others (levels (drop i body)) ≡ others (levels (drop from body))

pub Counted-start : (body : List Statement) (from : ℕ) → from ≤ length body → Counted body from from 0
Counted-start body from h = record { fits = omega arith; within = h; later = omega arith; count = omega arith; behind = refl }

pub Counted-quiet : (body : List Statement) (from i counted : ℕ) (s d : Statement) → i < length body → get_or body i d ≡ s → IsPlain s → has_event s ≡ false
    → Counted body from i counted → Counted body from (i + 1) counted
Counted-quiet body from i counted s d lt here plain quiet h =
    let e = front body i s d lt here in
    let n : level_events (drop i body) ≡ level_events (drop (i + 1) body) = rw e (level-plain s (drop (i + 1) body) plain ∙ rw quiet (omega arith)) in
    let b : others (levels (drop i body)) ≡ others (levels (drop (i + 1) body)) = rw e (behind-plain s (drop (i + 1) body) plain) in
    record {
      fits = h.fits;
      within = omega (arith, lt);
      later = let l = h.later in omega (arith, l);
      count = rw (← n) h.count;
      behind = sym b ∙ h.behind;
    }

pub Counted-event : (body : List Statement) (from i counted counted' : ℕ) (s d : Statement) → i < length body → get_or body i d ≡ s → IsPlain s → has_event s ≡ true
    → counted' ≡ min (counted + 1) full → Counted body from i counted → Counted body from (i + 1) counted'
Counted-event body from i counted counted' s d lt here plain loud more h =
    let e = front body i s d lt here in
    let n : level_events (drop i body) ≡ 1 + level_events (drop (i + 1) body) = rw e (level-plain s (drop (i + 1) body) plain ∙ rw loud refl) in
    let b : others (levels (drop i body)) ≡ others (levels (drop (i + 1) body)) = rw e (behind-plain s (drop (i + 1) body) plain) in
    let c = h.count in
    record {
      fits = omega (arith, more);
      within = omega (arith, lt);
      later = let l = h.later in omega (arith, l);
      count = Counted-one counted (level_events (drop i body)) (level_events (drop (i + 1) body)) (level_events (drop from body)) counted' n more c;
      behind = sym b ∙ h.behind;
    }
  where
    Counted-one : (x a b z x' : ℕ) → a ≡ 1 + b → x' ≡ min (x + 1) full → min (x + a) full ≡ min z full → min (x' + b) full ≡ min z full
    Counted-one x a b z x' n more c = omega (arith, n, more, c)

pub Counted-repeat : (body : List Statement) (from i j counted inner product counted' n : ℕ) (d : Statement) → i < length body → get_or body i d ≡ Repeat n
    → inner ≡ min (level_events (drop (i + 1) body)) full → levels (drop j body) ≡ others (levels (drop (i + 1) body)) → i + 1 ≤ j → j ≤ length body
    → product ≡ min (n * inner) full → counted' ≡ min (counted + product) full → Counted body from i counted → Counted body from j counted'
Counted-repeat body from i j counted inner product counted' n d lt here inside behind later within multiplied added h =
    let e = front body i (Repeat n) d lt here in
    let rest = drop (i + 1) body in
    let all : level_events (drop i body) ≡ n * level_events rest + level_events (drop j body) = rw (e, behind) (level-repeat n rest) in
    let b : others (levels (drop i body)) ≡ others (levels (drop j body)) = rw (e, behind) (behind-repeat n rest) in
    let sum : min (min (counted + min (n * min (level_events rest) full) full) full + level_events (drop j body)) full ≡ min (counted + level_events (drop i body)) full =
    capped-repeat full counted n (level_events rest) (level_events (drop j body)) (n * level_events rest) refl ∙ rw all refl in
    record {
      fits = omega (arith, added);
      within = within;
      later = let l = h.later in omega (arith, l, later);
      count = rw (added, multiplied, inside) (sum ∙ h.count);
      behind = sym b ∙ h.behind;
    }

pub Counted-done : (body : List Statement) (from i counted : ℕ) (d : Statement) → i < length body → get_or body i d ≡ Done → Counted body from i counted
    → (counted ≡ min (level_events (drop from body)) full) × (levels (drop (i + 1) body) ≡ others (levels (drop from body)))
Counted-done body from i counted d lt here h =
    let e = front body i Done d lt here in
    let none : level_events (drop i body) ≡ 0 = rw e (level-done (drop (i + 1) body)) in
    let b : levels (drop (i + 1) body) ≡ others (levels (drop i body)) = rw e (behind-done (drop (i + 1) body)) in
    let c = h.count in let f = h.fits in
    (omega (arith, none, c, f), b ∙ h.behind)

pub Counted-end : (body : List Statement) (from i counted : ℕ) → length body ≤ i → Counted body from i counted
    → (counted ≡ min (level_events (drop from body)) full) × (levels (drop i body) ≡ others (levels (drop from body)))
unfolding levels
Counted-end body from i counted beyond h =
    let e : drop i body ≡ [] = drop_of_length-le body beyond in
    let none : level_events (drop i body) ≡ 0 = rw e level-end in
    let b : levels (drop i body) ≡ others (levels (drop i body)) = rw e refl in
    let c = h.count in let f = h.fits in
    (omega (arith, none, c, f), b ∙ h.behind)

-- the whole body, and its exit
pub counted_all : (body : List Statement) (counted all : ℕ) → counted ≡ min (level_events (drop 0 body)) full → all ≡ min (counted + 1) full → all ≡ min (body_events body) full
unfolding walk_of
counted_all body counted all inside added = omega (arith, inside, added)
