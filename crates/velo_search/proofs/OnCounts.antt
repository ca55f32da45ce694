-- How many states a level may have, by those looked at before it.
use Rattle.std.proofs.Common.{◌≡◌, ℕ, zero, suc, ◌+◌, ◌*◌, ◌≤◌, ap, subst, arith}
use Rattle.std.proofs.Math.Nat.{mul-le-mul_right, suc-mul, zero-mul}
use Rattle.velo_search.specs.Search.{ways}

times-sum : (a b t : ℕ) → (a + b) * t ≡ a * t + b * t
times-sum zero b t = omega (arith, ap (λ k. k * t) (let e : zero + b ≡ b = omega arith in e), zero-mul t)
times-sum (suc a) b t = omega (arith, ap (λ k. k * t) (let e : suc a + b ≡ suc (a + b) = omega arith in e), suc-mul (a + b) t, suc-mul a t, times-sum a b t)

-- one state more was looked at
pub few-next : (states threads before after : ℕ) → before ≤ states * threads → after ≤ before + threads → after ≤ (states + 1) * threads
few-next states threads before after few more = omega (arith, few, more, times-sum states 1 threads, one)
  where
    one : 1 * threads ≡ threads
    one = let first = suc-mul 0 threads in let none = zero-mul threads in omega (arith, first, none)

-- a level more: each state but the first stands behind one that was looked at
pub few-level : (states looked threads after : ℕ) → states + looked ≤ states * threads + 1 → after ≤ looked * threads → (states + looked) + after ≤ (states + looked) * threads + 1
few-level states looked threads after before few = omega (arith, before, few, times-sum states looked threads)

-- and one event more in a run
pub ways-level : (states looked threads levels : ℕ) → states + looked ≤ states * threads + 1 → states ≤ ways threads levels → states + looked ≤ ways threads (levels + 1)
unfolding ways
ways-level states looked threads levels before few =
    let next : suc levels ≡ levels + 1 = omega arith in
    let more : states + looked ≤ ways threads (suc levels) = omega (arith, before, mul-le-mul_right threads few) in
    subst (λ n. states + looked ≤ ways threads n) next more
