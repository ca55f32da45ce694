-- Live, covered and harmless transactions: what stays so in every longer trace, and what is given up without loss.
use Rattle.std.proofs.Common.{◌≡◌, ◌≢◌, ℕ, suc, ◌+◌, ◌<◌, Bool, false, cond, List, [], ◌∷◌, ◌++◌, length, refl, sym, ap, ◌∙◌, subst, arith, ⊎_elim, inl}
use Rattle.std.specs.Prelude.{◌||◌, ◌==◌, sum_by, count_by, filter, IsTrue, IsFalse, AllPairs, Contains}
use Rattle.std.proofs.lemmas.List.Sums.{sum_by-cons, length-filter}
use Rattle.std.proofs.lemmas.List.Kept.{IsStrictlyIncreasing-filter}
use Rattle.std.proofs.lemmas.Bool.{cases_Bool, or_cases, eqb-true, lt-ltb, false≢true, false_from_ne_true}
use Rattle.velo_events.specs.declared.config.Bounds.{Bounds}
use Rattle.velo_events.specs.declared.event.Event.{Event}
use Rattle.velo_events.specs.Block.{positions, IsTransaction, IsUnfinished, IsFinished}
use Rattle.velo_events.specs.Graph.{Reaches, IsCycle, Edge, HasCycle}
use Rattle.velo_monitor.specs.Collection.{IsHarmless, IsLive, IsCovered, IsAccountedFor, IsGivenUp, HasManyLive}
use Rattle.velo_events.proofs.OnGraphs.{Reaches-trans, newest}
use Rattle.velo_events.proofs.OnTraces.{append-induct}
use Rattle.velo_events.proofs.OnPositions.{count_positions, positions-increase, Contains-filter}
use Rattle.velo_events.proofs.OnUnfinished.{IsTransaction-append, IsUnfinished-before, IsFinished-append, newest-unfinished, cases_unfinished, unfinished-not_finished}
use Rattle.velo_events.proofs.OnReaching.{IsCycle-by, IsOnCycle, IsOnCycle-from_cycle, HasCycle-from_on, Reaches-to_transaction, Reaches-from_transaction, ReachesBy, Reaches-push, Reaches-old, Reaches-by}

-- ---- live

-- an unfinished transaction is live
pub IsLive-unfinished : (trace : List Event) (a : ℕ) → IsUnfinished trace a → IsLive trace a
IsLive-unfinished trace a u = record { root = a; unfinished = u; reaches = inl refl }

-- what is live is a transaction
pub IsLive-transaction : (trace : List Event) (a : ℕ) → IsLive trace a → IsTransaction trace a
IsLive-transaction trace a w = Reaches-to_transaction trace w.root a w.unfinished.transaction w.reaches

module _ (trace : List Event) (event : Event) where
  -- what the transaction of an appended event reached before is live
  pub newest-live : (a : ℕ) → IsTransaction trace a → Reaches (Edge trace) (newest trace event) a → IsLive trace a
  newest-live a t r = record {
    root = newest trace event;
    unfinished = newest-unfinished trace event (Reaches-from_transaction trace (newest trace event) a t r).within;
    reaches = r;
  }

  -- an appended event makes no earlier transaction live
  pub IsLive-before : (a : ℕ) → IsTransaction trace a → IsLive (trace ++ event ∷ []) a → IsLive trace a
  IsLive-before a t w = ⊎_elim
      (λ old. record { root = w.root; unfinished = IsUnfinished-before trace (event ∷ []) w.root (Reaches-from_transaction trace w.root a t old).within w.unfinished; reaches = old })
      (λ new. newest-live a t new.after) (Reaches-push trace event w.root a w.reaches)

  -- nor does it put one that is not live on a cycle
  pub IsOnCycle-before : (a : ℕ) → IsTransaction trace a → ¬ IsLive trace a → IsOnCycle (trace ++ event ∷ []) a → IsOnCycle trace a
  IsOnCycle-before a t dead w = ⊎_elim back (λ new. absurd (dead (newest-live a t new.after))) (Reaches-push trace event w.other a w.back)
    where
      back : Reaches (Edge trace) w.other a → IsOnCycle trace a
      back old_back = ⊎_elim (λ old. record { other = w.other; differ = w.differ; there = old; back = old_back })
          (λ new. absurd (dead (newest-live a t (Reaches-trans (Edge trace) (newest trace event) w.other a new.after old_back))))
          (Reaches-push trace event a w.other w.there)

-- a transaction that is not live
pub record IsDead (trace : List Event) (a : ℕ) : Type 0 where
  pub transaction : IsTransaction trace a
  pub not_live : ¬ IsLive trace a

-- what is not live is not live in any longer trace
pub IsDead-append : (trace more : List Event) (a : ℕ) → IsDead trace a → IsDead (trace ++ more) a
IsDead-append trace more a = append-induct (λ xs. IsDead xs a) step trace more
  where
    step : (xs : List Event) (event : Event) → IsDead xs a → IsDead (xs ++ event ∷ []) a
    step xs event d = record { transaction = IsTransaction-append xs (event ∷ []) a d.transaction; not_live = λ w. d.not_live (IsLive-before xs event a d.transaction w) }

-- the same in two parts
pub not_live-append : (trace more : List Event) (a : ℕ) → IsTransaction trace a → ¬ IsLive trace a → ¬ IsLive (trace ++ more) a
not_live-append trace more a t dead = (IsDead-append trace more a (record { transaction = t; not_live = dead })).not_live

-- ---- harmless

-- not live, and on no cycle
record IsOff (trace : List Event) (a : ℕ) : Type 0 where
  dead : IsDead trace a
  off : ¬ IsOnCycle trace a

IsOff-append : (trace more : List Event) (a : ℕ) → IsOff trace a → IsOff (trace ++ more) a
IsOff-append trace more a = append-induct (λ xs. IsOff xs a) step trace more
  where
    step : (xs : List Event) (event : Event) → IsOff xs a → IsOff (xs ++ event ∷ []) a
    step xs event d = record {
      dead = IsDead-append xs (event ∷ []) a d.dead;
      off = λ w. d.off (IsOnCycle-before xs event a d.dead.transaction d.dead.not_live w);
    }

-- a transaction that is not live and on no cycle is on no cycle of any longer trace
pub not_live-off_cycle : (trace more : List Event) (a : ℕ) → IsTransaction trace a → ¬ IsLive trace a → ¬ IsOnCycle trace a → ¬ IsOnCycle (trace ++ more) a
not_live-off_cycle trace more a t dead off = (IsOff-append trace more a (record { dead = record { transaction = t; not_live = dead }; off = off })).off

-- in a trace without a cycle, what is not live is harmless
pub not_live-harmless : (bounds : Bounds) (trace : List Event) (a : ℕ) → ¬ HasCycle trace → IsTransaction trace a → ¬ IsLive trace a → IsHarmless bounds trace a
not_live-harmless bounds trace a none t dead = record {
  transaction = t;
  on_no_cycle = λ more well cycle h w. not_live-off_cycle trace more a t dead (λ on. none (HasCycle-from_on trace a on)) (IsOnCycle-from_cycle (trace ++ more) cycle a h w);
}

-- ---- covered

-- what is covered is a transaction
pub IsCovered-transaction : (trace : List Event) (a n : ℕ) → IsCovered trace a n → IsTransaction trace a
IsCovered-transaction trace a n c = Reaches-to_transaction trace n a c.finished.transaction c.reached

-- what is covered stays covered by the same transaction, with one more event
pub IsCovered-push : (trace : List Event) (event : Event) (a n : ℕ) → IsCovered trace a n → IsCovered (trace ++ event ∷ []) a n
IsCovered-push trace event a n c = record {
  finished = IsFinished-append trace (event ∷ []) n c.finished;
  reached = Reaches-old trace event n a c.reached;
  by_way_of = λ u unfinished r. ⊎_elim (old u unfinished) (new u) (Reaches-push trace event u a r);
}
  where
    t : IsTransaction trace a
    t = IsCovered-transaction trace a n c

    old : (u : ℕ) → IsUnfinished (trace ++ event ∷ []) u → Reaches (Edge trace) u a → Reaches (Edge (trace ++ event ∷ [])) u n
    old u unfinished r =
        Reaches-old trace event u n (c.by_way_of u (IsUnfinished-before trace (event ∷ []) u (Reaches-from_transaction trace u a t r).within unfinished) r)

    -- the event's transaction was unfinished, and so reached n
    new : (u : ℕ) → ReachesBy trace event u a → Reaches (Edge (trace ++ event ∷ [])) u n
    new u w =
        let was = newest-unfinished trace event (Reaches-from_transaction trace (newest trace event) a t w.after).within in
        Reaches-by trace event u n (record { by = w.by; predecessor = w.predecessor; before = w.before; after = c.by_way_of (newest trace event) was w.after })

-- what covers what covers it
pub IsCovered-trans : (trace : List Event) (a b n : ℕ) → IsCovered trace a b → IsCovered trace b n → IsCovered trace a n
IsCovered-trans trace a b n c d = record {
  finished = d.finished;
  reached = Reaches-trans (Edge trace) n b a d.reached c.reached;
  by_way_of = λ u unfinished r. d.by_way_of u unfinished (c.by_way_of u unfinished r);
}

-- where there is no cycle, what is covered has finished: else it would reach what covers it
pub IsCovered-finished : (trace : List Event) (a n : ℕ) → ¬ HasCycle trace → IsCovered trace a n → IsFinished trace a
IsCovered-finished trace a n none c = ⊎_elim (λ u. absurd (around u)) (λ f. f) (cases_unfinished trace a (IsCovered-transaction trace a n c))
  where
    apart : IsUnfinished trace a → n ≢ a
    apart u same = unfinished-not_finished trace a u (subst (IsFinished trace) same c.finished)

    around : IsUnfinished trace a → ⊥
    around u = ⊎_elim (λ same. apart u same)
        (λ forth. ⊎_elim (λ same. apart u (sym same)) (λ home. let w = IsCycle-by (Edge trace) n a forth home in none (record { cycle = w.0; is_cycle = w.1 })) (c.by_way_of a u (inl refl)))
        c.reached

-- what is covered is live only as long as what covers it is
pub not_live-covered : (trace : List Event) (a n : ℕ) → IsCovered trace a n → ¬ IsLive trace n → ¬ IsLive trace a
not_live-covered trace a n c dead w = dead (record { root = w.root; unfinished = w.unfinished; reaches = c.by_way_of w.root w.unfinished w.reaches })

-- ---- given up

-- what is accounted for and given up is not live
pub IsGivenUp-not_live : (trace : List Event) (stamps : List ℕ) (a : ℕ) → IsGivenUp trace stamps a → IsAccountedFor trace stamps a → ¬ IsLive trace a
IsGivenUp-not_live trace stamps a g account =
    ⊎_elim (λ stamp. absurd (g.no_stamp stamp)) (λ other. ⊎_elim (λ w. absurd (g.not_covered w.0 w.1 w.2)) (λ dead. dead) other) account.account

-- so it is harmless where there is no cycle
pub IsGivenUp-harmless : (bounds : Bounds) (trace : List Event) (stamps : List ℕ) (a : ℕ) → ¬ HasCycle trace → IsGivenUp trace stamps a → IsAccountedFor trace stamps a → IsHarmless bounds trace a
IsGivenUp-harmless bounds trace stamps a none g account = not_live-harmless bounds trace a none g.transaction (IsGivenUp-not_live trace stamps a g account)

-- ---- how many are live

-- a is among the numbers
unfoldable is_among : List ℕ → ℕ → Bool
is_among [] a = false
is_among (x ∷ xs) a = (a == x) || is_among xs a

is_among-contains : (xs : List ℕ) (a : ℕ) → IsTrue (is_among xs a) → Contains xs a
unfolding is_among
is_among-contains [] a h = absurd (false≢true h)
is_among-contains (x ∷ xs) a h = ⊎_elim (λ here. (0, omega arith, sym (eqb-true a x here)))
    (λ later. let w = is_among-contains xs a later in (suc w.0, omega (arith, w.1), w.2)) (or_cases (a == x) (is_among xs a) h)

sum_by-plus : (f g h : ℕ → ℕ) → ((x : ℕ) → f x ≡ g x + h x) → (xs : List ℕ) → sum_by f xs ≡ sum_by g xs + sum_by h xs
sum_by-plus f g h each [] = refl
sum_by-plus f g h each (x ∷ xs) =
    omega (arith, sum_by-cons f x xs, sum_by-cons g x xs, sum_by-cons h x xs, each x, sum_by-plus f g h each xs)

count-none : (xs : List ℕ) → count_by (λ a. is_among [] a) xs ≡ 0
unfolding is_among
count-none [] = refl
count-none (x ∷ xs) = omega (arith, sum_by-cons (λ a. cond {A = ℕ} false 1 0) x xs, count-none xs)

is_among-once : (x : ℕ) (xs : List ℕ) → IsFalse (is_among xs x) → (a : ℕ) → cond {A = ℕ} (is_among (x ∷ xs) a) 1 0 ≡ cond {A = ℕ} (a == x) 1 0 + cond {A = ℕ} (is_among xs a) 1 0
unfolding is_among
is_among-once x xs new a = ⊎_elim
    (λ here.
    let none : is_among xs a ≡ false = subst (λ k. is_among xs k ≡ false) (sym (eqb-true a x here)) new in
    rw (here, none) refl)
    (λ other. rw other (let zero_more : cond {A = ℕ} (is_among xs a) 1 0 ≡ 0 + cond {A = ℕ} (is_among xs a) 1 0 = omega arith in zero_more))
    (cases_Bool (a == x))

-- numbers that are different, and positions of the trace, are as many positions
count-among : (trace : List Event) (xs : List ℕ) → AllPairs (λ x y. x ≢ y) xs → ((a : ℕ) → Contains xs a → a < length trace) → count_by (is_among xs) (positions trace) ≡ length xs
count-among trace [] differ within = count-none (positions trace)
count-among trace (x ∷ xs) differ within =
    let rest = count-among trace xs (λ i j d l m. differ (suc i) (suc j) d (omega arith) (omega arith)) (λ a w. within a (suc w.0, omega (arith, w.1), w.2)) in
    let new : is_among xs x ≡ false = false_from_ne_true _ (λ h. let w = is_among-contains xs x h in differ 0 (suc w.0) x (omega arith) (omega (arith, w.1)) (sym w.2)) in
    let both = sum_by-plus _ (λ a. cond {A = ℕ} (a == x) 1 0) (λ a. cond {A = ℕ} (is_among xs a) 1 0) (is_among-once x xs new) (positions trace) in
    let one : count_by (λ a. a == x) (positions trace) ≡ 1 = count_positions trace x ∙ ap (λ b. cond {A = ℕ} b 1 0) (lt-ltb x (length trace) (within x (0, omega arith, refl))) in
    omega (arith, rest, both, one)

-- different live transactions: as many are live
pub HasManyLive-by : (trace : List Event) (stamps : List ℕ) → AllPairs (λ x y. x ≢ y) stamps → ((a : ℕ) → Contains stamps a → IsLive trace a) → HasManyLive trace (length stamps)
HasManyLive-by trace stamps differ live = record {
  transactions = filter (is_among stamps) (positions trace);
  counted = length-filter (is_among stamps) (positions trace) ∙ count-among trace stamps differ (λ a w. (IsLive-transaction trace a (live a w)).within);
  each_once = IsStrictlyIncreasing-filter (is_among stamps) (positions trace) (positions-increase trace);
  each_live = λ a w. live a (is_among-contains stamps a ((Contains-filter (is_among stamps) (positions trace) a).0 w).1);
}
