-- With other numbers for its variables and locks a log has the same transactions, edges and cycles, and leaves the same.
use Rattle.std.proofs.Common.{◌≡◌, ℕ, ◌+◌, Bool, true, false, cond, List, [], ◌∷◌, take, drop, Option, Some, None, refl, sym, ap, ◌∙◌, arith, ⊎_elim}
use Rattle.std.specs.Prelude.{slice_get, ◌&&◌, ◌||◌, ◌==◌, not, nat_le, if◌then◌else◌, option_map, option_and_then}
use Rattle.std.specs.List.{list_any}
use Rattle.std.specs.Option.{option_or, option_map_or}
use Rattle.std.proofs.lemmas.Bool.{cases_Bool, eqb-true, eqb-false, eq-eqb, ne_eqb}
use Rattle.std.proofs.lemmas.List.{take-map, drop-map, length-map}
use Rattle.std.proofs.lemmas.List.Sums.{sum_by-cons}
use Rattle.std.proofs.lemmas.Option.{slice_get-map}
use Rattle.velo_events.specs.declared.event.Event.{Event}
use Rattle.velo_events.specs.declared.event.Kind.{Kind}
use Rattle.velo_events.specs.declared.event.Kind.TheVariants.{Read, Write, Acquire, Release, AcquireShared, ReleaseShared, Begin, End, Fork, Join, Exit}
use Rattle.velo_events.specs.Event.{are_same, thread_of, variable_of, lock_of, exclusive_lock_of, shared_lock_of, access_of, cell_of, is_exclusive, thread_forked, thread_joined, thread_forked_or_joined, value_of, is_write, is_acquire, is_release, is_acquire_shared, is_release_shared, is_begin, is_end, is_exit, is_by, is_begin_by, is_end_by, is_acquire_by, is_release_by, is_acquire_shared_by, is_release_shared_by, is_exit_by, is_write_of, is_on_lock, is_on_share, is_fork_of, is_join_of}
use Rattle.velo_events.specs.Conflict.{conflict}
use Rattle.velo_events.specs.Heap.{latest, happened, times, value_in, holder_in, shares_in, was_born, status_in, depth_in}
use Rattle.velo_events.specs.Block.{any_below, passes_at, is_balanced, is_open_at, is_in_block, owner}
use Rattle.velo_events.specs.Graph.{both_conflict, conflict_at, Edge, HasCycle}
use Rattle.velo_events.proofs.OnBlocks.{any_below-same, least_below-same}
use Rattle.velo_events.proofs.OnGraphs.{IsCycle-map}
use Rattle.velo_search.specs.Naming.{LeadBack, Numbers, renamed, renamed_kind, renamed_log}

-- two pairs of numbers are the same alike
eqb-both : (a b c d : ℕ) → (a ≡ b → c ≡ d) → (c ≡ d → a ≡ b) → (a == b) ≡ (c == d)
eqb-both a b c d there back = ⊎_elim
    (λ same. same ∙ sym (eq-eqb c d (there (eqb-true a b same))))
    (λ differ. differ ∙ sym (ne_eqb c d (λ h. eqb-false a b differ (back h))))
    (cases_Bool (a == b))

-- what an operation accesses
data Spot : Type 0 where
  OnVariable : ℕ → Spot
  OnLock : ℕ → Spot
  Nowhere : Spot

spot_of : Kind → Spot
spot_of (Read x v) = OnVariable x.0
spot_of (Write x v) = OnVariable x.0
spot_of (Acquire m) = OnLock m.0
spot_of (Release m) = OnLock m.0
spot_of (AcquireShared m) = OnLock m.0
spot_of (ReleaseShared m) = OnLock m.0
spot_of _ = Nowhere

cell_at : Spot → Option ℕ
cell_at (OnVariable x) = Some (x + x)
cell_at (OnLock m) = Some (m + m + 1)
cell_at Nowhere = None

spot-is : (k : Kind) → cell_of (access_of k) ≡ cell_at (spot_of k)
unfolding spot_of cell_at
spot-is (Read x v) = refl
spot-is (Write x v) = refl
spot-is (Acquire m) = refl
spot-is (Release m) = refl
spot-is (AcquireShared m) = refl
spot-is (ReleaseShared m) = refl
spot-is (Fork u) = refl
spot-is (Join u) = refl
spot-is (Begin l) = refl
spot-is End = refl
spot-is Exit = refl

module _ (ns back : Numbers) (undone : LeadBack ns back) where
  -- ---- one operation

  same_write : (k : Kind) → is_write (renamed_kind ns k) ≡ is_write k
  same_write (Read x v) = refl
  same_write (Write x v) = refl
  same_write (Acquire m) = refl
  same_write (Release m) = refl
  same_write (AcquireShared m) = refl
  same_write (ReleaseShared m) = refl
  same_write _ = refl

  same_acquire : (k : Kind) → is_acquire (renamed_kind ns k) ≡ is_acquire k
  same_acquire (Read x v) = refl
  same_acquire (Write x v) = refl
  same_acquire (Acquire m) = refl
  same_acquire (Release m) = refl
  same_acquire (AcquireShared m) = refl
  same_acquire (ReleaseShared m) = refl
  same_acquire _ = refl

  same_release : (k : Kind) → is_release (renamed_kind ns k) ≡ is_release k
  same_release (Read x v) = refl
  same_release (Write x v) = refl
  same_release (Acquire m) = refl
  same_release (Release m) = refl
  same_release (AcquireShared m) = refl
  same_release (ReleaseShared m) = refl
  same_release _ = refl

  same_acquire_shared : (k : Kind) → is_acquire_shared (renamed_kind ns k) ≡ is_acquire_shared k
  same_acquire_shared (Read x v) = refl
  same_acquire_shared (Write x v) = refl
  same_acquire_shared (Acquire m) = refl
  same_acquire_shared (Release m) = refl
  same_acquire_shared (AcquireShared m) = refl
  same_acquire_shared (ReleaseShared m) = refl
  same_acquire_shared _ = refl

  same_release_shared : (k : Kind) → is_release_shared (renamed_kind ns k) ≡ is_release_shared k
  same_release_shared (Read x v) = refl
  same_release_shared (Write x v) = refl
  same_release_shared (Acquire m) = refl
  same_release_shared (Release m) = refl
  same_release_shared (AcquireShared m) = refl
  same_release_shared (ReleaseShared m) = refl
  same_release_shared _ = refl

  pub same_begin : (k : Kind) → is_begin (renamed_kind ns k) ≡ is_begin k
  same_begin (Read x v) = refl
  same_begin (Write x v) = refl
  same_begin (Acquire m) = refl
  same_begin (Release m) = refl
  same_begin (AcquireShared m) = refl
  same_begin (ReleaseShared m) = refl
  same_begin _ = refl

  pub same_end : (k : Kind) → is_end (renamed_kind ns k) ≡ is_end k
  same_end (Read x v) = refl
  same_end (Write x v) = refl
  same_end (Acquire m) = refl
  same_end (Release m) = refl
  same_end (AcquireShared m) = refl
  same_end (ReleaseShared m) = refl
  same_end _ = refl

  pub same_exit : (k : Kind) → is_exit (renamed_kind ns k) ≡ is_exit k
  same_exit (Read x v) = refl
  same_exit (Write x v) = refl
  same_exit (Acquire m) = refl
  same_exit (Release m) = refl
  same_exit (AcquireShared m) = refl
  same_exit (ReleaseShared m) = refl
  same_exit _ = refl

  same_value : (k : Kind) → value_of (renamed_kind ns k) ≡ value_of k
  same_value (Read x v) = refl
  same_value (Write x v) = refl
  same_value (Acquire m) = refl
  same_value (Release m) = refl
  same_value (AcquireShared m) = refl
  same_value (ReleaseShared m) = refl
  same_value _ = refl

  pub same_forked : (k : Kind) → thread_forked (renamed_kind ns k) ≡ thread_forked k
  same_forked (Read x v) = refl
  same_forked (Write x v) = refl
  same_forked (Acquire m) = refl
  same_forked (Release m) = refl
  same_forked (AcquireShared m) = refl
  same_forked (ReleaseShared m) = refl
  same_forked _ = refl

  pub same_joined : (k : Kind) → thread_joined (renamed_kind ns k) ≡ thread_joined k
  same_joined (Read x v) = refl
  same_joined (Write x v) = refl
  same_joined (Acquire m) = refl
  same_joined (Release m) = refl
  same_joined (AcquireShared m) = refl
  same_joined (ReleaseShared m) = refl
  same_joined _ = refl

  pub same_forked_or_joined : (k : Kind) → thread_forked_or_joined (renamed_kind ns k) ≡ thread_forked_or_joined k
  same_forked_or_joined (Read x v) = refl
  same_forked_or_joined (Write x v) = refl
  same_forked_or_joined (Acquire m) = refl
  same_forked_or_joined (Release m) = refl
  same_forked_or_joined (AcquireShared m) = refl
  same_forked_or_joined (ReleaseShared m) = refl
  same_forked_or_joined _ = refl

  same_exclusive : (k : Kind) → is_exclusive (access_of (renamed_kind ns k)) ≡ is_exclusive (access_of k)
  same_exclusive (Read x v) = refl
  same_exclusive (Write x v) = refl
  same_exclusive (Acquire m) = refl
  same_exclusive (Release m) = refl
  same_exclusive (AcquireShared m) = refl
  same_exclusive (ReleaseShared m) = refl
  same_exclusive _ = refl

  pub given_variable : (k : Kind) → variable_of (renamed_kind ns k) ≡ option_map ns.variable (variable_of k)
  given_variable (Read x v) = refl
  given_variable (Write x v) = refl
  given_variable (Acquire m) = refl
  given_variable (Release m) = refl
  given_variable (AcquireShared m) = refl
  given_variable (ReleaseShared m) = refl
  given_variable _ = refl

  given_locked : (k : Kind) → exclusive_lock_of (renamed_kind ns k) ≡ option_map ns.lock (exclusive_lock_of k)
  given_locked (Read x v) = refl
  given_locked (Write x v) = refl
  given_locked (Acquire m) = refl
  given_locked (Release m) = refl
  given_locked (AcquireShared m) = refl
  given_locked (ReleaseShared m) = refl
  given_locked _ = refl

  given_shared : (k : Kind) → shared_lock_of (renamed_kind ns k) ≡ option_map ns.lock (shared_lock_of k)
  given_shared (Read x v) = refl
  given_shared (Write x v) = refl
  given_shared (Acquire m) = refl
  given_shared (Release m) = refl
  given_shared (AcquireShared m) = refl
  given_shared (ReleaseShared m) = refl
  given_shared _ = refl

  pub given_lock : (k : Kind) → lock_of (renamed_kind ns k) ≡ option_map ns.lock (lock_of k)
  given_lock (Read x v) = refl
  given_lock (Write x v) = refl
  given_lock (Acquire m) = refl
  given_lock (Release m) = refl
  given_lock (AcquireShared m) = refl
  given_lock (ReleaseShared m) = refl
  given_lock _ = refl

  -- ---- numbers that are the same

  variable-once : (x y : ℕ) → ns.variable x ≡ ns.variable y → x ≡ y
  variable-once x y h = sym (undone.variable x) ∙ (ap back.variable h ∙ undone.variable y)

  lock-once : (x y : ℕ) → ns.lock x ≡ ns.lock y → x ≡ y
  lock-once x y h = sym (undone.lock x) ∙ (ap back.lock h ∙ undone.lock y)

  same-variable : (o : Option ℕ) (x : ℕ) → are_same (option_map ns.variable o) (Some (ns.variable x)) ≡ are_same o (Some x)
  same-variable None x = refl
  same-variable (Some y) x = eqb-both _ _ _ _ (variable-once y x) (ap ns.variable)

  same-lock : (o : Option ℕ) (m : ℕ) → are_same (option_map ns.lock o) (Some (ns.lock m)) ≡ are_same o (Some m)
  same-lock None m = refl
  same-lock (Some l) m = eqb-both _ _ _ _ (lock-once l m) (ap ns.lock)

  -- ---- cells

  moved : Spot → Spot
  moved (OnVariable x) = OnVariable (ns.variable x)
  moved (OnLock m) = OnLock (ns.lock m)
  moved Nowhere = Nowhere

  spot-renamed : (k : Kind) → cell_of (access_of (renamed_kind ns k)) ≡ cell_at (moved (spot_of k))
  unfolding moved spot_of cell_at
  spot-renamed (Read x v) = refl
  spot-renamed (Write x v) = refl
  spot-renamed (Acquire m) = refl
  spot-renamed (Release m) = refl
  spot-renamed (AcquireShared m) = refl
  spot-renamed (ReleaseShared m) = refl
  spot-renamed (Fork u) = refl
  spot-renamed (Join u) = refl
  spot-renamed (Begin l) = refl
  spot-renamed End = refl
  spot-renamed Exit = refl

  same-cells : (p q : Spot) → are_same (cell_at (moved p)) (cell_at (moved q)) ≡ are_same (cell_at p) (cell_at q)
  unfolding moved cell_at
  same-cells (OnVariable x) (OnVariable y) =
      eqb-both _ _ _ _
      (λ h. let once : ns.variable x ≡ ns.variable y = omega (arith, h) in let is = variable-once x y once in omega (arith, is))
      (λ h. let once : x ≡ y = omega (arith, h) in let is = ap ns.variable once in omega (arith, is))
  same-cells (OnVariable x) (OnLock m) = eqb-both _ _ _ _ (λ h. absurd (omega (arith, h))) (λ h. absurd (omega (arith, h)))
  same-cells (OnVariable x) Nowhere = refl
  same-cells (OnLock l) (OnVariable y) = eqb-both _ _ _ _ (λ h. absurd (omega (arith, h))) (λ h. absurd (omega (arith, h)))
  same-cells (OnLock l) (OnLock m) =
      eqb-both _ _ _ _
      (λ h. let once : ns.lock l ≡ ns.lock m = omega (arith, h) in let is = lock-once l m once in omega (arith, is))
      (λ h. let once : l ≡ m = omega (arith, h) in let is = ap ns.lock once in omega (arith, is))
  same-cells (OnLock l) Nowhere = refl
  same-cells Nowhere q = refl

  same_cell : (a b : Kind) → are_same (cell_of (access_of (renamed_kind ns a))) (cell_of (access_of (renamed_kind ns b))) ≡ are_same (cell_of (access_of a)) (cell_of (access_of b))
  same_cell a b =
      ap (λ o. are_same o (cell_of (access_of (renamed_kind ns b)))) (spot-renamed a)
      ∙ (ap (λ o. are_same (cell_at (moved (spot_of a))) o) (spot-renamed b)
      ∙ (same-cells (spot_of a) (spot_of b)
      ∙ (ap (λ o. are_same o (cell_at (spot_of b))) (sym (spot-is a))
      ∙ ap (λ o. are_same (cell_of (access_of a)) o) (sym (spot-is b)))))

  same_conflict : (a b : Event) → conflict (renamed ns a) (renamed ns b) ≡ conflict a b
  same_conflict a b = rw (same_cell a.kind b.kind, same_exclusive a.kind, same_exclusive b.kind, same_forked_or_joined a.kind, same_forked_or_joined b.kind) refl

  -- ---- tests of all events

  -- the numbers play no part in the test
  abbrev pub IsBlind : (Event → Bool) → Type 0
  IsBlind test = (e : Event) → test (renamed ns e) ≡ test e

  pub blind_begin : (t : ℕ) → IsBlind (is_begin_by t)
  blind_begin t e = ap (λ b. is_by t e && b) (same_begin e.kind)

  pub blind_end : (t : ℕ) → IsBlind (is_end_by t)
  blind_end t e = ap (λ b. is_by t e && b) (same_end e.kind)

  pub blind_acquire : (t : ℕ) → IsBlind (is_acquire_by t)
  blind_acquire t e = ap (λ b. is_by t e && b) (same_acquire e.kind)

  pub blind_release : (t : ℕ) → IsBlind (is_release_by t)
  blind_release t e = ap (λ b. is_by t e && b) (same_release e.kind)

  pub blind_acquire_shared : (t : ℕ) → IsBlind (is_acquire_shared_by t)
  blind_acquire_shared t e = ap (λ b. is_by t e && b) (same_acquire_shared e.kind)

  pub blind_release_shared : (t : ℕ) → IsBlind (is_release_shared_by t)
  blind_release_shared t e = ap (λ b. is_by t e && b) (same_release_shared e.kind)

  blind_share : (m t : ℕ) → (e : Event) → is_on_share (ns.lock m) t (renamed ns e) ≡ is_on_share m t e
  blind_share m t e = ap (λ b. is_by t e && b) (ap (λ o. are_same o (Some (ns.lock m))) (given_shared e.kind) ∙ same-lock (shared_lock_of e.kind) m)

  pub blind_exit : (t : ℕ) → IsBlind (is_exit_by t)
  blind_exit t e = ap (λ b. is_by t e && b) (same_exit e.kind)

  pub blind_fork : (t : ℕ) → IsBlind (is_fork_of t)
  blind_fork t e = ap (λ o. are_same o (Some t)) (same_forked e.kind)

  pub blind_join : (t : ℕ) → IsBlind (is_join_of t)
  blind_join t e = ap (λ o. are_same o (Some t)) (same_joined e.kind)

  blind_lock : (m : ℕ) (e : Event) → is_on_lock (ns.lock m) (renamed ns e) ≡ is_on_lock m e
  blind_lock m e = ap (λ o. are_same o (Some (ns.lock m))) (given_locked e.kind) ∙ same-lock (exclusive_lock_of e.kind) m

  times-cons : (test : Event → Bool) (e : Event) (es : List Event) → times test (e ∷ es) ≡ cond {A = ℕ} (test e) 1 0 + times test es
  unfolding times
  times-cons test e es = sum_by-cons (λ x. cond {A = ℕ} (test x) 1 0) e es

  pub times-renamed : (test : Event → Bool) → IsBlind test → (es : List Event) → times test (renamed_log ns es) ≡ times test es
  times-renamed test blind [] = refl
  times-renamed test blind (e ∷ es) =
      times-cons test (renamed ns e) (renamed_log ns es)
      ∙ (ap (λ b. cond {A = ℕ} b 1 0 + times test (renamed_log ns es)) (blind e)
      ∙ (ap (λ n. cond {A = ℕ} (test e) 1 0 + n) (times-renamed test blind es) ∙ sym (times-cons test e es)))

  pub happened-renamed : (test : Event → Bool) → IsBlind test → (es : List Event) → happened test (renamed_log ns es) ≡ happened test es
  unfolding happened
  happened-renamed test blind [] = refl
  happened-renamed test blind (e ∷ es) = ap (λ b. b || list_any test (renamed_log ns es)) (blind e) ∙ ap (λ b. test e || b) (happened-renamed test blind es)

  -- the second test after the numbers are given is the first before
  abbrev Follows : (Event → Bool) → (Event → Bool) → Type 0
  Follows test after = (e : Event) → after (renamed ns e) ≡ test e

  latest-renamed : (test after : Event → Bool) → Follows test after → (es : List Event) → latest after (renamed_log ns es) ≡ option_map (renamed ns) (latest test es)
  unfolding latest
  latest-renamed test after follows [] = refl
  latest-renamed test after follows (e ∷ es) =
      ap (λ o. option_or o (if after (renamed ns e) then Some (renamed ns e) else None)) (latest-renamed test after follows es)
      ∙ (ap (λ b. option_or (option_map (renamed ns) (latest test es)) (if b then Some (renamed ns e) else None)) (follows e)
      ∙ either (latest test es) (test e))
    where
      either : (o : Option Event) (b : Bool) → option_or (option_map (renamed ns) o) (if b then Some (renamed ns e) else None) ≡ option_map (renamed ns) (option_or o (if b then Some e else None))
      either (Some f) b = refl
      either None true = refl
      either None false = refl

  passes_at-renamed : (test : Event → Bool) → IsBlind test → (es : List Event) (i : ℕ) → passes_at (renamed_log ns es) test i ≡ passes_at es test i
  unfolding passes_at
  passes_at-renamed test blind es i = ap (λ o. option_map_or test o false) (slice_get-map (renamed ns) es i) ∙ at (slice_get es i)
    where
      at : (o : Option Event) → option_map_or test (option_map (renamed ns) o) false ≡ option_map_or test o false
      at None = refl
      at (Some e) = blind e

  -- ---- blocks and transactions

  is_balanced-renamed : (es : List Event) (t b e : ℕ) → is_balanced (renamed_log ns es) t b e ≡ is_balanced es t b e
  unfolding is_balanced
  is_balanced-renamed es t b e =
      let part : drop b (take (e + 1) (renamed_log ns es)) ≡ renamed_log ns (drop b (take (e + 1) es)) = ap (λ xs. drop b xs) (take-map (renamed ns) (e + 1) es) ∙ drop-map (renamed ns) b (take (e + 1) es) in
      ap (λ xs. times (is_end_by t) xs == times (is_begin_by t) xs) part
      ∙ (ap (λ n. n == times (is_begin_by t) (renamed_log ns (drop b (take (e + 1) es)))) (times-renamed (is_end_by t) (blind_end t) (drop b (take (e + 1) es)))
      ∙ ap (λ n. times (is_end_by t) (drop b (take (e + 1) es)) == n) (times-renamed (is_begin_by t) (blind_begin t) (drop b (take (e + 1) es))))

  is_open_at-renamed : (es : List Event) (t b n : ℕ) → is_open_at (renamed_log ns es) t b n ≡ is_open_at es t b n
  unfolding is_open_at
  is_open_at-renamed es t b n =
      ap (λ x. x && not (any_below n (λ e. nat_le b e && is_balanced (renamed_log ns es) t b e))) (passes_at-renamed (is_begin_by t) (blind_begin t) es b)
      ∙ ap (λ x. passes_at es (is_begin_by t) b && not x) (any_below-same n _ _ (λ k l. ap (λ x. nat_le b k && x) (is_balanced-renamed es t b k)))

  is_in_block-renamed : (es : List Event) (b i : ℕ) → is_in_block (renamed_log ns es) b i ≡ is_in_block es b i
  unfolding is_in_block passes_at
  is_in_block-renamed es b i = ap (λ x. nat_le b i && x)
      (ap (λ o. option_map_or (λ e. is_open_at (renamed_log ns es) (thread_of e) b i) o false) (slice_get-map (renamed ns) es i) ∙ at (slice_get es i))
    where
      at : (o : Option Event) → option_map_or (λ e. is_open_at (renamed_log ns es) (thread_of e) b i) (option_map (renamed ns) o) false ≡ option_map_or (λ e. is_open_at es (thread_of e) b i) o false
      at None = refl
      at (Some e) = is_open_at-renamed es (thread_of e) b i

  pub owner-renamed : (es : List Event) (i : ℕ) → owner (renamed_log ns es) i ≡ owner es i
  unfolding owner
  owner-renamed es i = least_below-same i _ _ (λ k l. is_in_block-renamed es k i)

  -- ---- the graph

  conflict_at-renamed : (es : List Event) (i j : ℕ) → conflict_at (renamed_log ns es) i j ≡ conflict_at es i j
  unfolding conflict_at
  conflict_at-renamed es i j = ap (λ o. both_conflict o (slice_get (renamed_log ns es) j)) (slice_get-map (renamed ns) es i) ∙ (ap (both_conflict (option_map (renamed ns) (slice_get es i))) (slice_get-map (renamed ns) es j) ∙ both (slice_get es i) (slice_get es j))
    where
      both : (o p : Option Event) → both_conflict (option_map (renamed ns) o) (option_map (renamed ns) p) ≡ both_conflict o p
      both None p = refl
      both (Some a) None = refl
      both (Some a) (Some b) = same_conflict a b

  Edge-renamed : (es : List Event) (a b : ℕ) → Edge es a b → Edge (renamed_log ns es) a b
  Edge-renamed es a b e = record {
    from = e.from;
    to = e.to;
    in_order = e.in_order;
    in_trace = omega (arith, e.in_trace, length-map es (renamed ns));
    in_conflict = conflict_at-renamed es e.from e.to ∙ e.in_conflict;
    of_from = owner-renamed es e.from ∙ e.of_from;
    of_to = owner-renamed es e.to ∙ e.of_to;
    differ = e.differ;
  }

  Edge-from_renamed : (es : List Event) (a b : ℕ) → Edge (renamed_log ns es) a b → Edge es a b
  Edge-from_renamed es a b e = record {
    from = e.from;
    to = e.to;
    in_order = e.in_order;
    in_trace = omega (arith, e.in_trace, length-map es (renamed ns));
    in_conflict = sym (conflict_at-renamed es e.from e.to) ∙ e.in_conflict;
    of_from = sym (owner-renamed es e.from) ∙ e.of_from;
    of_to = sym (owner-renamed es e.to) ∙ e.of_to;
    differ = e.differ;
  }

  -- the same cycles
  pub HasCycle-renamed : (es : List Event) → HasCycle es → HasCycle (renamed_log ns es)
  HasCycle-renamed es c = record { cycle = c.cycle; is_cycle = IsCycle-map (Edge es) (Edge (renamed_log ns es)) (Edge-renamed es) c.cycle c.is_cycle }

  pub HasCycle-from_renamed : (es : List Event) → HasCycle (renamed_log ns es) → HasCycle es
  HasCycle-from_renamed es c = record { cycle = c.cycle; is_cycle = IsCycle-map (Edge (renamed_log ns es)) (Edge es) (Edge-from_renamed es) c.cycle c.is_cycle }

  -- ---- what the log leaves

  pub status_in-renamed : (es : List Event) (t : ℕ) → status_in (renamed_log ns es) t ≡ status_in es t
  status_in-renamed es t = rw (happened-renamed (is_join_of t) (blind_join t) es, happened-renamed (is_exit_by t) (blind_exit t) es, happened-renamed (is_fork_of t) (blind_fork t) es) refl

  pub was_born-renamed : (es : List Event) (t : ℕ) → was_born (renamed_log ns es) t ≡ was_born es t
  was_born-renamed es t = ap (λ b. (t == 0) || b) (happened-renamed (is_fork_of t) (blind_fork t) es)

  pub depth_in-renamed : (es : List Event) (t : ℕ) → depth_in (renamed_log ns es) t ≡ depth_in es t
  depth_in-renamed es t = rw (times-renamed (is_begin_by t) (blind_begin t) es, times-renamed (is_end_by t) (blind_end t) es) refl

  pub holder_in-renamed : (es : List Event) (m : ℕ) → holder_in (renamed_log ns es) (ns.lock m) ≡ holder_in es m
  holder_in-renamed es m = ap (λ o. option_and_then (λ e. if is_acquire e.kind then Some (thread_of e) else None) o) (latest-renamed (is_on_lock m) (is_on_lock (ns.lock m)) (blind_lock m) es) ∙ at (latest (is_on_lock m) es)
    where
      at : (o : Option Event) → option_and_then {T = Event} {U = ℕ} (λ e. if is_acquire e.kind then Some (thread_of e) else None) (option_map (renamed ns) o) ≡ option_and_then (λ e. if is_acquire e.kind then Some (thread_of e) else None) o
      at None = refl
      at (Some e) = ap (λ b. if b then Some (thread_of e) else None) (same_acquire e.kind)

  pub shares_in-renamed : (es : List Event) (m t : ℕ) → shares_in (renamed_log ns es) (ns.lock m) t ≡ shares_in es m t
  shares_in-renamed es m t = ap (λ o. option_map_or (λ e. is_acquire_shared e.kind) o false) (latest-renamed (is_on_share m t) (is_on_share (ns.lock m) t) (blind_share m t) es) ∙ at (latest (is_on_share m t) es)
    where
      at : (o : Option Event) → option_map_or (λ e. is_acquire_shared e.kind) (option_map (renamed ns) o) false ≡ option_map_or (λ e. is_acquire_shared e.kind) o false
      at None = refl
      at (Some e) = same_acquire_shared e.kind

  blind_write : (x : ℕ) (e : Event) → is_write_of (ns.variable x) (renamed ns e) ≡ is_write_of x e
  blind_write x e =
      ap (λ b. b && are_same (variable_of (renamed_kind ns e.kind)) (Some (ns.variable x))) (same_write e.kind)
      ∙ ap (λ b. is_write e.kind && b) (ap (λ o. are_same o (Some (ns.variable x))) (given_variable e.kind) ∙ same-variable (variable_of e.kind) x)

  pub value_in-renamed : (es : List Event) (x : ℕ) → value_in (renamed_log ns es) (ns.variable x) ≡ value_in es x
  value_in-renamed es x = ap (λ o. option_map_or (λ e. value_of e.kind) o 0) (latest-renamed (is_write_of x) (is_write_of (ns.variable x)) (blind_write x) es) ∙ at (latest (is_write_of x) es)
    where
      at : (o : Option Event) → option_map_or (λ e. value_of e.kind) (option_map (renamed ns) o) 0 ≡ option_map_or (λ e. value_of e.kind) o 0
      at None = refl
      at (Some e) = same_value e.kind
