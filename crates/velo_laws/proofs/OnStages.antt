-- What events leave, and after one event more.
use Rattle.std.proofs.Common.{◌≡◌, ℕ, zero, suc, ◌+◌, ◌*◌, ◌<◌, ◌≤◌, Bool, true, false, cond, List, [], ◌∷◌, ◌++◌, length, Option, Some, None, refl, sym, ap, ◌∙◌, arith, ⊎_elim}
use Rattle.std.specs.Prelude.{◌==◌, ◌&&◌, ◌||◌, IsTrue, IsFalse}
use Rattle.std.proofs.lemmas.List.{length_push}
use Rattle.std.proofs.lemmas.Bool.{cases_lt, cases_order, eq-eqb, ne_eqb, lt-ltb, le-ltb, both_ways, false_from_ne_true}
use Rattle.velo_events.specs.declared.config.Bounds.{Bounds}
use Rattle.velo_events.specs.declared.event.Event.{Event}
use Rattle.velo_events.specs.Event.{thread_of, value_of, is_begin, is_acquire, is_acquire_shared, is_on_lock, is_on_share, is_write_of, is_fork_of, is_exit_by, is_join_of}
use Rattle.velo_events.specs.Heap.{latest, happened}
use Rattle.velo_events.specs.WellFormed.{MayFollow}
use Rattle.velo_events.specs.Block.{passes_at}
use Rattle.velo_events.proofs.OnTraces.{value_in-push, happened-push, passes_at-append, passes_at-push}
use Rattle.velo_events.proofs.OnOwners.{passes_at-within}
use Rattle.velo_events.proofs.OnWellFormed.{IsWellFormed-nil, IsWellFormed-push, holder_in-push, shares_in-push}
use Rattle.velo_laws.specs.Restart.{HasNoBegin}
use Rattle.velo_laws.specs.Length.{counted, summed}
use Rattle.velo_laws.specs.Stages.{Leaves, nobody, no_holder, no_sharer, no_value, upto}

-- ---- a function at the numbers below k, and elsewhere z

module _ {A : Type 0} (f : ℕ → A) (z : A) where
  pub upto-in : (k m : ℕ) → m < k → upto k f z m ≡ f m
  upto-in k m h = ap (λ b. cond {A = A} b (f m) z) (lt-ltb m k h)

  pub upto-out : (k m : ℕ) → k ≤ m → upto k f z m ≡ z
  upto-out k m h = ap (λ b. cond {A = A} b (f m) z) (le-ltb m k h)

  pub upto-step : (k m : ℕ) → cond {A = A} (k == m) (f k) (upto k f z m) ≡ upto (k + 1) f z m
  upto-step k m =
      ⊎_elim
      (λ e. ap (λ b. cond {A = A} b (f k) (upto k f z m)) (eq-eqb k m e) ∙ (ap f e ∙ sym (upto-in (k + 1) m (omega (arith, e)))))
      (⊎_elim
      (λ l. ap (λ b. cond {A = A} b (f k) (upto k f z m)) (ne_eqb k m (λ e. omega (arith, e, l))) ∙ (upto-out k m (omega (arith, l)) ∙ sym (upto-out (k + 1) m (omega (arith, l)))))
      (λ l. ap (λ b. cond {A = A} b (f k) (upto k f z m)) (ne_eqb k m (λ e. omega (arith, e, l))) ∙ (upto-in k m l ∙ sym (upto-in (k + 1) m (omega (arith, l))))))
      (cases_order k m)

  pub upto-keep : (k m : ℕ) → f k ≡ z → upto k f z m ≡ upto (k + 1) f z m
  upto-keep k m none =
      ⊎_elim
      (λ e. upto-out k m (omega (arith, e)) ∙ (sym none ∙ (ap f e ∙ sym (upto-in (k + 1) m (omega (arith, e))))))
      (⊎_elim
      (λ l. upto-out k m (omega (arith, l)) ∙ sym (upto-out (k + 1) m (omega (arith, l))))
      (λ l. upto-in k m l ∙ sym (upto-in (k + 1) m (omega (arith, l)))))
      (cases_order k m)

  pub upto-all : (n m : ℕ) → ((i : ℕ) → n ≤ i → f i ≡ z) → upto n f z m ≡ f m
  upto-all n m none = ⊎_elim (λ l. upto-in n m l) (λ g. upto-out n m g ∙ sym (none m g)) (cases_lt m n)

pub grow_bool : (b c d : Bool) → IsTrue d → (b || c) ≡ cond c d b
grow_bool true true d h = sym h
grow_bool true false d h = refl
grow_bool false true d h = sym h
grow_bool false false d h = refl

pub and_true : (c : Bool) → (c && true) ≡ c
and_true true = refl
and_true false = refl

pub or_false : (c : Bool) → (c || false) ≡ c
or_false true = refl
or_false false = refl

pub or_and_false : (b c : Bool) → (b || (c && false)) ≡ b
or_and_false true c = refl
or_and_false false true = refl
or_and_false false false = refl

pub keep_share : (c x : Bool) → cond (c && false) false x ≡ x
keep_share true x = refl
keep_share false x = refl

pub share_step : (c b x y w : Bool) → cond c true x ≡ y → cond (c && b) true (cond b x w) ≡ cond b y w
share_step true true x y w h = h
share_step false true x y w h = h
share_step true false x y w h = refl
share_step false false x y w h = refl

-- ---- numbers that pass a test

module _ (test : ℕ → Bool) where
  pub counted-zero : counted 0 test ≡ 0
  unfolding counted
  counted-zero = refl

  counted-next : (k : ℕ) → counted (k + 1) test ≡ counted k test + cond {A = ℕ} (test k) 1 0
  unfolding counted
  counted-next k = let next : k + 1 ≡ suc k = omega arith in ap (λ n. counted n test) next

  pub counted-yes : (k : ℕ) → IsTrue (test k) → counted (k + 1) test ≡ counted k test + 1
  counted-yes k h = counted-next k ∙ ap (λ b. counted k test + cond {A = ℕ} b 1 0) h

  pub counted-no : (k : ℕ) → IsFalse (test k) → counted (k + 1) test ≡ counted k test
  counted-no k h = let next = counted-next k ∙ ap (λ b. counted k test + cond {A = ℕ} b 1 0) h in omega (arith, next)

  one_at_most : (b : Bool) → cond {A = ℕ} b 1 0 ≤ 1
  one_at_most true = omega arith
  one_at_most false = omega arith

  pub counted-most : (n : ℕ) → counted n test ≤ n
  unfolding counted
  counted-most zero = omega arith
  counted-most (suc n) = let rest = counted-most n in let one = one_at_most (test n) in omega (arith, rest, one)

module _ (f : ℕ → ℕ) where
  pub summed-zero : summed 0 f ≡ 0
  unfolding summed
  summed-zero = refl

  pub summed-next : (k : ℕ) → summed (k + 1) f ≡ summed k f + f k
  unfolding summed
  summed-next k = let next : k + 1 ≡ suc k = omega arith in ap (λ n. summed n f) next

  pub summed-most : (b n : ℕ) → ((k : ℕ) → f k ≤ b) → summed n f ≤ n * b
  unfolding summed
  summed-most b zero h = omega arith
  summed-most b (suc n) h =
      let rest = summed-most b n h in
      let own = h n in
      let split : suc n * b ≡ n * b + b = omega arith in
      omega (arith, rest, own, split)

-- ---- what events leave

no_begin-push : (P : List Event) (e : Event) → HasNoBegin P → IsFalse (is_begin e.kind) → HasNoBegin (P ++ e ∷ [])
no_begin-push P e none other i = false_from_ne_true _ (λ h.
    let within = passes_at-within (P ++ e ∷ []) (λ f. is_begin f.kind) i h in
    ⊎_elim
    (λ early. both_ways _ (none i) (sym (passes_at-append P (e ∷ []) (λ f. is_begin f.kind) i early) ∙ h))
    (λ late.
    let last : i ≡ length P = omega (arith, late, within, length_push P e) in
    both_ways _ other (sym (passes_at-push P e (λ f. is_begin f.kind)) ∙ (ap (passes_at (P ++ e ∷ []) (λ f. is_begin f.kind)) (sym last) ∙ h)))
    (cases_lt i (length P)))

-- no event leaves anything
pub leaves-nothing : (bounds : Bounds) → Leaves bounds [] nobody nobody no_holder no_sharer no_value 0
unfolding latest happened passes_at
leaves-nothing bounds = record {
  well = IsWellFormed-nil bounds;
  no_begin = λ i. refl;
  forked_are = λ t. refl;
  exited_are = λ t. refl;
  unjoined = λ t. refl;
  held = λ m. refl;
  shared = λ m t. refl;
  values = λ x. refl;
  counted_are = refl;
}

module _ (bounds : Bounds) (P : List Event) (F X : ℕ → Bool) (H : ℕ → Option ℕ) (S : ℕ → ℕ → Bool) (V : ℕ → ℕ) (F' X' : ℕ → Bool) (H' : ℕ → Option ℕ) (S' : ℕ → ℕ → Bool) (V' : ℕ → ℕ) (n n' : ℕ) where
  -- the same, said otherwise
  pub leaves-same : ((t : ℕ) → F t ≡ F' t) → ((t : ℕ) → X t ≡ X' t) → ((m : ℕ) → H m ≡ H' m) → ((m t : ℕ) → S m t ≡ S' m t) → ((x : ℕ) → V x ≡ V' x) → n ≡ n' →
      Leaves bounds P F X H S V n → Leaves bounds P F' X' H' S' V' n'
  leaves-same f x h s v l at = record {
    well = at.well;
    no_begin = at.no_begin;
    forked_are = λ t. at.forked_are t ∙ f t;
    exited_are = λ t. at.exited_are t ∙ x t;
    unjoined = at.unjoined;
    held = λ m. at.held m ∙ h m;
    shared = λ m t. at.shared m t ∙ s m t;
    values = λ y. at.values y ∙ v y;
    counted_are = at.counted_are ∙ l;
  }

  -- one event more
  pub leaves-push : (e : Event) → MayFollow bounds P e → IsFalse (is_begin e.kind) → ((t : ℕ) → IsFalse (is_join_of t e)) →
      ((t : ℕ) → (F t || is_fork_of t e) ≡ F' t) → ((t : ℕ) → (X t || is_exit_by t e) ≡ X' t) →
      ((m : ℕ) → cond {A = Option ℕ} (is_on_lock m e) (cond {A = Option ℕ} (is_acquire e.kind) (Some (thread_of e)) None) (H m) ≡ H' m) →
      ((m t : ℕ) → cond {A = Bool} (is_on_share m t e) (is_acquire_shared e.kind) (S m t) ≡ S' m t) →
      ((x : ℕ) → cond {A = ℕ} (is_write_of x e) (value_of e.kind) (V x) ≡ V' x) → n + 1 ≡ n' →
      Leaves bounds P F X H S V n → Leaves bounds (P ++ e ∷ []) F' X' H' S' V' n'
  leaves-push e follows no_begin no_join f x h s v l at = record {
    well = IsWellFormed-push bounds P e at.well follows;
    no_begin = no_begin-push P e at.no_begin no_begin;
    forked_are = λ t. happened-push (is_fork_of t) P e ∙ (ap (λ b. b || is_fork_of t e) (at.forked_are t) ∙ f t);
    exited_are = λ t. happened-push (is_exit_by t) P e ∙ (ap (λ b. b || is_exit_by t e) (at.exited_are t) ∙ x t);
    unjoined = λ t. happened-push (is_join_of t) P e ∙ (ap (λ b. b || is_join_of t e) (at.unjoined t) ∙ no_join t);
    held = λ m. holder_in-push P e m ∙ (ap (λ o. cond {A = Option ℕ} (is_on_lock m e) (cond {A = Option ℕ} (is_acquire e.kind) (Some (thread_of e)) None) o) (at.held m) ∙ h m);
    shared = λ m t. shares_in-push P e m t ∙ (ap (λ o. cond {A = Bool} (is_on_share m t e) (is_acquire_shared e.kind) o) (at.shared m t) ∙ s m t);
    values = λ y. value_in-push P e y ∙ (ap (λ o. cond {A = ℕ} (is_write_of y e) (value_of e.kind) o) (at.values y) ∙ v y);
    counted_are = omega (arith, at.counted_are, length_push P e, l);
  }
