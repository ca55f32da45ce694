-- What is free by the scripts of the threads is free after each log.
use Rattle.std.proofs.Common.{◌≡◌, ◌≢◌, ℕ, suc, ◌+◌, ◌<◌, ◌≤◌, Bool, true, false, cond, not, List, [], ◌∷◌, ◌++◌, length, length-append, take, drop, map, Option, Some, None, refl, sym, ap, ◌∙◌, subst, arith, ⊎_elim}
use Rattle.std.specs.Prelude.{◌==◌, ◌&&◌, ◌||◌, slice_get, IsTrue, IsFalse}
use Rattle.std.specs.Option.{option_map, option_map_or}
use Rattle.std.proofs.lemmas.List.{append-nil, append_assoc, length-map, length-take-le, take-append-drop}
use Rattle.std.proofs.lemmas.Option.{slice_get-map, slice_get_within, same_Some, none-some}
use Rattle.std.proofs.lemmas.Bool.{cases_Bool, cases_lt, and_from, and_parts, or_cases, or_parts, not-true, not_from_false, eqb-true, eq-eqb, ne_eqb, le-leb, false≢true, false_from_ne_true, both_ways}
use Rattle.velo_events.specs.declared.config.Bounds.{Bounds}
use Rattle.velo_events.specs.declared.event.Action.{Action}
use Rattle.velo_events.specs.declared.event.Event.{Event}
use Rattle.velo_events.specs.declared.event.Kind.{Kind}
use Rattle.velo_events.specs.declared.event.Kind.TheVariants.{Read, Write, Acquire, Release, AcquireShared, ReleaseShared, Begin, End, Fork, Join, Exit}
use Rattle.velo_events.specs.Event.{are_same, thread_of, access_of, cell_of, is_exclusive, thread_forked, thread_joined, forked_of, joined_of, exclusive_lock_of, shared_lock_of, is_acquire, is_acquire_shared, is_release, is_release_shared, is_on_share}
use Rattle.velo_events.specs.Heap.{latest, holder_in, shares_in}
use Rattle.velo_events.specs.Meaning.{action_of}
use Rattle.velo_events.proofs.OnBlocks.{any_below-at, any_below-some}
use Rattle.velo_events.proofs.OnScans.{event_at, take-next}
use Rattle.velo_events.proofs.OnWellFormed.{holder_in-push, shares_in-push}
use Rattle.velo_movers.specs.Programs.{own, IsProgram, IsLog}
use Rattle.velo_movers.specs.Free.{gives_up, are_rivals, are_twins, BothAlone, FirstAlone, SecondAlone, IsFree}
use Rattle.velo_movers.specs.Wants.{Does}
use Rattle.velo_movers.specs.Scripts.{plain, plain_kind, AreScripts, HaveScripts, has_after, has_from, has_lock, shares_after, shares_from, shares_lock, exclude, hinders, is_free}
use Rattle.velo_movers.proofs.OnFreeStatements.{IsFree-now}
use Rattle.velo_movers.proofs.OnWants.{last_wanted, IsProgram-wants}

-- ---- operations without their values

plain-access : (k : Kind) → access_of (plain_kind k) ≡ access_of k
plain-access (Read x v) = refl
plain-access (Write x v) = refl
plain-access _ = refl

plain-gives_up : (k : Kind) → gives_up (plain_kind k) ≡ gives_up k
plain-gives_up (Read x v) = refl
plain-gives_up (Write x v) = refl
plain-gives_up _ = refl

plain-rivals : (k l : Kind) → are_rivals (plain_kind k) (plain_kind l) ≡ are_rivals k l
plain-rivals k l =
    ap (λ a. are_same (cell_of a) (cell_of (access_of (plain_kind l))) && (is_exclusive a || is_exclusive (access_of (plain_kind l))) && not (gives_up (plain_kind k) || gives_up (plain_kind l))) (plain-access k)
    ∙ (ap (λ a. are_same (cell_of (access_of k)) (cell_of a) && (is_exclusive (access_of k) || is_exclusive a) && not (gives_up (plain_kind k) || gives_up (plain_kind l))) (plain-access l)
    ∙ (ap (λ b. are_same (cell_of (access_of k)) (cell_of (access_of l)) && (is_exclusive (access_of k) || is_exclusive (access_of l)) && not (b || gives_up (plain_kind l))) (plain-gives_up k)
    ∙ ap (λ b. are_same (cell_of (access_of k)) (cell_of (access_of l)) && (is_exclusive (access_of k) || is_exclusive (access_of l)) && not (gives_up k || b)) (plain-gives_up l)))

plain-twins : (k l : Kind) → are_twins (plain_kind k) (plain_kind l) ≡ are_twins k l
plain-twins k l =
    ap (λ a. are_same (forked_of a) (thread_forked (plain_kind l)) || are_same (joined_of a) (thread_joined (plain_kind l)) || are_same (forked_of a) (thread_joined (plain_kind l))) (plain-access k)
    ∙ ap (λ a. are_same (thread_forked k) (forked_of a) || are_same (thread_joined k) (joined_of a) || are_same (thread_forked k) (joined_of a)) (plain-access l)

-- ---- who has a lock by his own events

unfoldable pub plain_events : List Event → List Kind
plain_events events = map (λ e. plain_kind e.kind) events

-- after one more event of the thread
has-push : (log : List Event) (e : Event) (m : ℕ) → are_same (holder_in (log ++ e ∷ []) m) (Some (thread_of e)) ≡ has_after m (are_same (holder_in log m) (Some (thread_of e))) (plain_kind e.kind)
has-push log e m = ap (λ (o : Option ℕ). are_same o (Some (thread_of e))) (holder_in-push log e m) ∙ at e.kind
  where
    t : ℕ
    t = thread_of e

    at : (k : Kind) → are_same (cond (are_same (exclusive_lock_of k) (Some m)) (cond (is_acquire k) (Some (thread_of e)) None) (holder_in log m)) (Some (thread_of e)) ≡ has_after m (are_same (holder_in log m) (Some (thread_of e))) (plain_kind k)
    at (Acquire n) = ⊎_elim
        (λ on. rw on (eq-eqb (thread_of e) (thread_of e) refl))
        (λ off. rw off refl)
        (cases_Bool (n.0 == m))
    at (Release n) = ⊎_elim (λ on. rw on refl) (λ off. rw off refl) (cases_Bool (n.0 == m))
    at (Read x v) = refl
    at (Write x v) = refl
    at (AcquireShared n) = refl
    at (ReleaseShared n) = refl
    at (Begin l) = refl
    at End = refl
    at (Fork u) = refl
    at (Join u) = refl
    at Exit = refl

has-events : (t m : ℕ) (log events : List Event) → ((i : ℕ) (e : Event) → slice_get events i ≡ Some e → thread_of e ≡ t) → are_same (holder_in (log ++ events) m) (Some t) ≡ has_from m (are_same (holder_in log m) (Some t)) (plain_events events)
unfolding has_from plain_events
has-events t m log [] by = ap (λ es. are_same (holder_in es m) (Some t)) (append-nil log)
has-events t m log (e ∷ events) by =
    ap (λ es. are_same (holder_in es m) (Some t)) (sym (append_assoc log (e ∷ []) events))
    ∙ (has-events t m (log ++ e ∷ []) events (λ i f h. by (suc i) f h)
    ∙ ap (λ b. has_from m b (plain_events events)) (subst (λ u. are_same (holder_in (log ++ e ∷ []) m) (Some u) ≡ has_after m (are_same (holder_in log m) (Some u)) (plain_kind e.kind)) (by 0 e refl) (has-push log e m)))

-- the thread holds the lock after these events of its own
holder-by_script : (t m : ℕ) (events : List Event) → ((i : ℕ) (e : Event) → slice_get events i ≡ Some e → thread_of e ≡ t) → IsTrue (has_lock m (plain_events events)) → holder_in events m ≡ Some t
unfolding latest
holder-by_script t m events by h = is_holder (holder_in events m) (has-events t m [] events by ∙ h)
  where
    is_holder : (o : Option ℕ) → IsTrue (are_same o (Some t)) → o ≡ Some t
    is_holder None w = absurd (false≢true w)
    is_holder (Some k) w = ap Some (eqb-true k t w)

-- the same of shares

shares-push : (log : List Event) (e : Event) (m : ℕ) → shares_in (log ++ e ∷ []) m (thread_of e) ≡ shares_after m (shares_in log m (thread_of e)) (plain_kind e.kind)
shares-push log e m =
    shares_in-push log e m (thread_of e)
    ∙ (ap (λ b. cond (b && are_same (shared_lock_of e.kind) (Some m)) (is_acquire_shared e.kind) (shares_in log m (thread_of e))) (eq-eqb (thread_of e) (thread_of e) refl) ∙ at e.kind)
  where
    at : (k : Kind) → cond (are_same (shared_lock_of k) (Some m)) (is_acquire_shared k) (shares_in log m (thread_of e)) ≡ shares_after m (shares_in log m (thread_of e)) (plain_kind k)
    at (AcquireShared n) = ⊎_elim (λ on. rw on refl) (λ off. rw off refl) (cases_Bool (n.0 == m))
    at (ReleaseShared n) = ⊎_elim (λ on. rw on refl) (λ off. rw off refl) (cases_Bool (n.0 == m))
    at (Read x v) = refl
    at (Write x v) = refl
    at _ = refl

shares-events : (t m : ℕ) (log events : List Event) → ((i : ℕ) (e : Event) → slice_get events i ≡ Some e → thread_of e ≡ t) → shares_in (log ++ events) m t ≡ shares_from m (shares_in log m t) (plain_events events)
unfolding shares_from plain_events
shares-events t m log [] by = ap (λ es. shares_in es m t) (append-nil log)
shares-events t m log (e ∷ events) by =
    ap (λ es. shares_in es m t) (sym (append_assoc log (e ∷ []) events))
    ∙ (shares-events t m (log ++ e ∷ []) events (λ i f h. by (suc i) f h)
    ∙ ap (λ b. shares_from m b (plain_events events)) (subst (λ u. shares_in (log ++ e ∷ []) m u ≡ shares_after m (shares_in log m u) (plain_kind e.kind)) (by 0 e refl) (shares-push log e m)))

shares-by_script : (t m : ℕ) (events : List Event) → ((i : ℕ) (e : Event) → slice_get events i ≡ Some e → thread_of e ≡ t) → IsTrue (shares_lock m (plain_events events)) → IsTrue (shares_in events m t)
unfolding latest
shares-by_script t m events by h = shares-events t m [] events by ∙ h

-- ---- scripts

take_by : (xs ys : List Kind) → ((i : ℕ) → i < length xs → slice_get xs i ≡ slice_get ys i) → xs ≡ take (length xs) ys
take_by [] ys h = refl
take_by (x ∷ xs) [] h = absurd (none-some x (sym (h 0 (omega arith))))
take_by (x ∷ xs) (y ∷ ys) h = ap (λ z. z ∷ xs) (same_Some x y (h 0 (omega arith))) ∙ ap (λ zs. y ∷ zs) (take_by xs ys (λ i l. h (suc i) (omega (arith, l))))

module _ (May : ℕ → List Event → Type 0) (program : IsProgram May) (threads : ℕ) (script : ℕ → List Kind) (are : AreScripts May threads script) where
  -- a thread's events are the first of its script
  pub script_events : (t : ℕ) (events : List Event) → May t events → plain_events events ≡ take (length events) (script t)
  unfolding plain_events
  script_events t events d =
      take_by (plain_events events) (script t) at ∙ ap (λ n. take n (script t)) (length-map events (λ e. plain_kind e.kind))
    where
      at : (i : ℕ) → i < length (plain_events events) → slice_get (plain_events events) i ≡ slice_get (script t) i
      at i l =
          let within : i < length events = let long = length-map events (λ e. plain_kind e.kind) in omega (arith, l, long) in
          let e = event_at events i within in
          let upto : May t (take i events ++ e.0 ∷ []) =
          subst (May t) (take-next events i e.0 e.1) (program.earlier t (take (i + 1) events) (drop (i + 1) events) (subst (May t) (sym (take-append-drop (i + 1) events)) d)) in
          let long = length-take-le i events (omega (arith, within)) in
          slice_get-map (λ f. plain_kind f.kind) events i
          ∙ (ap (option_map (λ f. plain_kind f.kind)) e.1
          ∙ (sym (are.next t (take i events) e.0 upto) ∙ ap (slice_get (script t)) long))

  -- Free by the scripts: what each thread has done at least, and this one exactly
  pub IsFree-script : (bounds : Bounds) (locks : ℕ) (log : List Event) (e : Event) (done : ℕ → ℕ) → IsLog bounds May log → done (thread_of e) ≡ length (own (thread_of e) log) → ((u : ℕ) → done u ≤ length (own u log)) → IsTrue (is_free threads locks script done (thread_of e) (plain (action_of e.kind))) → IsFree bounds May log e
  unfolding is_free
  IsFree-script bounds locks log e done all exact least h = IsFree-now bounds May log e (record {
    guarded = λ more g other may rivals.
        let events = own (thread_of g) log ++ more in
        let u = thread_of g in
        let nothing = or_parts _ _ (clear more g other may) in
        let lock = guard (are_rivals (plain_kind e.kind) (plain_kind g.kind)) _ nothing.0 (plain-rivals e.kind g.kind ∙ rivals) in
        let m = any_below-some locks (λ k. exclude k (take (done t) (script t)) (take (length events) (script u))) lock in
        let theirs : May u events = program.earlier u events (g ∷ []) may in
        let my_part : (P : List Kind → Type 0) → P (take (done t) (script t)) → P (plain_events (own t log)) = λ P. subst P (ap (λ n. take n (script t)) exact ∙ sym (script_events t (own t log) (all.each t))) in
        let their_part : (P : List Kind → Type 0) → P (take (length events) (script u)) → P (plain_events events) = λ P. subst P (sym (script_events u events theirs)) in
        let mine_alone = λ (h : IsTrue (has_lock m.0 (take (done t) (script t)))). holder-by_script t m.0 (own t log) (are.by t (own t log) (all.each t)) (my_part (λ ks. IsTrue (has_lock m.0 ks)) h) in
        let theirs_alone = λ (h : IsTrue (has_lock m.0 (take (length events) (script u)))). holder-by_script u m.0 events (are.by u events theirs) (their_part (λ ks. IsTrue (has_lock m.0 ks)) h) in (
          m.0,
          ⊎_elim
              (λ first. let both = and_parts _ _ first in ⊎_elim
              (λ alone. BothAlone (mine_alone both.0) (theirs_alone alone))
              (λ shared. FirstAlone (mine_alone both.0) (shares-by_script u m.0 events (are.by u events theirs) (their_part (λ ks. IsTrue (shares_lock m.0 ks)) shared)))
              (or_cases _ _ both.1))
              (λ second. let both = and_parts _ _ second in
              SecondAlone (shares-by_script t m.0 (own t log) (are.by t (own t log) (all.each t)) (my_part (λ ks. IsTrue (shares_lock m.0 ks)) both.0)) (theirs_alone both.1))
              (or_cases _ _ m.2),
        );
    single = λ more g other may. sym (plain-twins e.kind g.kind) ∙ (or_parts _ _ (clear more g other may)).1;
  })
    where
      t : ℕ
      t = thread_of e

      guard : (b c : Bool) → IsFalse (b && not c) → IsTrue b → IsTrue c
      guard true true no_way h = refl
      guard true false no_way h = absurd (false≢true (sym no_way))
      guard false c no_way h = absurd (false≢true h)

      -- what another thread comes to does not hinder
      clear : (more : List Event) (g : Event) → thread_of g ≢ t → May (thread_of g) ((own (thread_of g) log ++ more) ++ g ∷ []) → IsFalse (hinders locks (take (done t) (script t)) (plain_kind e.kind) (take (length (own (thread_of g) log ++ more)) (script (thread_of g))) (plain_kind g.kind))
      clear more g other may = false_from_ne_true _ (λ found.
          let u = thread_of g in
          let events = own u log ++ more in
          let j = length events in
          let here : slice_get (script u) j ≡ Some (plain_kind g.kind) = are.next u events g may in
          let inside : j < length (script u) = slice_get_within (script u) j (plain_kind g.kind) here in
          let known : u < threads = ⊎_elim (λ l. l) (λ beyond. absurd (none-some (plain_kind g.kind) (sym (ap (λ ks. slice_get ks j) (are.others u beyond)) ∙ here))) (cases_lt u threads) in
          let later : done u ≤ j = let l = least u in let long = length-append (own u log) more in omega (arith, l, long) in
          let at_j = and_from _ _ (le-leb (done u) j later) (ap (λ o. option_map_or (hinders locks (take (done t) (script t)) (plain_kind e.kind) (take j (script u))) o false) here ∙ found) in
          both_ways _ (not-true _ h) (any_below-at threads _ u known (and_from _ _ (not_from_false _ (ne_eqb u t other)) (any_below-at (length (script u)) _ j inside at_j))))

-- threads that want one action after another have scripts in both senses
pub AreScripts-wants : (wants : ℕ → List Event → Option Action) (threads : ℕ) (script : ℕ → List Kind) → HaveScripts wants threads script → AreScripts (Does wants) threads script
AreScripts-wants wants threads script have = record {
  by = λ t events d. d.by;
  next = λ t events e d. have.next t events (action_of e.kind) ((IsProgram-wants wants).earlier t events (e ∷ []) d) (last_wanted wants t events e d);
  others = have.others;
}
