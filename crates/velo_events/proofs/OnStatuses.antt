-- How far a thread has come, by what happened to it, and after one more event.
use Rattle.std.proofs.Common.{◌≡◌, ◌≢◌, ℕ, Bool, true, false, List, [], ◌∷◌, ◌++◌, Some, refl, sym, ap, ◌∙◌, subst}
use Rattle.std.specs.Prelude.{◌==◌, ◌||◌, if◌then◌else◌, IsTrue, IsFalse}
use Rattle.std.proofs.lemmas.Bool.{or_parts, or_from, and_left, eq-eqb, eqb-true, ne_eqb, false≢true, false_from_ne_true}
use Rattle.velo_events.specs.declared.config.Bounds.{Bounds}
use Rattle.velo_events.specs.declared.event.Event.{Event}
use Rattle.velo_events.specs.declared.event.Kind.{Kind}
use Rattle.velo_events.specs.declared.event.Kind.TheVariants.{Fork, Join}
use Rattle.velo_events.specs.declared.event.Status.{Status}
use Rattle.velo_events.specs.declared.event.Status.TheVariants.{Unborn, Live, Exited, Joined}
use Rattle.velo_events.specs.Event.{thread_of, is_by, is_exit, is_fork_of, is_join_of, is_exit_by, thread_joined, thread_forked, are_same}
use Rattle.velo_events.specs.Heap.{happened, was_born, status_in}
use Rattle.velo_events.specs.WellFormed.{MayFollow, IsWellFormed, IsInTurn}
use Rattle.velo_events.specs.Meaning.{is_unborn, is_live, is_joined}
use Rattle.velo_events.proofs.OnTraces.{happened-nil, happened-push}
use Rattle.velo_events.proofs.OnWellFormed.{Facts-from}

-- ---- one status

abbrev pub status_by : Bool → Bool → Bool → Status
status_by joined exited born = if joined then Joined else (if exited then Exited else (if born then Live else Unborn))

pub unborn_parts : (j x b : Bool) → IsTrue (is_unborn (status_by j x b)) → IsFalse j × IsFalse x × IsFalse b
unborn_parts true x b h = absurd (false≢true h)
unborn_parts false true b h = absurd (false≢true h)
unborn_parts false false true h = absurd (false≢true h)
unborn_parts false false false h = (refl, refl, refl)

pub unborn_from : (j x b : Bool) → IsFalse j → IsFalse x → IsFalse b → IsTrue (is_unborn (status_by j x b))
unborn_from j x b hj hx hb = rw (hj, hx, hb) refl

pub live_parts : (j x b : Bool) → status_by j x b ≡ Live → IsFalse j × IsFalse x × IsTrue b
live_parts true x b h = cc
live_parts false true b h = cc
live_parts false false true h = (refl, refl, refl)
live_parts false false false h = cc

pub live_from : (j x b : Bool) → IsFalse j → IsFalse x → IsTrue b → status_by j x b ≡ Live
live_from j x b hj hx hb = rw (hj, hx, hb) refl

pub exited_parts : (j x b : Bool) → IsFalse (is_unborn (status_by j x b)) → IsFalse (is_live (status_by j x b)) → IsFalse (is_joined (status_by j x b)) → IsTrue x × IsFalse j
exited_parts true x b u l k = absurd (false≢true (sym k))
exited_parts false true b u l k = (refl, refl)
exited_parts false false true u l k = absurd (false≢true (sym l))
exited_parts false false false u l k = absurd (false≢true (sym u))

pub exited_from : (j x b : Bool) → IsFalse j → IsTrue x → status_by j x b ≡ Exited
exited_from j x b hj hx = rw (hj, hx) refl

pub is_Live : (s : Status) → IsTrue (is_live s) → s ≡ Live
is_Live Unborn h = absurd (false≢true h)
is_Live Live h = refl
is_Live Exited h = absurd (false≢true h)
is_Live Joined h = absurd (false≢true h)

pub is_Unborn : (s : Status) → IsTrue (is_unborn s) → s ≡ Unborn
is_Unborn Unborn h = refl
is_Unborn Live h = absurd (false≢true h)
is_Unborn Exited h = absurd (false≢true h)
is_Unborn Joined h = absurd (false≢true h)

-- at the start thread 0 is born, and no other
pub status_in-nil : (t : ℕ) → status_in [] t ≡ status_by false false ((t == 0) || false)
status_in-nil t = rw (happened-nil (is_join_of t), happened-nil (is_exit_by t), happened-nil (is_fork_of t)) refl

pub first-born : (t : ℕ) → t ≡ 0 → IsFalse (is_unborn (status_in [] t))
first-born t is = ap is_unborn (status_in-nil t) ∙ rw (eq-eqb t 0 is) refl

pub others-unborn : (t : ℕ) → t ≢ 0 → IsTrue (is_unborn (status_in [] t))
others-unborn t other = ap is_unborn (status_in-nil t) ∙ rw (ne_eqb t 0 other) refl

-- ---- one more event

pub status_in-push : (log : List Event) (e : Event) (t : ℕ) → status_in (log ++ e ∷ []) t ≡ status_by (happened (is_join_of t) log || is_join_of t e) (happened (is_exit_by t) log || is_exit_by t e) ((t == 0) || (happened (is_fork_of t) log || is_fork_of t e))
status_in-push log e t = rw (happened-push (is_join_of t) log e, happened-push (is_exit_by t) log e, happened-push (is_fork_of t) log e) refl

-- a thread that is unborn after it was unborn before, and is not forked by it
pub unborn-before : (log : List Event) (e : Event) (t : ℕ) → IsTrue (is_unborn (status_in (log ++ e ∷ []) t)) → IsTrue (is_unborn (status_in log t)) × IsFalse (is_fork_of t e)
unborn-before log e t h =
    let parts = unborn_parts _ _ _ (sym (ap is_unborn (status_in-push log e t)) ∙ h) in
    let j = or_parts (happened (is_join_of t) log) (is_join_of t e) parts.0 in
    let x = or_parts (happened (is_exit_by t) log) (is_exit_by t e) parts.1 in
    let b = or_parts (t == 0) (happened (is_fork_of t) log || is_fork_of t e) parts.2 in
    let f = or_parts (happened (is_fork_of t) log) (is_fork_of t e) b.1 in
    (unborn_from _ _ _ j.0 x.0 (or_from (t == 0) (happened (is_fork_of t) log) b.0 f.0), f.1)

-- a thread that is live after it was live before, or is forked by it
pub live-before : (log : List Event) (e : Event) (t : ℕ) → status_in (log ++ e ∷ []) t ≡ Live → IsFalse (is_fork_of t e) → status_in log t ≡ Live
live-before log e t h no_fork =
    let parts = live_parts _ _ _ (sym (status_in-push log e t) ∙ h) in
    let j = or_parts (happened (is_join_of t) log) (is_join_of t e) parts.0 in
    let x = or_parts (happened (is_exit_by t) log) (is_exit_by t e) parts.1 in
    live_from _ _ _ j.0 x.0 (born (t == 0) (happened (is_fork_of t) log) (is_fork_of t e) parts.2 no_fork)
  where
    born : (a b c : Bool) → IsTrue (a || (b || c)) → IsFalse c → IsTrue (a || b)
    born true b c h k = refl
    born false true c h k = refl
    born false false true h k = absurd (false≢true (sym k))
    born false false false h k = absurd (false≢true h)

-- ---- one more event that may follow

-- a thread that acts is born
pub actor-born : (bounds : Bounds) (log : List Event) (e : Event) → MayFollow bounds log e → IsFalse (is_unborn (status_in log (thread_of e)))
actor-born bounds log e f = false_from_ne_true _ (λ h. let parts = unborn_parts _ _ _ h in false≢true (sym parts.2 ∙ f.born))

no_join : (k : Kind) (log : List Event) (s t : ℕ) → IsInTurn log s k → IsFalse (happened (is_exit_by t) log) → IsFalse (are_same (thread_joined k) (Some t))
no_join (Join u) log s t turn h = ne_eqb u.0 t (λ is. false≢true (sym (subst (λ n. IsFalse (happened (is_exit_by n) log)) (sym is) h) ∙ turn.0))
no_join _ log s t turn h = refl

-- a thread that it does not fork is unborn after it exactly where it was
pub unborn-same : (bounds : Bounds) (log : List Event) (e : Event) (t : ℕ) → MayFollow bounds log e → IsFalse (is_fork_of t e) → is_unborn (status_in (log ++ e ∷ []) t) ≡ is_unborn (status_in log t)
unborn-same bounds log e t f no_fork = at (is_unborn (status_in log t)) refl
  where
    acts_not : IsFalse (was_born log t) → IsFalse (is_exit_by t e)
    acts_not unborn = and_left (is_by t e) (is_exit e.kind) (ne_eqb (thread_of e) t (λ is. false≢true (sym (subst (λ n. IsFalse (was_born log n)) (sym is) unborn) ∙ f.born)))

    at : (b : Bool) → is_unborn (status_in log t) ≡ b → is_unborn (status_in (log ++ e ∷ []) t) ≡ b
    at false h = false_from_ne_true _ (λ after. false≢true (sym h ∙ (unborn-before log e t after).0))
    at true h =
        let parts = unborn_parts _ _ _ h in
        let own = or_parts (t == 0) (happened (is_fork_of t) log) parts.2 in
        ap is_unborn (status_in-push log e t)
        ∙ unborn_from _ _ _
        (or_from (happened (is_join_of t) log) (is_join_of t e) parts.0 (no_join e.kind log (thread_of e) t f.in_turn parts.1))
        (or_from (happened (is_exit_by t) log) (is_exit_by t e) parts.1 (acts_not parts.2))
        (or_from (t == 0) (happened (is_fork_of t) log || is_fork_of t e) own.0 (or_from (happened (is_fork_of t) log) (is_fork_of t e) own.1 no_fork))

-- a thread that it forks is unborn before it, and not after it
pub forked-after : (log : List Event) (e : Event) (t : ℕ) → IsTrue (is_fork_of t e) → IsFalse (is_unborn (status_in (log ++ e ∷ []) t))
forked-after log e t fork = false_from_ne_true _ (λ h. false≢true (sym (unborn-before log e t h).1 ∙ fork))

forked_in : (k : Kind) (log : List Event) (s t : ℕ) → IsInTurn log s k → IsTrue (are_same (thread_forked k) (Some t)) → IsFalse (was_born log t)
forked_in (Fork u) log s t turn h =
    let is : u.0 ≡ t = eqb-true u.0 t h in
    subst (λ n. IsFalse (was_born log n)) is (or_from (u.0 == 0) (happened (is_fork_of u.0) log) (ne_eqb u.0 0 turn.0) turn.1)
forked_in _ log s t turn h = absurd (false≢true h)

pub forked-before : (bounds : Bounds) (log : List Event) (e : Event) (t : ℕ) → IsWellFormed bounds log → MayFollow bounds log e → IsTrue (is_fork_of t e) → IsTrue (is_unborn (status_in log t))
forked-before bounds log e t well f fork =
    let facts = Facts-from bounds log well in
    let unborn = forked_in e.kind log (thread_of e) t f.in_turn fork in
    let no_exit : IsFalse (happened (is_exit_by t) log) = false_from_ne_true _ (λ x. false≢true (sym unborn ∙ facts.born t x)) in
    let unjoined : IsFalse (happened (is_join_of t) log) = false_from_ne_true _ (λ j. false≢true (sym no_exit ∙ facts.exited t j)) in
    unborn_from _ _ _ unjoined no_exit unborn
