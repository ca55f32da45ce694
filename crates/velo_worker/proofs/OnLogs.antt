-- Threads that go along a log, each by its own events.
use Rattle.std.proofs.Common.{◌≡◌, ◌≢◌, ℕ, zero, suc, ◌+◌, ◌<◌, ◌≤◌, cond, List, [], ◌∷◌, ◌++◌, length, length-append, take, get_or, Option, Some, None, refl, sym, ap, ◌∙◌, subst, arith, ⊎_elim}
use Rattle.std.specs.Prelude.{slice_get, slice_set, IsTrue, IsFalse}
use Rattle.std.specs.Option.{option_map}
use Rattle.std.proofs.Math.Seq.{take-append_seam}
use Rattle.std.proofs.lemmas.Bool.{cases_Bool, cases_eq, cases_lt, eqb-true, eq-eqb, ne_eqb}
use Rattle.std.proofs.lemmas.List.{append-nil, take-append-le}
use Rattle.std.proofs.lemmas.List.Elements.{filter-append}
use Rattle.std.proofs.lemmas.Option.{slice_get_within, slice_get-get_or, same_Some}
use Rattle.velo_events.specs.declared.event.Event.{Event}
use Rattle.velo_events.specs.Event.{is_by, thread_of}
use Rattle.velo_events.specs.Meaning.{action_of}
use Rattle.velo_events.proofs.OnLists.{slice_get-set_same, slice_get-set_other}
use Rattle.velo_events.proofs.OnScans.{take-next}
use Rattle.velo_events.proofs.OnTraces.{slice_get-append, slice_get-push}
use Rattle.velo_events.specs.Event.{value_read}
use Rattle.velo_worker.specs.declared.progress.Progress.{Progress}
use Rattle.velo_worker.specs.Progress.{settled, after_event}
use Rattle.velo_worker.specs.Logs.{own, progress_after, tried, tried_after, Follows, AllFollow}

-- ---- one event more

own-push_yes : (t : ℕ) (log : List Event) (e : Event) → IsTrue (is_by t e) → own t (log ++ e ∷ []) ≡ own t log ++ e ∷ []
own-push_yes t log e h = filter-append (is_by t) log (e ∷ []) ∙ ap (λ b. own t log ++ cond b (e ∷ []) []) h

own-push_no : (t : ℕ) (log : List Event) (e : Event) → IsFalse (is_by t e) → own t (log ++ e ∷ []) ≡ own t log
own-push_no t log e h = filter-append (is_by t) log (e ∷ []) ∙ (ap (λ b. own t log ++ cond b (e ∷ []) []) h ∙ append-nil (own t log))

progress_after-push : (p : Progress) (events : List Event) (e : Event) → progress_after p (events ++ e ∷ []) ≡ after_event (settled (progress_after p events)) (value_read e.kind)
unfolding progress_after
progress_after-push p [] e = refl
progress_after-push p (f ∷ events) e = progress_after-push (after_event (settled p) (value_read f.kind)) events e

Follows-none : (start : Option Progress) → Follows start []
Follows-none start = record { each = λ i e h. absurd (let l = slice_get_within {A = Event} [] i e h in omega (arith, l)) }

Follows-push : (start : Option Progress) (events : List Event) (e : Event) → Follows start events → tried_after start events ≡ Some (action_of e.kind) → Follows start (events ++ e ∷ [])
Follows-push start events e f now = record {
  each = λ i g h. ⊎_elim
      (λ l. ap (tried_after start) (take-append-le i events (e ∷ []) (omega (arith, l))) ∙ f.each i g (sym (slice_get-append events (e ∷ []) i l) ∙ h))
      (λ high.
      ap (λ k. tried_after start (take k (events ++ e ∷ []))) (sym (here i g h high)) ∙ (ap (tried_after start) (take-append_seam events (e ∷ [])) ∙ (now ∙ ap (λ x. Some (action_of x.kind)) (last i g h high))))
      (cases_lt i (length events));
}
  where
    here : (i : ℕ) (g : Event) → slice_get (events ++ e ∷ []) i ≡ Some g → length events ≤ i → length events ≡ i
    here i g h high = let l = slice_get_within (events ++ e ∷ []) i g h in let long = length-append events (e ∷ []) in omega (arith, high, l, long)

    last : (i : ℕ) (g : Event) → slice_get (events ++ e ∷ []) i ≡ Some g → length events ≤ i → e ≡ g
    last i g h high = same_Some e g (sym (slice_get-push events e) ∙ subst (λ k. slice_get (events ++ e ∷ []) k ≡ Some g) (sym (here i g h high)) h)

-- ---- threads that went along the first events of a log

-- each has come as far as its own events say, and all of these followed
pub record WentAlong (starts : List Progress) (log : List Event) (n : ℕ) (threads : List Progress) : Type 0 where
  pub each : (t : ℕ) → slice_get threads t ≡ option_map (λ p. progress_after p (own t (take n log))) (slice_get starts t)
  pub follow : AllFollow starts (take n log)

map_same : (o : Option Progress) → o ≡ option_map (λ p. progress_after p []) o
unfolding progress_after
map_same None = refl
map_same (Some p) = refl

pub WentAlong-start : (starts : List Progress) (log : List Event) → WentAlong starts log 0 starts
WentAlong-start starts log = record { each = λ t. map_same (slice_get starts t); follow = record { each = λ t. Follows-none (slice_get starts t) } }

-- a thread that is there started somewhere
record Came (o : Option Progress) (events : List Event) (p : Progress) : Type 0 where
  start : Progress
  there : o ≡ Some start
  is : p ≡ progress_after start events

came : (o : Option Progress) (events : List Event) (p : Progress) → Some p ≡ option_map (λ q. progress_after q events) o → Came o events p
came None events p h = cc
came (Some start) events p h = record { start = start; there = refl; is = cc }

pub WentAlong-next : (starts : List Progress) (log : List Event) (n : ℕ) (threads : List Progress) (e : Event) (p after : Progress) → slice_get log n ≡ Some e → slice_get threads (thread_of e) ≡ Some p
    → tried p ≡ Some (action_of e.kind) → after ≡ after_event (settled p) (value_read e.kind) → WentAlong starts log n threads → WentAlong starts log (n + 1) (slice_set threads (thread_of e) after)
WentAlong-next starts log n threads e p after here there tries is w =
    let next = sym (take-next log n e here) in record {
      each = λ u. subst (λ xs. slice_get (slice_set threads t after) u ≡ option_map (λ q. progress_after q (own u xs)) (slice_get starts u)) next (⊎_elim (λ same. subst At (sym same) at_own) (at_other u) (cases_eq u t));
      follow = record { each = λ u. subst (λ xs. Follows (slice_get starts u) (own u xs)) next (⊎_elim (follow_own u) (follow_other u) (cases_Bool (is_by u e))) };
    }
  where
    t : ℕ
    t = thread_of e

    before : List Event
    before = take n log

    At : ℕ → Type 0
    At u = slice_get (slice_set threads t after) u ≡ option_map (λ q. progress_after q (own u (before ++ e ∷ []))) (slice_get starts u)

    c : Came (slice_get starts t) (own t before) p
    c = came (slice_get starts t) (own t before) p (sym there ∙ w.each t)

    came_to : after ≡ progress_after c.start (own t (before ++ e ∷ []))
    came_to = is ∙ (ap (λ q. after_event (settled q) (value_read e.kind)) c.is ∙ (sym (progress_after-push c.start (own t before) e) ∙ ap (progress_after c.start) (sym (own-push_yes t before e (eq-eqb t t refl)))))

    at_own : At t
    at_own =
        slice_get-set_same threads t after (slice_get_within threads t p there)
        ∙ (ap Some came_to ∙ sym (ap (option_map (λ q. progress_after q (own t (before ++ e ∷ [])))) c.there))

    at_other : (u : ℕ) → u ≢ t → At u
    at_other u other =
        slice_get-set_other threads t u after (λ same. other (sym same))
        ∙ (w.each u ∙ ap (λ es. option_map (λ q. progress_after q es) (slice_get starts u)) (sym (own-push_no u before e (ne_eqb t u (λ same. other (sym same))))))

    wanted_now : tried_after (slice_get starts t) (own t before) ≡ Some (action_of e.kind)
    wanted_now = ap (λ o. tried_after o (own t before)) c.there ∙ (ap tried (sym c.is) ∙ tries)

    follow_own : (u : ℕ) → IsTrue (is_by u e) → Follows (slice_get starts u) (own u (before ++ e ∷ []))
    follow_own u its =
        subst (Follows (slice_get starts u)) (sym (own-push_yes u before e its))
        (Follows-push (slice_get starts u) (own u before) e (w.follow.each u) (subst (λ v. tried_after (slice_get starts v) (own v before) ≡ Some (action_of e.kind)) (eqb-true t u its) wanted_now))

    follow_other : (u : ℕ) → IsFalse (is_by u e) → Follows (slice_get starts u) (own u (before ++ e ∷ []))
    follow_other u not_its = subst (Follows (slice_get starts u)) (sym (own-push_no u before e not_its)) (w.follow.each u)

-- the same of the event as a loop over the log reads it
pub WentAlong-item : (starts : List Progress) (log : List Event) (n : ℕ) (threads : List Progress) (d : Event) (thread : ℕ) (p after : Progress) → n < length log → thread ≡ thread_of (get_or log n d) → slice_get threads thread ≡ Some p
    → tried p ≡ Some (action_of (get_or log n d).kind) → after ≡ after_event (settled p) (value_read (get_or log n d).kind) → WentAlong starts log n threads → WentAlong starts log (n + 1) (slice_set threads thread after)
WentAlong-item starts log n threads d thread p after within its there tries is w =
    subst (λ k. WentAlong starts log (n + 1) (slice_set threads k after)) (sym its)
    (WentAlong-next starts log n threads (get_or log n d) p after (slice_get-get_or log n d within) (subst (λ k. slice_get threads k ≡ Some p) its there) tries is w)

-- all events
all_taken : (log : List Event) (n : ℕ) → length log ≤ n → take n log ≡ log
all_taken [] zero h = refl
all_taken [] (suc n) h = refl
all_taken (e ∷ log) zero h = absurd (omega (arith, h))
all_taken (e ∷ log) (suc n) h = ap (λ xs. e ∷ xs) (all_taken log n (omega (arith, h)))

pub WentAlong-all : (starts : List Progress) (log : List Event) (n : ℕ) (threads : List Progress) → length log ≤ n → WentAlong starts log n threads → AllFollow starts log
WentAlong-all starts log n threads beyond w = subst (AllFollow starts) (all_taken log n beyond) w.follow
