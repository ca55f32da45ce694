-- What is left of a log by the parts of the operations: event by event, and where an event is brought forward.
use Rattle.std.proofs.Common.{◌≡◌, ◌≢◌, ℕ, zero, suc, ◌+◌, Bool, true, false, List, [], ◌∷◌, ◌++◌, Some, refl, sym, ap, ◌∙◌, subst, arith, append_assoc, append-nil}
use Rattle.std.specs.Prelude.{if◌then◌else◌, slice_get, IsTrue, IsFalse}
use Rattle.std.proofs.lemmas.Bool.{or_parts, eqb-false, ne_eqb}
use Rattle.std.proofs.lemmas.Option.{same_Some, slice_get_within}
use Rattle.velo_events.specs.declared.config.Bounds.{Bounds}
use Rattle.velo_events.specs.declared.event.Event.{Event}
use Rattle.velo_events.specs.declared.event.Kind.{Kind}
use Rattle.velo_events.specs.Conflict.{conflict}
use Rattle.velo_events.specs.Event.{thread_of, is_by}
use Rattle.velo_events.specs.Graph.{HasCycle}
use Rattle.velo_events.specs.Tally.{events_of}
use Rattle.velo_events.specs.WellFormed.{IsWellFormed}
use Rattle.velo_events.proofs.OnGraphs.{HasCycle-append}
use Rattle.velo_events.proofs.OnScans.{times-append}
use Rattle.velo_events.proofs.OnTraces.{times-no, times-nil}
use Rattle.velo_movers.specs.Free.{GoesAlong}
use Rattle.velo_movers.specs.Moves.{DoesNotConflict}
use Rattle.velo_movers.proofs.OnMoves.{HasCycle-forward}
use Rattle.velo_search.specs.Parts.{Part, does_stay, kept_by, rest_behind, rest_by, AreParts}
use Rattle.velo_search.proofs.OnRunsOfScripts.{DoesScript, IsLog-run}

-- ---- one event after another

rest_behind-append : (parts : ℕ → ℕ → Part) (earlier xs ys : List Event) → rest_behind parts earlier (xs ++ ys) ≡ rest_behind parts earlier xs ++ rest_behind parts (earlier ++ xs) ys
unfolding rest_behind
rest_behind-append parts earlier [] ys = ap (λ es. rest_behind parts es ys) (sym (append-nil earlier))
rest_behind-append parts earlier (x ∷ xs) ys =
    ap (λ es. kept_by parts earlier x ++ es)
    (rest_behind-append parts (earlier ++ x ∷ []) xs ys
    ∙ ap (λ es. rest_behind parts (earlier ++ x ∷ []) xs ++ rest_behind parts es ys) (append_assoc earlier (x ∷ []) xs))
    ∙ sym (append_assoc (kept_by parts earlier x) (rest_behind parts (earlier ++ x ∷ []) xs) (rest_behind parts (earlier ++ (x ∷ xs)) ys))

-- nothing is left of no event
pub rest_by-nil : (parts : ℕ → ℕ → Part) → rest_by parts [] ≡ []
unfolding rest_behind
rest_by-nil parts = refl

pub rest_by-push : (parts : ℕ → ℕ → Part) (log : List Event) (e : Event) → rest_by parts (log ++ e ∷ []) ≡ rest_by parts log ++ kept_by parts log e
unfolding rest_behind
rest_by-push parts log e = rest_behind-append parts [] log (e ∷ []) ∙ ap (λ es. rest_by parts log ++ es) (append-nil (kept_by parts log e))

-- an event that stays
pub rest_by-stays : (parts : ℕ → ℕ → Part) (log : List Event) (e : Event) → IsTrue (does_stay (parts (thread_of e) (events_of log (thread_of e)))) → rest_by parts (log ++ e ∷ []) ≡ rest_by parts log ++ e ∷ []
rest_by-stays parts log e h = rest_by-push parts log e ∙ ap (λ b. rest_by parts log ++ (if b then e ∷ [] else [])) h

-- and one that is left out
pub rest_by-goes : (parts : ℕ → ℕ → Part) (log : List Event) (e : Event) → IsFalse (does_stay (parts (thread_of e) (events_of log (thread_of e)))) → rest_by parts (log ++ e ∷ []) ≡ rest_by parts log
rest_by-goes parts log e h =
    rest_by-push parts log e
    ∙ (ap (λ b. rest_by parts log ++ (if b then e ∷ [] else [])) h ∙ append-nil (rest_by parts log))

-- ---- behind other events

-- as many of each thread
rest_behind-same : (parts : ℕ → ℕ → Part) (one other es : List Event) → ((t : ℕ) → events_of one t ≡ events_of other t) → rest_behind parts one es ≡ rest_behind parts other es
unfolding rest_behind
rest_behind-same parts one other [] same = refl
rest_behind-same parts one other (e ∷ es) same =
    ap (λ n. (if does_stay (parts (thread_of e) n) then e ∷ [] else []) ++ rest_behind parts (one ++ e ∷ []) es) (same (thread_of e))
    ∙ ap (λ xs. kept_by parts other e ++ xs) (rest_behind-same parts (one ++ e ∷ []) (other ++ e ∷ []) es
    (λ t. omega (arith, times-append (is_by t) one (e ∷ []), times-append (is_by t) other (e ∷ []), same t)))

-- as many of each thread but one, which has none of these events
rest_behind-other : (parts : ℕ → ℕ → Part) (t : ℕ) (one other es : List Event) → ((i : ℕ) (f : Event) → slice_get es i ≡ Some f → thread_of f ≢ t) → ((u : ℕ) → u ≢ t → events_of one u ≡ events_of other u) → rest_behind parts one es ≡ rest_behind parts other es
unfolding rest_behind
rest_behind-other parts t one other [] others same = refl
rest_behind-other parts t one other (e ∷ es) others same =
    ap (λ n. (if does_stay (parts (thread_of e) n) then e ∷ [] else []) ++ rest_behind parts (one ++ e ∷ []) es) (same (thread_of e) (others 0 e refl))
    ∙ ap (λ xs. kept_by parts other e ++ xs) (rest_behind-other parts t (one ++ e ∷ []) (other ++ e ∷ []) es (λ i f h. others (suc i) f h)
    (λ u differ. omega (arith, times-append (is_by u) one (e ∷ []), times-append (is_by u) other (e ∷ []), same u differ)))

-- ---- a stretch without a conflict

own-none : (f e : Event) → IsFalse (conflict f e) → IsFalse (is_by (thread_of e) f)
own-none f e h = (or_parts _ _ (or_parts _ _ (or_parts _ _ h).0).0).0

apart-others : (stretch : List Event) (e : Event) → DoesNotConflict stretch e → (i : ℕ) (f : Event) → slice_get stretch i ≡ Some f → thread_of f ≢ thread_of e
apart-others stretch e apart i f h = eqb-false (thread_of f) (thread_of e) (own-none f e (apart.each i f h))

-- none of its events is of the event's thread
apart-none : (stretch : List Event) (e : Event) → DoesNotConflict stretch e → events_of stretch (thread_of e) ≡ 0
apart-none [] e apart = times-nil (is_by (thread_of e))
apart-none (g ∷ stretch) e apart =
    let t = thread_of e in
    let all : events_of (g ∷ stretch) t ≡ events_of (g ∷ []) t + events_of stretch t = times-append (is_by t) (g ∷ []) stretch in
    let first : events_of (g ∷ []) t ≡ events_of [] t = times-no (is_by t) [] g (own-none g e (apart.each 0 g refl)) in
    let later = apart-none stretch e (record { each = λ i f h. apart.each (suc i) f h }) in
    omega (arith, all, first, times-nil (is_by t), later)

apart-nil : (e : Event) → DoesNotConflict [] e
apart-nil e = record { each = λ i f h. absurd (let l = slice_get_within {A = Event} [] i f h in omega (arith, l)) }

apart-cons : (g : Event) (stretch : List Event) (e : Event) → IsFalse (conflict g e) → DoesNotConflict stretch e → DoesNotConflict (g ∷ stretch) e
apart-cons g stretch e first rest = record { each = at }
  where
    at : (i : ℕ) (f : Event) → slice_get (g ∷ stretch) i ≡ Some f → IsFalse (conflict f e)
    at zero f h = subst (λ x. IsFalse (conflict x e)) (same_Some g f h) first
    at (suc i) f h = rest.each i f h

-- what is left of it is one, too
rest_behind-apart : (parts : ℕ → ℕ → Part) (earlier stretch : List Event) (e : Event) → DoesNotConflict stretch e → DoesNotConflict (rest_behind parts earlier stretch) e
unfolding rest_behind
rest_behind-apart parts earlier [] e apart = apart-nil e
rest_behind-apart parts earlier (g ∷ stretch) e apart =
    at (does_stay (parts (thread_of g) (events_of earlier (thread_of g))))
    (rest_behind-apart parts (earlier ++ g ∷ []) stretch e (record { each = λ i f h. apart.each (suc i) f h }))
  where
    at : (b : Bool) → DoesNotConflict (rest_behind parts (earlier ++ g ∷ []) stretch) e → DoesNotConflict ((if b then g ∷ [] else []) ++ rest_behind parts (earlier ++ g ∷ []) stretch) e
    at true later = apart-cons g _ e (apart.each 0 g refl) later
    at false later = later

-- ---- an event that is brought forward past it

module _ (parts : ℕ → ℕ → Part) (log stretch : List Event) (e : Event) (more : List Event) (apart : DoesNotConflict stretch e) where
  abbrev left_of_stretch : List Event
  left_of_stretch = rest_behind parts log stretch

  abbrev left_of_more : List Event
  left_of_more = rest_behind parts ((log ++ stretch) ++ e ∷ []) more

  rest-before : rest_by parts (log ++ (stretch ++ e ∷ more)) ≡ rest_by parts log ++ (left_of_stretch ++ (kept_by parts log e ++ left_of_more))
  unfolding rest_behind
  rest-before =
      rest_behind-append parts [] log (stretch ++ e ∷ more)
      ∙ ap (λ es. rest_by parts log ++ es) (rest_behind-append parts log stretch (e ∷ more)
      ∙ ap (λ n. rest_behind parts log stretch ++ ((if does_stay (parts (thread_of e) n) then e ∷ [] else []) ++ rest_behind parts ((log ++ stretch) ++ e ∷ []) more))
      (let own : events_of (log ++ stretch) (thread_of e) ≡ events_of log (thread_of e) = omega (arith, times-append (is_by (thread_of e)) log stretch, apart-none stretch e apart) in own))

  rest-after : rest_by parts (log ++ e ∷ (stretch ++ more)) ≡ rest_by parts log ++ (kept_by parts log e ++ (left_of_stretch ++ left_of_more))
  unfolding rest_behind
  rest-after =
      rest_behind-append parts [] log (e ∷ (stretch ++ more))
      ∙ ap (λ es. rest_by parts log ++ (kept_by parts log e ++ es)) (rest_behind-append parts (log ++ e ∷ []) stretch more
      ∙ (ap (λ es. es ++ rest_behind parts ((log ++ e ∷ []) ++ stretch) more) (rest_behind-other parts (thread_of e) (log ++ e ∷ []) log stretch (apart-others stretch e apart)
      (λ u differ. times-no (is_by u) log e (ne_eqb (thread_of e) u (λ same. differ (sym same)))))
      ∙ ap (λ es. rest_behind parts log stretch ++ es) (rest_behind-same parts ((log ++ e ∷ []) ++ stretch) ((log ++ stretch) ++ e ∷ []) more
      (λ t. omega (arith, times-append (is_by t) (log ++ e ∷ []) stretch, times-append (is_by t) log (e ∷ []), times-append (is_by t) (log ++ stretch) (e ∷ []), times-append (is_by t) log stretch)))))

  -- what is left has a cycle after the move where it had one before
  pub cycle-forward : (bounds : Bounds) → IsWellFormed bounds (rest_by parts (log ++ (stretch ++ e ∷ more))) → HasCycle (rest_by parts (log ++ (stretch ++ e ∷ more))) → HasCycle (rest_by parts (log ++ e ∷ (stretch ++ more)))
  cycle-forward bounds well c =
      subst HasCycle (sym rest-after)
      (at (does_stay (parts (thread_of e) (events_of log (thread_of e)))) (subst (IsWellFormed bounds) rest-before well) (subst HasCycle rest-before c))
    where
      at : (b : Bool) → IsWellFormed bounds (rest_by parts log ++ (left_of_stretch ++ ((if b then e ∷ [] else []) ++ left_of_more))) →
          HasCycle (rest_by parts log ++ (left_of_stretch ++ ((if b then e ∷ [] else []) ++ left_of_more))) → HasCycle (rest_by parts log ++ ((if b then e ∷ [] else []) ++ (left_of_stretch ++ left_of_more)))
      at true whole there = (HasCycle-forward (rest_by parts log) left_of_stretch e left_of_more (rest_behind-apart parts log stretch e apart) bounds whole).0 there
      at false whole there = there

-- ---- cycles of what is left

pub cycle-goes_along : (bounds : Bounds) (scripts : List (List Kind)) (parts : ℕ → ℕ → Part) → AreParts bounds scripts parts → GoesAlong bounds (DoesScript scripts) (λ log. HasCycle (rest_by parts log))
cycle-goes_along bounds scripts parts are = record {
  forward = λ log stretch e more apart all c. cycle-forward parts log stretch e more apart bounds (are.well_formed (log ++ (stretch ++ e ∷ more)) ((IsLog-run scripts bounds (log ++ (stretch ++ e ∷ more))).1 all)) c;
  follow = λ log e free next c. subst HasCycle (sym (rest_by-push parts log e)) (HasCycle-append (rest_by parts log) (kept_by parts log e) c);
}
