-- The two rules by which nothing bad comes after a trace: it does not come after any next event, or after one that is free.
use Rattle.std.proofs.Common.{◌≡◌, ◌≢◌, ℕ, zero, suc, Bool, true, false, cond, List, [], ◌∷◌, ◌++◌, Some, refl, sym, ap, ◌∙◌, subst, arith, ⊎_elim, inl, inr}
use Rattle.std.specs.Prelude.{◌⊎◌, ◌==◌, slice_get, IsTrue, IsFalse}
use Rattle.std.proofs.lemmas.List.{append-nil, append_assoc}
use Rattle.std.proofs.lemmas.List.Elements.{filter-append}
use Rattle.std.proofs.lemmas.Bool.{cases_Bool, cases_eq, or_parts, eqb-true, eq-eqb, ne_eqb}
use Rattle.std.proofs.lemmas.Option.{slice_get_within, same_Some}
use Rattle.velo_events.specs.declared.config.Bounds.{Bounds}
use Rattle.velo_events.specs.declared.event.Event.{Event}
use Rattle.velo_events.specs.declared.event.Kind.{Kind}
use Rattle.velo_events.specs.declared.event.Kind.TheVariants.{Read, Write, Acquire, Release, AcquireShared, ReleaseShared, Begin, End, Fork, Join, Exit}
use Rattle.velo_events.specs.Event.{thread_of, is_by}
use Rattle.velo_events.specs.Conflict.{conflict}
use Rattle.velo_events.specs.Meaning.{kind_for, action_of}
use Rattle.velo_events.specs.WellFormed.{IsInTurn, MayFollow}
use Rattle.velo_events.proofs.OnWellFormed.{IsWellFormed-before, IsWellFormed-last, IsWellFormed-push}
use Rattle.velo_movers.specs.Moves.{DoesNotConflict}
use Rattle.velo_movers.specs.Programs.{own, IsProgram, IsLog, IsNever}
use Rattle.velo_movers.specs.Free.{IsFree, GoesAlong}
use Rattle.velo_movers.proofs.OnHolders.{own-push_yes, own-push_no}
use Rattle.velo_movers.proofs.OnFree.{free-no_conflict, free-due, free-stays}
use Rattle.velo_movers.proofs.OnMoves.{IsWellFormed-forward}

-- ---- stretches without a conflict

DoesNotConflict-nil : (e : Event) → DoesNotConflict [] e
DoesNotConflict-nil e = record { each = λ i f h. absurd (let l = slice_get_within {A = Event} [] i f h in omega (arith, l)) }

DoesNotConflict-cons : (g : Event) (stretch : List Event) (e : Event) → IsFalse (conflict g e) → DoesNotConflict stretch e → DoesNotConflict (g ∷ stretch) e
DoesNotConflict-cons g stretch e first rest = record { each = at }
  where
    at : (i : ℕ) (f : Event) → slice_get (g ∷ stretch) i ≡ Some f → IsFalse (conflict f e)
    at zero f h = subst (λ x. IsFalse (conflict x e)) (same_Some g f h) first
    at (suc i) f h = rest.each i f h

-- none of them is of the event's thread
own_stretch : (stretch : List Event) (e : Event) (t : ℕ) → IsTrue (is_by t e) → DoesNotConflict stretch e → own t stretch ≡ []
own_stretch [] e t its apart = refl
own_stretch (g ∷ stretch) e t its apart =
    ap (λ b. cond b (g ∷ own t stretch) (own t stretch)) (subst (λ u. IsFalse (thread_of g == u)) (eqb-true (thread_of e) t its) (or_parts _ _ (or_parts _ _ (or_parts _ _ (apart.each 0 g refl)).0).0).0)
    ∙ own_stretch stretch e t its (record { each = λ i f h. apart.each (suc i) f h })

module _ (log stretch : List Event) (e : Event) (rest : List Event) (apart : DoesNotConflict stretch e) where
  own_behind : (t : ℕ) → own t (e ∷ (stretch ++ rest)) ≡ own t (stretch ++ e ∷ rest)
  own_behind t =
      ap (λ es. cond (is_by t e) (e ∷ es) es) (filter-append (is_by t) stretch rest)
      ∙ (by_cases (is_by t e) refl ∙ sym (filter-append (is_by t) stretch (e ∷ rest)))
    where
      by_cases : (b : Bool) → is_by t e ≡ b → cond (is_by t e) (e ∷ (own t stretch ++ own t rest)) (own t stretch ++ own t rest) ≡ own t stretch ++ cond (is_by t e) (e ∷ own t rest) (own t rest)
      by_cases true is =
          ap (λ b. cond b (e ∷ (own t stretch ++ own t rest)) (own t stretch ++ own t rest)) is
          ∙ (ap (λ es. e ∷ (es ++ own t rest)) (own_stretch stretch e t is apart)
          ∙ (ap (λ es. es ++ e ∷ own t rest) (sym (own_stretch stretch e t is apart)) ∙ ap (λ b. own t stretch ++ cond b (e ∷ own t rest) (own t rest)) (sym is)))
      by_cases false is =
          ap (λ b. cond b (e ∷ (own t stretch ++ own t rest)) (own t stretch ++ own t rest)) is ∙ ap (λ b. own t stretch ++ cond b (e ∷ own t rest) (own t rest)) (sym is)

  -- each thread's events are the same after the move
  pub own-forward : (t : ℕ) → own t (log ++ (stretch ++ e ∷ rest)) ≡ own t (log ++ e ∷ (stretch ++ rest))
  own-forward t =
      filter-append (is_by t) log (stretch ++ e ∷ rest) ∙ (ap (λ es. own t log ++ es) (sym (own_behind t)) ∙ sym (filter-append (is_by t) log (e ∷ (stretch ++ rest))))

  pub IsLog-forward : (bounds : Bounds) (May : ℕ → List Event → Type 0) → IsLog bounds May (log ++ (stretch ++ e ∷ rest)) → IsLog bounds May (log ++ e ∷ (stretch ++ rest))
  IsLog-forward bounds May all = record {
    well = IsWellFormed-forward log stretch e rest apart bounds all.well;
    each = λ t. subst (May t) (own-forward t) (all.each t);
  }

-- ---- one event of a thread

event_of : ℕ → Kind → Event
event_of t k = record { thread = record { 0 = t }; kind = k }

-- what an operation asks for gives the operation
pub kind-by_action : (log : List Event) (t : ℕ) (k : Kind) → IsInTurn log t k → k ≡ kind_for log (action_of k)
kind-by_action log t (Read x v) turn = ap (Read x) turn
kind-by_action log t (Write x v) turn = refl
kind-by_action log t (Acquire m) turn = refl
kind-by_action log t (Release m) turn = refl
kind-by_action log t (AcquireShared m) turn = refl
kind-by_action log t (ReleaseShared m) turn = refl
kind-by_action log t (Begin l) turn = refl
kind-by_action log t End turn = refl
kind-by_action log t (Fork u) turn = refl
kind-by_action log t (Join u) turn = refl
kind-by_action log t Exit turn = refl

-- one action of one thread is one event
one_event : (bounds : Bounds) (log : List Event) (e g : Event) → MayFollow bounds log e → MayFollow bounds log g → thread_of g ≡ thread_of e → action_of g.kind ≡ action_of e.kind → g ≡ e
unfolding event_of
one_event bounds log e g due follows same_thread same_action =
    let kinds : g.kind ≡ e.kind = kind-by_action log (thread_of g) g.kind follows.in_turn ∙ (ap (kind_for log) same_action ∙ sym (kind-by_action log (thread_of e) e.kind due.in_turn)) in
    ap (λ t. event_of t g.kind) same_thread ∙ ap (event_of (thread_of e)) kinds

module _ (bounds : Bounds) (May : ℕ → List Event → Type 0) (program : IsProgram May) where
  -- the first events of a log of the program are one
  pub IsLog-before : (log more : List Event) → IsLog bounds May (log ++ more) → IsLog bounds May log
  IsLog-before log more all = record {
    well = IsWellFormed-before bounds log more all.well;
    each = λ t. program.earlier t (own t log) (own t more) (subst (May t) (filter-append (is_by t) log more) (all.each t));
  }

  -- ---- where a free event stands

  -- it stands behind events that it does not conflict with
  abbrev Stands : List Event → Event → Type 0
  Stands more e = (stretch : List Event) × (rest : List Event) × (more ≡ stretch ++ e ∷ rest) × DoesNotConflict stretch e

  -- or may follow them all
  abbrev Follows : List Event → List Event → Event → Type 0
  Follows log more e = DoesNotConflict more e × IsLog bounds May (log ++ (more ++ e ∷ [])) × IsFree bounds May (log ++ more) e

  pub cases_free : (e : Event) (more log : List Event) → IsLog bounds May (log ++ e ∷ []) → IsFree bounds May log e → IsLog bounds May (log ++ more) → Stands more e ⊎ Follows log more e
  cases_free e [] log next free all = inr (DoesNotConflict-nil e, next, subst (λ es. IsFree bounds May es e) (sym (append-nil log)) free)
  cases_free e (g ∷ more) log next free all = ⊎_elim here (λ other. further other (cases_free e more (log ++ g ∷ []) (next_after other) (free-stays bounds May log e g before due follows may other free) longer)) (cases_eq (thread_of g) (thread_of e))
    where
      longer : IsLog bounds May ((log ++ g ∷ []) ++ more)
      longer = subst (IsLog bounds May) (sym (append_assoc log (g ∷ []) more)) all

      upto : IsLog bounds May (log ++ g ∷ [])
      upto = IsLog-before (log ++ g ∷ []) more longer

      before : IsLog bounds May log
      before = IsLog-before log (g ∷ []) upto

      due : MayFollow bounds log e
      due = IsWellFormed-last bounds log e next.well

      follows : MayFollow bounds log g
      follows = IsWellFormed-last bounds log g upto.well

      may : May (thread_of g) (own (thread_of g) log ++ g ∷ [])
      may = subst (May (thread_of g)) (own-push_yes (thread_of g) log g (eq-eqb (thread_of g) (thread_of g) refl)) (upto.each (thread_of g))

      -- the thread's next event is this one
      here : thread_of g ≡ thread_of e → Stands (g ∷ more) e ⊎ Follows log (g ∷ more) e
      here same =
          let may_e : May (thread_of e) (own (thread_of e) log ++ e ∷ []) = subst (May (thread_of e)) (own-push_yes (thread_of e) log e (eq-eqb (thread_of e) (thread_of e) refl)) (next.each (thread_of e)) in
          let may_g : May (thread_of e) (own (thread_of e) log ++ g ∷ []) = subst (λ t. May t (own t log ++ g ∷ [])) same may in
          let is = one_event bounds log e g due follows same (program.next (thread_of e) (own (thread_of e) log) g e may_g may_e) in
          inl ([], more, ap (λ f. f ∷ more) is, DoesNotConflict-nil e)

      next_after : thread_of g ≢ thread_of e → IsLog bounds May ((log ++ g ∷ []) ++ e ∷ [])
      next_after other = record {
        well = IsWellFormed-push bounds (log ++ g ∷ []) e upto.well (free-due bounds May log e g before due follows may other free);
        each = λ t. ⊎_elim
            (λ its.
            let not_g : IsFalse (is_by t g) = ne_eqb (thread_of g) t (λ same. other (same ∙ sym (eqb-true (thread_of e) t its))) in
            subst (May t) (own-push_yes t log e its ∙ (ap (λ es. es ++ e ∷ []) (sym (own-push_no t log g not_g)) ∙ sym (own-push_yes t (log ++ g ∷ []) e its))) (next.each t))
            (λ not_its. subst (May t) (sym (own-push_no t (log ++ g ∷ []) e not_its)) (upto.each t))
            (cases_Bool (is_by t e));
      }

      further : thread_of g ≢ thread_of e → Stands more e ⊎ Follows (log ++ g ∷ []) more e → Stands (g ∷ more) e ⊎ Follows log (g ∷ more) e
      further other =
          let first = free-no_conflict bounds May log e g before due follows may other free in
          λ w. ⊎_elim
          (λ s. inl (g ∷ s.0, s.1, ap (λ es. g ∷ es) s.2, DoesNotConflict-cons g s.0 e first s.3))
          (λ s. inr (DoesNotConflict-cons g more e first s.0, subst (IsLog bounds May) (append_assoc log (g ∷ []) (more ++ e ∷ [])) s.1, subst (λ es. IsFree bounds May es e) (append_assoc log (g ∷ []) more) s.2))
          w

  -- ---- the rules

  -- The rule of all: nothing bad comes where none is there and none comes after any next event
  pub rule_of_all : (Bad : List Event → Type 0) (log : List Event) → ¬ Bad log → ((e : Event) → IsLog bounds May (log ++ e ∷ []) → IsNever bounds May Bad (log ++ e ∷ [])) → IsNever bounds May Bad log
  rule_of_all Bad log none after [] all bad = none (subst Bad (append-nil log) bad)
  rule_of_all Bad log none after (g ∷ more) all bad =
      let longer = sym (append_assoc log (g ∷ []) more) in
      let whole = subst (IsLog bounds May) longer all in
      after g (IsLog-before (log ++ g ∷ []) more whole) more whole (subst Bad longer bad)

  -- The rule of one: nor where none comes after an event that is free
  pub rule_of_one : (Bad : List Event → Type 0) → GoesAlong bounds May Bad → (log : List Event) (e : Event) → IsLog bounds May (log ++ e ∷ []) → IsFree bounds May log e → IsNever bounds May Bad (log ++ e ∷ []) → IsNever bounds May Bad log
  rule_of_one Bad along log e next free never more all bad = ⊎_elim
      (λ s. moved s.0 s.1 s.3 (subst (λ es. IsLog bounds May (log ++ es)) s.2 all) (subst (λ es. Bad (log ++ es)) s.2 bad))
      (λ s. moved more [] s.0 s.1 (subst Bad (append_assoc log more (e ∷ [])) (along.follow (log ++ more) e s.2 (subst (IsLog bounds May) (sym (append_assoc log more (e ∷ []))) s.1) bad)))
      (cases_free e more log next free all)
    where
      moved : (stretch rest : List Event) → DoesNotConflict stretch e → IsLog bounds May (log ++ (stretch ++ e ∷ rest)) → Bad (log ++ (stretch ++ e ∷ rest)) → ⊥
      moved stretch rest apart whole there =
          let longer = sym (append_assoc log (e ∷ []) (stretch ++ rest)) in
          never (stretch ++ rest)
          (subst (IsLog bounds May) longer (IsLog-forward log stretch e rest apart bounds May whole))
          (subst Bad longer (along.forward log stretch e rest apart whole there))
