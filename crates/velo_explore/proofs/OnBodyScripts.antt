-- A thread's actions are those of its body's script, whatever values it reads.
use Rattle.std.proofs.Common.{◌≡◌, ℕ, suc, Bool, true, false, cond, not, List, [], ◌∷◌, ◌++◌, length, map, take, Option, Some, None, refl, sym, ap, ◌∙◌, subst, ⊎_elim}
use Rattle.std.specs.Prelude.{if◌then◌else◌, filter, slice_get}
use Rattle.std.proofs.lemmas.Bool.{cases_Bool}
use Rattle.std.proofs.lemmas.Option.{slice_get_past, same_Some, none-some}
use Rattle.velo_events.specs.declared.event.Action.{Action}
use Rattle.velo_events.specs.declared.event.Event.{Event}
use Rattle.velo_events.specs.declared.event.Kind.{Kind}
use Rattle.velo_events.specs.declared.event.Kind.TheVariants.{Exit}
use Rattle.velo_events.specs.Meaning.{action_of}
use Rattle.velo_workload.specs.declared.statement.Statement.{Statement}
use Rattle.velo_workload.specs.declared.statement.Statement.TheVariants.{Read, Write, Set, Add, Acquire, Release, Share, Unshare, Begin, End, Fork, Join, Repeat, Done}
use Rattle.velo_workload.specs.Program.{Program}
use Rattle.velo_events.specs.Event.{value_read}
use Rattle.velo_worker.specs.declared.progress.Progress.{Progress}
use Rattle.velo_worker.specs.Counts.{has_event}
use Rattle.velo_worker.specs.Progress.{is_quiet, register_after, settled_on, settled, start_of, action_for, wanted, after_event}
use Rattle.velo_movers.specs.Scripts.{plain, HaveScripts}
use Rattle.velo_movers.specs.Wants.{Does}
use Rattle.velo_explore.specs.Logs.{progress_after, tried, tried_by, wants_of}
use Rattle.velo_explore.specs.Bodies.{operation, operations_of, operations_by, scripts}

-- what is left of the script
remaining : Progress → List Kind
remaining p = if p.done then [] else operations_of p.left

-- what an action asks for does not depend on the register
plain-register : (register : ℕ) (s : Statement) → plain (action_for register (Some s)) ≡ operation s
plain-register register (Write x) = refl
plain-register register (Read x) = refl
plain-register register (Acquire m) = refl
plain-register register (Release m) = refl
plain-register register (Share m) = refl
plain-register register (Unshare m) = refl
plain-register register (Begin l) = refl
plain-register register End = refl
plain-register register (Fork u) = refl
plain-register register (Join u) = refl
plain-register register (Set n) = refl
plain-register register (Add n) = refl
plain-register register (Repeat n) = refl
plain-register register Done = refl

-- what is to be shown of a statement that is quiet, or is not
abbrev FirstLeft : ℕ → Statement → List Statement → Option ℕ → Bool → Type 0
FirstLeft register s xs v b =
    (map operation (cond (not b) (s ∷ filter has_event xs) (filter has_event xs)) ++ Exit ∷ [])
    ≡ plain (wanted (if b then settled_on (register_after register s) xs false else record { register = register; left = s ∷ xs; done = false }))
    ∷ remaining (after_event (if b then settled_on (register_after register s) xs false else record { register = register; left = s ∷ xs; done = false }) v)

-- one event: the first of what is left, and then the others
first_left : (register : ℕ) (xs : List Statement) (v : Option ℕ) → operations_of xs ≡ plain (wanted (settled_on register xs false)) ∷ remaining (after_event (settled_on register xs false) v)
unfolding settled_on remaining
first_left register [] v = refl
first_left register (s ∷ xs) v = ⊎_elim
    (λ h. subst (FirstLeft register s xs v) (sym h) (first_left (register_after register s) xs v))
    (λ h. subst (FirstLeft register s xs v) (sym h) (ap (λ k. k ∷ operations_of xs) (sym (plain-register register s))))
    (cases_Bool (is_quiet s))

-- a try is the first of what is left
tried-first : (p : Progress) (action : Action) (v : Option ℕ) → tried p ≡ Some action → remaining p ≡ plain action ∷ remaining (after_event (settled p) v)
unfolding remaining
tried-first p action v h = at p.done refl
  where
    at : (b : Bool) → p.done ≡ b → remaining p ≡ plain action ∷ remaining (after_event (settled p) v)
    at true is = absurd (none-some action (sym (ap (λ b. if b then None else Some (wanted (settled p))) is) ∙ h))
    at false is =
        let action_is : wanted (settled p) ≡ action = same_Some (wanted (settled p)) action (sym (ap (λ b. if b then None else Some (wanted (settled p))) is) ∙ h) in
        let settled_is : settled_on p.register p.left false ≡ settled p = ap (settled_on p.register p.left) (sym is) in
        ap (λ b. if b then [] else operations_of p.left) is
        ∙ (first_left p.register p.left v ∙ ap (λ q. plain (wanted q) ∷ remaining (after_event q v)) settled_is ∙ ap (λ a. plain a ∷ remaining (after_event (settled p) v)) action_is)

-- after so many events the next try is there in what was left before them
tried-at : (p : Progress) (events : List Event) (action : Action) → ((i : ℕ) (e : Event) → slice_get events i ≡ Some e → tried (progress_after p (take i events)) ≡ Some (action_of e.kind)) → tried (progress_after p events) ≡ Some action → slice_get (remaining p) (length events) ≡ Some (plain action)
unfolding progress_after
tried-at p [] action each h = ap (λ ks. slice_get ks 0) (tried-first p action None h)
tried-at p (e ∷ events) action each h =
    ap (λ ks. slice_get ks (suc (length events))) (tried-first p (action_of e.kind) (value_read e.kind) (each 0 e refl))
    ∙ tried-at (after_event (settled p) (value_read e.kind)) events action (λ i f at. each (suc i) f at) h

-- after so many events nothing is left, if nothing is tried
done-at : (p : Progress) (events : List Event) → ((i : ℕ) (e : Event) → slice_get events i ≡ Some e → tried (progress_after p (take i events)) ≡ Some (action_of e.kind)) → tried (progress_after p events) ≡ None → slice_get (remaining p) (length events) ≡ None
unfolding progress_after remaining
done-at p [] each h = at p.done refl
  where
    at : (b : Bool) → p.done ≡ b → slice_get (remaining p) 0 ≡ None
    at true is = ap (λ b. slice_get (if b then [] else operations_of p.left) 0) is
    at false is = absurd (none-some (wanted (settled p)) (sym h ∙ ap (λ b. if b then None else Some (wanted (settled p))) is))
done-at p (e ∷ events) each h =
    ap (λ ks. slice_get ks (suc (length events))) (tried-first p (action_of e.kind) (value_read e.kind) (each 0 e refl))
    ∙ done-at (after_event (settled p) (value_read e.kind)) events (λ i f at. each (suc i) f at) h

-- The scripts of the bodies are those of the threads
pub HaveScripts-bodies : (program : Program) → HaveScripts (wants_of program) (length program.bodies) (scripts program)
unfolding remaining
HaveScripts-bodies program = record {
  next = λ t events action d h. at t events action d h (slice_get program.bodies t) refl;
  others = λ t beyond. ap operations_by (slice_get_past program.bodies t beyond);
}
  where
    at : (t : ℕ) (events : List Event) (action : Action) → Does (wants_of program) t events → wants_of program t events ≡ Some action → (o : Option (List Statement)) → slice_get program.bodies t ≡ o → slice_get (scripts program t) (length events) ≡ Some (plain action)
    at t events action d h None is = absurd (none-some action (sym (ap (λ o. tried_by o events) is) ∙ h))
    at t events action d h (Some body) is =
        ap (λ o. slice_get (operations_by o) (length events)) is
        ∙ tried-at (start_of body) events action
        (λ i e here. sym (ap (λ o. tried_by o (take i events)) is) ∙ d.each i e here)
        (sym (ap (λ o. tried_by o events) is) ∙ h)

-- and a thread that wants nothing more has come to the end of its script
pub scripts-done : (program : Program) (t : ℕ) (events : List Event) → Does (wants_of program) t events → wants_of program t events ≡ None → slice_get (scripts program t) (length events) ≡ None
unfolding remaining
scripts-done program t events d h = at (slice_get program.bodies t) refl
  where
    at : (o : Option (List Statement)) → slice_get program.bodies t ≡ o → slice_get (scripts program t) (length events) ≡ None
    at None is = ap (λ o. slice_get (operations_by o) (length events)) is
    at (Some body) is =
        ap (λ o. slice_get (operations_by o) (length events)) is
        ∙ done-at (start_of body) events
        (λ i e here. sym (ap (λ o. tried_by o (take i events)) is) ∙ d.each i e here)
        (sym (ap (λ o. tried_by o events) is) ∙ h)
