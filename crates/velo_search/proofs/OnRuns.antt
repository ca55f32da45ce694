-- Runs, one event after another, and when none that goes on from a log has a cycle.
use Rattle.std.proofs.Common.{◌≡◌, ◌≢◌, ℕ, suc, ◌+◌, ◌<◌, ◌≤◌, cond, List, [], ◌∷◌, ◌++◌, length, take, map, Some, refl, sym, ap, ◌∙◌, subst, arith, ⊎_elim, append_assoc, append-nil}
use Rattle.std.specs.Prelude.{filter, slice_get}
use Rattle.std.proofs.lemmas.Bool.{cases_eq, eq-eqb, ne_eqb}
use Rattle.std.proofs.lemmas.Option.{slice_get_within, get_or_from_slice_get}
use Rattle.std.proofs.lemmas.List.{length-map, take_more, map-append, take-append-le}
use Rattle.std.proofs.lemmas.List.Elements.{filter-append}
use Rattle.std.proofs.lemmas.List.Sums.{length-filter}
use Rattle.std.proofs.Math.Seq.{take-length}
use Rattle.velo_events.specs.declared.config.Bounds.{Bounds}
use Rattle.velo_events.specs.declared.event.Event.{Event}
use Rattle.velo_events.specs.declared.event.Kind.{Kind}
use Rattle.velo_events.specs.Event.{thread_of, is_by}
use Rattle.velo_events.specs.Heap.{times}
use Rattle.velo_events.specs.Tally.{events_of}
use Rattle.velo_events.proofs.OnTraces.{slice_get-push, slice_get-take, times-yes, times-no, times-nil}
use Rattle.velo_events.proofs.OnScans.{take-take_le, times-append}
use Rattle.velo_events.proofs.OnWellFormed.{IsWellFormed-nil, IsWellFormed-push, IsWellFormed-before, IsWellFormed-last}
use Rattle.velo_search.specs.Runs.{script_of, kinds_by, IsRunOf, IsNext, Never, NeverWithin}

-- ---- the operations of a thread

pub kinds_by-append : (t : ℕ) (xs ys : List Event) → kinds_by t (xs ++ ys) ≡ kinds_by t xs ++ kinds_by t ys
kinds_by-append t xs ys = ap (map (λ e. e.kind)) (filter-append (is_by t) xs ys) ∙ map-append (λ e. e.kind) (filter (is_by t) xs) (filter (is_by t) ys)

pub kinds_by-own : (t : ℕ) (e : Event) → thread_of e ≡ t → kinds_by t (e ∷ []) ≡ e.kind ∷ []
kinds_by-own t e own = ap (λ b. map {A = Event} {B = Kind} (λ f. f.kind) (cond b (e ∷ []) [])) (eq-eqb (thread_of e) t own)

pub kinds_by-other : (t : ℕ) (e : Event) → thread_of e ≢ t → kinds_by t (e ∷ []) ≡ []
kinds_by-other t e other = ap (λ b. map {A = Event} {B = Kind} (λ f. f.kind) (cond b (e ∷ []) [])) (ne_eqb (thread_of e) t other)

length-kinds_by : (t : ℕ) (log : List Event) → length (kinds_by t log) ≡ events_of log t
unfolding times
length-kinds_by t log = length-map (filter (is_by t) log) (λ e. e.kind) ∙ length-filter (is_by t) log

module _ (bounds : Bounds) (scripts : List (List Kind)) where
  -- 52. the first events of a run are one
  pub IsRunOf-before : (log more : List Event) → IsRunOf bounds scripts (log ++ more) → IsRunOf bounds scripts log
  IsRunOf-before log more run = record { well_formed = IsWellFormed-before bounds log more run.well_formed; own = own }
    where
      own : (t : ℕ) → kinds_by t log ≡ take (events_of log t) (script_of scripts t)
      own t =
          let n = events_of log t in
          let both = sym (kinds_by-append t log more) ∙ run.own t in
          let fewer : n ≤ events_of (log ++ more) t = omega (arith, times-append (is_by t) log more) in
          sym (take-length (kinds_by t log))
          ∙ (ap (λ k. take k (kinds_by t log)) (length-kinds_by t log)
          ∙ (sym (take-append-le n (kinds_by t log) (kinds_by t more) (omega (arith, length-kinds_by t log)))
          ∙ (ap (take n) both ∙ take-take_le n (events_of (log ++ more) t) (script_of scripts t) fewer)))

  -- 53. no event is a run
  pub IsRunOf-nil : IsRunOf bounds scripts []
  IsRunOf-nil = record { well_formed = IsWellFormed-nil bounds; own = λ t. ap (λ n. take n (script_of scripts t)) (sym (times-nil (is_by t))) }

  -- 54. the last event of a run was the next
  pub IsNext-last : (log : List Event) (e : Event) → IsRunOf bounds scripts (log ++ e ∷ []) → IsNext bounds scripts log e
  IsNext-last log e run = record { follows = IsWellFormed-last bounds log e run.well_formed; due = due }
    where
      due : slice_get (script_of scripts (thread_of e)) (events_of log (thread_of e)) ≡ Some e.kind
      due =
          let t = thread_of e in
          let n = events_of log t in
          let count : events_of (log ++ e ∷ []) t ≡ n + 1 = times-yes (is_by t) log e (eq-eqb t t refl) in
          let all : kinds_by t log ++ e.kind ∷ [] ≡ take (n + 1) (script_of scripts t) =
          ap (λ xs. kinds_by t log ++ xs) (sym (kinds_by-own t e refl)) ∙ (sym (kinds_by-append t log (e ∷ [])) ∙ (run.own t ∙ ap (λ k. take k (script_of scripts t)) count)) in
          sym (slice_get-take (script_of scripts t) (n + 1) n (omega arith))
          ∙ (ap (λ xs. slice_get xs n) (sym all)
          ∙ (ap (slice_get (kinds_by t log ++ e.kind ∷ [])) (sym (length-kinds_by t log)) ∙ slice_get-push (kinds_by t log) e.kind))

  -- 55. with the next event a run is one
  pub IsRunOf-next : (log : List Event) (e : Event) → IsRunOf bounds scripts log → IsNext bounds scripts log e → IsRunOf bounds scripts (log ++ e ∷ [])
  IsRunOf-next log e run next = record { well_formed = IsWellFormed-push bounds log e run.well_formed next.follows; own = λ t. ⊎_elim (own t) (others t) (cases_eq (thread_of e) t) }
    where
      own : (t : ℕ) → thread_of e ≡ t → kinds_by t (log ++ e ∷ []) ≡ take (events_of (log ++ e ∷ []) t) (script_of scripts t)
      own t is =
          let n = events_of log t in
          let script = script_of scripts t in
          let due : slice_get script n ≡ Some e.kind = subst (λ u. slice_get (script_of scripts u) (events_of log u) ≡ Some e.kind) is next.due in
          let more : take (n + 1) script ≡ take n script ++ e.kind ∷ [] =
          take_more script n e.kind (slice_get_within script n e.kind due) ∙ ap (λ k. take n script ++ k ∷ []) (get_or_from_slice_get script n e.kind e.kind due) in
          kinds_by-append t log (e ∷ [])
          ∙ (ap (λ xs. kinds_by t log ++ xs) (kinds_by-own t e is)
          ∙ (ap (λ xs. xs ++ e.kind ∷ []) (run.own t)
          ∙ (sym more ∙ ap (λ k. take k script) (sym (times-yes (is_by t) log e (eq-eqb (thread_of e) t is))))))

      others : (t : ℕ) → thread_of e ≢ t → kinds_by t (log ++ e ∷ []) ≡ take (events_of (log ++ e ∷ []) t) (script_of scripts t)
      others t other =
          kinds_by-append t log (e ∷ [])
          ∙ (ap (λ xs. kinds_by t log ++ xs) (kinds_by-other t e other)
          ∙ (append-nil (kinds_by t log)
          ∙ (run.own t ∙ ap (λ k. take k (script_of scripts t)) (sym (times-no (is_by t) log e (ne_eqb (thread_of e) t other))))))

  -- ---- the rule of all

  -- 56. where each next event leads to a log from which no run is bad, none is from the log, if it is not bad itself
  pub rule_of_all : (Bad : List Event → Type 0) (n : ℕ) (log : List Event) → ¬ Bad log →
      ((e : Event) → IsNext bounds scripts log e → NeverWithin n Bad bounds scripts (log ++ e ∷ [])) → NeverWithin (n + 1) Bad bounds scripts log
  rule_of_all Bad n log none each [] few run = λ bad. none (subst Bad (append-nil log) bad)
  rule_of_all Bad n log none each (e ∷ rest) few run =
      let split : (log ++ e ∷ []) ++ rest ≡ log ++ (e ∷ rest) = append_assoc log (e ∷ []) rest in
      let longer = subst (IsRunOf bounds scripts) (sym split) run in
      let fewer : length rest < n = omega (arith, few) in
      λ bad. each e (IsNext-last log e (IsRunOf-before (log ++ e ∷ []) rest longer)) rest fewer longer (subst Bad (sym split) bad)

  -- no run at all is, where none is by however many events
  pub never-any : (Bad : List Event → Type 0) (log : List Event) → ((n : ℕ) → NeverWithin n Bad bounds scripts log) → Never Bad bounds scripts log
  never-any Bad log each more = each (suc (length more)) more (omega arith)
