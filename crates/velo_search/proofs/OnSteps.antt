-- The marks after an event are the summary after it.
use Rattle.std.proofs.Common.{◌≡◌, ℕ, ◌<◌, ◌≤◌, Bool, true, false, not, ◌&&◌, ◌||◌, List, [], ◌∷◌, ◌++◌, length, refl, sym, ap, ◌∙◌, subst, arith, ⊎_elim}
use Rattle.std.specs.Prelude.{IsTrue, IsFalse, ◌==◌, slice_index_or, if◌then◌else◌, Some}
use Rattle.std.proofs.lemmas.Bool.{cases_Bool, eqb-true, eq-eqb, lt-ltb, ltb-true, or_cases, and_parts, false≢true, false_from_ne_true}
use Rattle.std.proofs.lemmas.Nat.Bits.{bit_at-zero}
use Rattle.velo_events.specs.declared.config.Bounds.{Bounds}
use Rattle.velo_events.specs.declared.event.Event.{Event}
use Rattle.velo_events.specs.declared.event.Kind.{Kind}
use Rattle.velo_events.specs.declared.event.Kind.TheVariants.{Read, Write, Acquire, Release, AcquireShared, ReleaseShared, Begin, End, Fork, Join, Exit}
use Rattle.velo_events.specs.declared.event.Access.{Access}
use Rattle.velo_events.specs.declared.event.Access.TheVariants.{Shared, Exclusive}
use Rattle.velo_events.specs.Event.{are_same, thread_of, access_of, cell_of, forked_of, is_exclusive, is_shared, is_by, is_fork_of}
use Rattle.velo_events.specs.WellFormed.{IsWellFormed, MayFollow, NamesKnown}
use Rattle.velo_events.specs.Graph.{HasCycle}
use Rattle.velo_search.specs.declared.group.Group.{Group}
use Rattle.velo_search.specs.declared.group.Group.TheVariants.{OfThread, WritesOf, ReadsOf}
use Rattle.velo_events.specs.declared.thread_set.ThreadSet.{ThreadSet}
use Rattle.velo_search.specs.declared.mark.Mark.{Mark}
use Rattle.velo_search.specs.Groups.{is_in}
use Rattle.velo_search.specs.Summary.{Summary, IsSummaryOf, alarm, is_inside, closes_cycle, is_behind, reached_after, beyond_after}
use Rattle.velo_events.specs.ThreadSets.{has_thread}
use Rattle.velo_search.specs.Marks.{blank_mark, group_count, is_cell, is_known, number_of, mark_of, summary_by, AccessKnown, IsMarkAfter}
use Rattle.velo_search.proofs.OnNumbers.{variable-cell, lock-cell, cell_number-within}
use Rattle.velo_search.proofs.OnSummaries.{IsSummaryOf-step}

-- ---- a group that is not there has no events

pub access-known : (bounds : Bounds) (k : Kind) → NamesKnown bounds k → AccessKnown bounds (access_of k)
access-known bounds (Read x v) h = variable-cell bounds x.0 h
access-known bounds (Write x v) h = variable-cell bounds x.0 h
access-known bounds (Acquire m) h = lock-cell bounds m.0 h
access-known bounds (Release m) h = lock-cell bounds m.0 h
access-known bounds (AcquireShared m) h = lock-cell bounds m.0 h
access-known bounds (ReleaseShared m) h = lock-cell bounds m.0 h
access-known bounds (Begin l) h = tt
access-known bounds End h = tt
access-known bounds (Fork u) h = h
access-known bounds (Join u) h = h
access-known bounds Exit h = tt

cell-known : (bounds : Bounds) (a : Access) (c : ℕ) → AccessKnown bounds a → IsTrue (are_same (cell_of a) (Some c)) → IsTrue (is_cell bounds c)
cell-known bounds (Shared d) c known h = subst (λ n. IsTrue (is_cell bounds n)) (eqb-true d.0 c h) known
cell-known bounds (Exclusive d) c known h = subst (λ n. IsTrue (is_cell bounds n)) (eqb-true d.0 c h) known
cell-known bounds _ c known h = absurd (false≢true h)

fork-known : (bounds : Bounds) (a : Access) (t : ℕ) → AccessKnown bounds a → IsTrue (are_same (forked_of a) (Some t)) → t < bounds.threads
fork-known bounds (Access.Fork u) t known h = subst (λ n. n < bounds.threads) (eqb-true u.0 t h) known
fork-known bounds _ t known h = absurd (false≢true h)

member-known : (bounds : Bounds) (e : Event) (g : Group) → thread_of e < bounds.threads → AccessKnown bounds (access_of e.kind) → IsTrue (is_in e g) → IsTrue (is_known bounds g)
member-known bounds e (OfThread t) thread known h = ⊎_elim
    (λ own. lt-ltb _ _ (subst (λ n. n < bounds.threads) (eqb-true (thread_of e) t.0 own) thread))
    (λ forks. lt-ltb _ _ (fork-known bounds (access_of e.kind) t.0 known forks))
    (or_cases (is_by t.0 e) (is_fork_of t.0 e) h)
member-known bounds e (WritesOf c) thread known h = cell-known bounds (access_of e.kind) c.0 known (and_parts (is_exclusive (access_of e.kind)) _ h).1
member-known bounds e (ReadsOf c) thread known h = cell-known bounds (access_of e.kind) c.0 known (and_parts (is_shared (access_of e.kind)) _ h).1

-- ---- tests

nobody : (u : ℕ) → has_thread blank_mark.reached u ≡ false
nobody u = ap (λ b. b == 1) (bit_at-zero u)

reached-value : (in' own here there behind : Bool) → (((in' && own) || here) || ((in' || there) && (own || behind))) ≡ (here || ((in' || there) && (own || behind)))
reached-value true true true there behind = refl
reached-value true true false there behind = refl
reached-value true false here there behind = refl
reached-value false own here there behind = refl

nothing_left : (a b : Bool) → false ≡ (a && (false || (false && b)))
nothing_left true b = refl
nothing_left false b = refl

-- ---- all marks after an event

module _ (bounds : Bounds) (alarmed : Bool) (old mid now : List Mark) (e : Event) (behind : ThreadSet) (inside : Bool) (thread : thread_of e < bounds.threads) (named : AccessKnown bounds (access_of e.kind)) (room : length mid ≡ group_count bounds)
    (entered : (g : Group) (u : ℕ) → has_thread (mark_of bounds mid g).reached u ≡ ((is_in e g && thread_of e == u) || has_thread (mark_of bounds old g).reached u))
    (kept : (g : Group) → (mark_of bounds mid g).beyond ≡ (mark_of bounds old g).beyond)
    (each : (k : ℕ) → k < length mid → IsMarkAfter (thread_of e) behind inside (slice_index_or mid k blank_mark) (slice_index_or now k blank_mark))
    (who : (u : ℕ) → has_thread behind u ≡ is_behind (summary_by bounds alarmed old) e u) where
  abbrev t : ℕ
  t = thread_of e

  abbrev s : Summary
  s = summary_by bounds alarmed old

  number-within : (g : Group) → IsTrue (is_known bounds g) → number_of bounds g < length mid
  number-within (OfThread t) k = omega (arith, room, ltb-true _ _ k)
  number-within (WritesOf c) k = omega (arith, room, cell_number-within bounds c.0 k)
  number-within (ReadsOf c) k = omega (arith, room, cell_number-within bounds c.0 k)

  known-after : (g : Group) → IsTrue (is_known bounds g) → IsMarkAfter t behind inside (mark_of bounds mid g) (mark_of bounds now g)
  known-after g k = subst (λ b. IsMarkAfter t behind inside (if b then slice_index_or mid (number_of bounds g) blank_mark else blank_mark) (if b then slice_index_or now (number_of bounds g) blank_mark else blank_mark)) (sym k) (each (number_of bounds g) (number-within g k))

  own_entered : (g : Group) → has_thread (mark_of bounds mid g).reached t ≡ (is_in e g || has_thread (mark_of bounds old g).reached t)
  own_entered g = entered g t ∙ ap (λ b. (is_in e g && b) || has_thread (mark_of bounds old g).reached t) (eq-eqb t t refl) ∙ ap (λ b. b || has_thread (mark_of bounds old g).reached t) (all_of (is_in e g))
    where
      all_of : (b : Bool) → (b && true) ≡ b
      all_of true = refl
      all_of false = refl

  no_member : (g : Group) → IsFalse (is_known bounds g) → IsFalse (is_in e g)
  no_member g unknown = false_from_ne_true _ (λ h. false≢true (sym unknown ∙ member-known bounds e g thread named h))

  unknown_mark : (marks : List Mark) (g : Group) → IsFalse (is_known bounds g) → mark_of bounds marks g ≡ blank_mark
  unknown_mark marks g unknown = ap (λ b. if b then slice_index_or marks (number_of bounds g) blank_mark else blank_mark) unknown

  pub marks-reached : (g : Group) (u : ℕ) → has_thread (mark_of bounds now g).reached u ≡ reached_after inside s e g u
  marks-reached g u = ⊎_elim
      (λ known. let value = (known-after g known).reached u in
      value
      ∙ (ap (λ r. (inside || not (t == u)) && (r || (has_thread (mark_of bounds mid g).reached t && (t == u || has_thread behind u)))) (entered g u)
      ∙ (ap (λ r. (inside || not (t == u)) && (((is_in e g && t == u) || has_thread (mark_of bounds old g).reached u) || (r && (t == u || has_thread behind u)))) (own_entered g)
      ∙ (ap (λ r. (inside || not (t == u)) && (((is_in e g && t == u) || has_thread (mark_of bounds old g).reached u) || ((is_in e g || has_thread (mark_of bounds old g).reached t) && (t == u || r)))) (who u)
      ∙ ap (λ r. (inside || not (t == u)) && r) (reached-value (is_in e g) (t == u) (has_thread (mark_of bounds old g).reached u) (has_thread (mark_of bounds old g).reached t) (is_behind s e u))))))
      (λ unknown.
      let none : (v : ℕ) → has_thread (mark_of bounds old g).reached v ≡ false = λ v. ap (λ m. has_thread m.reached v) (unknown_mark old g unknown) ∙ nobody v in
      ap (λ m. has_thread m.reached u) (unknown_mark now g unknown) ∙ (nobody u
      ∙ (nothing_left (inside || not (t == u)) (t == u || is_behind s e u)
      ∙ (ap (λ r. (inside || not (t == u)) && (r || (false && (t == u || is_behind s e u)))) (sym (none u))
      ∙ (ap (λ r. (inside || not (t == u)) && (has_thread (mark_of bounds old g).reached u || ((false || r) && (t == u || is_behind s e u)))) (sym (none t))
      ∙ ap (λ r. (inside || not (t == u)) && (has_thread (mark_of bounds old g).reached u || ((r || has_thread (mark_of bounds old g).reached t) && (t == u || is_behind s e u)))) (sym (no_member g unknown)))))))
      (cases_Bool (is_known bounds g))

  pub marks-beyond : (g : Group) (u : ℕ) → has_thread (mark_of bounds now g).beyond u ≡ beyond_after inside s e g u
  marks-beyond g u = ⊎_elim
      (λ known. let value = (known-after g known).beyond u in
      value
      ∙ (ap (λ r. (inside || not (t == u)) && (has_thread r u || (has_thread (mark_of bounds mid g).reached t && (not (t == u) && has_thread behind u)))) (kept g)
      ∙ (ap (λ r. (inside || not (t == u)) && (has_thread (mark_of bounds old g).beyond u || (r && (not (t == u) && has_thread behind u)))) (own_entered g)
      ∙ ap (λ r. (inside || not (t == u)) && (has_thread (mark_of bounds old g).beyond u || ((is_in e g || has_thread (mark_of bounds old g).reached t) && (not (t == u) && r)))) (who u))))
      (λ unknown.
      let none : (v : ℕ) → has_thread (mark_of bounds old g).reached v ≡ false = λ v. ap (λ m. has_thread m.reached v) (unknown_mark old g unknown) ∙ nobody v in
      let none_beyond : (v : ℕ) → has_thread (mark_of bounds old g).beyond v ≡ false = λ v. ap (λ m. has_thread m.beyond v) (unknown_mark old g unknown) ∙ nobody v in
      ap (λ m. has_thread m.beyond u) (unknown_mark now g unknown) ∙ (nobody u
      ∙ (nothing_left (inside || not (t == u)) (not (t == u) && is_behind s e u)
      ∙ (ap (λ r. (inside || not (t == u)) && (r || (false && (not (t == u) && is_behind s e u)))) (sym (none_beyond u))
      ∙ (ap (λ r. (inside || not (t == u)) && (has_thread (mark_of bounds old g).beyond u || ((false || r) && (not (t == u) && is_behind s e u)))) (sym (none t))
      ∙ ap (λ r. (inside || not (t == u)) && (has_thread (mark_of bounds old g).beyond u || ((r || has_thread (mark_of bounds old g).reached t) && (not (t == u) && is_behind s e u)))) (sym (no_member g unknown)))))))
      (cases_Bool (is_known bounds g))

-- ---- the summary of the longer log

module _ (bounds : Bounds) (log : List Event) (e : Event) (well : IsWellFormed bounds log) (follows : MayFollow bounds log e) (few : bounds.threads ≤ 64) (inside : Bool) (is : inside ≡ is_inside log e) (s after : Summary) (stands : IsSummaryOf log s) where
  abbrev Next : Bool → Bool → Type 0
  Next b i = IsSummaryOf (log ++ e ∷ []) (if b then alarm else record { alarmed = false; reached = reached_after i s e; beyond = beyond_after i s e })

  next : Next (s.alarmed || closes_cycle s e) inside
  next = subst (λ i. Next (s.alarmed || closes_cycle s e) i) (sym is) (IsSummaryOf-step bounds log e well follows few s stands)

  -- a cycle is noted
  pub noted-next : IsTrue (s.alarmed || closes_cycle s e) → IsTrue after.alarmed → IsSummaryOf (log ++ e ∷ []) after
  noted-next closes noted =
      let cycle : HasCycle (log ++ e ∷ []) = (subst (λ b. Next b inside) closes next).alarmed.0 refl in
      record {
        alarmed = ((λ h. cycle), (λ c. noted));
        reached = λ quiet. absurd (false≢true (sym quiet ∙ noted));
        beyond = λ quiet. absurd (false≢true (sym quiet ∙ noted));
      }

  -- or all groups are as they are after the event
  pub quiet-next : IsFalse (s.alarmed || closes_cycle s e) → IsFalse after.alarmed → ((g : Group) (u : ℕ) → after.reached g u ≡ reached_after inside s e g u) → ((g : Group) (u : ℕ) → after.beyond g u ≡ beyond_after inside s e g u) → IsSummaryOf (log ++ e ∷ []) after
  quiet-next none quiet reached beyond =
      let stood : Next false inside = subst (λ b. Next b inside) none next in
      record {
        alarmed = ((λ h. absurd (false≢true (sym quiet ∙ h))), (λ c. absurd (false≢true (stood.alarmed.1 c))));
        reached = λ _ g u. ((λ h. (stood.reached refl g u).0 (sym (reached g u) ∙ h)), (λ w. reached g u ∙ (stood.reached refl g u).1 w));
        beyond = λ _ g u. ((λ h. (stood.beyond refl g u).0 (sym (beyond g u) ∙ h)), (λ w. beyond g u ∙ (stood.beyond refl g u).1 w));
      }
