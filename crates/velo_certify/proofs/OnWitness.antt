-- Marks of what a position reaches by conflicts in order.
use Rattle.std.proofs.Common.{◌≡◌, ◌≢◌, ℕ, ◌+◌, ◌<◌, ◌≤◌, cond, List, [], ◌∷◌, ◌++◌, length, Some, refl, sym, ap, ◌∙◌, subst, arith, ⊎_elim, inl, inr}
use Rattle.std.specs.Prelude.{slice_get, slice_index, IsTrue}
use Rattle.std.proofs.lemmas.Bool.{cases_eq, cases_lt, lt-ltb, le-ltb}
use Rattle.std.proofs.lemmas.List.{length_push, get_or_append_left, get_or_push, get_or_past}
use Rattle.velo_events.specs.declared.event.Event.{Event}
use Rattle.velo_events.specs.Conflict.{conflict}
use Rattle.velo_events.specs.Graph.{Path, Reaches, conflict_at, ConflictsInOrder, HappensBefore}
use Rattle.velo_events.proofs.OnGraphs.{Reaches-trans}
use Rattle.velo_events.proofs.OnHappening.{HappensBefore-lt}
use Rattle.velo_traces.specs.Numbers.{IsGreatest, IsNumbered}
use Rattle.velo_certify.specs.Table.{IsGreatestBefore, numbers_before}
use Rattle.velo_certify.specs.Witness.{AreMarks, IsWitness, thread_at}
use Rattle.velo_certify.proofs.OnGreatest.{IsGreatestBefore-by}

-- numbers that are the same have the same greatest one
IsGreatest-same : (trace : List Event) (before after : ℕ → ℕ) (e : Event) (m : ℕ) → ((i : ℕ) → before i ≡ after i) → IsGreatest trace before (λ f. conflict f e) m → IsGreatest trace after (λ f. conflict f e) m
IsGreatest-same trace before after e m same w = record {
  covers = λ i h. let most = w.covers i h in let is = same i in omega (arith, most, is);
  reached = λ some. let k = w.reached some in (k.0, k.1, sym (same k.0) ∙ k.2);
}

-- marks past the end are 0
marks-before : (marks : List ℕ) (i : ℕ) → slice_index marks i ≡ numbers_before (slice_index marks) (length marks) i
marks-before marks i = ⊎_elim
    (λ l. sym (ap (λ b. cond {A = ℕ} b (slice_index marks i) 0) (lt-ltb i (length marks) l)))
    (λ g. get_or_past marks i 0 g ∙ sym (ap (λ b. cond {A = ℕ} b (slice_index marks i) 0) (le-ltb i (length marks) g)))
    (cases_lt i (length marks))

pub marks-greatest : (trace : List Event) (e : Event) (marks : List ℕ) (m : ℕ) → slice_get trace (length marks) ≡ Some e → IsGreatest trace (slice_index marks) (λ f. conflict f e) m → IsGreatestBefore trace (slice_index marks) (length marks) m
marks-greatest trace e marks m here w = IsGreatestBefore-by trace (length marks) e here (slice_index marks) m (IsGreatest-same trace (slice_index marks) (numbers_before (slice_index marks) (length marks)) e m (marks-before marks) w)

pub marks-numbered : (marks : List ℕ) (number : ℕ) → IsNumbered (slice_index marks) (slice_index (marks ++ number ∷ [])) (length marks) number
marks-numbered marks number = record {
  before = get_or_past marks (length marks) 0 (omega arith);
  after = get_or_push marks number 0 (length marks) refl;
  others = λ i other. ⊎_elim
      (λ l. get_or_append_left marks (number ∷ []) 0 i l)
      (λ g. get_or_past (marks ++ number ∷ []) i 0 (let long = length_push marks number in ⊎_elim (λ s. omega (arith, s, long)) (λ s. absurd (other (omega (arith, s, g)))) (cases_lt (length marks) i)) ∙ sym (get_or_past marks i 0 g))
      (cases_lt i (length marks));
}

-- one mark more, of the position behind the others
module _ (trace : List Event) (b : ℕ) (marks : List ℕ) (m number : ℕ) (g : IsGreatestBefore trace (slice_index marks) (length marks) m) (at_begin : length marks ≡ b → number ≡ 1) (elsewhere : length marks ≢ b → number ≡ m) (w : AreMarks trace b marks) where
  old : (i : ℕ) → i < length marks → slice_index (marks ++ number ∷ []) i ≡ slice_index marks i
  old i l = get_or_append_left marks (number ∷ []) 0 i l

  last : (i : ℕ) → i ≡ length marks → slice_index (marks ++ number ∷ []) i ≡ number
  last i same = get_or_push marks number 0 i (sym same)

  last-reached : 0 < number → Reaches (ConflictsInOrder trace) b (length marks)
  last-reached some = ⊎_elim
      (λ same. inl (sym same))
      (λ other.
      let is = elsewhere other in
      let k = g.reached (omega (arith, is, some)) in
      Reaches-trans (ConflictsInOrder trace) b k.0 (length marks) (w.sound k.0 (let mark = k.3 in omega (arith, mark, is, some))) (inr ([], (k.1, k.2))))
      (cases_eq (length marks) b)

  last-complete : (i : ℕ) → i < length marks → IsTrue (conflict_at trace i (length marks)) → 0 < slice_index marks i → 0 < number
  last-complete i l c some = ⊎_elim
      (λ same. let one = at_begin same in omega (arith, one))
      (λ other. let is = elsewhere other in let most = g.covers i l c in omega (arith, is, most, some))
      (cases_eq (length marks) b)

  pub AreMarks-next : AreMarks trace b (marks ++ number ∷ [])
  AreMarks-next = record {
    sound = λ i some. ⊎_elim
        (λ l. let is = old i l in w.sound i (omega (arith, is, some)))
        (λ later. ⊎_elim
        (λ same. let is = last i same in subst (Reaches (ConflictsInOrder trace) b) (sym same) (last-reached (omega (arith, is, some))))
        (λ other. absurd (let long = length_push marks number in let none = get_or_past (marks ++ number ∷ []) i 0 (let beyond : length marks + 1 ≤ i = past_it i later other in omega (arith, long, beyond)) in omega (arith, none, some)))
        (cases_eq i (length marks)))
        (cases_lt i (length marks));
    begun = λ l. ⊎_elim
        (λ inner. let is = old b inner in let some = w.begun inner in omega (arith, is, some))
        (λ later. let long = length_push marks number in let same : b ≡ length marks = omega (arith, l, later, long) in let is = last b same in let one = at_begin (sym same) in omega (arith, is, one))
        (cases_lt b (length marks));
    complete = λ i j before l c some.
        let long = length_push marks number in
        let inner : i < length marks = omega (arith, before, l, long) in
        let was = old i inner in
        ⊎_elim
        (λ within. let is = old j within in let mark = w.complete i j before within c (omega (arith, was, some)) in omega (arith, is, mark))
        (λ later. let same : j ≡ length marks = omega (arith, l, later, long) in
        let is = last j same in
        let mark = last-complete i inner (subst (λ k. IsTrue (conflict_at trace i k)) same c) (omega (arith, was, some)) in
        omega (arith, is, mark))
        (cases_lt j (length marks));
  }
    where
      past_it : (i : ℕ) → length marks ≤ i → i ≢ length marks → length marks + 1 ≤ i
      past_it i later other = ⊎_elim (λ s. omega (arith, s)) (λ s. absurd (other (omega (arith, s, later)))) (cases_lt (length marks) i)

pub AreMarks-start : (trace : List Event) (b : ℕ) → AreMarks trace b []
AreMarks-start trace b = record {
  sound = λ i some. absurd (let none : slice_index [] i ≡ 0 = get_or_past {X = ℕ} [] i 0 (omega arith) in omega (arith, none, some));
  begun = λ l. absurd (omega (arith, l));
  complete = λ i j before l. absurd (omega (arith, l));
}

-- ---- witnesses

-- what happens after the begin is marked
marked-path : (trace : List Event) (b : ℕ) (marks : List ℕ) → AreMarks trace b marks → (a : ℕ) (between : List ℕ) (w : ℕ) → Path (ConflictsInOrder trace) a between w → 0 < slice_index marks a → w < length marks → 0 < slice_index marks w
marked-path trace b marks m a [] w p some l = m.complete a w p.0 l p.1 some
marked-path trace b marks m a (k ∷ ks) w p some l =
    let upto = HappensBefore-lt trace k w (ks, p.1) in
    marked-path trace b marks m k ks w p.1 (m.complete a k p.0.0 (omega (arith, upto, l)) p.0.1 some) l

pub marked-after : (trace : List Event) (b : ℕ) (marks : List ℕ) (w : ℕ) → AreMarks trace b marks → HappensBefore trace b w → w < length marks → 0 < slice_index marks w
marked-after trace b marks w m h l = let before = HappensBefore-lt trace b w h in marked-path trace b marks m b h.0 w h.1 (m.begun (omega (arith, before, l))) l

pub after-marked : (trace : List Event) (b : ℕ) (marks : List ℕ) (w : ℕ) → AreMarks trace b marks → 0 < slice_index marks w → w ≢ b → HappensBefore trace b w
after-marked trace b marks w m some other = ⊎_elim (λ same. absurd (other (sym same))) (λ h. h) (m.sound w some)

module _ (trace : List Event) (b p w : ℕ) (e f : Event) (there : slice_get trace w ≡ Some e) (here : slice_get trace p ≡ Some f) where
  conflict_at-events : conflict_at trace w p ≡ conflict e f
  unfolding conflict_at
  conflict_at-events = rw (there, here) refl

  thread_at-first : thread_at trace w ≡ e.thread.0
  thread_at-first = rw there refl

  thread_at-last : thread_at trace p ≡ f.thread.0
  thread_at-last = rw here refl

  pub IsWitness-by : (marks : List ℕ) → AreMarks trace b marks → w < p → 0 < slice_index marks w → w ≢ b → e.thread.0 ≢ f.thread.0 → IsTrue (conflict e f) → IsWitness trace b p w
  IsWitness-by marks m before some other differ c = record {
    after_begin = after-marked trace b marks w m some other;
    before_end = (before, conflict_at-events ∙ c);
    other_thread = λ same. differ (sym thread_at-first ∙ same ∙ thread_at-last);
  }

  pub IsWitness-threads : IsWitness trace b p w → e.thread.0 ≢ f.thread.0
  IsWitness-threads v same = v.other_thread (thread_at-first ∙ same ∙ sym thread_at-last)

  pub IsWitness-conflict : IsWitness trace b p w → IsTrue (conflict e f)
  IsWitness-conflict v = sym conflict_at-events ∙ v.before_end.1

pub IsWitness-marked : (trace : List Event) (b p w : ℕ) (marks : List ℕ) → AreMarks trace b marks → length marks ≡ p → IsWitness trace b p w → (0 < slice_index marks w) × (w ≢ b)
IsWitness-marked trace b p w marks m count v =
    let before = v.before_end.0 in
    (marked-after trace b marks w m v.after_begin (omega (arith, count, before)), λ same. let later = HappensBefore-lt trace b w v.after_begin in omega (arith, same, later))
