-- Labels counted, one event more.
use Rattle.std.proofs.Common.{◌≡◌, ℕ, ◌+◌, ◌<◌, ◌≤◌, Bool, true, false, not, cond, List, [], ◌∷◌, ◌++◌, length, take, get_or, Option, Some, None, refl, sym, ap, ◌∙◌, subst, arith, append-nil, ⊎_elim}
use Rattle.std.specs.Prelude.{◌||◌, ◌==◌, if◌then◌else◌, filter, filter_map, count_by, slice_get, IsTrue, IsFalse}
use Rattle.std.specs.List.{cons_option}
use Rattle.std.proofs.lemmas.Bool.{cases_Bool, cases_eq, or_parts, both_ways, eq-eqb, ne_eqb, false≢true}
use Rattle.std.proofs.lemmas.List.Elements.{filter-append, filter_map-append}
use Rattle.std.proofs.lemmas.List.Sums.{sum_by-append, sum_by-cons}
use Rattle.std.proofs.lemmas.Option.{slice_get-get_or}
use Rattle.velo_events.specs.declared.event.Event.{Event}
use Rattle.velo_events.specs.declared.event.Kind.{Kind}
use Rattle.velo_events.specs.declared.event.Kind.TheVariants.{Begin}
use Rattle.velo_events.specs.declared.event.Label.{Label}
use Rattle.velo_events.proofs.OnScans.{take-next}
use Rattle.velo_traces.proofs.Past.{past}
use Rattle.velo_filter.specs.Left.{Omitted, nothing, label_begun, is_listed, with_number}
use Rattle.velo_filter.proofs.OnTables.{is_listed-nil, is_listed-append, is_listed-one}
use Rattle.velo_audit.specs.Rounds.{each_once}
use Rattle.velo_audit.specs.Count.{labels_begun, IsCountedTo}
use Rattle.velo_audit.proofs.OnRounds.{is_listed-cases}

-- ---- one number more

pub each_once-new : (xs : List ℕ) (x : ℕ) → IsFalse (is_listed xs x) → each_once (xs ++ x ∷ []) ≡ each_once xs ++ x ∷ []
unfolding each_once is_listed
each_once-new [] x h = refl
each_once-new (y ∷ ys) x h =
    let parts = or_parts (x == y) (is_listed ys x) h in
    ap (λ zs. y ∷ zs) (ap (filter (λ z. not (z == y))) (each_once-new ys x parts.1)
    ∙ (filter-append (λ z. not (z == y)) (each_once ys) (x ∷ [])
    ∙ ap (λ b. filter (λ z. not (z == y)) (each_once ys) ++ cond b (x ∷ []) []) (ap not parts.0)))

pub each_once-again : (xs : List ℕ) (x : ℕ) → IsTrue (is_listed xs x) → each_once (xs ++ x ∷ []) ≡ each_once xs
unfolding each_once
each_once-again [] x h = absurd (false≢true (sym (is_listed-nil x) ∙ h))
each_once-again (y ∷ ys) x h = ap (λ zs. y ∷ zs) (⊎_elim
    (λ later. ap (filter (λ z. not (z == y))) (each_once-again ys x later))
    (λ new. ap (filter (λ z. not (z == y))) (each_once-new ys x new)
    ∙ (filter-append (λ z. not (z == y)) (each_once ys) (x ∷ [])
    ∙ (ap (λ b. filter (λ z. not (z == y)) (each_once ys) ++ cond b (x ∷ []) []) (ap not (eq-eqb x y (sym (first new)))) ∙ append-nil (filter (λ z. not (z == y)) (each_once ys)))))
    (cases_Bool (is_listed ys x)))
  where
    first : IsFalse (is_listed ys x) → y ≡ x
    first new = ⊎_elim (λ e. e) (λ later. absurd (both_ways _ new later)) (is_listed-cases y ys x h)

count-push : (p : ℕ → Bool) (xs : List ℕ) (x : ℕ) → count_by p (xs ++ x ∷ []) ≡ count_by p xs + cond {A = ℕ} (p x) 1 0
count-push p xs x =
    let both = sum_by-append (λ k. cond {A = ℕ} (p k) 1 0) xs (x ∷ []) in
    let one = sum_by-cons (λ k. cond {A = ℕ} (p k) 1 0) x [] in
    omega (arith, both, one)

-- ---- no event yet

pub IsCountedTo-start : (left : Omitted) (log : List Event) → IsCountedTo left log 0 nothing.labels 0
unfolding is_listed each_once
IsCountedTo-start left log = record { few = omega arith; are_seen = λ l. refl; is_count = refl }

-- ---- one event more

module _ (left : Omitted) (log : List Event) (k : ℕ) (within : k < length log) (seen : ℕ → Bool) (count : ℕ) (w : IsCountedTo left log k seen count) where
  abbrev event : Event
  event = get_or log k past

  abbrev before : List ℕ
  before = labels_begun (take k log)

  more : (o : Option ℕ) → label_begun event.kind ≡ o → labels_begun (take (k + 1) log) ≡ before ++ cons_option o []
  more o is =
      ap labels_begun (take-next log k event (slice_get-get_or log k past within))
      ∙ (filter_map-append (λ (e : Event). label_begun e.kind) (take k log) (event ∷ []) ∙ ap (λ o. before ++ cons_option o []) is)

  pub IsCountedTo-none : label_begun event.kind ≡ None → IsCountedTo left log (k + 1) seen count
  IsCountedTo-none is =
      let same : before ≡ labels_begun (take (k + 1) log) = sym (more None is ∙ append-nil before) in
      record {
        few = let few = w.few in omega (arith, few);
        are_seen = λ l. w.are_seen l ∙ ap (λ xs. is_listed xs l) same;
        is_count = w.is_count ∙ ap (λ xs. count_by (λ l. not (left.labels l)) (each_once xs)) same;
      }

  module _ (l : Label) (is : event.kind ≡ Begin l) where
    next : labels_begun (take (k + 1) log) ≡ before ++ l.0 ∷ []
    next = more (Some l.0) (ap label_begun is)

    pub IsCountedTo-again : IsTrue (seen l.0) → IsCountedTo left log (k + 1) seen count
    unfolding is_listed
    IsCountedTo-again there = record {
      few = let few = w.few in omega (arith, few);
      are_seen = λ m. w.are_seen m ∙ (again m ∙ ap (λ xs. is_listed xs m) (sym next));
      is_count = w.is_count ∙ ap (count_by (λ m. not (left.labels m))) (sym (ap each_once next ∙ each_once-again before l.0 (sym (w.are_seen l.0) ∙ there)));
    }
      where
        all : (b : Bool) → (b || (true || false)) ≡ true
        all true = refl
        all false = refl

        none : (b : Bool) → (b || (false || false)) ≡ b
        none true = refl
        none false = refl

        again : (m : ℕ) → is_listed before m ≡ is_listed (before ++ l.0 ∷ []) m
        again m = sym (is_listed-append before (l.0 ∷ []) m ∙ ⊎_elim
            (λ same. ap (λ b. is_listed before m || (b || false)) (eq-eqb m l.0 same) ∙ (all (is_listed before m) ∙ sym (ap (is_listed before) same ∙ (sym (w.are_seen l.0) ∙ there))))
            (λ differ. ap (λ b. is_listed before m || (b || false)) (ne_eqb m l.0 differ) ∙ none (is_listed before m))
            (cases_eq m l.0))

    pub IsCountedTo-new : IsFalse (seen l.0) → (seen' : ℕ → Bool) → seen' ≡ with_number seen l.0 → (count' : ℕ) → count' ≡ count + (if left.labels l.0 then 0 else 1) → IsCountedTo left log (k + 1) seen' count'
    IsCountedTo-new new seen' sees count' counts = record {
      few = let few = w.few in let one = at_most (left.labels l.0) in omega (arith, few, counts, one);
      are_seen = λ m. ap (λ (s : ℕ → Bool). s m) sees ∙ (ap (λ b. b || (m == l.0)) (w.are_seen m)
          ∙ (ap (λ b. is_listed before m || b) (sym (is_listed-one l.0 m)) ∙ (sym (is_listed-append before (l.0 ∷ []) m) ∙ ap (λ xs. is_listed xs m) (sym next))));
      is_count = counts ∙ (added ∙ ap (count_by (λ m. not (left.labels m))) (sym (ap each_once next ∙ each_once-new before l.0 (sym (w.are_seen l.0) ∙ new))));
    }
      where
        at_most : (b : Bool) → (if b then 0 else 1) ≤ 1
        at_most true = omega arith
        at_most false = omega arith

        turned : (b : Bool) → cond {A = ℕ} (not b) 1 0 ≡ (if b then 0 else 1)
        turned true = refl
        turned false = refl

        added : count + (if left.labels l.0 then 0 else 1) ≡ count_by (λ m. not (left.labels m)) (each_once before ++ l.0 ∷ [])
        added = let push = count-push (λ m. not (left.labels m)) (each_once before) l.0 in let same = turned (left.labels l.0) in let was = w.is_count in omega (arith, push, same, was)

-- an operation that is no begin has no label
pub no_label : (k : Kind) → ((l : Label) → k ≡ Begin l → ⊥) → label_begun k ≡ None
no_label (Begin l) other = absurd (other l refl)
no_label _ other = refl
