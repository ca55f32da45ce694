-- The tallies of the threads of a trace, one event after another, and their sum.
use Rattle.std.proofs.Common.{◌≡◌, ◌≢◌, ℕ, zero, suc, ◌+◌, ◌<◌, ◌≤◌, Bool, cond, List, [], ◌∷◌, ◌++◌, length, take, set, Option, Some, None, refl, sym, ap, ◌∙◌, arith, sum_by, add-one, add-zero, ⊎_elim, inl, inr}
use Rattle.std.specs.Option.{option_map_or}
use Rattle.std.specs.Prelude.{slice_get, ◌⊎◌, ◌&&◌, if◌then◌else◌, IsTrue, IsFalse}
use Rattle.std.proofs.lemmas.Bool.{cases_Bool, cases_eq, eq-eqb, ne_eqb}
use Rattle.std.proofs.lemmas.List.{take_all, length-set, length-replicate}
use Rattle.std.proofs.lemmas.List.Sums.{sum_by_push, sum_by-cons, sum_by_more}
use Rattle.std.proofs.lemmas.Option.{slice_get_within, get_or_from_slice_get, same_Some}
use Rattle.velo_events.specs.declared.event.Event.{Event}
use Rattle.velo_events.specs.declared.event.Kind.{Kind}
use Rattle.velo_events.specs.declared.event.Kind.TheVariants.{Read, Write, Acquire, Release, AcquireShared, ReleaseShared, Begin, End, Fork, Join, Exit}
use Rattle.velo_events.specs.Event.{thread_of, is_by, is_read, is_write, value_of}
use Rattle.velo_events.specs.Heap.{times}
use Rattle.velo_events.specs.Tally.{events_of, next_of, last_of, read_total_of, written_total_of}
use Rattle.velo_events.specs.Place.{last_position}
use Rattle.velo_events.proofs.OnLast.{last_position-push, last_position-is, IsLast-within}
use Rattle.velo_events.proofs.OnTraces.{latest-nil, latest-push, times-nil, times-push}
use Rattle.velo_ledger.specs.declared.tally.Tally.{Tally}
use Rattle.velo_ledger.specs.Tally.{blank, with_event, read_by, written_by}
use Rattle.velo_ledger.specs.Views.{Accounts, Holding}
use Rattle.velo_ledger.specs.Book.{FitsBook, with_row, opening_accounts}
use Rattle.velo_ledger.specs.Logs.{tally_of, AreTalliesOf, events_below}
use Rattle.velo_ledger.proofs.Places.{slice_get-set_same, slice_get-set_other, slice_get-replicate}

-- ---- the parts of one event

read_part : (k : Kind) → (if is_read k then value_of k else 0) ≡ read_by k
read_part (Read x v) = refl
read_part (Write x v) = refl
read_part (Acquire m) = refl
read_part (Release m) = refl
read_part (AcquireShared m) = refl
read_part (ReleaseShared m) = refl
read_part (Begin l) = refl
read_part End = refl
read_part (Fork u) = refl
read_part (Join u) = refl
read_part Exit = refl

written_part : (k : Kind) → (if is_write k then value_of k else 0) ≡ written_by k
written_part (Read x v) = refl
written_part (Write x v) = refl
written_part (Acquire m) = refl
written_part (Release m) = refl
written_part (AcquireShared m) = refl
written_part (ReleaseShared m) = refl
written_part (Begin l) = refl
written_part End = refl
written_part (Fork u) = refl
written_part (Join u) = refl
written_part Exit = refl

read_total_of-own : (trace : List Event) (t : ℕ) (e : Event) → IsTrue (is_by t e) → read_total_of (trace ++ e ∷ []) t ≡ read_total_of trace t + read_by e.kind
unfolding read_total_of
read_total_of-own trace t e h =
    let part : Event → ℕ = λ f. if is_by t f && is_read f.kind then value_of f.kind else 0 in
    sum_by_push part trace e ∙ ap (λ n. sum_by part trace + n) (rw h (read_part e.kind))

read_total_of-other : (trace : List Event) (t : ℕ) (e : Event) → IsFalse (is_by t e) → read_total_of (trace ++ e ∷ []) t ≡ read_total_of trace t
unfolding read_total_of
read_total_of-other trace t e h =
    let part : Event → ℕ = λ f. if is_by t f && is_read f.kind then value_of f.kind else 0 in
    sum_by_push part trace e ∙ (ap (λ n. sum_by part trace + n) (rw h refl) ∙ add-zero (sum_by part trace))

written_total_of-own : (trace : List Event) (t : ℕ) (e : Event) → IsTrue (is_by t e) → written_total_of (trace ++ e ∷ []) t ≡ written_total_of trace t + written_by e.kind
unfolding written_total_of
written_total_of-own trace t e h =
    let part : Event → ℕ = λ f. if is_by t f && is_write f.kind then value_of f.kind else 0 in
    sum_by_push part trace e ∙ ap (λ n. sum_by part trace + n) (rw h (written_part e.kind))

written_total_of-other : (trace : List Event) (t : ℕ) (e : Event) → IsFalse (is_by t e) → written_total_of (trace ++ e ∷ []) t ≡ written_total_of trace t
unfolding written_total_of
written_total_of-other trace t e h =
    let part : Event → ℕ = λ f. if is_by t f && is_write f.kind then value_of f.kind else 0 in
    sum_by_push part trace e ∙ (ap (λ n. sum_by part trace + n) (rw h refl) ∙ add-zero (sum_by part trace))

-- ---- one event more

pub tally_of-nil : (t : ℕ) → tally_of [] t ≡ blank
unfolding last_position read_total_of written_total_of
tally_of-nil t = rw (times-nil (is_by t), latest-nil (is_by t)) refl

pub tally_of-own : (trace : List Event) (t : ℕ) (e : Event) → thread_of e ≡ t → tally_of (trace ++ e ∷ []) t ≡ with_event (tally_of trace t) (length trace) e
tally_of-own trace t e is =
    let by : IsTrue (is_by t e) = eq-eqb _ _ is in
    let count : events_of (trace ++ e ∷ []) t ≡ events_of trace t + 1 = times-push (is_by t) trace e ∙ ap (λ b. events_of trace t + cond {A = ℕ} b 1 0) by in
    let last : last_of (trace ++ e ∷ []) t ≡ Some e = latest-push (is_by t) trace e ∙ ap (λ b. cond {A = Option Event} b (Some e) (last_of trace t)) by in
    let next : next_of (trace ++ e ∷ []) t ≡ length trace + 1 = ap (λ o. option_map_or suc o 0) (last_position-push (is_by t) trace e) ∙ rw (by, add-one (length trace)) refl in
    rw (count, last, next, read_total_of-own trace t e by, written_total_of-own trace t e by) refl

pub tally_of-other : (trace : List Event) (t : ℕ) (e : Event) → thread_of e ≢ t → tally_of (trace ++ e ∷ []) t ≡ tally_of trace t
tally_of-other trace t e other =
    let by : IsFalse (is_by t e) = ne_eqb _ _ other in
    let count : events_of (trace ++ e ∷ []) t ≡ events_of trace t = times-push (is_by t) trace e ∙ (ap (λ b. events_of trace t + cond {A = ℕ} b 1 0) by ∙ add-zero (events_of trace t)) in
    let last : last_of (trace ++ e ∷ []) t ≡ last_of trace t = latest-push (is_by t) trace e ∙ ap (λ b. cond {A = Option Event} b (Some e) (last_of trace t)) by in
    let next : next_of (trace ++ e ∷ []) t ≡ next_of trace t = ap (λ o. option_map_or suc o 0) (last_position-push (is_by t) trace e ∙ ap (λ b. cond {A = Option ℕ} b (Some (length trace)) (last_position (is_by t) trace)) by) in
    rw (count, last, next, read_total_of-other trace t e by, written_total_of-other trace t e by) refl

-- a thread's next position is within the trace
pub next_of-le : (trace : List Event) (t : ℕ) → next_of trace t ≤ length trace
next_of-le trace t = go (last_position (is_by t) trace) refl
  where
    go : (o : Option ℕ) → last_position (is_by t) trace ≡ o → option_map_or suc o 0 ≤ length trace
    go None is = omega arith
    go (Some k) is = let within = IsLast-within (is_by t) trace k (last_position-is (is_by t) trace k is) in omega (arith, within)

-- ---- rows

pub opening-rows : (run threads : ℕ) → AreTalliesOf [] (opening_accounts run threads).rows
opening-rows run threads = record {
  each = λ t lt. slice_get-replicate threads t blank (let all = length-replicate threads blank in omega arith) ∙ ap Some (sym (tally_of-nil t));
}

-- what a fitting share says of its thread
pub fitting-tally : (trace : List Event) (book : Accounts) (share : Holding) → FitsBook book share → AreTalliesOf trace book.rows → share.tally ≡ tally_of trace share.thread.0
fitting-tally trace book share fits rows =
    same_Some _ _ (sym fits.row ∙ rows.each share.thread.0 (slice_get_within book.rows share.thread.0 share.tally fits.row))

-- the row of an event's thread gets the event, and the other rows stay the tallies of theirs
pub with_event-rows : (trace : List Event) (book : Accounts) (share : Holding) (e : Event) → FitsBook book share → e.thread ≡ share.thread → AreTalliesOf trace book.rows → AreTalliesOf (trace ++ e ∷ []) (with_row book share.thread (with_event share.tally (length trace) e)).rows
with_event-rows trace book share e fits own rows = record { each = λ t lt. row_at t (within t lt) (cases_eq t share.thread.0) }
  where
    row : Tally
    row = with_event share.tally (length trace) e

    within : (t : ℕ) → t < length (set book.rows share.thread.0 row) → t < length book.rows
    within t lt = rw (length-set book.rows share.thread.0 row) at lt

    by : thread_of e ≡ share.thread.0
    by = ap (λ t. t.0) own

    row_at : (t : ℕ) → t < length book.rows → (t ≡ share.thread.0) ⊎ (t ≢ share.thread.0) → slice_get (set book.rows share.thread.0 row) t ≡ Some (tally_of (trace ++ e ∷ []) t)
    row_at t lt (inl is) =
        rw is (slice_get-set_same book.rows share.thread.0 row (rw is at lt)
        ∙ ap Some (ap (λ tally. with_event tally (length trace) e) (fitting-tally trace book share fits rows) ∙ sym (tally_of-own trace share.thread.0 e by)))
    row_at t lt (inr other) =
        slice_get-set_other book.rows share.thread.0 t row (λ is. other (sym is))
        ∙ (rows.each t lt ∙ ap Some (sym (tally_of-other trace t e (λ is. other (sym is ∙ by)))))

-- ---- the sum of the counts

events_of-cons : (e : Event) (es : List Event) (t : ℕ) → events_of (e ∷ es) t ≡ cond {A = ℕ} (is_by t e) 1 0 + events_of es t
unfolding times
events_of-cons e es t = sum_by-cons (λ f. cond {A = ℕ} (is_by t f) 1 0) e es

events_below-nil : (n : ℕ) → events_below [] n ≡ 0
unfolding events_below
events_below-nil zero = refl
events_below-nil (suc n) = let rest = events_below-nil n in let here = times-nil (is_by n) in omega (arith, rest, here)

events_below-others : (e : Event) (es : List Event) (n : ℕ) → n ≤ thread_of e → events_below (e ∷ es) n ≡ events_below es n
unfolding events_below
events_below-others e es zero le = refl
events_below-others e es (suc n) le =
    let rest = events_below-others e es n (omega arith) in
    let by : IsFalse (is_by n e) = ne_eqb _ _ (λ is. omega arith) in
    let here = events_of-cons e es n ∙ ap (λ b. cond {A = ℕ} b 1 0 + events_of es n) by in
    omega (arith, rest, here)

events_below-one_more : (e : Event) (es : List Event) (n : ℕ) → thread_of e < n → events_below (e ∷ es) n ≡ events_below es n + 1
unfolding events_below
events_below-one_more e es zero lt = absurd (omega arith)
events_below-one_more e es (suc n) lt = counted (cases_eq (thread_of e) n) (λ less. events_below-one_more e es n less)
  where
    counted : (thread_of e ≡ n) ⊎ (thread_of e ≢ n) → (thread_of e < n → events_below (e ∷ es) n ≡ events_below es n + 1) → events_below (e ∷ es) n + events_of (e ∷ es) n ≡ events_below es n + events_of es n + 1
    counted (inl is) before =
        let rest = events_below-others e es n (omega arith) in
        let by : IsTrue (is_by n e) = eq-eqb _ _ is in
        let here = events_of-cons e es n ∙ ap (λ b. cond {A = ℕ} b 1 0 + events_of es n) by in
        omega (arith, rest, here)
    counted (inr other) before =
        let rest = before (omega arith) in
        let by : IsFalse (is_by n e) = ne_eqb _ _ other in
        let here = events_of-cons e es n ∙ ap (λ b. cond {A = ℕ} b 1 0 + events_of es n) by in
        omega (arith, rest, here)

-- each event is of a thread below this number
pub record IsOfThreadsBelow (threads : ℕ) (trace : List Event) : Type 0 where
  pub each : (i : ℕ) (e : Event) → slice_get trace i ≡ Some e → thread_of e < threads

-- the threads' counts are all of the trace
pub events_below-all : (trace : List Event) (n : ℕ) → IsOfThreadsBelow n trace → events_below trace n ≡ length trace
events_below-all [] n known = events_below-nil n
events_below-all (e ∷ es) n known =
    let rest = events_below-all es n (record { each = λ i. known.each (suc i) }) in
    let first = events_below-one_more e es n (known.each 0 e refl) in
    omega (arith, rest, first)

sum_by-rows_below : (trace : List Event) (rows : List Tally) (n : ℕ) → AreTalliesOf trace rows → n ≤ length rows → sum_by (λ row. row.events) (take n rows) ≡ events_below trace n
unfolding events_below
sum_by-rows_below trace rows zero are le = refl
sum_by-rows_below trace rows (suc n) are le =
    let rest = sum_by-rows_below trace rows n are (omega arith) in
    let at = are.each n (omega arith) in
    let more = sum_by_more (λ row. row.events) rows n (tally_of trace n) (omega arith) ∙ ap (λ row. sum_by (λ r. r.events) (take n rows) + row.events) (get_or_from_slice_get rows n (tally_of trace n) (tally_of trace n) at) in
    rw (← add-one n) (more ∙ ap (λ m. m + events_of trace n) rest)

-- the rows' counts are all of the trace
pub sum_by-rows : (trace : List Event) (rows : List Tally) → AreTalliesOf trace rows → IsOfThreadsBelow (length rows) trace → sum_by (λ row. row.events) rows ≡ length trace
sum_by-rows trace rows are known =
    ap (sum_by (λ row. row.events)) (sym (take_all (length rows) rows (omega arith))) ∙ (sum_by-rows_below trace rows (length rows) are (omega arith) ∙ events_below-all trace (length rows) known)
