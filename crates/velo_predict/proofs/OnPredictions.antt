-- How what is known of the threads of a trace changes with an event.
use Rattle.std.proofs.Common.{◌≡◌, ◌≢◌, ℕ, ◌<◌, ◌≤◌, List, [], ◌∷◌, ◌++◌, length, take, Some, refl, sym, ap, ◌∙◌, subst, arith, length-append, ⊎_elim, inl, inr}
use Rattle.std.specs.Prelude.{◌⊎◌, slice_get, IsTrue}
use Rattle.std.proofs.Math.Seq.{take-append_seam}
use Rattle.std.proofs.lemmas.Bool.{cases_lt, eq-eqb}
use Rattle.std.proofs.lemmas.List.{append_assoc, append_cancel_left, take-append-le}
use Rattle.std.proofs.lemmas.List.Elements.{filter-append}
use Rattle.std.proofs.lemmas.Option.{none-some, slice_get_within, same_Some}
use Rattle.velo_events.specs.declared.event.Event.{Event}
use Rattle.velo_events.specs.Event.{thread_of, is_by, is_read}
use Rattle.velo_events.proofs.OnTraces.{slice_get-append, slice_get-push}
use Rattle.velo_movers.specs.Free.{gives_up}
use Rattle.velo_movers.specs.Programs.{own}
use Rattle.velo_movers.proofs.OnHolders.{own-push_yes}
use Rattle.velo_predict.specs.Predictions.{IsBeginning, HasTurned, IsLoose, HasReadBehind, IsUnsure}

-- ---- beginnings

pub IsBeginning-before : (first more whole : List Event) → IsBeginning (first ++ more) whole → IsBeginning first whole
IsBeginning-before first more whole b = (more ++ b.0, b.1 ∙ append_assoc first more b.0)

pub first_same : (x y : Event) (xs ys : List Event) → x ∷ xs ≡ y ∷ ys → x ≡ y
first_same x y xs ys h = same_Some x y (ap (λ es. slice_get es 0) h)

-- behind the same events the next one is the same
pub next_same : (first : List Event) (x y : Event) (xs ys : List Event) → first ++ x ∷ xs ≡ first ++ y ∷ ys → x ≡ y
next_same first x y xs ys h = first_same x y xs ys (append_cancel_left first (x ∷ xs) (y ∷ ys) h)

pub no_next : (first : List Event) (x : Event) (xs : List Event) → first ++ [] ≡ first ++ x ∷ xs → ⊥
no_next first x xs h = none-some x (ap (λ es. slice_get es 0) (append_cancel_left first [] (x ∷ xs) h))

-- ---- what stays as the trace grows

module _ (log : List Event) where
  pub HasTurned-longer : (trace more : List Event) (t : ℕ) → HasTurned log trace t → HasTurned log (trace ++ more) t
  HasTurned-longer trace more t h b =
      h (IsBeginning-before (own t trace) (own t more) (own t log) (subst (λ es. IsBeginning es (own t log)) (filter-append (is_by t) trace more) b))

  pub IsLoose-longer : (trace more : List Event) (i : ℕ) → IsLoose log trace i → IsLoose log (trace ++ more) i
  IsLoose-longer trace more i l =
      let within = slice_get_within trace i l.event l.here in
      record {
        event = l.event;
        here = slice_get-append trace more i within ∙ l.here;
        release = l.release;
        turned = subst (λ es. HasTurned log es (thread_of l.event)) (sym (take-append-le i trace more (omega (arith, within)))) l.turned;
      }

  pub IsLoose-shorter : (trace more : List Event) (i : ℕ) → i < length trace → IsLoose log (trace ++ more) i → IsLoose log trace i
  IsLoose-shorter trace more i within l = record {
    event = l.event;
    here = sym (slice_get-append trace more i within) ∙ l.here;
    release = l.release;
    turned = subst (λ es. HasTurned log es (thread_of l.event)) (take-append-le i trace more (omega (arith, within))) l.turned;
  }

  pub HasReadBehind-longer : (trace more : List Event) (t : ℕ) → HasReadBehind log trace t → HasReadBehind log (trace ++ more) t
  HasReadBehind-longer trace more t h =
      let within = slice_get_within trace h.read h.event h.here in
      record {
        release = h.release;
        read = h.read;
        event = h.event;
        loose = IsLoose-longer trace more h.release h.loose;
        behind = h.behind;
        here = slice_get-append trace more h.read within ∙ h.here;
        by = h.by;
        is_read = h.is_read;
      }

  pub IsUnsure-longer : (trace more : List Event) (t : ℕ) → IsUnsure log trace t → IsUnsure log (trace ++ more) t
  IsUnsure-longer trace more t h =
      ⊎_elim (λ turned. inl (HasTurned-longer trace more t turned)) (λ read. inr (HasReadBehind-longer trace more t read)) h

  -- ---- what one event adds

  -- the position of the event, where it is not an earlier one
  last_place : (trace : List Event) (e f : Event) (i : ℕ) → length trace ≤ i → slice_get (trace ++ e ∷ []) i ≡ Some f → length trace ≡ i
  last_place trace e f i above at = omega (arith, above, slice_get_within (trace ++ e ∷ []) i f at, length-append trace (e ∷ []))

  last_event : (trace : List Event) (e f : Event) (i : ℕ) → length trace ≤ i → slice_get (trace ++ e ∷ []) i ≡ Some f → e ≡ f
  last_event trace e f i above at =
      same_Some e f (sym (slice_get-push trace e) ∙ subst (λ k. slice_get (trace ++ e ∷ []) k ≡ Some f) (sym (last_place trace e f i above at)) at)

  pub IsLoose-push : (trace : List Event) (e : Event) (i : ℕ) → IsLoose log (trace ++ e ∷ []) i → IsLoose log trace i ⊎ (IsTrue (gives_up e.kind) × HasTurned log trace (thread_of e))
  IsLoose-push trace e i l =
      ⊎_elim
      (λ below. inl (IsLoose-shorter trace (e ∷ []) i below l))
      (λ above.
      let same = last_event trace e l.event i above l.here in
      let place = last_place trace e l.event i above l.here in
      let seam : take i (trace ++ e ∷ []) ≡ trace = subst (λ k. take k (trace ++ e ∷ []) ≡ trace) place (take-append_seam trace (e ∷ [])) in
      inr (
        subst (λ f. IsTrue (gives_up f.kind)) (sym same) l.release,
        subst (λ f. HasTurned log trace (thread_of f)) (sym same) (subst (λ es. HasTurned log es (thread_of l.event)) seam l.turned),
      ))
      (cases_lt i (length trace))

  pub IsLoose-last : (trace : List Event) (e : Event) → IsTrue (gives_up e.kind) → HasTurned log trace (thread_of e) → IsLoose log (trace ++ e ∷ []) (length trace)
  IsLoose-last trace e release turned = record {
    event = e;
    here = slice_get-push trace e;
    release = release;
    turned = subst (λ es. HasTurned log es (thread_of e)) (sym (take-append_seam trace (e ∷ []))) turned;
  }

  pub HasReadBehind-push : (trace : List Event) (e : Event) (t : ℕ) → HasReadBehind log (trace ++ e ∷ []) t → HasReadBehind log trace t ⊎ ((thread_of e ≡ t) × IsTrue (is_read e.kind) × ((i : ℕ) × IsLoose log trace i))
  HasReadBehind-push trace e t h =
      ⊎_elim
      (λ below. inl (record {
        release = h.release;
        read = h.read;
        event = h.event;
        loose = IsLoose-shorter trace (e ∷ []) h.release (omega (arith, below, h.behind)) h.loose;
        behind = h.behind;
        here = sym (slice_get-append trace (e ∷ []) h.read below) ∙ h.here;
        by = h.by;
        is_read = h.is_read;
      }))
      (λ above.
      let same = last_event trace e h.event h.read above h.here in
      let place = last_place trace e h.event h.read above h.here in
      inr (
        ap thread_of same ∙ h.by,
        subst (λ f. IsTrue (is_read f.kind)) (sym same) h.is_read,
        (h.release, IsLoose-shorter trace (e ∷ []) h.release (omega (arith, place, h.behind)) h.loose),
      ))
      (cases_lt h.read (length trace))

  pub HasReadBehind-last : (trace : List Event) (e : Event) (i : ℕ) → IsLoose log trace i → IsTrue (is_read e.kind) → HasReadBehind log (trace ++ e ∷ []) (thread_of e)
  HasReadBehind-last trace e i l read = record {
    release = i;
    read = length trace;
    event = e;
    loose = IsLoose-longer trace (e ∷ []) i l;
    behind = slice_get_within trace i l.event l.here;
    here = slice_get-push trace e;
    by = refl;
    is_read = read;
  }

  -- a thread that goes along has not turned
  pub not_turned : (trace : List Event) (t : ℕ) (rest : List Event) → own t log ≡ own t trace ++ rest → ¬ HasTurned log trace t
  not_turned trace t rest along turned = turned (rest, along)

  -- an event that is not the next of the log turns its thread
  pub HasTurned-by : (trace : List Event) (e next : Event) (rest : List Event) → own (thread_of e) log ≡ own (thread_of e) trace ++ next ∷ rest → e.kind ≢ next.kind → HasTurned log (trace ++ e ∷ []) (thread_of e)
  HasTurned-by trace e next rest along other b =
      let t = thread_of e in
      let longer = own-push_yes t trace e (eq-eqb t t refl) in
      let there : own t trace ++ next ∷ rest ≡ own t trace ++ e ∷ b.0 = sym along ∙ (b.1 ∙ (ap (λ es. es ++ b.0) longer ∙ append_assoc (own t trace) (e ∷ []) b.0)) in
      other (sym (ap (λ f. f.kind) (next_same (own t trace) next e rest b.0 there)))
