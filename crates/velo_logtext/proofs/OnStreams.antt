-- The lines of events so far, and what follows them.
use Rattle.std.proofs.Common.{◌≡◌, ℕ, Bool, true, ◌+◌, ◌<◌, List, [], ◌∷◌, ◌++◌, length, take, drop, Some, sym, ap, ◌∙◌, append_assoc, length-append, arith}
use Rattle.std.proofs.lemmas.Grind.{flat_map-append}
use Rattle.std.proofs.lemmas.List.{append-nil, take-append-drop}
use Rattle.velo_events.specs.declared.event.Event.{Event}
use Rattle.velo_events.specs.declared.config.Bounds.{Bounds}
use Rattle.velo_logtext.specs.Text.{header_line, event_line, event_lines, log_text, IsEventIn, AreEventsIn, AreEvents}
use Rattle.velo_logtext.specs.Reading.{event_in}
use Rattle.velo_logtext.proofs.OnLines.{event_in_taken, event_short}

-- one event was taken, and some bytes with it
pub record TakesOne (shares : Bool) (rest : List ℕ) (e : Event) (after : List ℕ) : Type 0 where
  pub text : rest ≡ event_line e ++ after
  pub fits : IsEventIn shares e
  pub shorter : length after < length rest

pub takes_one : (shares : Bool) (rest : List ℕ) (e : Event) (after : List ℕ) → Some (e, after) ≡ event_in shares rest → TakesOne shares rest e after
takes_one shares rest e after is =
    let found = event_in_taken shares rest e after (sym is) in
    let line = event_short e found.fits.fits in
    record { text = found.text; fits = found.fits; shorter = omega (arith, ap length found.text, length-append (event_line e) after, line.0) }

pub event_lines_push : (events : List Event) (e : Event) → event_lines (events ++ e ∷ []) ≡ event_lines events ++ event_line e
event_lines_push events e = flat_map-append event_line events (e ∷ []) ∙ ap (λ (t : List ℕ). event_lines events ++ t) (append-nil (event_line e))

pub stream_more : (events : List Event) (e : Event) (rest after total : List ℕ) → event_lines events ++ rest ≡ total → rest ≡ event_line e ++ after → event_lines (events ++ e ∷ []) ++ after ≡ total
stream_more events e rest after total so_far text =
    ap (λ (t : List ℕ). t ++ after) (event_lines_push events e) ∙ append_assoc (event_lines events) (event_line e) after ∙ ap (λ (t : List ℕ). event_lines events ++ t) (sym text) ∙ so_far

pub fit_more : (shares : Bool) (events : List Event) (e : Event) → AreEventsIn shares events → IsEventIn shares e → AreEventsIn shares (events ++ e ∷ [])
fit_more shares [] e all one = (one, tt)
fit_more shares (x ∷ xs) e all one = (all.0, fit_more shares xs e all.1 one)

-- whatever the version has, the events have a text
pub all_events : (shares : Bool) (events : List Event) → AreEventsIn shares events → AreEvents events
all_events shares [] all = tt
all_events shares (x ∷ xs) all = (all.0.fits, all_events shares xs all.1)

-- ---- the text as it is written

pub text_split : (b : Bounds) (events items : List Event) (i : ℕ) → items ≡ events → log_text b events ≡ (header_line (true, b) ++ event_lines (take i items)) ++ event_lines (drop i items)
text_split b events items i is =
    ap (log_text b) (sym is)
    ∙ ap (log_text b) (sym (take-append-drop i items))
    ∙ ap (λ (t : List ℕ). header_line (true, b) ++ t) (flat_map-append event_line (take i items) (drop i items))
    ∙ sym (append_assoc (header_line (true, b)) (event_lines (take i items)) (event_lines (drop i items)))

pub text_more : (b : Bounds) (items : List Event) (i : ℕ) (e : Event) → take (i + 1) items ≡ take i items ++ e ∷ [] → header_line (true, b) ++ event_lines (take (i + 1) items) ≡ (header_line (true, b) ++ event_lines (take i items)) ++ event_line e
text_more b items i e is =
    ap (λ (es : List Event). header_line (true, b) ++ event_lines es) is
    ∙ ap (λ (t : List ℕ). header_line (true, b) ++ t) (event_lines_push (take i items) e)
    ∙ sym (append_assoc (header_line (true, b)) (event_lines (take i items)) (event_line e))
