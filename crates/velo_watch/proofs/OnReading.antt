-- What a reader that counts anew says of the whole bytes: a header stands before what it has still to give, as at their front.
use Rattle.std.proofs.Common.{◌≡◌, ℕ, ◌+◌, ◌<◌, ◌≤◌, Bool, true, false, List, [], ◌∷◌, ◌++◌, length, Option, Some, None, Result, Ok, Err, inl, inr, refl, sym, ap, ◌∙◌, subst, append_assoc, length-append, arith, ⊎_elim, eq-eqb}
use Rattle.std.specs.Prelude.{IfSome, IfErr, ◌==◌, if◌then◌else◌}
use Rattle.std.specs.List.{flat_map}
use Rattle.std.specs.Io.KnownBytes.{Keeps, prepend_known}
use Rattle.std.proofs.lemmas.Grind.{flat_map-append}
use Rattle.std.proofs.lemmas.List.{append-nil, append_cancel_left}
use Rattle.std.proofs.lemmas.Bool.{cases_eq, ne_eqb}
use Rattle.velo_events.specs.declared.config.Bounds.{Bounds}
use Rattle.velo_events.specs.declared.event.Event.{Event}
use Rattle.velo_events.specs.declared.limits.TheConstants.{MAX_EVENTS}
use Rattle.velo_logtext.specs.declared.fault.LogFault.{LogFault}
use Rattle.velo_logtext.specs.declared.fault.LogFault.TheVariants.{BadHeader, BadLine, Truncated, TooLong, Read, Memory}
use Rattle.velo_logtext.specs.Text.{Head, AreBounds, AreEventsIn, header_line, event_line, event_lines, text_in, Begins}
use Rattle.velo_logtext.specs.Finding.{Stands, ReadsAs, IsFirstWrongLine, IsBadLine, IsCutLine, IsTooLong}
use Rattle.velo_logtext.specs.Reader.{ReaderState, HasGiven, IsMetBehind}
use Rattle.velo_logtext.specs.Reading.{header_at}
use Rattle.velo_logtext.proofs.OnLines.{header_again, event_short}
use Rattle.velo_logtext.proofs.OnStreams.{fit_more}
use Rattle.velo_watch.specs.declared.long.TheConstants.{MAX_WATCHED}
use Rattle.velo_watch.specs.Reading.{HasRead, Gives, fault_after}

-- ---- what the reader has still to give, behind a header

abbrev pub anew : ReaderState → ReaderState
anew r = record r { given = 0 }

abbrev pub from_header : ReaderState → Option (List ℕ) → Option (List ℕ)
from_header r remaining = prepend_known (text_in r.shares r.bounds [] ++ r.held) remaining

keeps_itself : (a : Option (List ℕ)) → Keeps a a
keeps_itself None = tt
keeps_itself (Some x) = refl

pub given_anew : (bytes : Option (List ℕ)) (events : List Event) (r : ReaderState) (remaining : Option (List ℕ)) → HasRead bytes events r remaining → HasGiven (from_header r remaining) [] (anew r) remaining
given_anew bytes events r remaining h = record {
  bounds_fit = h.bounds_fit;
  events_fit = tt;
  text = keeps_itself (from_header r remaining);
  count = refl;
  few = omega arith;
  end = h.end;
}

-- the header is given, and there is no event yet
pub opened : (bytes : Option (List ℕ)) (r : ReaderState) (remaining : Option (List ℕ)) → HasGiven bytes [] r remaining → HasRead bytes [] (anew r) remaining
opened bytes r remaining h = record { bounds_fit = h.bounds_fit; events_fit = tt; text = h.text; count = refl; few = omega arith; end = h.end }

-- ---- one event

lines_of_one : (e : Event) → event_lines (e ∷ []) ≡ event_line e
lines_of_one e = append-nil (event_line e)

-- one line more stands at the front of known bytes
keeps_line : (bytes : Option (List ℕ)) (head lines line held held' : List ℕ) (a b : Option (List ℕ)) → Keeps bytes (prepend_known ((head ++ lines) ++ held) a) → Keeps (prepend_known ((head ++ []) ++ held) a) (prepend_known ((head ++ line) ++ held') b) → Keeps bytes (prepend_known ((head ++ (lines ++ line)) ++ held') b)
keeps_line None head lines line held held' a b p q = tt
keeps_line (Some all) head lines line held held' None b p q = absurd p
keeps_line (Some all) head lines line held held' (Some x) None p q = absurd q
keeps_line (Some all) head lines line held held' (Some x) (Some y) p q =
    let left : ((head ++ line) ++ held') ++ y ≡ head ++ (line ++ (held' ++ y)) =
    append_assoc (head ++ line) held' y ∙ append_assoc head line (held' ++ y) in
    let right : ((head ++ []) ++ held) ++ x ≡ head ++ (held ++ x) =
    ap (λ (t : List ℕ). (t ++ held) ++ x) (append-nil head) ∙ append_assoc head held x in
    let next : line ++ (held' ++ y) ≡ held ++ x =
    append_cancel_left head (line ++ (held' ++ y)) (held ++ x) (sym left ∙ (q ∙ right)) in
    append_assoc (head ++ (lines ++ line)) held' y
    ∙ (append_assoc head (lines ++ line) (held' ++ y)
    ∙ (ap (λ (t : List ℕ). head ++ t) (append_assoc lines line (held' ++ y) ∙ ap (λ (t : List ℕ). lines ++ t) next)
    ∙ (sym (append_assoc head lines (held ++ x)) ∙ (sym (append_assoc (head ++ lines) held x) ∙ p))))

pub read_one : (bytes : Option (List ℕ)) (events : List Event) (r r' : ReaderState) (remaining remaining' : Option (List ℕ)) (e : Event) → HasRead bytes events r remaining → HasGiven (from_header r remaining) (e ∷ []) r' remaining' → r'.shares ≡ r.shares → r'.bounds ≡ r.bounds → r.given < MAX_WATCHED
    → HasRead bytes (events ++ e ∷ []) (record r' { given = r.given + 1 }) remaining'
read_one bytes events r r' remaining remaining' e h next shares bounds room =
    let head : Head = (r.shares, r.bounds) in
    let same : text_in r'.shares r'.bounds (e ∷ []) ≡ header_line head ++ event_lines (e ∷ []) =
    ap (λ (s : Bool). text_in s r'.bounds (e ∷ [])) shares ∙ ap (λ (b : Bounds). text_in r.shares b (e ∷ [])) bounds in
    let more : Keeps bytes (prepend_known ((header_line head ++ (event_lines events ++ event_lines (e ∷ []))) ++ r'.held) remaining') =
    keeps_line bytes (header_line head) (event_lines events) (event_lines (e ∷ [])) r.held r'.held remaining remaining' h.text
    (subst (λ (t : List ℕ). Keeps (from_header r remaining) (prepend_known (t ++ r'.held) remaining')) same next.text) in
    let lines : event_lines events ++ event_lines (e ∷ []) ≡ event_lines (events ++ e ∷ []) = sym (flat_map-append event_line events (e ∷ [])) in
    let text : header_line head ++ (event_lines events ++ event_lines (e ∷ [])) ≡ text_in r'.shares r'.bounds (events ++ e ∷ []) =
    ap (λ (t : List ℕ). header_line head ++ t) lines
    ∙ (ap (λ (b : Bounds). text_in r.shares b (events ++ e ∷ [])) (sym bounds) ∙ ap (λ (s : Bool). text_in s r'.bounds (events ++ e ∷ [])) (sym shares)) in
    let len = length-append events (e ∷ []) in
    record {
      bounds_fit = next.bounds_fit;
      events_fit = fit_more r'.shares events e (subst (λ (s : Bool). AreEventsIn s events) (sym shares) h.events_fit) next.events_fit.0;
      text = subst (λ (t : List ℕ). Keeps bytes (prepend_known (t ++ r'.held) remaining')) text more;
      count = omega (arith, h.count, len);
      few = omega (arith, room, h.count, len);
      end = next.end;
    }

-- ---- what stands behind one header stands behind the other

record AreOne (head head' : Head) (xs ys : List ℕ) : Type 0 where
  heads : head ≡ head'
  rests : xs ≡ ys

pair_of : (a b : Head × List ℕ) → Some a ≡ Some b → a ≡ b
pair_of a b same = cc

one_front : (head head' : Head) (xs ys : List ℕ) → AreBounds head.1 → AreBounds head'.1 → header_line head ++ xs ≡ header_line head' ++ ys → AreOne head head' xs ys
one_front head head' xs ys fits fits' same =
    let pair = pair_of (head, xs) (head', ys) (sym (header_again head xs fits) ∙ (ap header_at same ∙ header_again head' ys fits')) in
    record { heads = ap (λ (p : Head × List ℕ). p.0) pair; rests = ap (λ (p : Head × List ℕ). p.1) pair }

no_events : (events : List Event) → length events ≡ 0 → events ≡ []
no_events [] none = refl
no_events (e ∷ es) none = absurd (omega (arith, none))

-- all bytes, where they are known, and those behind the events
module _ (all : List ℕ) (events : List Event) (r : ReaderState) (more : List ℕ) (h : HasRead (Some all) events r (Some more)) where
  whole_front : ((header_line (r.shares, r.bounds) ++ []) ++ r.held) ++ more ≡ header_line (r.shares, r.bounds) ++ (r.held ++ more)
  whole_front =
      append_assoc (header_line (r.shares, r.bounds) ++ []) r.held more
      ∙ ap (λ (t : List ℕ). t ++ (r.held ++ more)) (append-nil (header_line (r.shares, r.bounds)))

  begins_here : Begins all r.shares r.bounds events (r.held ++ more)
  begins_here = record { bounds_fit = h.bounds_fit; events_fit = h.events_fit; text = sym h.text ∙ append_assoc (text_in r.shares r.bounds events) r.held more }

  -- the first wrong line behind the header stands here
  wrong_here : (n : ℕ) (W : Bool → List ℕ → Type 0) → n ≡ 2 → IsFirstWrongLine MAX_EVENTS (((header_line (r.shares, r.bounds) ++ []) ++ r.held) ++ more) n W → W r.shares (r.held ++ more)
  wrong_here n W line w =
      let none : w.events ≡ [] = no_events w.events (let at = w.line in omega (arith, at, line)) in
      let text : ((header_line (r.shares, r.bounds) ++ []) ++ r.held) ++ more ≡ header_line (w.shares, w.bounds) ++ w.rest =
      w.begins.text ∙ (ap (λ (es : List Event). text_in w.shares w.bounds es ++ w.rest) none ∙ ap (λ (t : List ℕ). t ++ w.rest) (append-nil (header_line (w.shares, w.bounds)))) in
      let one = one_front (r.shares, r.bounds) (w.shares, w.bounds) (r.held ++ more) w.rest h.bounds_fit w.begins.bounds_fit (sym whole_front ∙ text) in
      subst (λ (t : List ℕ). W r.shares t) (sym one.rests) (subst (λ (s : Bool). W s w.rest) (sym (ap (λ (d : Head). d.0) one.heads)) w.wrong)

  long_here : r.given ≡ MAX_WATCHED → 0 < length (r.held ++ more) → IsTooLong MAX_WATCHED all
  long_here full some = record {
    shares = r.shares;
    bounds = r.bounds;
    events = events;
    rest = r.held ++ more;
    begins = begins_here;
    full = sym h.count ∙ full;
    more = some;
  }

  line_here : (W : Bool → List ℕ → Type 0) → r.given < MAX_WATCHED → W r.shares (r.held ++ more) → IsFirstWrongLine MAX_WATCHED all (r.given + 2) W
  line_here W room wrong = record {
    shares = r.shares;
    bounds = r.bounds;
    events = events;
    rest = r.held ++ more;
    begins = begins_here;
    room = omega (arith, room, h.count);
    line = omega (arith, h.count);
    wrong = wrong;
  }

bad_some : (shares : Bool) (rest : List ℕ) → IsBadLine shares rest → 0 < length rest
bad_some shares rest bad = ⊎_elim (λ w. omega (arith, w.1)) (λ long. omega (arith, long)) bad.ended

-- a wrong line behind the events, which are as many as there may be, or fewer
bad_after : (all : List ℕ) (events : List Event) (r : ReaderState) (more : List ℕ) → HasRead (Some all) events r (Some more) → r.given ≤ MAX_WATCHED → IsBadLine r.shares (r.held ++ more) → ReadsAs MAX_WATCHED all (Err (fault_after r.given (BadLine 2)))
bad_after all events r more h few bad =
    elim (cases_eq r.given MAX_WATCHED) [
      | inl full ↦ subst (λ (b : Bool). ReadsAs MAX_WATCHED all (Err (if b then TooLong else BadLine (r.given + 2)))) (sym (eq-eqb r.given MAX_WATCHED full)) (long_here all events r more h full (bad_some r.shares (r.held ++ more) bad))
      | inr other ↦ subst (λ (b : Bool). ReadsAs MAX_WATCHED all (Err (if b then TooLong else BadLine (r.given + 2)))) (sym (ne_eqb r.given MAX_WATCHED other)) (line_here all events r more h IsBadLine (omega (arith, few, other)) bad)
    ]

cut_after : (all : List ℕ) (events : List Event) (r : ReaderState) (more : List ℕ) → HasRead (Some all) events r (Some more) → r.given ≤ MAX_WATCHED → IsCutLine (r.held ++ more) → ReadsAs MAX_WATCHED all (Err (fault_after r.given (Truncated 2)))
cut_after all events r more h few cut =
    elim (cases_eq r.given MAX_WATCHED) [
      | inl full ↦ subst (λ (b : Bool). ReadsAs MAX_WATCHED all (Err (if b then TooLong else Truncated (r.given + 2)))) (sym (eq-eqb r.given MAX_WATCHED full)) (long_here all events r more h full cut.some)
      | inr other ↦ subst (λ (b : Bool). ReadsAs MAX_WATCHED all (Err (if b then TooLong else Truncated (r.given + 2)))) (sym (ne_eqb r.given MAX_WATCHED other)) (line_here all events r more h (λ shares. IsCutLine) (omega (arith, few, other)) cut)
    ]

-- ---- what the reader answers

pub fault_read : (bytes : Option (List ℕ)) (events : List Event) (r : ReaderState) (remaining : Option (List ℕ)) (fault : LogFault) → HasRead bytes events r remaining → r.given ≤ MAX_WATCHED → IsMetBehind 0 fault → IfSome (from_header r remaining) (λ all. ReadsAs MAX_EVENTS all (Err fault)) → IfSome bytes (λ all. ReadsAs MAX_WATCHED all (Err (fault_after r.given fault)))
fault_read None events r remaining fault h few met found = tt
fault_read (Some all) events r None fault h few met found = absurd h.text
fault_read (Some all) events r (Some more) (BadLine n) h few met found = bad_after all events r more h few (wrong_here all events r more h n IsBadLine met found)
fault_read (Some all) events r (Some more) (Truncated n) h few met found = cut_after all events r more h few (wrong_here all events r more h n (λ shares. IsCutLine) met found)
fault_read (Some all) events r (Some more) Read h few met found = tt
fault_read (Some all) events r (Some more) TooLong h few met found = absurd (omega (arith, met))
fault_read (Some all) events r (Some more) BadHeader h few met found = absurd met
fault_read (Some all) events r (Some more) Memory h few met found = absurd met

-- an event where as many were given as there may be
pub long_read : (bytes : Option (List ℕ)) (events : List Event) (r r' : ReaderState) (remaining remaining' : Option (List ℕ)) (e : Event) → HasRead bytes events r remaining → HasGiven (from_header r remaining) (e ∷ []) r' remaining' → r'.shares ≡ r.shares → r'.bounds ≡ r.bounds → r.given ≡ MAX_WATCHED
    → IfSome bytes (λ all. ReadsAs MAX_WATCHED all (Err TooLong))
long_read None events r r' remaining remaining' e h next shares bounds full = tt
long_read (Some all) events r r' None remaining' e h next shares bounds full = absurd h.text
long_read (Some all) events r r' (Some more) None e h next shares bounds full = absurd next.text
long_read (Some all) events r r' (Some more) (Some rest) e h next shares bounds full =
    let same : text_in r'.shares r'.bounds (e ∷ []) ≡ header_line (r.shares, r.bounds) ++ event_lines (e ∷ []) =
    ap (λ (s : Bool). text_in s r'.bounds (e ∷ [])) shares ∙ ap (λ (b : Bounds). text_in r.shares b (e ∷ [])) bounds in
    let text : ((header_line (r.shares, r.bounds) ++ event_lines (e ∷ [])) ++ r'.held) ++ rest ≡ header_line (r.shares, r.bounds) ++ (r.held ++ more) =
    ap (λ (t : List ℕ). (t ++ r'.held) ++ rest) (sym same) ∙ (next.text ∙ whole_front all events r more h) in
    let length_line = (event_short e next.events_fit.0.fits).0 in
    let lines = ap (λ (xs : List ℕ). length xs) (lines_of_one e) in
    let a = length-append ((header_line (r.shares, r.bounds) ++ event_lines (e ∷ [])) ++ r'.held) rest in
    let b = length-append (header_line (r.shares, r.bounds) ++ event_lines (e ∷ [])) r'.held in
    let c = length-append (header_line (r.shares, r.bounds)) (event_lines (e ∷ [])) in
    let d = length-append (header_line (r.shares, r.bounds)) (r.held ++ more) in
    let lengths = ap (λ (xs : List ℕ). length xs) text in
    long_here all events r more h full (omega (arith, length_line, lines, a, b, c, d, lengths))

-- at the end the bytes are the text of the events
pub end_read : (bytes : Option (List ℕ)) (events : List Event) (r : ReaderState) (remaining : Option (List ℕ)) (bounds : Bounds) → bounds ≡ r.bounds → HasRead bytes events r remaining → IfSome (from_header r remaining) (λ all. Stands MAX_EVENTS all (Ok (bounds, []))) → IfSome bytes (λ all. Stands MAX_WATCHED all (Ok (bounds, events)))
end_read None events r remaining bounds same h found = tt
end_read (Some all) events r None bounds same h found = absurd h.text
end_read (Some all) events r (Some more) bounds same h found =
    let own = found.0.is_text in
    let text : ((header_line (r.shares, r.bounds) ++ []) ++ r.held) ++ more ≡ header_line (found.0.shares, bounds) ++ [] = own.text in
    let one = one_front (r.shares, r.bounds) (found.0.shares, bounds) (r.held ++ more) [] h.bounds_fit own.bounds_fit (sym (whole_front all events r more h) ∙ text) in
    let whole : all ≡ text_in r.shares r.bounds events =
    sym h.text ∙ (append_assoc (text_in r.shares r.bounds events) r.held more ∙ (ap (λ (t : List ℕ). text_in r.shares r.bounds events ++ t) one.rests ∙ append-nil (text_in r.shares r.bounds events))) in
    (record { shares = r.shares; is_text = record { bounds_fit = own.bounds_fit; events_fit = h.events_fit; text = whole ∙ ap (λ (b : Bounds). text_in r.shares b events) (sym same) } }, h.few)
