-- How what a reader has given grows, and what stands in the bytes where it ends.
use Rattle.std.proofs.Common.{◌≡◌, ℕ, ◌+◌, ◌-◌, ◌<◌, ◌≤◌, Bool, true, false, cond, drop, List, [], ◌∷◌, ◌++◌, length, Option, Some, None, Result, Ok, Err, inl, inr, refl, sym, ap, subst, ◌∙◌, append_assoc, length-append, arith}
use Rattle.std.specs.Prelude.{IfSome, IsTrue, ◌⊎◌}
use Rattle.std.specs.Io.KnownBytes.{Keeps, prepend_known, IsAtEnd}
use Rattle.std.proofs.lemmas.List.{append-nil}
use Rattle.velo_events.specs.declared.event.Event.{Event}
use Rattle.velo_events.specs.declared.limits.TheConstants.{MAX_EVENTS}
use Rattle.velo_logtext.specs.declared.fault.LogFault.{LogFault}
use Rattle.velo_logtext.specs.declared.fault.LogFault.TheVariants.{BadHeader, BadLine, Truncated, TooLong, Read, Memory}
use Rattle.velo_logtext.specs.declared.reader.Front.{Front}
use Rattle.velo_logtext.specs.declared.reader.Front.TheVariants.{Open, End}
use Rattle.velo_logtext.specs.Text.{AreEventsIn, header_line, event_line, event_lines, text_in, Begins, Head}
use Rattle.velo_logtext.specs.Finding.{Stands, ReadsAs, HasNoHeader, IsCutLine, failures_after}
use Rattle.velo_logtext.specs.Front.{IsOfText, Takes, Finds, is_whole, judged_front}
use Rattle.velo_logtext.specs.Reader.{ReaderState, HasGiven, Gives, HasWholeLine}
use Rattle.velo_logtext.specs.Reading.{event_in, header_at}
use Rattle.velo_bytes.proofs.OnDevices.{keeps_front, keeps_then}
use Rattle.velo_logtext.proofs.OnFindings.{header_moved, no_header, newline_more, bad_ended, ended_bad, not_bad}
use Rattle.velo_logtext.proofs.OnNewlines.{no_event_there, no_header_there}
use Rattle.velo_logtext.proofs.OnLines.{header_taken}
use Rattle.velo_logtext.proofs.OnWindows.{rest_is}
use Rattle.velo_logtext.proofs.OnStreams.{takes_one, stream_more, fit_more}

-- ---- more bytes, and one event more

pub given_read : (bytes : Option (List ℕ)) (events : List Event) (old new : ReaderState) (a b : Option (List ℕ)) → HasGiven bytes events old a → new.shares ≡ old.shares → new.bounds ≡ old.bounds → new.given ≡ old.given → Keeps (prepend_known old.held a) (prepend_known new.held b) → (IsTrue new.ended → IsAtEnd b) → HasGiven bytes events new b
given_read bytes events old new a b h shares bounds given kept end =
    let front = text_in old.shares old.bounds events in
    let moved = keeps_then bytes (prepend_known (front ++ old.held) a) (prepend_known (front ++ new.held) b) h.text (keeps_front front old.held new.held a b kept) in
    record {
      bounds_fit = rw bounds h.bounds_fit;
      events_fit = rw shares h.events_fit;
      text = rw (shares, bounds) moved;
      count = given ∙ h.count;
      few = h.few;
      end = end;
    }

pub given_one : (bytes : Option (List ℕ)) (events : List Event) (old : ReaderState) (remaining : Option (List ℕ)) (e : Event) (rest : List ℕ) → HasGiven bytes events old remaining → Some (e, rest) ≡ event_in old.shares old.held → old.given < MAX_EVENTS → HasGiven bytes (events ++ e ∷ []) (record old { given = old.given + 1; held = rest }) remaining
given_one bytes events old remaining e rest h is room =
    let one = takes_one old.shares old.held e rest is in
    let header = header_line (old.shares, old.bounds) in
    let same : text_in old.shares old.bounds events ++ old.held ≡ text_in old.shares old.bounds (events ++ e ∷ []) ++ rest =
    append_assoc header (event_lines events) old.held ∙ ap (λ (t : List ℕ). header ++ t) (sym (stream_more events e old.held rest (event_lines events ++ old.held) refl one.text)) ∙ sym (append_assoc header (event_lines (events ++ e ∷ [])) rest) in
    let len = length-append events (e ∷ []) in
    record {
      bounds_fit = h.bounds_fit;
      events_fit = fit_more old.shares events e h.events_fit one.fits;
      text = subst (λ (t : List ℕ). Keeps bytes (prepend_known t remaining)) same h.text;
      count = omega (arith, h.count, len);
      few = omega (arith, room, h.count, len);
      end = h.end;
    }

-- and several events more
pub given_lines : (bytes : Option (List ℕ)) (events more : List Event) (old : ReaderState) (remaining : Option (List ℕ)) (given : ℕ) (rest : List ℕ) → HasGiven bytes events old remaining → event_lines more ++ rest ≡ event_lines events ++ old.held
    → (AreEventsIn old.shares events → AreEventsIn old.shares more) → given + length events ≡ old.given + length more → given ≤ MAX_EVENTS → HasGiven bytes more (record old { given = given; held = rest }) remaining
given_lines bytes events more old remaining given rest h stream fit count few =
    let header = header_line (old.shares, old.bounds) in
    let same : text_in old.shares old.bounds events ++ old.held ≡ text_in old.shares old.bounds more ++ rest =
    append_assoc header (event_lines events) old.held ∙ ap (λ (t : List ℕ). header ++ t) (sym stream) ∙ sym (append_assoc header (event_lines more) rest) in
    record {
      bounds_fit = h.bounds_fit;
      events_fit = fit h.events_fit;
      text = subst (λ (t : List ℕ). Keeps bytes (prepend_known t remaining)) same h.text;
      count = omega (arith, count, h.count);
      few = omega (arith, count, few, h.count);
      end = h.end;
    }

-- what came next, if anything did
pub given_some : (bytes : Option (List ℕ)) (events : List Event) (next : Option Event) (e : Event) (r : ReaderState) (remaining : Option (List ℕ)) → Gives bytes events (Ok next) r remaining → next ≡ Some e → HasGiven bytes (events ++ e ∷ []) r remaining
given_some bytes events next e r remaining h is = subst (λ (o : Option Event). Gives bytes events (Ok o) r remaining) is h

pub given_all : (bytes : Option (List ℕ)) (events : List Event) (next : Option Event) (r : ReaderState) (remaining : Option (List ℕ)) → Gives bytes events (Ok next) r remaining → next ≡ None → IfSome bytes (λ all. Stands MAX_EVENTS all (Ok (r.bounds, events)))
given_all bytes events next r remaining h is = subst (λ (o : Option Event). Gives bytes events (Ok o) r remaining) is h

-- what is left behind an event's line, and behind a header
pub event_left : (shares : Bool) (held : List ℕ) (e : Event) (rest : List ℕ) → Some (e, rest) ≡ event_in shares held → drop (length held - length rest) held ≡ rest
event_left shares held e rest is =
    let one = takes_one shares held e rest is in
    let none : List ℕ = [] in
    sym (rest_is (event_line e) rest none held (sym one.text) (omega (arith, one.shorter)))

pub header_rest : (held : List ℕ) (b : Head) (rest : List ℕ) → Some (b, rest) ≡ header_at held → drop (length held - length rest) held ≡ rest
header_rest held b rest is = header_moved held b rest (length held) refl is

-- ---- what stands in the bytes

begins_with : (all : List ℕ) (events : List Event) (r : ReaderState) (more : List ℕ) → HasGiven (Some all) events r (Some more) → Begins all r.shares r.bounds events (r.held ++ more)
begins_with all events r more h =
    record { bounds_fit = h.bounds_fit; events_fit = h.events_fit; text = sym h.text ∙ append_assoc (text_in r.shares r.bounds events) r.held more }

end_stands : (bytes : Option (List ℕ)) (events : List Event) (r : ReaderState) (remaining : Option (List ℕ)) → HasGiven bytes events r remaining → r.held ≡ [] → r.ended ≡ true → IfSome bytes (λ all. Stands MAX_EVENTS all (Ok (r.bounds, events)))
end_stands None events r remaining h none ended = tt
end_stands (Some all) events r None h none ended = absurd h.text
end_stands (Some all) events r (Some more) h none ended =
    let front = text_in r.shares r.bounds events in
    let nothing : more ≡ [] = h.end ended in
    let text : all ≡ front = sym h.text ∙ ap (λ (t : List ℕ). (front ++ r.held) ++ t) nothing ∙ append-nil (front ++ r.held) ∙ ap (λ (t : List ℕ). front ++ t) none ∙ append-nil front in
    (record { shares = r.shares; is_text = record { bounds_fit = h.bounds_fit; events_fit = h.events_fit; text = text } }, h.few)

bad_stands : (bytes : Option (List ℕ)) (events : List Event) (r : ReaderState) (remaining : Option (List ℕ)) → HasGiven bytes events r remaining → event_in r.shares r.held ≡ None → r.given < MAX_EVENTS → is_whole r.held ≡ true → IfSome bytes (λ all. Stands MAX_EVENTS all (Err (BadLine (r.given + 2))))
bad_stands None events r remaining h none room whole = tt
bad_stands (Some all) events r None h none room whole = absurd h.text
bad_stands (Some all) events r (Some more) h none room whole =
    record {
      shares = r.shares;
      bounds = r.bounds;
      events = events;
      rest = r.held ++ more;
      begins = begins_with all events r more h;
      room = omega (arith, room, h.count);
      line = omega (arith, h.count);
      wrong = record {
        no_event = no_event_there r.shares r.held more none whole;
        ended = elim (bad_ended r.held whole) [
          | inl newline ↦ inl (newline_more r.held more newline)
          | inr long ↦ inr (omega (arith, long, length-append r.held more))
        ];
      };
    }

cut_stands : (bytes : Option (List ℕ)) (events : List Event) (r : ReaderState) (remaining : Option (List ℕ)) → HasGiven bytes events r remaining → r.given < MAX_EVENTS → 0 < length r.held → is_whole r.held ≡ false → r.ended ≡ true → IfSome bytes (λ all. Stands MAX_EVENTS all (Err (Truncated (r.given + 2))))
cut_stands None events r remaining h room some part ended = tt
cut_stands (Some all) events r None h room some part ended = absurd h.text
cut_stands (Some all) events r (Some more) h room some part ended =
    let nothing : more ≡ [] = h.end ended in
    let whole : r.held ++ more ≡ r.held = ap (λ (t : List ℕ). r.held ++ t) nothing ∙ append-nil r.held in
    let fine = not_bad r.held part in
    let cut : IsCutLine r.held = record { some = some; few = fine.0; no_newline = fine.1 } in
    record {
      shares = r.shares;
      bounds = r.bounds;
      events = events;
      rest = r.held ++ more;
      begins = begins_with all events r more h;
      room = omega (arith, room, h.count);
      line = omega (arith, h.count);
      wrong = subst IsCutLine (sym whole) cut;
    }

-- ---- what is taken where no event's line stands

judged : List ℕ → Bool → Bool → ℕ → Result Front LogFault
judged [] ended whole line = cond ended (Ok End) (Ok Open)
judged (b ∷ bytes) ended whole line = cond whole (Err (BadLine line)) (cond ended (Err (Truncated line)) (Ok Open))

judged_is : (held : List ℕ) (ended : Bool) (line : ℕ) → judged held ended (is_whole held) line ≡ judged_front held ended line
unfolding judged
judged_is [] ended line = refl
judged_is (b ∷ bytes) ended line = refl

front_finds : (bytes : Option (List ℕ)) (events : List Event) (r : ReaderState) (remaining : Option (List ℕ)) → HasGiven bytes events r remaining → event_in r.shares r.held ≡ None → r.given < MAX_EVENTS
    → (held : List ℕ) (ended whole : Bool) → r.held ≡ held → r.ended ≡ ended → is_whole r.held ≡ whole → Finds bytes events (judged held ended whole (r.given + 2)) r remaining
unfolding judged
front_finds bytes events r remaining h none room [] true whole held-is ended-is whole-is = end_stands bytes events r remaining h held-is ended-is
front_finds bytes events r remaining h none room [] false whole held-is ended-is whole-is = tt
front_finds bytes events r remaining h none room (b ∷ bs) ended true held-is ended-is whole-is = bad_stands bytes events r remaining h none room whole-is
front_finds bytes events r remaining h none room (b ∷ bs) true false held-is ended-is whole-is = cut_stands bytes events r remaining h room (omega (arith, ap length held-is)) whole-is ended-is
front_finds bytes events r remaining h none room (b ∷ bs) false false held-is ended-is whole-is = tt

front_takes : (r : ReaderState) (held : List ℕ) (ended whole : Bool) → r.held ≡ held → r.ended ≡ ended → is_whole r.held ≡ whole → Takes r (judged held ended whole (r.given + 2)) r
unfolding judged
front_takes r [] true whole held-is ended-is whole-is = (refl, ended-is)
front_takes r [] false whole held-is ended-is whole-is = (refl, ended-is, ap is_whole held-is)
front_takes r (b ∷ bs) ended true held-is ended-is whole-is = (refl, tt, refl)
front_takes r (b ∷ bs) true false held-is ended-is whole-is = (refl, tt, refl)
front_takes r (b ∷ bs) false false held-is ended-is whole-is = (refl, ended-is, whole-is)

pub finds_front : (bytes : Option (List ℕ)) (events : List Event) (r : ReaderState) (remaining : Option (List ℕ)) → HasGiven bytes events r remaining → event_in r.shares r.held ≡ None → r.given < MAX_EVENTS → Finds bytes events (judged_front r.held r.ended (r.given + 2)) r remaining
finds_front bytes events r remaining h none room =
    subst (λ (f : Result Front LogFault). Finds bytes events f r remaining) (judged_is r.held r.ended (r.given + 2)) (front_finds bytes events r remaining h none room r.held r.ended (is_whole r.held) refl refl refl)

pub takes_front : (r : ReaderState) → Takes r (judged_front r.held r.ended (r.given + 2)) r
takes_front r = subst (λ (f : Result Front LogFault). Takes r f r) (judged_is r.held r.ended (r.given + 2)) (front_takes r r.held r.ended (is_whole r.held) refl refl refl)

-- ---- faults

fault_read : (all : List ℕ) (fault : LogFault) → Stands MAX_EVENTS all (Err fault) → ReadsAs MAX_EVENTS all (Err fault)
fault_read all BadHeader h = h
fault_read all (BadLine n) h = h
fault_read all (Truncated n) h = h
fault_read all TooLong h = h
fault_read all Read h = tt
fault_read all Memory h = absurd h

pub no_failure : (X : Type 0) (fault : LogFault) (count : ℕ) → IsOfText fault → count ≡ failures_after {X = X} (Err fault) count
no_failure X BadHeader count h = refl
no_failure X (BadLine n) count h = refl
no_failure X (Truncated n) count h = refl
no_failure X TooLong count h = refl
no_failure X Read count h = absurd h
no_failure X Memory count h = absurd h

-- where a line is whole, none more bytes are wanted
pub not_open : (held : List ℕ) → HasWholeLine held → is_whole held ≡ false → ⊥
not_open held whole part = let bad = ended_bad held whole in cc

-- ---- the header

pub header_given : (bytes remaining : Option (List ℕ)) (held : List ℕ) (b : Head) (rest : List ℕ) (ended : Bool) → Keeps bytes (prepend_known held remaining) → Some (b, rest) ≡ header_at held → (IsTrue ended → IsAtEnd remaining)
    → HasGiven bytes [] (record { shares = b.0; bounds = b.1; given = 0; held = rest; ended = ended }) remaining
header_given bytes remaining held b rest ended kept is end =
    let found = header_taken held b rest (sym is) in
    let text : held ≡ text_in b.0 b.1 [] ++ rest = found.text ∙ ap (λ (t : List ℕ). t ++ rest) (sym (append-nil (header_line b))) in
    record {
      bounds_fit = found.fits;
      events_fit = tt;
      text = subst (λ (t : List ℕ). Keeps bytes (prepend_known t remaining)) text kept;
      count = refl;
      few = omega arith;
      end = end;
    }

header_wrong : (held more : List ℕ) (ended : Bool) → header_at held ≡ None → (is_whole held ≡ true) ⊎ (ended ≡ true) → (IsTrue ended → more ≡ []) → HasNoHeader (held ++ more)
header_wrong held more ended none (inl whole) end = no_header_there held more none whole
header_wrong held more ended none (inr last) end = no_header held more none (inr (end last))

pub header_missing : (bytes remaining : Option (List ℕ)) (held : List ℕ) (ended : Bool) → Keeps bytes (prepend_known held remaining) → header_at held ≡ None → (is_whole held ≡ true) ⊎ (ended ≡ true) → (IsTrue ended → IsAtEnd remaining) → IfSome bytes (λ all. ReadsAs MAX_EVENTS all (Err BadHeader))
header_missing None remaining held ended kept none enough end = tt
header_missing (Some all) None held ended kept none enough end = absurd kept
header_missing (Some all) (Some more) held ended kept none enough end = subst HasNoHeader kept (header_wrong held more ended none enough end)
