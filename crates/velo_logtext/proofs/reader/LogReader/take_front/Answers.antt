use Rattle.std.proofs.Common.{◌≡◌, ℕ, ◌+◌, ◌<◌, ◌∷◌, ◌++◌, [], List, Some, None, ap, sym, subst, ◌∙◌, refl, arith}
use Rattle.velo_events.specs.declared.limits.TheConstants.{MAX_EVENTS}
use Rattle.velo_logtext.specs.Front.{Takes, Finds, judged_front}
use Rattle.velo_logtext.specs.Window.{Window}
use Rattle.velo_logtext.specs.Reader.{ReaderState, HasGiven}
use Rattle.velo_logtext.specs.Reading.{event_in}
use Rattle.velo_logtext.proofs.OnStreams.{takes_one}
use Rattle.velo_logtext.proofs.OnReaders.{given_one, event_left, finds_front, takes_front}
use Rattle.velo_logtext.proofs.reader.LogReader.take_front.Goals as goal

pub take_to-requires : goal.take_to-requires
take_to-requires c =
    let held = c.self.inside.window.bytes in
    let is : Some (c.in-Some.event, c.in-Some.rest.now) ≡ event_in c.self.inside.shares held = c.in-Some.ensures ∙ ap (event_in c.self.inside.shares) c.bytes-held.ensures in
    omega (arith, (takes_one c.self.inside.shares held _ _ is).shorter)

pub returns-in-Some : goal.returns-in-Some
returns-in-Some c =
    let r = c.self.inside in
    let held = r.window.bytes in
    let rest = c.in-Some.rest.now in
    let is : Some (c.in-Some.event, rest) ≡ event_in r.shares held = c.in-Some.ensures ∙ ap (event_in r.shares) c.bytes-held.ensures in
    let left : Window = record { bytes = rest; ended = r.window.ended } in
    let after : left ≡ c.take_to.new.self = sym (c.take_to.ensures ∙ ap (λ (t : List ℕ). record { bytes = t; ended = r.window.ended }) (event_left r.shares held c.in-Some.event rest is)) in
    let room : r.given < MAX_EVENTS = omega (arith, c.if-self.false, c.self.invariant) in
    record {
      takes = (ap (λ (v : ReaderState). v.bounds) c.self.view_is, ap (λ (v : ReaderState). v.shares) c.self.view_is);
      finds = λ bytes remaining events h.
          let old = subst (λ (v : ReaderState). HasGiven bytes events v remaining) (sym c.self.view_is) h in
          subst (λ (w : Window). HasGiven bytes (events ++ c.in-Some.event ∷ []) (record { shares = r.shares; bounds = r.bounds; given = r.given + 1; held = w.bytes; ended = w.ended }) remaining) after
          (given_one bytes events _ remaining c.in-Some.event rest old is room);
    }

pub returns-in-None : goal.returns-in-None
returns-in-None c =
    let r = c.self.inside in
    let held = r.window.bytes in
    let v : ReaderState = record { shares = r.shares; bounds = r.bounds; given = r.given; held = held; ended = r.window.ended } in
    let none : event_in r.shares held ≡ None = sym (c.in-None.ensures ∙ ap (event_in r.shares) c.bytes-held.ensures) in
    let room : r.given < MAX_EVENTS = omega (arith, c.if-self.false, c.self.invariant) in
    let is : judged_front held r.window.ended (r.given + 2) ≡ c.judge_front.result = sym (c.judge_front.ensures ∙ rw (c.bytes-held.ensures, c.is_ended-in-None.ensures) refl) in
    record {
      takes = subst (λ (x : ReaderState). Takes x c.judge_front.result x) c.self.view_is (subst (λ f. Takes v f v) is (takes_front v));
      finds = λ bytes remaining events h.
          let old = subst (λ (x : ReaderState). HasGiven bytes events x remaining) (sym c.self.view_is) h in
          subst (λ (x : ReaderState). Finds bytes events c.judge_front.result x remaining) c.self.view_is (subst (λ f. Finds bytes events f v remaining) is (finds_front bytes events v remaining old none room));
    }
