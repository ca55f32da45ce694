use Rattle.std.proofs.Common.{◌≡◌, ◌≤◌, ℕ, ◌-◌, ◌++◌, List, length, drop, ap, sym, subst, ◌∙◌, arith}
use Rattle.velo_logtext.specs.Reader.{ReaderState, HasGiven}
use Rattle.velo_logtext.specs.Text.{event_lines}
use Rattle.velo_logtext.specs.Window.{Window}
use Rattle.velo_logtext.proofs.OnReaders.{given_lines}
use Rattle.velo_logtext.proofs.OnWindows.{rest_is}
use Rattle.velo_logtext.proofs.reader.LogReader.take_lines.Goals as goal

pub returns-clause-given : goal.returns-clause-given
returns-clause-given c = λ bytes remaining h.
    let r = c.self.inside in
    let held = r.window.bytes in
    let rest = c.in_ok-given.rest.now in
    let old = c.args.trace.now.events in
    let new = c.append_lines.new.trace.events in
    let stream : event_lines new ++ rest ≡ event_lines old ++ held = c.in_ok-given.ensures.stream ∙ ap (λ (t : List ℕ). event_lines old ++ t) c.bytes-held.ensures in
    let short : length rest ≤ length held = omega (arith, c.in_ok-given.ensures.shorter, ap length c.bytes-held.ensures) in
    let back : drop (length held - length rest) held ≡ rest = sym (rest_is (event_lines new) rest (event_lines old) held stream short) in
    let left : Window = record { bytes = rest; ended = r.window.ended } in
    let after : left ≡ c.take_to.new.self = sym (c.take_to.ensures ∙ ap (λ (t : List ℕ). record { bytes = t; ended = r.window.ended }) back) in
    let before = subst (λ (v : ReaderState). HasGiven bytes old v remaining) (sym c.self.view_is) h in
    subst (λ (w : Window). HasGiven bytes new (record { shares = r.shares; bounds = r.bounds; given = c.in_ok-given.given; held = w.bytes; ended = w.ended }) remaining) after
    (given_lines bytes old new _ remaining c.in_ok-given.given rest before stream c.in_ok-given.ensures.fit c.in_ok-given.ensures.count c.in_ok-given.ensures.few)
