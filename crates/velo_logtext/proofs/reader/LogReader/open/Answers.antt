use Rattle.std.proofs.Common.{◌≡◌, Some, None, [], List, ℕ, inl, inr, ap, sym, subst, ◌∙◌, rules}
use Rattle.velo_logtext.specs.Front.{is_whole}
use Rattle.velo_logtext.specs.Window.{Window}
use Rattle.velo_logtext.specs.Reader.{HasGiven}
use Rattle.velo_logtext.specs.Reading.{header_at}
use Rattle.velo_logtext.specs.Text.{Head}
use Rattle.velo_logtext.proofs.OnFindings.{header_left}
use Rattle.velo_logtext.proofs.OnReaders.{header_given, header_missing, header_rest}
use Rattle.velo_logtext.proofs.reader.LogReader.open.Goals as goal
use Rattle.velo_logtext.proofs.reader.LogReader.open.Goals.{then-is_ended-via-then-is_ended, then-is_ended-via-else-is_ended+then-is_whole}

pub take_to-requires : goal.take_to-requires
take_to-requires g c =
    let held = c.loop-shares.window.bytes in
    let is : Some ((c.in-Some.shares, c.in-Some.bounds), c.in-Some.rest.now) ≡ header_at held = c.in-Some.ensures ∙ ap header_at c.bytes.ensures in
    header_left held (c.in-Some.shares, c.in-Some.bounds) c.in-Some.rest.now is

pub returns-in-Some-clause-ok : goal.returns-in-Some-clause-ok
returns-in-Some-clause-ok g c =
    let w = c.loop-shares.window in
    let b : Head = (c.in-Some.shares, c.in-Some.bounds) in
    let rest = c.in-Some.rest.now in
    let is : Some (b, rest) ≡ header_at w.bytes = c.in-Some.ensures ∙ ap header_at c.bytes.ensures in
    let left : Window = record { bytes = rest; ended = w.ended } in
    let after : left ≡ c.take_to.new.self = sym (c.take_to.ensures ∙ ap (λ (t : List ℕ). record { bytes = t; ended = w.ended }) (header_rest w.bytes b rest is)) in
    subst (λ (v : Window). HasGiven (g.S.Source.remaining c.args.source.now) [] (record { shares = b.0; bounds = b.1; given = 0; held = v.bytes; ended = v.ended }) (g.S.Source.remaining c.loop-shares.source)) after
    (header_given _ _ w.bytes b rest w.ended c.loop-shares.invariant.bytes is c.loop-shares.invariant.known_end)

pub returns-then-is_ended-clause-fault : goal.returns-then-is_ended-clause-fault
returns-then-is_ended-clause-fault g c =
    let w = c.loop-shares.window in
    let none : header_at w.bytes ≡ None = search rules in
    elim c.then-is_ended.branch [
      | then-is_ended-via-then-is_ended x ↦ header_missing _ _ w.bytes w.ended c.loop-shares.invariant.bytes none (inr (sym c.is_ended.ensures ∙ x.if-is_ended.true)) c.loop-shares.invariant.known_end
      | then-is_ended-via-else-is_ended+then-is_whole x ↦ header_missing _ _ w.bytes w.ended c.loop-shares.invariant.bytes none (inl (ap is_whole (sym x.bytes-else-is_ended.ensures) ∙ sym x.is_whole.ensures ∙ x.if-is_whole.true)) c.loop-shares.invariant.known_end
    ]
