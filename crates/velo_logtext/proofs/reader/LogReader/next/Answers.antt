use Rattle.std.proofs.Common.{ℕ, List, Ok, ap, sym, subst, ◌∙◌}
use Rattle.std.specs.Io.KnownBytes.{Keeps, prepend_known}
use Rattle.velo_logtext.specs.Front.{is_whole, Takes}
use Rattle.velo_logtext.specs.Reader.{ReaderState}
use Rattle.velo_logtext.specs.declared.reader.Front.TheVariants.{Open}
use Rattle.velo_logtext.proofs.OnReaders.{given_read, not_open}
use Rattle.velo_logtext.proofs.reader.LogReader.next.Goals as goal

pub loop-event-preserved : goal.loop-event-preserved
loop-event-preserved g c =
    let remaining = g.S.Source.remaining in
    let so_far = c.loop-event.invariant in
    let stays : Takes c.loop-event.self (Ok Open) c.take_front.new.self = rw c.in-Ok-Open.field-0-is at c.in-Ok-Open.ensures.takes in
    let same = c.self.view_is ∙ stays.0 in
    let read = c.in_ok-read_once-in-Ok-Open.ensures in
    let kept = subst (λ (t : List ℕ). Keeps (prepend_known t (remaining c.loop-event.source)) (prepend_known c.read_once.new.self.bytes (remaining c.read_once.new.source))) (ap (λ (v : ReaderState). v.held) same) read.bytes in
    record {
      given = λ bytes events h. given_read bytes events c.loop-event.self _ _ _ (so_far.given bytes events h) (ap (λ (v : ReaderState). v.shares) same) (ap (λ (v : ReaderState). v.bounds) same) (ap (λ (v : ReaderState). v.given) same) kept read.known_end;
      bounds = ap (λ (v : ReaderState). v.bounds) same ∙ so_far.bounds;
      version = ap (λ (v : ReaderState). v.shares) same ∙ so_far.version;
      count = ap (λ (v : ReaderState). v.given) same ∙ so_far.count;
      held = λ whole. absurd (not_open _ whole (ap is_whole (sym (so_far.held whole)) ∙ stays.2));
      unread = λ whole. absurd (not_open _ whole (ap is_whole (sym (so_far.held whole)) ∙ stays.2));
      failures = read.ok ∙ so_far.failures;
    }
