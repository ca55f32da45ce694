use Rattle.std.proofs.Common.{◌≡◌, ◌-◌, ◌+◌, ◌++◌, List, ℕ, length, drop, take, ap, subst, ◌∙◌, arith}
use Rattle.std.proofs.lemmas.List.{take-take, take-append-le}
use Rattle.std.specs.Io.KnownBytes.{Keeps, prepend_known}
use Rattle.velo_logtext.specs.Window.{Window}
use Rattle.velo_logtext.proofs.window.Window.read_once.Goals as goal

pub returns-clause-bytes : goal.returns-clause-bytes
returns-clause-bytes g c =
    let remaining = g.S.Source.remaining in
    let w = c.self.inside in
    let left = w.end - w.start in
    let n = left + c.in_ok-count.count in
    let new = c.read_behind.new.buffer in
    let len : length new ≡ w.buffer.len = omega (arith, c.read_behind.auto.buffer, c.as_mut_slice.ensures.len) in
    let back : w.end - left ≡ w.start = omega (arith, c.self.invariant.0) in
    let old : drop (w.end - left) (take w.end c.as_mut_slice.result.now) ≡ c.args.self.now.bytes =
    ap (λ (k : ℕ). drop k (take w.end c.as_mut_slice.result.now)) back ∙ ap (λ (t : List ℕ). drop w.start (take w.end t)) c.as_mut_slice.ensures.value ∙ ap (λ (v : Window). v.bytes) c.self.view_is in
    let kept : take n (take w.buffer.len (new ++ drop (length new) w.buffer.items)) ≡ take n new =
    take-take n w.buffer.len (new ++ drop (length new) w.buffer.items) (omega (arith, len, c.in_ok-count.ensures.within)) ∙ take-append-le n new (drop (length new) w.buffer.items) c.in_ok-count.ensures.within in
    rw kept (subst (λ (t : List ℕ). Keeps (prepend_known t (remaining c.args.source.now)) (prepend_known (take n new) (remaining c.read_behind.new.source))) old c.in_ok-count.ensures.bytes)
