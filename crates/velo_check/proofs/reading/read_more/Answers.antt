use Rattle.std.proofs.Common.{◌≡◌, ◌∙◌, ◌+◌, ◌-◌, ◌≤◌, ◌++◌, ℕ, List, ap, sym, arith, take, drop, length}
use Rattle.std.proofs.lemmas.List.{length-take, length-drop}
use Rattle.velo_check.proofs.OnReading.{grown, kept}
use Rattle.velo_check.proofs.reading.read_more.Goals as goal

pub returns-in-Ok-read-clause-bytes : goal.returns-in-Ok-read-clause-bytes
returns-in-Ok-read-clause-bytes g c =
    let done : ℕ = c.len-done.result in
    let bytes : List ℕ = c.deref_mut.result.now in
    let is : done ≡ length c.args.bytes.now.items = c.len-done.ensures ∙ c.args.bytes.now.ok.0 in
    let small = c.args.bytes.now.small in
    let full = c.args.bytes.now.ok.1 in
    let len = c.len-done.ensures in
    let room : done ≤ c.saturating_add.result = rw c.saturating_add.ensures (omega (arith, small, full, len)) in
    let more : done + 1 ≤ c.saturating_add.result = rw c.saturating_add.ensures (omega (arith, small, full, len)) in
    let front : take done bytes ≡ c.args.bytes.now.items =
    ap (take done) (c.deref_mut.ensures.value ∙ c.in-Ok.ensures.items) ∙ kept c.args.bytes.now.items _ done c.saturating_add.result is room in
    let size : length bytes ≡ c.saturating_add.result = ap length c.deref_mut.ensures.value ∙ (sym c.resize.new.items.ok.0 ∙ c.in-Ok.ensures.len) in
    let behind : length c.read.new.piece ≡ length bytes - done =
    c.read.auto.piece ∙ (length-take (length bytes - done) (drop done bytes) ∙ let all = length-drop done bytes in omega (arith, all)) in
    let little = c.in-Ok-read.ensures.bound.0 in
    let longer = c.in-Ok.ensures.len in
    record {
      piece = take c.in-Ok-read.count c.read.new.piece;
      grown = c.truncate.ensures.items
          ∙ (grown (take done bytes) c.read.new.piece _ _ c.in-Ok-read.count (done + c.in-Ok-read.count) _ (ap (λ n. n + c.in-Ok-read.count) (is ∙ sym (ap length front)))
          little (omega (arith, little, behind, size, longer, room))
          ∙ ap (λ l. l ++ take c.in-Ok-read.count c.read.new.piece) front);
      given = c.in-Ok-read.ensures.bytes.0;
      last = λ none. c.in-Ok-read.ensures.bytes.1 none (omega (arith, behind, size, more));
    }
