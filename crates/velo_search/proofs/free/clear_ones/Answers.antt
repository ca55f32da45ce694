use Rattle.std.proofs.Common.{◌≡◌, ◌<◌, ◌+◌, Bool, [], ◌∷◌, ◌++◌, length, length-append, take, Some, sym, ap, ◌∙◌, subst, arith, rules, ℕ}
use Rattle.std.specs.Prelude.{slice_get, slice_index_or}
use Rattle.velo_events.specs.declared.event.Kind.{Kind}
use Rattle.std.proofs.lemmas.List.{get_or_default}
use Rattle.velo_search.specs.Free.{AreHeld}
use Rattle.velo_search.specs.Notes.{IsMarkOf}
use Rattle.velo_search.proofs.OnNoting.{blank_kind, mark-next, take-next_kind}
use Rattle.velo_search.proofs.free.clear_ones.Goals as goal

pub loop-place-preserved : goal.loop-place-preserved
loop-place-preserved c =
    let script = c.args.script.now in
    let notes = c.args.notes.now in
    let t = c.args.thread in
    let locks = c.args.locks in
    let i = c.loop-place.place in
    let k = slice_index_or script i blank_kind in
    let clear = c.loop-place.clear.items in
    let held = c.loop-place.held.locks.items in
    let b = c.are_clear.result in
    let inv = c.loop-place.invariant in
    let within : i < length script = search rules in
    let is : k ≡ slice_index_or script i k = get_or_default script i blank_kind k within in
    let items : c.push_reserved.new.self.items ≡ clear ++ b ∷ [] = c.push_reserved.ensures.items ∙ ap (λ xs. xs ++ b ∷ []) c.reserve.ensures.items in
    let one = length-append clear (b ∷ []) in
    record {
      count = ap length items ∙ (let long : length (clear ++ b ∷ []) ≡ i + 1 = omega (arith, one, inv.count) in long);
      held = subst (λ ks. AreHeld locks ks c.take_in.new.self.locks.items) (sym (take-next_kind script i k within is)) (c.take_in.ensures locks (take i script) inv.held);
      clear = subst (λ bs. (j : ℕ) (l : Kind) (mark : Bool) → slice_get script j ≡ Some l → slice_get bs j ≡ Some mark → IsMarkOf notes locks t (take j script) l mark) (sym items)
          (mark-next notes locks t script clear b k (omega (arith, within, inv.count)) (is ∙ ap (λ n. slice_index_or script n k) (sym inv.count)) inv.clear
          (record { mine = held; held = subst (λ n. AreHeld locks (take n script) held) (sym inv.count) inv.held; is = c.are_clear.ensures }));
    }
