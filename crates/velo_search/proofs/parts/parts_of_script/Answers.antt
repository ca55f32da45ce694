use Rattle.std.proofs.Common.{◌≡◌, ◌<◌, ◌+◌, [], ◌∷◌, ◌++◌, length, length-append, reverse, take, Some, sym, ap, ◌∙◌, subst, arith, rules, ℕ}
use Rattle.std.specs.Prelude.{slice_get, slice_index_or}
use Rattle.std.proofs.lemmas.List.{get_or_default}
use Rattle.std.proofs.lemmas.Option.{slice_get_within}
use Rattle.velo_events.specs.declared.event.Kind.{Kind}
use Rattle.velo_events.proofs.OnTraces.{slice_get-append, slice_get-push}
use Rattle.velo_filter.specs.Tables.{left_of}
use Rattle.velo_search.specs.Parts.{open_after, open_behind, part_of}
use Rattle.velo_search.proofs.OnNoting.{at_or_before, blank_kind, take-next_kind}
use Rattle.velo_search.proofs.OnPartsOf.{open_behind-nil, open_from-push}
use Rattle.velo_search.proofs.parts.parts_of_script.Goals as goal

pub loop-place-init : goal.loop-place-init
loop-place-init c = record {
  count = ap length c.in_ok-parts.ensures.items;
  open_there = ap reverse c.none-blocks.ensures ∙ sym (open_behind-nil (left_of c.args.left.now));
  each = λ i k below. absurd (omega (arith, below));
}

pub loop-place-preserved : goal.loop-place-preserved
loop-place-preserved c =
    let left = left_of c.args.left.now in
    let script = c.args.script.now in
    let i = c.loop-place.place in
    let k = slice_index_or script i blank_kind in
    let parts = c.loop-place.parts.items in
    let part = c.in_ok-part.part in
    let inv = c.loop-place.invariant in
    let within : i < length script = search rules in
    let is : k ≡ slice_index_or script i k = get_or_default script i blank_kind k within in
    let items : c.push_reserved.new.self.items ≡ parts ++ part ∷ [] = c.push_reserved.ensures.items ∙ ap (λ xs. xs ++ part ∷ []) c.reserve.ensures.items in
    let one = length-append parts (part ∷ []) in
    let here : part ≡ part_of left (open_behind left (take i script)) k = c.in_ok-part.ensures.part ∙ ap (λ outs. part_of left outs k) inv.open_there in
    record {
      count = ap length items ∙ (let long : length (parts ++ part ∷ []) ≡ i + 1 = omega (arith, one, inv.count) in long);
      open_there =
          c.in_ok-part.ensures.blocks
          ∙ (ap (λ outs. open_after left outs k) inv.open_there
          ∙ (sym (open_from-push left [] (take i script) k) ∙ ap (open_behind left) (sym (take-next_kind script i k within is))));
      each = subst (λ xs. (j : ℕ) (l : Kind) → j < i + 1 → slice_get script j ≡ Some l → slice_get xs j ≡ Some (part_of left (open_behind left (take j script)) l)) (sym items)
          (at_or_before {P = λ j l. slice_get (parts ++ part ∷ []) j ≡ Some (part_of left (open_behind left (take j script)) l)} script i k within is
          (λ j l below due. slice_get-append parts (part ∷ []) j (omega (arith, below, inv.count)) ∙ inv.each j l below due)
          (ap (slice_get (parts ++ part ∷ [])) (sym inv.count) ∙ (slice_get-push parts part ∙ ap Some here)));
    }

pub returns-clause-each : goal.returns-clause-each
returns-clause-each c = λ i k due.
    let within = slice_get_within c.args.script.now i k due in
    c.loop-place.invariant.each i k (omega (arith, within, c.loop-place-test.false, c.loop-place.auto.place-end)) due
