use Rattle.std.proofs.Common.{◌≡◌, ◌<◌, ◌+◌, [], ◌∷◌, ◌++◌, length, length-append, map, take, Some, sym, ap, ◌∙◌, subst, arith, rules, ℕ}
use Rattle.std.specs.Prelude.{slice_get, unwrap_or}
use Rattle.std.proofs.lemmas.List.{length-map}
use Rattle.velo_events.specs.declared.event.Kind.{Kind}
use Rattle.velo_filter.specs.Tables.{left_of}
use Rattle.velo_search.specs.Parts.{LeftOut, open_behind, part_at, part_of}
use Rattle.velo_search.specs.Runs.{script_of}
use Rattle.velo_search.proofs.OnNotes.{of_those}
use Rattle.velo_search.proofs.OnNoting.{list-here}
use Rattle.velo_search.proofs.OnOpenBlocks.{parts-next}
use Rattle.velo_search.proofs.parts.parts_of.Goals as goal

pub loop-thread-preserved : goal.loop-thread-preserved
loop-thread-preserved c =
    let scripts = map (λ v. v.items) c.args.scripts.now in
    let left = left_of c.args.left.now in
    let t = c.loop-thread.thread in
    let parts = c.loop-thread.parts.items in
    let own = c.in_ok-own.own in
    let inv = c.loop-thread.invariant in
    let within : t < length c.args.scripts.now = search rules in
    let script : script_of scripts t ≡ c.deref.result.now = list-here (λ v. v.items) c.args.scripts.now t c.index-scripts-thread.result within c.index-scripts-thread.is ∙ sym c.deref.ensures.value in
    let here : script_of scripts (length parts) ≡ c.deref.result.now = ap (script_of scripts) inv.count ∙ script in
    let items : c.push_reserved.new.self.items ≡ parts ++ own ∷ [] = c.push_reserved.ensures.items ∙ ap (λ xs. xs ++ own ∷ []) c.reserve.ensures.items in
    let one = length-append parts (own ∷ []) in
    record {
      count = ap length items ∙ (let long : length (parts ++ own ∷ []) ≡ t + 1 = omega (arith, one, inv.count) in long);
      each = subst (λ xs. (u i : ℕ) (k : Kind) → u < t + 1 → slice_get (script_of scripts u) i ≡ Some k → part_at (map (λ v. v.items) xs) u i ≡ part_of left (open_behind left (take i (script_of scripts u))) k) (sym items)
          (λ u i k below there. parts-next (λ v. v.items) scripts parts own (λ u i k p. p ≡ part_of left (open_behind left (take i (script_of scripts u))) k)
          (λ v j l earlier due. inv.each v j l (omega (arith, earlier, inv.count)) due)
          (λ j l due.
          ap (λ o. unwrap_or o LeftOut) (c.in_ok-own.ensures.each j l (ap (λ ks. slice_get ks j) (sym here) ∙ due))
          ∙ ap (λ ks. part_of left (open_behind left (take j ks)) l) (sym here))
          u i k (omega (arith, below, inv.count)) there);
    }

pub returns : goal.returns
returns c =
    let scripts = map (λ v. v.items) c.args.scripts.now in
    let long = length-map c.args.scripts.now (λ v. v.items) in
    record {
      each = λ t i k due.
          let below = of_those scripts t i k due in
          c.loop-thread.invariant.each t i k (omega (arith, below, long, c.loop-thread-test.false)) due;
    }
