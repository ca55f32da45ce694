use Rattle.std.proofs.Common.{◌≡◌, ◌<◌, ◌≤◌, ◌+◌, Bool, false, [], ◌∷◌, ◌++◌, length, length-append, map, take, Some, sym, ap, ◌∙◌, subst, arith, rules, ℕ, ⊎_elim}
use Rattle.std.specs.Prelude.{slice_get, slice_index_or, unwrap_or}
use Rattle.std.proofs.lemmas.Bool.{cases_lt}
use Rattle.std.proofs.lemmas.List.{get_or_past, length-map}
use Rattle.velo_events.specs.declared.event.Kind.{Kind}
use Rattle.velo_search.specs.Free.{is_free_at, is_marked, AreHeld}
use Rattle.velo_search.specs.Runs.{script_of}
use Rattle.velo_search.proofs.OnNotes.{is_clear-free, of_those}
use Rattle.velo_search.proofs.OnNoting.{counts-next, list-here, marks-each, marks-next}
use Rattle.velo_search.proofs.free.free_ones.Goals as goal

pub loop-thread-preserved : goal.loop-thread-preserved
loop-thread-preserved c =
    let scripts = map (λ v. v.items) c.args.scripts.now in
    let locks = c.args.locks in
    let notes = c.in_ok-notes.notes in
    let t = c.loop-thread.thread in
    let free = c.loop-thread.free.items in
    let own = c.in_ok-own.own in
    let inv = c.loop-thread.invariant in
    let within : t < length c.args.scripts.now = search rules in
    let script : script_of scripts t ≡ c.deref.result.now = list-here (λ v. v.items) c.args.scripts.now t c.index-scripts-thread.result within c.index-scripts-thread.is ∙ sym c.deref.ensures.value in
    let here : script_of scripts (length free) ≡ c.deref.result.now = ap (script_of scripts) inv.count ∙ script in
    let items : c.push_reserved.new.self.items ≡ free ++ own ∷ [] = c.push_reserved.ensures.items ∙ ap (λ xs. xs ++ own ∷ []) c.reserve.ensures.items in
    let one = length-append free (own ∷ []) in
    let mark : (i : ℕ) (k : Kind) (b : Bool) → slice_get c.deref.result.now i ≡ Some k → slice_get own.items i ≡ Some b → b ≡ is_free_at locks scripts t i k =
    λ i k b due marked.
    let w = c.in_ok-own.ensures.each i k b due marked in
    w.is ∙ is_clear-free notes scripts locks c.in_ok-notes.ensures t i k w.mine (subst (λ ks. AreHeld locks (take i ks) w.mine) (sym script) w.held) in
    record {
      count = ap length items ∙ (let long : length (free ++ own ∷ []) ≡ t + 1 = omega (arith, one, inv.count) in long);
      same = subst (λ xs. (u : ℕ) → u < t + 1 → length (slice_index_or (map (λ v. v.items) xs) u []) ≡ length (script_of scripts u)) (sym items)
          (λ u below. counts-next (λ v. v.items) scripts free own (λ v earlier. inv.same v (omega (arith, earlier, inv.count))) (c.in_ok-own.ensures.count ∙ ap length (sym here)) u (omega (arith, below, inv.count)));
      each = subst (λ xs. (u i : ℕ) (k : Kind) → u < t + 1 → slice_get (script_of scripts u) i ≡ Some k → is_marked (map (λ v. v.items) xs) u i ≡ is_free_at locks scripts u i k) (sym items)
          (λ u i k below there. marks-next (λ v. v.items) scripts free own (λ u i k b. b ≡ is_free_at locks scripts u i k)
          (λ v j l earlier due. inv.each v j l (omega (arith, earlier, inv.count)) due)
          (λ j l due. subst (λ n. unwrap_or (slice_get own.items j) false ≡ is_free_at locks scripts n j l) (sym inv.count)
          (marks-each {P = λ j l b. b ≡ is_free_at locks scripts t j l} c.deref.result.now own.items c.in_ok-own.ensures.count mark j l (ap (λ ks. slice_get ks j) (sym here) ∙ due)))
          u i k (omega (arith, below, inv.count)) there);
    }

pub returns : goal.returns
returns c =
    let scripts = map (λ v. v.items) c.args.scripts.now in
    let long = length-map c.args.scripts.now (λ v. v.items) in
    let marks = map (λ v. v.items) c.loop-thread.free.items in
    let longs = length-map c.loop-thread.free.items (λ v. v.items) in
    let inv = c.loop-thread.invariant in
    record {
      same = λ t. ⊎_elim
          (λ (below : t < length scripts). inv.same t (omega (arith, below, long, c.loop-thread-test.false)))
          (λ (past : length scripts ≤ t). ap length (get_or_past marks t [] (omega (arith, past, long, longs, inv.count, c.loop-thread-test.false))) ∙ ap length (sym (get_or_past scripts t [] past)))
          (cases_lt t (length scripts));
      each = λ t i k due.
          let below = of_those scripts t i k due in
          inv.each t i k (omega (arith, below, long, c.loop-thread-test.false)) due;
    }
