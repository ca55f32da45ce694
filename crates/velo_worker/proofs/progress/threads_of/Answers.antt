use Rattle.std.proofs.Common.{◌≡◌, ◌+◌, List, [], ◌∷◌, ◌++◌, ◌∙◌, ℕ, ap, sym, map, take, Some, arith}
use Rattle.std.specs.Prelude.{slice_get}
use Rattle.std.proofs.lemmas.List.{map_more}
use Rattle.std.proofs.lemmas.Option.{slice_get_within, get_or_from_slice_get}
use Rattle.velo_worker.specs.Progress.{start_of}
use Rattle.velo_worker.proofs.progress.threads_of.Goals as goal

map_next : {X Y : Type 0} (f : X → Y) (xs : List X) (i : ℕ) (x : X) → slice_get xs i ≡ Some x → map f (take (i + 1) xs) ≡ map f (take i xs) ++ f x ∷ []
map_next f xs i x here =
    map_more f xs i x (slice_get_within xs i x here) ∙ ap (λ y. map f (take i xs) ++ f y ∷ []) (get_or_from_slice_get xs i x x here)

pub loop-thread-preserved : goal.loop-thread-preserved
loop-thread-preserved c =
    let l = c.loop-thread in
    let bodies = c.args.workload.now.bodies in record {
      items = c.push_reserved.ensures.items
          ∙ ap (λ xs. xs ++ c.in_ok-start.field-0 ∷ []) l.invariant.items
          ∙ ap (λ p. map start_of (take l.thread bodies) ++ p ∷ []) c.in_ok-start.ensures
          ∙ sym (map_next start_of bodies l.thread c.body.result.now c.body.ensures.here);
      len = omega (arith, c.push_reserved.ensures.len, l.invariant.len);
      room = omega (arith, c.push_reserved.ensures.capacity, l.invariant.room);
    }
