use Rattle.std.proofs.Common.{◌≡◌, ℕ, ◌+◌, List, [], ◌∷◌, ◌++◌, length, map, replicate, sym, ap, ◌∙◌, arith, rules}
use Rattle.std.specs.FinSet as set
use Rattle.std.proofs.lemmas.List.{length-map, length-replicate, map-append, replicate-append-replicate}
use Rattle.velo_graph.proofs.rows.empty_rows.Goals as goal

mapped-more : {X Y : Type 0} (f : X → Y) (xs ys : List X) (x : X) (n : ℕ) (y : Y) → ys ≡ xs ++ x ∷ [] → map f xs ≡ replicate n y → f x ≡ y → map f ys ≡ replicate (n + 1) y
mapped-more f xs ys x n y more so_far is =
    ap (map f) more ∙ map-append f xs (x ∷ []) ∙ ap (λ zs. zs ++ f x ∷ []) so_far ∙ ap (λ z. replicate n y ++ z ∷ []) is ∙ replicate-append-replicate n 1 y

pub loop-slot-preserved : goal.loop-slot-preserved
loop-slot-preserved g c =
    let so_far = c.loop-slot.invariant in
    let more = c.push_reserved.ensures.items in
    let row = c.in_ok-row.row in (
      mapped-more g.A.Ancestors.members c.loop-slot.rows.items c.push_reserved.new.self.items row c.loop-slot._slot _ more so_far.0 c.in_ok-row.ensures.none,
      mapped-more g.A.Ancestors.capacity c.loop-slot.rows.items c.push_reserved.new.self.items row c.loop-slot._slot _ more so_far.1 c.in_ok-row.ensures.capacity,
      omega (arith, c.push_reserved.ensures.capacity, so_far.2),
    )

pub push_reserved-requires : goal.push_reserved-requires
push_reserved-requires g c =
    let items = c.loop-slot.rows.items in
    let so_far = c.loop-slot.invariant in
    let len : length items ≡ c.loop-slot._slot = sym (length-map items g.A.Ancestors.capacity) ∙ ap length so_far.1 ∙ length-replicate c.loop-slot._slot c.args.limit in
    omega (arith, len, c.loop-slot.rows.ok.0, so_far.2, c.loop-slot-test.true)

pub returns-clause-members : goal.returns-clause-members
returns-clause-members g c =
    let all : c.loop-slot._slot ≡ c.args.limit = omega (arith, c.loop-slot-test.false, c.loop-slot.auto._slot-end) in
    c.loop-slot.invariant.0 ∙ ap (λ k. replicate k set.empty) all

pub returns-clause-capacities : goal.returns-clause-capacities
returns-clause-capacities g c =
    let all : c.loop-slot._slot ≡ c.args.limit = omega (arith, c.loop-slot-test.false, c.loop-slot.auto._slot-end) in
    c.loop-slot.invariant.1 ∙ ap (λ k. replicate k c.args.limit) all
