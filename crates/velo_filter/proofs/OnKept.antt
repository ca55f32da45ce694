-- What is proved of what is left holds of the log: a cycle there is one here, and a block that is to blame there is so here.
use Rattle.std.proofs.Common.{◌≡◌, ℕ, suc, ◌+◌, ◌<◌, ◌≤◌, Bool, List, length, take, refl, sym, ap, ◌∙◌, subst, arith, ⊎_elim}
use Rattle.std.specs.Prelude.{◌==◌, slice_get, slice_index, IsTrue}
use Rattle.std.proofs.lemmas.Bool.{cases_lt, cases_order, both_ways, eq-eqb, eqb-true}
use Rattle.std.proofs.lemmas.List.{length-take-le}
use Rattle.velo_events.specs.declared.event.Event.{Event}
use Rattle.velo_events.specs.Event.{thread_of, is_by, is_begin}
use Rattle.velo_events.specs.Block.{passes_at, is_in_block, owner}
use Rattle.velo_events.specs.Graph.{HasCycle}
use Rattle.velo_events.specs.Reordering.{IsReordering, IsSelfSerializable, IsSerial, IsSerializable}
use Rattle.velo_events.proofs.OnBlocks.{owner-le, owner-in_block, owner-first}
use Rattle.velo_events.proofs.OnOwners.{owner-between, passes_at-within}
use Rattle.velo_events.proofs.OnScans.{event_at, passes_at-is, owner-owner, owner-thread}
use Rattle.velo_events.proofs.OnHappening.{ConflictsInOrder-same_thread}
use Rattle.velo_events.proofs.OnSerializing.{serializable_law, cases_serial_order}
use Rattle.velo_filter.specs.Left.{Omitted, rest_of, place_of}
use Rattle.velo_filter.proofs.OnRanks.{rank, rank-stays, rank-le, rank-lt, rank-le_back, events_staying}
use Rattle.velo_filter.proofs.OnLeft.{stays, rest_of-is, sub-passes, sub-within, StandsFor, stands_for, in_block-rest}
use Rattle.velo_filter.proofs.OnRestricted.{restricted, position_within, one_place, IsReordering-restricted, AreThree, three, together}
use Rattle.velo_filter.proofs.OnPrefixesLeft.{stays-take, rank-take, rest_of-take}

-- ---- blame

module _ (left : Omitted) (log : List Event) where
  abbrev sub : List Event
  sub = events_staying log (stays left log) (length log)

  -- a block that stays, and that a reordering of the log brings together, is brought together in what is left
  self_serializable-sub : (b : ℕ) → b < length log → IsTrue (stays left log b) → IsSelfSerializable log b → IsSelfSerializable sub (rank (stays left log) b)
  unfolding passes_at
  self_serializable-sub b l h s = record {
    begun = sub-passes left log (λ e. is_begin e.kind) b l h ∙ s.begun;
    order = restricted (stays left log) s.order;
    reorders = IsReordering-restricted log (stays left log) s.order s.reorders;
    together = together log (stays left log) s.order s.reorders (is_in_block log b) (is_in_block sub (rank (stays left log) b)) (λ x m g. in_block-rest left log b x l m h g) s.together;
  }

  pub self_serializable-rest : (b : ℕ) → b < length log → IsTrue (stays left log b) → IsSelfSerializable log b → IsSelfSerializable (rest_of left log) (rank (stays left log) b)
  self_serializable-rest b l h s = subst (λ es. IsSelfSerializable es (rank (stays left log) b)) (sym (rest_of-is left log)) (self_serializable-sub b l h s)

module _ (left : Omitted) (log : List Event) where
  -- Blame stays blame: where what is left, up to one of its positions, has no reordering that brings a block together, the log as
  -- read, up to the position for which this one stands, has none either
  pub blame-rest : (p b : ℕ) → p < length (rest_of left log) → b ≤ p → ¬ IsSelfSerializable (take (p + 1) (rest_of left log)) b → ¬ IsSelfSerializable (take (place_of left log p + 1) log) (place_of left log b)
  blame-rest p b l upto blamed s =
      blamed (subst (λ es. IsSelfSerializable es b) first (subst (IsSelfSerializable (rest_of left T)) ranked (self_serializable-rest left T (place_of left log b) (let e = short in let o = in_order in omega (arith, e, o)) kept s)))
    where
      within : p < length (events_staying log (stays left log) (length log))
      within = let e = ap length (rest_of-is left log) in omega (arith, l, e)

      at_p : StandsFor left log p (place_of left log p)
      at_p = stands_for left log p within

      at_b : StandsFor left log b (place_of left log b)
      at_b = stands_for left log b (let m = within in omega (arith, upto, m))

      n : ℕ
      n = place_of left log p + 1

      most : n ≤ length log
      most = let m = at_p.within in omega (arith, m)

      T : List Event
      T = take n log

      short : length T ≡ n
      short = length-take-le n log most

      in_order : place_of left log b ≤ place_of left log p
      in_order = rank-le_back (stays left log) (place_of left log b) (place_of left log p) at_p.here (let x = at_b.ranked in let y = at_p.ranked in omega (arith, x, y, upto))

      kept : IsTrue (stays left T (place_of left log b))
      kept = stays-take left log n most (place_of left log b) (let o = in_order in omega (arith, o)) ∙ at_b.here

      ranked : rank (stays left T) (place_of left log b) ≡ b
      ranked = rank-take left log n most (place_of left log b) (let o = in_order in omega (arith, o)) ∙ at_b.ranked

      counted : rank (stays left log) n ≡ p + 1
      counted = ap (rank (stays left log)) (let one : n ≡ suc (place_of left log p) = omega arith in one) ∙ (rank-stays (stays left log) (place_of left log p) at_p.here ∙ ap (λ k. k + 1) at_p.ranked)

      first : rest_of left T ≡ take (p + 1) (rest_of left log)
      first = rest_of-take left log n most ∙ ap (λ k. take k (rest_of left log)) counted

-- ---- serializability

-- the positions of one transaction are of one thread
one_thread : (trace : List Event) (t i j : ℕ) → IsTrue (passes_at trace (is_by t) i) → j < length trace → owner trace i ≡ owner trace j → IsTrue (passes_at trace (is_by t) j)
one_thread trace t i j own within same =
    let e = event_at trace i (passes_at-within trace (is_by t) i own) in
    let f = event_at trace j within in
    let o = event_at trace (owner trace j) (let most = owner-le trace j in omega (arith, most, within)) in
    let first : thread_of o.0 ≡ thread_of e.0 = owner-thread trace i e.0 o.0 e.1 (ap (slice_get trace) same ∙ o.1) in
    let second : thread_of o.0 ≡ thread_of f.0 = owner-thread trace j f.0 o.0 f.1 o.1 in
    passes_at-is trace (is_by t) j f.0 f.1 ∙ eq-eqb (thread_of f.0) t (sym second ∙ (first ∙ eqb-true (thread_of e.0) t (sym (passes_at-is trace (is_by t) i e.0 e.1) ∙ own)))

-- two positions of one thread keep their order
in_order_of : (trace : List Event) (order : List ℕ) → IsReordering trace order → (t a b : ℕ) → a < b → b < length order → IsTrue (passes_at trace (is_by t) (slice_index order a)) → IsTrue (passes_at trace (is_by t) (slice_index order b)) → slice_index order a < slice_index order b
in_order_of trace order r t a b l within own_a own_b = ⊎_elim
    (λ same. absurd (let e = one_place trace order r a b (omega (arith, l, within)) within same in omega (arith, e, l)))
    (⊎_elim (λ less. less) (λ moved. absurd (both_ways _ (r.keeps_order a b l within moved) (ConflictsInOrder-same_thread trace t (slice_index order b) (slice_index order a) moved own_b own_a).1)))
    (cases_order (slice_index order a) (slice_index order b))

module _ (left : Omitted) (log : List Event) (order : List ℕ) (r : IsReordering log order) (serial : IsSerial log order) where
  abbrev what : List Event
  what = events_staying log (stays left log) (length log)

  abbrev at : ℕ → ℕ
  at i = rank (stays left log) i

  -- two positions of one transaction of what is left are of one transaction of the log
  one_transaction : (t x z : ℕ) → x < z → z < length log → IsTrue (stays left log x) → IsTrue (stays left log z) → IsTrue (passes_at log (is_by t) x) → IsTrue (passes_at log (is_by t) z) → owner what (at x) ≡ owner what (at z) → owner log x ≡ owner log z
  one_transaction t x z less within h g own_x own_z same =
      owner-between log t (owner log z) x z (omega (arith, first, less)) first (omega (arith, less)) own_x own_z (owner-owner log z within)
    where
      up : at x < at z
      up = rank-lt (stays left log) x z h less

      a : ℕ
      a = owner what (at z)

      below : a ≤ at x
      below = let most = owner-le what (at x) in omega (arith, most, same)

      stands : StandsFor left log a (place_of left log a)
      stands = stands_for left log a (let b = below in let u = up in let v = sub-within left log z within g in omega (arith, b, u, v))

      inside : IsTrue (is_in_block log (place_of left log a) z)
      inside = (in_block-rest left log (place_of left log a) z stands.within within stands.here g).0
          (subst (λ k. is_in_block what k (at z) ≡ Bool.true) (sym stands.ranked) (owner-in_block what (at z) (let b = below in let u = up in omega (arith, b, u))))

      early : place_of left log a ≤ x
      early = rank-le_back (stays left log) (place_of left log a) x h (let b = below in let e = stands.ranked in omega (arith, b, e))

      first : owner log z ≤ x
      first = ⊎_elim
          (λ l. absurd (both_ways _ (owner-first log z (place_of left log a) l) inside))
          (λ l. let e = early in omega (arith, l, e))
          (cases_lt (place_of left log a) (owner log z))

  serial-sub : IsSerial what (restricted (stays left log) order)
  serial-sub a k l m less more inside in_k in_m =
      ap (λ i. owner what i == a) w.at_middle ∙ eq-eqb _ a (owner-between what t (at x) (at y) (at z) (rank-lt (stays left log) x z w.first_stays x_z) (rank-le (stays left log) x y (omega (arith, x_y))) (rank-le (stays left log) y z (omega (arith, y_z)))
      (sub-passes left log (is_by t) y in_y w.middle_stays ∙ own_y) (sub-passes left log (is_by t) z in_z w.last_stays ∙ own_z) same ∙ at_z)
    where
      w : AreThree log (stays left log) order r k l m
      w = three log (stays left log) order r k l m less more inside

      x : ℕ
      x = slice_index order w.first

      y : ℕ
      y = slice_index order w.middle

      z : ℕ
      z = slice_index order w.last

      in_x : x < length log
      in_x = position_within log order r w.first (omega (arith, w.rise, w.rise_more, w.within))

      in_y : y < length log
      in_y = position_within log order r w.middle (omega (arith, w.rise_more, w.within))

      in_z : z < length log
      in_z = position_within log order r w.last w.within

      t : ℕ
      t = thread_of (event_at log x in_x).0

      at_x : owner what (at x) ≡ a
      at_x = ap (owner what) (sym w.at_first) ∙ eqb-true _ a in_k

      at_z : owner what (at z) ≡ a
      at_z = ap (owner what) (sym w.at_last) ∙ eqb-true _ a in_m

      same : owner what (at x) ≡ owner what (at z)
      same = at_x ∙ sym at_z

      own_x : IsTrue (passes_at log (is_by t) x)
      own_x = let e = event_at log x in_x in passes_at-is log (is_by t) x e.0 e.1 ∙ eq-eqb (thread_of e.0) (thread_of e.0) refl

      own_z : IsTrue (passes_at log (is_by t) z)
      own_z = sym (sub-passes left log (is_by t) z in_z w.last_stays)
          ∙ one_thread what t (at x) (at z) (sub-passes left log (is_by t) x in_x w.first_stays ∙ own_x) (sub-within left log z in_z w.last_stays) same

      x_z : x < z
      x_z = in_order_of log order r t w.first w.last (omega (arith, w.rise, w.rise_more)) w.within own_x own_z

      one : owner log x ≡ owner log z
      one = one_transaction t x z x_z in_z w.first_stays w.last_stays own_x own_z same

      between : owner log y ≡ owner log z
      between = eqb-true _ _ (serial (owner log z) w.first w.middle w.last w.rise w.rise_more w.within (eq-eqb _ _ one) (eq-eqb _ _ refl))

      own_y : IsTrue (passes_at log (is_by t) y)
      own_y = one_thread log t z y own_z in_y (sym between)

      x_y : x < y
      x_y = in_order_of log order r t w.first w.middle w.rise (omega (arith, w.rise_more, w.within)) own_x own_y

      y_z : y < z
      y_z = in_order_of log order r t w.middle w.last w.rise_more w.within own_y own_z

-- What is left of a serializable log is serializable
pub IsSerializable-rest : (left : Omitted) (log : List Event) → IsSerializable log → IsSerializable (rest_of left log)
IsSerializable-rest left log s = subst IsSerializable (sym (rest_of-is left log)) (record {
  order = restricted (stays left log) s.order;
  reorders = IsReordering-restricted log (stays left log) s.order s.reorders;
  serial = serial-sub left log s.order s.reorders s.serial;
})

-- so where what is left has a cycle, whatever was left out, the log has one
pub HasCycle-rest : (left : Omitted) (log : List Event) → HasCycle (rest_of left log) → HasCycle log
HasCycle-rest left log cyclic = ⊎_elim
    (λ c. c)
    (λ w. absurd ((serializable_law (rest_of left log)).0 cyclic (IsSerializable-rest left log (record { order = w.0; reorders = w.1.reorders; serial = w.1.serial }))))
    (cases_serial_order log)
