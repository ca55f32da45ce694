use Rattle.std.proofs.Common.{ℕ, sym, subst, arith}
use Rattle.std.specs.Prelude.{is_some, IsTrue}
use Rattle.std.proofs.lemmas.List.{with_items_is}
use Rattle.velo_arena.specs.Slots.{node_in, is_finished_in}
use Rattle.velo_arena.specs.Heirs.{heir_in}
use Rattle.velo_graph.specs.Nodes.{Nodes}
use Rattle.velo_graph.proofs.OnCollecting.{used_of_finished}
use Rattle.velo_graph.proofs.OnLeaving.{leaves-all, leaves_from}
use Rattle.velo_graph.proofs.graph.Graph.leave_out.Goals as goal

pub invariant_of-self : goal.invariant_of-self
invariant_of-self g c =
    let inner = c.self.inside in
    let back = with_items_is inner.rows c.leave_out_first.new.rows (omega (arith, c.leave_out_first.auto.rows, c.deref_mut-2.ensures.len)) in
    let marks_back = with_items_is inner.may_have_descendants c.leave.new.may_have_descendants (omega (arith, c.leave.auto.may_have_descendants, c.deref_mut.ensures.len)) in
    let done = subst (λ (nodes : Nodes). (k : ℕ) → IsTrue (is_some (heir_in c.args.heirs.now k)) → IsTrue (is_finished_in nodes.slots k)) (sym c.self.view_is) c.requires.finished in
    let used = λ (k : ℕ) (some : IsTrue (is_some (heir_in c.args.heirs.now k))). used_of_finished (node_in inner.arena k) (done k some) in
    (leaves-all g.A.Ancestors.members g.A.Ancestors.capacity inner.arena c.leave.new.arena inner.rows.items c.deref_mut-2.result.now c.leave_out_first.new.rows _ inner.may_have_descendants.items c.deref_mut.result.now c.leave.new.may_have_descendants _ (g.A.Ancestors.members inner.unfinished) (g.A.Ancestors.members c.leave.new.gone) c.args.heirs.now (g.A.Ancestors.capacity inner.unfinished) c.extent-end.result (g.A.Ancestors.capacity inner.carried) (g.A.Ancestors.capacity c.leave.new.gone) c.self.invariant c.deref_mut-2.ensures.value back c.deref_mut.ensures.value marks_back c.extent-end.ensures.used_below done used c.leave.ensures.vacates c.leave.ensures.heirs c.leave.ensures.marks c.leave_out_first.ensures.members c.leave_out_first.ensures.capacities c.leave.ensures.capacity).0

pub returns-clause-leaves : goal.returns-clause-leaves
returns-clause-leaves g c =
    let inner = c.self.inside in
    let back = with_items_is inner.rows c.leave_out_first.new.rows (omega (arith, c.leave_out_first.auto.rows, c.deref_mut-2.ensures.len)) in
    let marks_back = with_items_is inner.may_have_descendants c.leave.new.may_have_descendants (omega (arith, c.leave.auto.may_have_descendants, c.deref_mut.ensures.len)) in
    let done = subst (λ (nodes : Nodes). (k : ℕ) → IsTrue (is_some (heir_in c.args.heirs.now k)) → IsTrue (is_finished_in nodes.slots k)) (sym c.self.view_is) c.requires.finished in
    let used = λ (k : ℕ) (some : IsTrue (is_some (heir_in c.args.heirs.now k))). used_of_finished (node_in inner.arena k) (done k some) in
    leaves_from _ _ _ c.args.heirs.now c.self.view_is (leaves-all g.A.Ancestors.members g.A.Ancestors.capacity inner.arena c.leave.new.arena inner.rows.items c.deref_mut-2.result.now c.leave_out_first.new.rows _ inner.may_have_descendants.items c.deref_mut.result.now c.leave.new.may_have_descendants _ (g.A.Ancestors.members inner.unfinished) (g.A.Ancestors.members c.leave.new.gone) c.args.heirs.now (g.A.Ancestors.capacity inner.unfinished) c.extent-end.result (g.A.Ancestors.capacity inner.carried) (g.A.Ancestors.capacity c.leave.new.gone) c.self.invariant c.deref_mut-2.ensures.value back c.deref_mut.ensures.value marks_back c.extent-end.ensures.used_below done used c.leave.ensures.vacates c.leave.ensures.heirs c.leave.ensures.marks c.leave_out_first.ensures.members c.leave_out_first.ensures.capacities c.leave.ensures.capacity).1

pub returns-clause-sound : goal.returns-clause-sound
returns-clause-sound g c = (invariant_of-self g c).kept.sound
