use Rattle.std.proofs.Common.{sym, subst, ◌∙◌, ⊎_elim, inl, inr}
use Rattle.velo_traces.specs.Numbers.{Rows, IsLookedUp}
use Rattle.velo_traces.specs.Places.{sizes, HasPlaces}
use Rattle.velo_traces.proofs.OnRows.{look_up-plain, look_up-read, look_up-write, look_up-handled}
use Rattle.velo_traces.proofs.table.ConflictTable.look_up.Goals as goal

pub returns-in-Shared : goal.returns-in-Shared
returns-in-Shared c =
    let places = subst (λ (rows : Rows). HasPlaces (sizes rows) c.args.event) (sym c.self.view_is) c.requires in
    subst (λ rows. IsLookedUp rows c.args.event c.max.result) c.self.view_is
    (look_up-read _ c.args.event places c.index.result.now c.index-2.result.now c.max-near.result c.index.ensures c.index-2.ensures c.max-near.ensures
    c.in-Shared.c c.index-in-Shared.result.now c.max.result (sym c.access.ensures ∙ c.in-Shared.is) c.index-in-Shared.ensures c.max.ensures)

pub returns-in-Exclusive : goal.returns-in-Exclusive
returns-in-Exclusive c =
    let places = subst (λ (rows : Rows). HasPlaces (sizes rows) c.args.event) (sym c.self.view_is) c.requires in
    subst (λ rows. IsLookedUp rows c.args.event c.max-in-Exclusive-2.result) c.self.view_is
    (look_up-write _ c.args.event places c.index.result.now c.index-2.result.now c.max-near.result c.index.ensures c.index-2.ensures c.max-near.ensures
    c.in-Exclusive.c c.index-in-Exclusive.result.now c.max-in-Exclusive.result c.index-in-Exclusive-2.result.now c.max-in-Exclusive-2.result
    (sym c.access.ensures ∙ c.in-Exclusive.is) c.index-in-Exclusive.ensures c.max-in-Exclusive.ensures c.index-in-Exclusive-2.ensures c.max-in-Exclusive-2.ensures)

pub returns-in-Fork : goal.returns-in-Fork
returns-in-Fork c =
    let places = subst (λ (rows : Rows). HasPlaces (sizes rows) c.args.event) (sym c.self.view_is) c.requires in
    subst (λ rows. IsLookedUp rows c.args.event c.max-in-Fork.result) c.self.view_is
    (look_up-handled _ c.args.event places c.index.result.now c.index-2.result.now c.max-near.result c.index.ensures c.index-2.ensures c.max-near.ensures
    c.in-Fork.u c.index-in-Fork.result.now c.max-in-Fork.result (⊎_elim (λ is. inl (sym c.access.ensures ∙ is)) (λ is. inr (sym c.access.ensures ∙ is)) c.in-Fork.is) c.index-in-Fork.ensures c.max-in-Fork.ensures)

pub returns-in-Nothing : goal.returns-in-Nothing
returns-in-Nothing c =
    let places = subst (λ (rows : Rows). HasPlaces (sizes rows) c.args.event) (sym c.self.view_is) c.requires in
    subst (λ rows. IsLookedUp rows c.args.event c.max-near.result) c.self.view_is
    (look_up-plain _ c.args.event places c.index.result.now c.index-2.result.now c.max-near.result c.index.ensures c.index-2.ensures c.max-near.ensures (sym c.access.ensures ∙ c.in-Nothing.is))
