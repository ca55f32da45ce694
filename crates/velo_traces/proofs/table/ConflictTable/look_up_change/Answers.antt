use Rattle.std.proofs.Common.{sym, subst, ◌∙◌, ⊎_elim, inl, inr}
use Rattle.velo_traces.specs.Numbers.{Rows, IsChangeLookedUp}
use Rattle.velo_traces.specs.Places.{sizes, HasPlaces}
use Rattle.velo_traces.proofs.OnRows.{change-written, change-handled, change-none}
use Rattle.velo_traces.proofs.table.ConflictTable.look_up_change.Goals as goal

pub returns-in-Shared : goal.returns-in-Shared
returns-in-Shared c =
    subst (λ rows. IsChangeLookedUp rows c.args.event c.index-in-Shared.result.now) c.self.view_is
    (change-written _ c.args.event (subst (λ (rows : Rows). HasPlaces (sizes rows) c.args.event) (sym c.self.view_is) c.requires) c.in-Shared.c c.index-in-Shared.result.now
    (⊎_elim (λ is. inl (sym c.access.ensures ∙ is)) (λ is. inr (sym c.access.ensures ∙ is)) c.in-Shared.is) c.index-in-Shared.ensures)

pub returns-in-Fork : goal.returns-in-Fork
returns-in-Fork c =
    subst (λ rows. IsChangeLookedUp rows c.args.event c.index.result.now) c.self.view_is
    (change-handled _ c.args.event (subst (λ (rows : Rows). HasPlaces (sizes rows) c.args.event) (sym c.self.view_is) c.requires) c.in-Fork.u c.index.result.now
    (⊎_elim (λ is. inl (sym c.access.ensures ∙ is)) (λ is. inr (sym c.access.ensures ∙ is)) c.in-Fork.is) c.index.ensures)

pub returns-in-Nothing : goal.returns-in-Nothing
returns-in-Nothing c = change-none c.args.self.now c.args.event (sym c.access.ensures ∙ c.in-Nothing.is)
