use Rattle.std.proofs.Common.{◌≡◌, sym, [], ◌∷◌, ◌++◌, IsTrue, ◌↔◌, false, ap, ◌∙◌, subst}
use Rattle.std.specs.Option.{option_to_list}
use Rattle.velo_events.specs.Event.{thread_of}
use Rattle.velo_events.specs.Place.{LastOf}
use Rattle.velo_tables.specs.LastAccesses.{entry, steps_looked_up}
use Rattle.velo_graph.specs.Nodes.{AddsEdges}
use Rattle.velo_monitor.specs.Watched.{Watched}
use Rattle.velo_monitor.specs.Steps.{live_slots, ReachesSome}
use Rattle.velo_monitor.proofs.OnOwn.{closes-all, adds-all, adds-nothing, reaches-nothing}
use Rattle.velo_monitor.proofs.OnOthers.{closes-write, adds-write}
use Rattle.velo_monitor.proofs.monitor.Monitor.closes_or_extends.Goals as goal

pub returns-in-Exclusive-clause-closes : goal.returns-in-Exclusive-clause-closes
returns-in-Exclusive-clause-closes c =
    let w = c.args.self.now in
    closes-write w.nodes w.kept c.args.event.now c.args.own c.in-Exclusive.cell (sym c.access.ensures ∙ c.in-Exclusive.is) c.requires.current c.closes_or_follows.result c.closes_or_follows.ensures.closes

pub returns-in-Exclusive-clause-adds : goal.returns-in-Exclusive-clause-adds
returns-in-Exclusive-clause-adds c going =
    let w = c.args.self.now in
    adds-write w.nodes w.kept c.args.event.now c.args.own c.in-Exclusive.cell (sym c.access.ensures ∙ c.in-Exclusive.is) c.requires.current c.closes_or_follows.new.self.nodes c.requires.borne (c.closes_or_follows.ensures.adds going)

pub returns-in-Some-clause-closes : goal.returns-in-Some-clause-closes
returns-in-Some-clause-closes c =
    let w = c.args.self.now in
    let e = c.args.event.now in
    let looked : steps_looked_up w.kept e ≡ c.args.own ∷ c.in-Some.step ∷ [] =
    subst (λ (v : Watched). steps_looked_up v.kept e ≡ option_to_list (entry v.kept (LastOf (thread_of e))) ++ option_to_list c.step_beside.result) c.self.view_is c.step_beside.ensures
    ∙ (ap (λ o. option_to_list o ++ option_to_list c.step_beside.result) c.requires.current ∙ ap (λ o. c.args.own ∷ option_to_list o) c.in-Some.is) in
    closes-all w.nodes c.args.own (c.in-Some.step ∷ []) (steps_looked_up w.kept e) c.closes_or_adds.result looked
    (subst (λ (v : Watched). IsTrue c.closes_or_adds.result ↔ ReachesSome v.nodes c.args.own.slot (c.in-Some.step ∷ [])) c.self.view_is c.closes_or_adds.ensures.closes)

pub returns-in-Some-clause-adds : goal.returns-in-Some-clause-adds
returns-in-Some-clause-adds c going =
    let w = c.args.self.now in
    let e = c.args.event.now in
    let looked : steps_looked_up w.kept e ≡ c.args.own ∷ c.in-Some.step ∷ [] =
    subst (λ (v : Watched). steps_looked_up v.kept e ≡ option_to_list (entry v.kept (LastOf (thread_of e))) ++ option_to_list c.step_beside.result) c.self.view_is c.step_beside.ensures
    ∙ (ap (λ o. option_to_list o ++ option_to_list c.step_beside.result) c.requires.current ∙ ap (λ o. c.args.own ∷ option_to_list o) c.in-Some.is) in
    adds-all w.nodes c.args.own (c.in-Some.step ∷ []) c.closes_or_adds.new.graph (steps_looked_up w.kept e) looked c.requires.borne
    (subst (λ (v : Watched). AddsEdges v.nodes c.closes_or_adds.new.graph (live_slots v.nodes (c.in-Some.step ∷ [])) c.args.own.slot) c.self.view_is (c.closes_or_adds.ensures.adds going))

pub returns-in-None-clause-closes : goal.returns-in-None-clause-closes
returns-in-None-clause-closes c =
    let w = c.args.self.now in
    let e = c.args.event.now in
    let looked : steps_looked_up w.kept e ≡ c.args.own ∷ [] =
    subst (λ (v : Watched). steps_looked_up v.kept e ≡ option_to_list (entry v.kept (LastOf (thread_of e))) ++ option_to_list c.step_beside.result) c.self.view_is c.step_beside.ensures
    ∙ (ap (λ o. option_to_list o ++ option_to_list c.step_beside.result) c.requires.current ∙ ap (λ o. c.args.own ∷ option_to_list o) c.in-None.is) in
    closes-all w.nodes c.args.own [] (steps_looked_up w.kept e) false looked (λ yes. absurd (cc), λ some. absurd (reaches-nothing w.nodes c.args.own.slot some))

pub returns-in-None-clause-adds : goal.returns-in-None-clause-adds
returns-in-None-clause-adds c going =
    let w = c.args.self.now in
    let e = c.args.event.now in
    let looked : steps_looked_up w.kept e ≡ c.args.own ∷ [] =
    subst (λ (v : Watched). steps_looked_up v.kept e ≡ option_to_list (entry v.kept (LastOf (thread_of e))) ++ option_to_list c.step_beside.result) c.self.view_is c.step_beside.ensures
    ∙ (ap (λ o. option_to_list o ++ option_to_list c.step_beside.result) c.requires.current ∙ ap (λ o. c.args.own ∷ option_to_list o) c.in-None.is) in
    adds-all w.nodes c.args.own [] w.nodes (steps_looked_up w.kept e) looked c.requires.borne (adds-nothing w.nodes c.args.own.slot)
