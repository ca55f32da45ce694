use Rattle.std.proofs.Common.{◌≡◌, ◌≤◌, ◌∙◌, List, None, subst, sym, ap, length, map, drop}
use Rattle.std.proofs.lemmas.List.{length-map}
use Rattle.velo_workload.specs.declared.statement.Statement.{Statement}
use Rattle.velo_workload.specs.Phrase.{Phrase, phrases}
use Rattle.velo_workload.specs.Outline.{Names, Judges, names_in}
use Rattle.velo_workload.specs.Known.{known_of}
use Rattle.velo_workload.specs.Bodies.{AreBodies}
use Rattle.velo_workload.specs.Sketch.{Sketches, sketches_of, drafted, unknown_in_sketches, bodies_completed, AreSketches}
use Rattle.velo_workload.specs.Program.{bodies}
use Rattle.velo_workload.proofs.OnNested.{AreBodies-parsed}
use Rattle.velo_workload.proofs.OnParsing.{count_bodies, first_wrong, second_wrong, all_right}
use Rattle.velo_workload.proofs.OnReading.{wrong, some_thread}
use Rattle.velo_workload.proofs.workload.parse_into.Goals as goal

-- what the drafts come to are the bodies of all lines
bodies_found : (names : Names) (ps : List Phrase) (b : Sketches) (found : List (List Statement)) → AreSketches names ps b → unknown_in_sketches names (drafted b) ≡ None
    → found ≡ drop 1 (bodies_completed names (drafted b)) → found ≡ bodies names ps
bodies_found names ps b found are fine e = e ∙ ap (drop 1) (are.bodies fine)

pub assemble-requires-clause-each : goal.assemble-requires-clause-each
assemble-requires-clause-each c =
    let ps = phrases c.args.text.now in
    let names = names_in (known_of c.read.new.self) in
    let are = subst (λ names. AreSketches names ps (sketches_of c.read.new.bodies)) (sym c.in-Ok.ensures.names) c.in-Ok.ensures.bodies in
    let found = bodies_found names ps (sketches_of c.read.new.bodies) _ are c.in-Ok-bodies_of.ensures.judged c.in-Ok-bodies_of.ensures.bodies in
    sym (length-map c.in-Ok-bodies_of.bodies.items (λ body. body.items)) ∙ ap length found ∙ count_bodies names ps ∙ ap (λ (names : Names). length names.threads) (sym c.in-Ok.ensures.names)

pub returns-in-Err : goal.returns-in-Err
returns-in-Err c = first_wrong c.args.text.now c.in-Err.fault c.in-Err.ensures.judged

pub returns-in-Err-bodies_of : goal.returns-in-Err-bodies_of
returns-in-Err-bodies_of c =
    let ps = phrases c.args.text.now in
    let names = names_in (known_of c.read.new.self) in
    let are = subst (λ names. AreSketches names ps (sketches_of c.read.new.bodies)) (sym c.in-Ok.ensures.names) c.in-Ok.ensures.bodies in
    let judged = subst (λ f. Judges f (wrong c.in-Err-bodies_of.fault)) are.fault c.in-Err-bodies_of.ensures.judged in
    second_wrong c.args.text.now names c.in-Err-bodies_of.fault c.in-Ok.ensures.names c.in-Ok.ensures.judged judged

pub returns-in-Ok-assemble : goal.returns-in-Ok-assemble
returns-in-Ok-assemble c =
    let ps = phrases c.args.text.now in
    let names = names_in (known_of c.read.new.self) in
    let are = subst (λ names. AreSketches names ps (sketches_of c.read.new.bodies)) (sym c.in-Ok.ensures.names) c.in-Ok.ensures.bodies in
    let found = bodies_found names ps (sketches_of c.read.new.bodies) _ are c.in-Ok-bodies_of.ensures.judged c.in-Ok-bodies_of.ensures.bodies in
    let all_known = sym are.fault ∙ c.in-Ok-bodies_of.ensures.judged in
    all_right c.args.text.now names (map (λ body. body.items) c.in-Ok-bodies_of.bodies.items) c.in-Ok-assemble.workload c.in-Ok.ensures.names c.in-Ok.ensures.judged all_known found c.in-Ok-assemble.ensures

pub assemble-requires-clause-nested : goal.assemble-requires-clause-nested
assemble-requires-clause-nested c =
    let ps = phrases c.args.text.now in
    let names = names_in (known_of c.read.new.self) in
    let are = subst (λ names. AreSketches names ps (sketches_of c.read.new.bodies)) (sym c.in-Ok.ensures.names) c.in-Ok.ensures.bodies in
    let found = bodies_found names ps (sketches_of c.read.new.bodies) _ are c.in-Ok-bodies_of.ensures.judged c.in-Ok-bodies_of.ensures.bodies in
    subst AreBodies (sym found) (AreBodies-parsed names ps c.in-Ok.ensures.judged)

pub assemble-requires-clause-some_thread : goal.assemble-requires-clause-some_thread
assemble-requires-clause-some_thread c =
    subst (λ (names : Names). 1 ≤ length names.threads) (sym c.in-Ok.ensures.names) (some_thread (phrases c.args.text.now) c.in-Ok.ensures.judged)
