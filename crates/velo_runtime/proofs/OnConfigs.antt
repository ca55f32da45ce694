-- Configurations are one exactly where all their values are.
use Rattle.std.proofs.Common.{◌≡◌, ◌≤◌, refl, sym, ◌∙◌, subst, Bool, true, false}
use Rattle.std.specs.Prelude.{◌==◌, ◌&&◌, not}
use Rattle.std.proofs.lemmas.Bool.{and_parts, and_from, eqb-true, eq-eqb, false≢true, not_from_true}
use mathlib.Core.Bool.{beq}
use mathlib.Core.HLevel.{is_prop→PathP}
use native.Mathlib.Bridge.{le_prop}
use Rattle.velo_events.specs.declared.config.Bounds.{Bounds}
use Rattle.velo_events.specs.declared.config.Config.{Config}
use Rattle.velo_events.specs.declared.limits.TheConstants.{MAX_EVENTS, MAX_LOCKS, MAX_NODES, MAX_THREADS}

abbrev same_bounds : Bounds → Bounds → Bool
same_bounds a b = (a.threads == b.threads) && ((a.variables == b.variables) && (a.locks == b.locks))

abbrev pub same_values : Config → Config → Bool
same_values a b = (a.run == b.run) && (same_bounds a.bounds b.bounds && ((a.events == b.events) && ((a.nodes == b.nodes) && beq a.stop b.stop)))

same_bool : (a b : Bool) → beq a b ≡ true → a ≡ b
same_bool true true same = refl
same_bool false false same = refl
same_bool true false same = absurd (false≢true same)
same_bool false true same = absurd (false≢true same)

one_bool : (a : Bool) → beq a a ≡ true
one_bool true = refl
one_bool false = refl

bounds_by : (a b : Bounds) → a.threads ≡ b.threads → a.variables ≡ b.variables → a.locks ≡ b.locks → a ≡ b
bounds_by a b threads variables locks = λ i. record { threads = threads i; variables = variables i; locks = locks i }

bounds_from : (a b : Bounds) → same_bounds a b ≡ true → a ≡ b
bounds_from a b same =
    let threads = and_parts (a.threads == b.threads) ((a.variables == b.variables) && (a.locks == b.locks)) same in
    let rest = and_parts (a.variables == b.variables) (a.locks == b.locks) threads.1 in
    bounds_by a b (eqb-true a.threads b.threads threads.0) (eqb-true a.variables b.variables rest.0) (eqb-true a.locks b.locks rest.1)

bounds_same : (a : Bounds) → same_bounds a a ≡ true
bounds_same a =
    and_from (a.threads == a.threads) ((a.variables == a.variables) && (a.locks == a.locks)) (eq-eqb a.threads a.threads refl)
    (and_from (a.variables == a.variables) (a.locks == a.locks) (eq-eqb a.variables a.variables refl) (eq-eqb a.locks a.locks refl))

config_by : (a b : Config) → a.run ≡ b.run → a.bounds ≡ b.bounds → a.events ≡ b.events → a.nodes ≡ b.nodes → a.stop ≡ b.stop → a ≡ b
config_by a b run bounds events nodes stop = λ i. record {
  run = run i;
  bounds = bounds i;
  events = events i;
  nodes = nodes i;
  stop = stop i;
  some_thread = is_prop→PathP (λ j. 1 ≤ (bounds j).threads) (λ j x y k. le_prop x y k) a.some_thread b.some_thread i;
  few_threads = is_prop→PathP (λ j. (bounds j).threads ≤ MAX_THREADS) (λ j x y k. le_prop x y k) a.few_threads b.few_threads i;
  few_locks = is_prop→PathP (λ j. (bounds j).locks ≤ MAX_LOCKS) (λ j x y k. le_prop x y k) a.few_locks b.few_locks i;
  some_event = is_prop→PathP (λ j. 1 ≤ events j) (λ j x y k. le_prop x y k) a.some_event b.some_event i;
  few_events = is_prop→PathP (λ j. events j ≤ MAX_EVENTS) (λ j x y k. le_prop x y k) a.few_events b.few_events i;
  some_node = is_prop→PathP (λ j. 1 ≤ nodes j) (λ j x y k. le_prop x y k) a.some_node b.some_node i;
  few_nodes = is_prop→PathP (λ j. nodes j ≤ MAX_NODES) (λ j x y k. le_prop x y k) a.few_nodes b.few_nodes i;
}

-- ---- the values but for the first, the first two, and so on

abbrev last_values : Config → Config → Bool
last_values a b = (a.nodes == b.nodes) && beq a.stop b.stop

abbrev later_values : Config → Config → Bool
later_values a b = (a.events == b.events) && last_values a b

config_from : (a b : Config) → same_values a b ≡ true → a ≡ b
config_from a b same =
    let run = and_parts (a.run == b.run) (same_bounds a.bounds b.bounds && later_values a b) same in
    let bounds = and_parts (same_bounds a.bounds b.bounds) (later_values a b) run.1 in
    let events = and_parts (a.events == b.events) (last_values a b) bounds.1 in
    let nodes = and_parts (a.nodes == b.nodes) (beq a.stop b.stop) events.1 in
    config_by a b (eqb-true a.run b.run run.0) (bounds_from a.bounds b.bounds bounds.0) (eqb-true a.events b.events events.0) (eqb-true a.nodes b.nodes nodes.0) (same_bool a.stop b.stop nodes.1)

config_same : (a : Config) → same_values a a ≡ true
config_same a =
    and_from (a.run == a.run) (same_bounds a.bounds a.bounds && later_values a a) (eq-eqb a.run a.run refl)
    (and_from (same_bounds a.bounds a.bounds) (later_values a a) (bounds_same a.bounds)
    (and_from (a.events == a.events) (last_values a a) (eq-eqb a.events a.events refl)
    (and_from (a.nodes == a.nodes) (beq a.stop a.stop) (eq-eqb a.nodes a.nodes refl) (one_bool a.stop))))

pub other_config : (a b : Config) (differ : Bool) → differ ≡ not (same_values a b) → differ ≡ true → a ≡ b → ⊥
other_config a b differ is differs same = false≢true (sym (is ∙ not_from_true (same_values a b) (subst (λ c. same_values a c ≡ true) same (config_same a))) ∙ differs)

not_false : (x : Bool) → not x ≡ false → x ≡ true
not_false true same = refl
not_false false same = absurd (false≢true (sym same))

pub one_config : (a b : Config) (differ : Bool) → differ ≡ not (same_values a b) → differ ≡ false → a ≡ b
one_config a b differ is agrees = config_from a b (not_false (same_values a b) (sym is ∙ agrees))
