use Rattle.std.proofs.Common.{◌≡◌, ◌+◌, ◌≤◌, false, [], ◌∷◌, ◌++◌, length, length-append, refl, sym, ap, ◌∙◌, subst, arith, rules}
use Rattle.std.proofs.Math.Nat.{zero-mul}
use Rattle.std.specs.Prelude.{All, Contains}
use Rattle.std.proofs.lemmas.List.Elements.{All-contains, All-nil, All-push, Contains-append_left, Contains-push}
use Rattle.velo_search.specs.Parts.{rest_by, part_at}
use Rattle.velo_search.specs.Search.{IsClean}
use Rattle.velo_search.specs.Trail.{IsNoted, IsReachedBy, NotesTurns}
use Rattle.velo_search.proofs.OnCounts.{few-next}
use Rattle.velo_search.proofs.OnKept.{All-before, All-turned, All-turned_back}
use Rattle.velo_search.proofs.OnTrails.{all-longer, all-noted_on, reached-longer, reached-within, shown-note, shown-goes_on}
use Rattle.velo_search.proofs.searching.next_level.Goals as goal

pub loop-state-init : goal.loop-state-init
loop-state-init g c =
    let bounds = c.args.terms.now.bounds in
    let scripts = c.args.terms.now.scripts.now.kinds in
    let rest = rest_by (part_at c.args.terms.now.scripts.now.parts) in
    let old = c.args.level.now.states.items in
    let new = c.turn_round.new.self.states.items in
    let turned = c.turn_round.ensures in
    record {
      true_of = c.requires.found;
      more = λ fault h. h;
      others = subst (All (IsReachedBy bounds scripts rest c.args.trail.now.steps.items)) (sym c.new-next.ensures) (All-nil (IsReachedBy bounds scripts rest c.args.trail.now.steps.items));
      left = All-turned (IsReachedBy bounds scripts rest c.args.trail.now.steps.items) old new turned.states turned.count c.requires.level;
      shown = c.requires.shown;
      leads = λ n fault h all left. All-turned_back (IsClean bounds scripts rest (n + 1) fault) old new turned.states turned.count left;
      count = omega (arith, turned.count);
      few = omega (arith, ap length c.new-next.ensures, zero-mul c.args.terms.now.bounds.threads);
      noted = subst (All (IsNoted c.args.trail.now)) (sym c.new-next.ensures) (All-nil (IsNoted c.args.trail.now));
      noted_left = All-turned (IsNoted c.args.trail.now) old new turned.states turned.count c.requires.noted;
      may = refl;
    }

pub put_next-requires-clause-state : goal.put_next-requires-clause-state
put_next-requires-clause-state g c =
    let P = IsReachedBy c.args.terms.now.bounds c.args.terms.now.scripts.now.kinds (rest_by (part_at c.args.terms.now.scripts.now.parts)) c.loop-state.trail.steps.items in
    let behind = c.pop.new.self.items in
    let state = c.in-Some.state in
    All-contains P c.loop-state.level.states.items state c.loop-state.invariant.left (subst (λ xs. Contains xs state) (sym c.in-Some.ensures.items) (Contains-push behind state))

pub put_next-requires-clause-noted : goal.put_next-requires-clause-noted
put_next-requires-clause-noted g c =
    let behind = c.pop.new.self.items in
    let state = c.in-Some.state in
    All-contains (IsNoted c.loop-state.trail) c.loop-state.level.states.items state c.loop-state.invariant.noted_left (subst (λ xs. Contains xs state) (sym c.in-Some.ensures.items) (Contains-push behind state))

pub loop-state-preserved : goal.loop-state-preserved
loop-state-preserved g c =
    let bounds = c.args.terms.now.bounds in
    let scripts = c.args.terms.now.scripts.now.kinds in
    let rest = rest_by (part_at c.args.terms.now.scripts.now.parts) in
    let now = c.loop-state.level.states.items in
    let behind = c.pop.new.self.items in
    let state = c.in-Some.state in
    let inv = c.loop-state.invariant in
    let popped : now ≡ behind ++ state ∷ [] = c.in-Some.ensures.items in
    let here = All-contains (IsReachedBy bounds scripts rest c.loop-state.trail.steps.items) now state inv.left (subst (λ xs. Contains xs state) (sym popped) (Contains-push behind state)) in
    let notes = c.in_ok-note.ensures in
    let same = ap length notes.alarms in
    let alarm = λ (first : c.put_next.new.trail.first ≡ false). c.in_ok-after.ensures.alarm (sym c.in_ok-after.ensures.goes_on.first ∙ first) in
    let placed = subst (λ n. NotesTurns c.put_next.new.trail n c.loop-state.found c.in_ok-after.after c.note.new.self) c.place.ensures notes in
    record {
      true_of = c.in_ok-after.ensures.found;
      more = λ fault h. inv.more fault (c.in_ok-after.ensures.more fault h);
      others = subst (λ xs. All (IsReachedBy bounds scripts rest xs) c.put_next.new.next.states.items) (sym notes.steps) c.in_ok-after.ensures.others;
      left = subst (λ xs. All (IsReachedBy bounds scripts rest xs) behind) (sym notes.steps)
          (all-longer bounds scripts rest c.loop-state.trail.steps.items c.put_next.new.trail.steps.items behind c.in_ok-after.ensures.goes_on.longer
          (All-before (IsReachedBy bounds scripts rest c.loop-state.trail.steps.items) behind now (λ s there. subst (λ xs. Contains xs s) (sym popped) (Contains-append_left behind (state ∷ []) s there)) inv.left));
      shown = shown-note bounds scripts rest c.args.terms.now.first c.loop-state.found c.in_ok-after.after c.put_next.new.trail c.note.new.self state
          (reached-longer bounds scripts rest c.loop-state.trail.steps.items c.put_next.new.trail.steps.items state c.in_ok-after.ensures.goes_on.longer here)
          (shown-goes_on bounds scripts rest c.args.terms.now.first c.loop-state.found c.loop-state.trail c.put_next.new.trail c.in_ok-after.ensures.goes_on c.in_ok-after.ensures.alarms inv.shown)
          c.in_ok-after.ensures.more c.in_ok-after.ensures.shows alarm placed;
      leads = λ n fault h all left.
          let w = c.in_ok-after.ensures.leads n fault h all in
          inv.leads n fault (c.in_ok-after.ensures.more fault h) w.0 (subst (All (IsClean bounds scripts rest (n + 1) fault)) (sym popped) (All-push (IsClean bounds scripts rest (n + 1) fault) behind state left w.1));
      few = few-next c.loop-state.states c.args.terms.now.bounds.threads (length c.loop-state.next.states.items) (length c.put_next.new.next.states.items) inv.few c.in_ok-after.ensures.count;
      noted = all-noted_on c.put_next.new.trail c.note.new.self c.put_next.new.next.states.items notes.first (omega (arith, same)) c.in_ok-after.ensures.noted;
      noted_left = all-noted_on c.loop-state.trail c.note.new.self behind (notes.first ∙ c.in_ok-after.ensures.goes_on.first) (omega (arith, same, c.in_ok-after.ensures.alarms.more))
          (All-before (IsNoted c.loop-state.trail) behind now (λ s there. subst (λ xs. Contains xs s) (sym popped) (Contains-append_left behind (state ∷ []) s there)) inv.noted_left);
      count = let long = ap length popped in let one = length-append behind (state ∷ []) in omega (arith, inv.count, long, one);
      may = c.is_over.ensures.may ∙ inv.may;
    }

pub note-requires : goal.note-requires
note-requires g c =
    let bounds = c.args.terms.now.bounds in
    let scripts = c.args.terms.now.scripts.now.kinds in
    let rest = rest_by (part_at c.args.terms.now.scripts.now.parts) in
    let now = c.loop-state.level.states.items in
    let behind = c.pop.new.self.items in
    let state = c.in-Some.state in
    let here = All-contains (IsReachedBy bounds scripts rest c.loop-state.trail.steps.items) now state c.loop-state.invariant.left (subst (λ xs. Contains xs state) (sym c.in-Some.ensures.items) (Contains-push behind state)) in
    subst (λ n. n ≤ length c.put_next.new.trail.steps.items) (sym c.place.ensures)
    (reached-within bounds scripts rest c.put_next.new.trail.steps.items state
    (reached-longer bounds scripts rest c.loop-state.trail.steps.items c.put_next.new.trail.steps.items state c.in_ok-after.ensures.goes_on.longer here))

pub returns-then-has_ended-clause-shown : goal.returns-then-has_ended-clause-shown
returns-then-has_ended-clause-shown g c =
    let bounds = c.args.terms.now.bounds in
    let scripts = c.args.terms.now.scripts.now.kinds in
    let rest = rest_by (part_at c.args.terms.now.scripts.now.parts) in
    let now = c.loop-state.level.states.items in
    let behind = c.pop.new.self.items in
    let state = c.in-Some.state in
    let inv = c.loop-state.invariant in
    let here = All-contains (IsReachedBy bounds scripts rest c.loop-state.trail.steps.items) now state inv.left (subst (λ xs. Contains xs state) (sym c.in-Some.ensures.items) (Contains-push behind state)) in
    shown-note bounds scripts rest c.args.terms.now.first c.loop-state.found c.in_ok-after.after c.put_next.new.trail c.note.new.self state
    (reached-longer bounds scripts rest c.loop-state.trail.steps.items c.put_next.new.trail.steps.items state c.in_ok-after.ensures.goes_on.longer here)
    (shown-goes_on bounds scripts rest c.args.terms.now.first c.loop-state.found c.loop-state.trail c.put_next.new.trail c.in_ok-after.ensures.goes_on c.in_ok-after.ensures.alarms inv.shown)
    c.in_ok-after.ensures.more c.in_ok-after.ensures.shows
    (λ first. c.in_ok-after.ensures.alarm (sym c.in_ok-after.ensures.goes_on.first ∙ first))
    (subst (λ n. NotesTurns c.put_next.new.trail n c.loop-state.found c.in_ok-after.after c.note.new.self) c.place.ensures c.in_ok-note.ensures)

pub returns-then-has_ended-clause-others : goal.returns-then-has_ended-clause-others
returns-then-has_ended-clause-others g c =
    let bounds = c.args.terms.now.bounds in
    let scripts = c.args.terms.now.scripts.now.kinds in
    let rest = rest_by (part_at c.args.terms.now.scripts.now.parts) in
    subst (λ xs. All (IsReachedBy bounds scripts rest xs) c.put_next.new.next.states.items) (sym c.in_ok-note.ensures.steps) c.in_ok-after.ensures.others

pub returns-clause-leads : goal.returns-clause-leads
returns-clause-leads g c = λ ended n fault none all.
    let clean = IsClean c.args.terms.now.bounds c.args.terms.now.scripts.now.kinds (rest_by (part_at c.args.terms.now.scripts.now.parts)) (n + 1) fault in
    let empty : c.loop-state.level.states.items ≡ [] = search rules in
    c.loop-state.invariant.leads n fault none all (subst (All clean) (sym empty) (All-nil clean))
