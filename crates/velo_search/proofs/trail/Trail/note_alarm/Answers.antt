use Rattle.std.proofs.Common.{◌≡◌, ◌∷◌, ◌++◌, [], length, length-append, map, refl, sym, ap, ◌∙◌, subst, arith, inl, inr}
use Rattle.std.proofs.lemmas.Bool.{and_parts, ltb-true}
use Rattle.std.proofs.lemmas.List.{length-map, map-append}
use Rattle.velo_search.specs.declared.schedules.TheConstants.{MAX_ALARMS}
use Rattle.velo_search.specs.Steps.{IsWay}
use Rattle.velo_search.specs.Trail.{alarms_of}
use Rattle.velo_search.proofs.OnTrails.{kept-many, wants-none}
use Rattle.velo_search.proofs.trail.Trail.note_alarm.Goals as goal

pub returns-then-not-wants_alarm-clause-notes : goal.returns-then-not-wants_alarm-clause-notes
returns-then-not-wants_alarm-clause-notes c =
    let kept = c.args.self.now.shown.alarms.items in
    record {
      steps = refl;
      first = refl;
      shown = λ fault. refl;
      alarms = inl refl;
      few = λ l. l;
      none = λ first. refl;
      some = λ first.
          let many = kept-many c.args.self.now.first (length kept) MAX_ALARMS (sym c.wants_alarm.ensures ∙ c.if-not-wants_alarm.true) first in
          omega (arith, many, length-map kept (λ v. v.items));
    }

pub returns-clause-notes : goal.returns-clause-notes
returns-clause-notes c =
    let kept = c.args.self.now.shown.alarms.items in
    let turns = c.in_ok-turns.turns in
    let pushed = c.push_reserved.ensures.items ∙ ap (λ xs. xs ++ turns ∷ []) c.reserve.ensures.items in
    let is : map (λ v. v.items) c.push_reserved.new.self.items ≡ alarms_of c.args.self.now.shown ++ turns.items ∷ [] = ap (map (λ v. v.items)) pushed ∙ map-append (λ v. v.items) kept (turns ∷ []) in
    let long = ap length is in
    let one = length-append (alarms_of c.args.self.now.shown) (turns.items ∷ []) in
    let wants = and_parts _ _ (sym c.wants_alarm.ensures ∙ c.if-not-wants_alarm.false) in
    record {
      steps = refl;
      first = refl;
      shown = λ fault. refl;
      alarms = inr (turns.items, is, subst (λ xs. IsWay xs c.args.place turns.items) c.deref.ensures.value c.in_ok-turns.ensures);
      few = λ l. let room = ltb-true (length kept) MAX_ALARMS wants.1 in omega (arith, room, long, one, length-map kept (λ v. v.items));
      none = λ first. absurd (wants-none c.args.self.now.first wants.0 first);
      some = λ first. omega (arith, long, one);
    }
