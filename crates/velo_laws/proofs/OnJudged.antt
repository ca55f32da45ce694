-- A log is judged by what is left of it without what is in order, and without repeats.
use Rattle.std.proofs.Common.{◌≡◌, ℕ, ◌+◌, ◌<◌, ◌≤◌, Bool, List, [], ◌∷◌, length, map, refl, sym, ap, ◌∙◌, arith}
use Rattle.std.specs.Prelude.{IsTrue}
use Rattle.velo_events.specs.declared.event.Event.{Event}
use Rattle.velo_laws.specs.Judged.{position, IsBlamedInLog, IsJudgedBy}
use Rattle.velo_laws.proofs.OnEitherOrder.{rest-after, rest-before}

-- ---- one after another

pub map-map : (f g : ℕ → ℕ) (xs : List ℕ) → map f (map g xs) ≡ map (λ x. f (g x)) xs
map-map f g [] = refl
map-map f g (x ∷ xs) = ap (λ ys. f (g x) ∷ ys) (map-map f g xs)

pub judged_through_law : (labels : ℕ → Bool) (log events fewer : List Event) (place further : ℕ → ℕ)
    → IsJudgedBy labels log events place → IsJudgedBy labels events fewer further
    → IsJudgedBy labels log fewer (λ k. place (further k))
judged_through_law labels log events fewer place further w v = record {
  cycles = ((λ c. v.cycles.0 (w.cycles.0 c)), (λ c. w.cycles.1 (v.cycles.1 c)));
  closes = λ p c. let a = w.closes p c in let b = v.closes a.0 a.1 in (b.0, b.1, ap place b.2 ∙ a.2);
  blame = λ k t blamed own b.
      let a = v.blame k t blamed own b in
      let d = w.blame a.at t a.in_log a.own a.are_blamed in
      record {
        at = d.at;
        own = d.own;
        same_event = d.same_event ∙ ap place a.same_event;
        in_log = d.in_log;
        are_blamed = d.are_blamed;
        same_blocks = d.same_blocks ∙ (sym (map-map place (position labels events) a.in_log) ∙ (ap (map place) a.same_blocks ∙ map-map place (λ x. further (position labels fewer x)) blamed));
      };
}
