use Rattle.std.proofs.Common.{◌≡◌, ℕ, Some, None, sym, ap, ◌∙◌, subst, arith, length}
use Rattle.std.specs.Prelude.{Bool, Option, IfSome, IsTrue, ◌↔◌, is_some}
use Rattle.std.specs.Option.{SomeIff}
use Rattle.std.proofs.lemmas.Bool.{false≢true}
use Rattle.velo_ledger.specs.Shares.{events_in_all}
use Rattle.velo_world.specs.LoggedRun.{logged_state}
use Rattle.velo_world.specs.World.{WorldState, CompletesShares}
use Rattle.velo_world.proofs.OnClosing.{kept-counts_none, HaveAllShares-complete, CompletesShares-have}
use Rattle.velo_world.proofs.world.World.is_complete.Goals as goal

there : {P : Type 0} (sum : Option ℕ) (total : ℕ) (b : Bool) → b ≡ is_some sum → SomeIff sum P total → IsTrue b ↔ P
there (Some x) total b is h = ((λ _. h.0), (λ _. is))
there None total b is h = ((λ t. absurd (false≢true (sym is ∙ t))), (λ p. absurd (h p)))

total_of : (P : Type 0) (sum : Option ℕ) (total rows : ℕ) (b : Bool) → b ≡ is_some sum → SomeIff sum P total → IfSome sum (λ events. events ≡ rows) → IsTrue b → total ≡ rows
total_of P (Some x) total rows b is h same t = sym h.1 ∙ same
total_of P None total rows b is h same t = absurd (false≢true (sym is ∙ t))

pub returns-clause-complete : goal.returns-clause-complete
returns-clause-complete c =
    let have = there _ _ c.is_some.result c.is_some.ensures c.gather_both.ensures.sum in (
      (λ t. subst (λ (w : WorldState). CompletesShares w c.args.given.now) c.self.view_is
          (CompletesShares-have (logged_state c.self.inside.logged) c.self.inside.kept c.self.invariant.keeps c.self.inside.book c.args.given.now c.self.invariant.book c.gather_both.ensures.in_place.1 (have.0 t))),
      (λ complete. have.1 (HaveAllShares-complete (logged_state c.self.inside.logged) c.self.inside.kept c.self.invariant.keeps c.self.inside.book c.args.given.now c.self.invariant.book (subst (λ (w : WorldState). CompletesShares w c.args.given.now) (sym c.self.view_is) complete))),
    )

pub returns-clause-sum : goal.returns-clause-sum
returns-clause-sum c t =
    let both = total_of _ _ _ _ c.is_some.result c.is_some.ensures c.gather_both.ensures.sum c.gather_both.ensures.rows t in
    let total = c.self.invariant.book.total in
    let none = kept-counts_none (logged_state c.self.inside.logged) c.self.inside.kept c.self.invariant.keeps in
    let given : events_in_all c.args.given.now ≡ length (logged_state c.self.inside.logged).log = omega (arith, both, total, none) in
    given ∙ ap (λ (w : WorldState). length w.log) c.self.view_is
