use Rattle.std.proofs.Common.{◌≡◌, ◌+◌, ◌-◌, length, take, arith, refl, sym, ap, ◌∙◌, subst}
use Rattle.std.specs.Prelude.{vec_len}
use Rattle.std.proofs.lemmas.Bool.{and_from, and_right, eq-eqb}
use Rattle.velo_events.specs.Event.{thread_of, is_begin, is_end}
use Rattle.velo_events.proofs.OnScans.{other_kind}
use Rattle.velo_audit.specs.Open.{AreOpen}
use Rattle.velo_audit.proofs.OnOpen.{AreOpen-begin, AreOpen-end, AreOpen-other, on_ok}
use Rattle.velo_audit.proofs.open.follow.Goals as goal

pub returns-in-Begin : goal.returns-in-Begin
returns-in-Begin c = on_ok c.add.result (λ is log here were.
    let e = c.args.event in let t = thread_of e in
    subst (AreOpen log t (c.args.at + 1)) (sym is)
    (AreOpen-begin log t c.args.at e here c.args.blocks.now.items were (and_from _ _ (eq-eqb t t refl) (ap is_begin c.in-Begin.is)))) c.add.ensures

pub returns-in-End : goal.returns-in-End
returns-in-End c = λ log here were.
    let e = c.args.event in let t = thread_of e in
    let long : vec_len c.args.blocks.now ≡ length c.args.blocks.now.items = omega (arith, c.args.blocks.now.ok.0) in
    subst (AreOpen log t (c.args.at + 1)) (sym (c.pop.ensures.rest ∙ ap (λ n. take (n - 1) c.args.blocks.now.items) long))
    (AreOpen-end log t c.args.at e here c.args.blocks.now.items were (and_from _ _ (eq-eqb t t refl) (ap is_end c.in-End.is)))

pub returns-in_default : goal.returns-in_default
returns-in_default c = λ log here were.
    let e = c.args.event in let t = thread_of e in
    let other = other_kind e.kind c.in_default.not-Begin c.in_default.not-End in
    AreOpen-other log t c.args.at e here c.args.blocks.now.items were (and_right _ _ other.0) (and_right _ _ other.1)
