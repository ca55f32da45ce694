use Rattle.std.proofs.Common.{◌≡◌, ◌+◌, refl, sym, subst, arith, ⊎_elim}
use Rattle.std.proofs.lemmas.Bool.{cases_lt, eq-eqb}
use Rattle.velo_events.specs.Scan.{IsScanned}
use Rattle.velo_events.proofs.OnScans.{IsScanned-other_kind, IsScanned-begin_outermost, IsScanned-begin_inner, IsScanned-end}
use Rattle.velo_traces.proofs.Past.{past}
use Rattle.velo_certify.specs.Owners.{event_at}
use Rattle.velo_report.proofs.certificate.depth_after.Goals as goal

pub returns-in-Begin-clause-after : goal.returns-in-Begin-clause-after
returns-in-Begin-clause-after c = record {
  each = λ start begins scanned.
      let log = c.args.events.now in let n = c.args.at in let depth = c.args.depth in
      let t = (event_at log n).thread.0 in
      ⊎_elim
      (λ none.
      let zero_depth : depth ≡ 0 = omega (arith, none) in
      let one : 1 ≡ depth + 1 = omega (arith, zero_depth) in
      subst (λ k. IsScanned log t (n + 1) k start) one
      (subst (IsScanned log t (n + 1) 1) (sym (begins zero_depth))
      (IsScanned-begin_outermost log t n past c.requires.within depth start c.in-Begin.field-0 zero_depth (eq-eqb t t refl) c.in-Begin.is scanned)))
      (λ some. IsScanned-begin_inner log t n past c.requires.within depth start c.in-Begin.field-0 (omega (arith, some)) (eq-eqb t t refl) c.in-Begin.is scanned)
      (cases_lt depth 1);
}

pub returns-in-End-clause-after : goal.returns-in-End-clause-after
returns-in-End-clause-after c = record {
  each = λ start begins scanned.
      let t = (event_at c.args.events.now c.args.at).thread.0 in
      IsScanned-end c.args.events.now t c.args.at past c.requires.within c.args.depth c.saturating_sub.result start
      (omega (arith, c.saturating_sub.ensures)) (eq-eqb t t refl) c.in-End.is scanned;
}

pub returns-in_default : goal.returns-in_default
returns-in_default c = record {
  small = omega (arith, c.requires.small);
  after = record {
    each = λ start begins scanned.
        IsScanned-other_kind c.args.events.now (event_at c.args.events.now c.args.at).thread.0 c.args.at past c.requires.within c.args.depth start
        c.in_default.not-Begin c.in_default.not-End scanned;
  };
}
