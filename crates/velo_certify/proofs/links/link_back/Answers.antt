use Rattle.std.proofs.Common.{◌≡◌, ◌+◌, ◌-◌, refl, subst, arith, length}
use Rattle.std.proofs.lemmas.Result.{on_ok_weaker}
use Rattle.velo_certify.specs.Links.{counted, IsKept}
use Rattle.velo_certify.proofs.OnLinks.{last-small, last-found, conflicts-strong, IsGrown-same, HasLinks-back}
use Rattle.velo_certify.proofs.links.link_back.Goals as goal

pub returns-then-other-eq0-clause-numbers : goal.returns-then-other-eq0-clause-numbers
unfolding counted
returns-then-other-eq0-clause-numbers c = (c.take_change-other.ensures.taken.forward counted refl c.requires.numbers).0

pub returns-then-other-eq0-clause-links : goal.returns-then-other-eq0-clause-links
unfolding counted
returns-then-other-eq0-clause-links c =
    let trace = c.args.events.now in
    let strong = (c.take_change-other.ensures.taken.forward counted refl c.requires.numbers).1 in
    HasLinks-back trace c.args.at (length trace) c.args.links.now c.args.links.now c.take_change-other.result c.requires.within strong (IsGrown-same trace c.args.links.now)
    (λ i is. absurd (omega (arith, is, c.if-other-eq0.true))) c.requires.links

pub link-requires-clause-before : goal.link-requires-clause-before
unfolding counted
link-requires-clause-before c =
    let strong = (c.take_change-other.ensures.taken.forward counted refl c.requires.numbers).1 in
    let small = last-small c.args.events.now c.args.at _ c.take_change-other.result strong in
    omega (arith, small, c.if-other-eq0.false)

pub link-requires-clause-clash : goal.link-requires-clause-clash
unfolding counted
link-requires-clause-clash c =
    let trace = c.args.events.now in
    let strong = (c.take_change-other.ensures.taken.forward counted refl c.requires.numbers).1 in
    let found = last-found trace c.args.at _ c.take_change-other.result strong (c.take_change-other.result - 1) (omega (arith, c.if-other-eq0.false)) in
    (conflicts-strong trace c.args.at c.requires.within (c.take_change-other.result - 1) found.1).0

pub returns-clause-numbers : goal.returns-clause-numbers
unfolding counted
returns-clause-numbers c = (c.take_change-other.ensures.taken.forward counted refl c.requires.numbers).0

pub returns-clause-known : goal.returns-clause-known
returns-clause-known c =
    let one : c.take_change-other.result ≡ c.take_change-other.result - 1 + 1 = omega (arith, c.if-other-eq0.false) in
    on_ok_weaker c.link.result (λ linked. (linked.forward one c.requires.known).0) c.link.ensures.linked

pub returns-clause-links : goal.returns-clause-links
unfolding counted
returns-clause-links c =
    let trace = c.args.events.now in let new = c.link.new.links in
    let strong = (c.take_change-other.ensures.taken.forward counted refl c.requires.numbers).1 in
    let one : c.take_change-other.result ≡ c.take_change-other.result - 1 + 1 = omega (arith, c.if-other-eq0.false) in
    on_ok_weaker c.link.result
    (λ linked.
    HasLinks-back trace c.args.at (length trace) c.args.links.now new c.take_change-other.result c.requires.within strong linked.grown
    (λ i is. subst (λ k. IsKept trace new k c.args.at) (let same : c.take_change-other.result - 1 ≡ i = omega (arith, is) in same) (linked.forward one c.requires.known).1) c.requires.links)
    c.link.ensures.linked
