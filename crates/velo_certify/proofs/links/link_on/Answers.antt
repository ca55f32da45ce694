use Rattle.std.proofs.Common.{◌≡◌, ◌-◌, refl, sym, ap, subst, ◌∙◌, arith, length}
use Rattle.std.proofs.lemmas.Result.{on_ok_weaker}
use Rattle.velo_certify.specs.Links.{counted_back, is_weak, IsKept}
use Rattle.velo_certify.proofs.OnLinks.{first-small, first-found, conflicts-strong, IsGrown-same, HasLinks-on, HasLinks-not_weak}
use Rattle.velo_certify.proofs.links.link_on.Goals as goal

pub returns-then-other-eq0-clause-numbers : goal.returns-then-other-eq0-clause-numbers
unfolding counted_back
returns-then-other-eq0-clause-numbers c = (c.take_change-other.ensures.taken.backward (counted_back c.args.events.now) refl c.requires.numbers).0

pub returns-then-other-eq0-clause-links : goal.returns-then-other-eq0-clause-links
unfolding counted_back
returns-then-other-eq0-clause-links c =
    let trace = c.args.events.now in
    let strong = (c.take_change-other.ensures.taken.backward (counted_back trace) refl c.requires.numbers).1 in
    HasLinks-on trace c.args.at (length trace) c.args.links.now c.args.links.now c.take_change-other.result c.requires.within strong (IsGrown-same trace c.args.links.now)
    (λ j there is. absurd (omega (arith, is, there, c.if-other-eq0.true))) c.requires.links

pub returns-then-not-is_weak-clause-numbers : goal.returns-then-not-is_weak-clause-numbers
unfolding counted_back
returns-then-not-is_weak-clause-numbers c = (c.take_change-other.ensures.taken.backward (counted_back c.args.events.now) refl c.requires.numbers).0

pub returns-then-not-is_weak-clause-links : goal.returns-then-not-is_weak-clause-links
returns-then-not-is_weak-clause-links c = HasLinks-not_weak c.args.events.now c.args.at _ c.args.links.now (ap is_weak (sym c.access.ensures) ∙ (sym c.is_weak.ensures ∙ c.if-not-is_weak.true)) c.requires.links

pub overflow_sub-events-2 : goal.overflow_sub-events-2
unfolding counted_back
overflow_sub-events-2 c =
    let trace = c.args.events.now in
    first-small trace c.args.at _ c.take_change-other.result (c.take_change-other.ensures.taken.backward (counted_back trace) refl c.requires.numbers).1

pub link-requires-clause-before : goal.link-requires-clause-before
unfolding counted_back
link-requires-clause-before c =
    let trace = c.args.events.now in let other = c.take_change-other.result in
    let strong = (c.take_change-other.ensures.taken.backward (counted_back trace) refl c.requires.numbers).1 in
    let small = first-small trace c.args.at _ other strong in
    (first-found trace c.args.at _ other strong (length trace - other) (omega (arith, small, c.if-other-eq0.false, c.requires.within)) (omega (arith, small))).0

pub link-requires-clause-clash : goal.link-requires-clause-clash
unfolding counted_back
link-requires-clause-clash c =
    let trace = c.args.events.now in let other = c.take_change-other.result in
    let strong = (c.take_change-other.ensures.taken.backward (counted_back trace) refl c.requires.numbers).1 in
    let small = first-small trace c.args.at _ other strong in
    let found = first-found trace c.args.at _ other strong (length trace - other) (omega (arith, small, c.if-other-eq0.false, c.requires.within)) (omega (arith, small)) in
    (conflicts-strong trace c.args.at c.requires.within (length trace - other) found.1).1

pub returns-clause-numbers : goal.returns-clause-numbers
unfolding counted_back
returns-clause-numbers c = (c.take_change-other.ensures.taken.backward (counted_back c.args.events.now) refl c.requires.numbers).0

pub returns-clause-known : goal.returns-clause-known
unfolding counted_back
returns-clause-known c =
    let trace = c.args.events.now in let other = c.take_change-other.result in
    let small = first-small trace c.args.at _ other (c.take_change-other.ensures.taken.backward (counted_back trace) refl c.requires.numbers).1 in
    let is : other ≡ length trace - (length trace - other) = omega (arith, small) in
    on_ok_weaker c.link.result (λ linked. (linked.backward is c.requires.known).0) c.link.ensures.linked

pub returns-clause-links : goal.returns-clause-links
unfolding counted_back
returns-clause-links c =
    let trace = c.args.events.now in let other = c.take_change-other.result in let new = c.link.new.links in
    let strong = (c.take_change-other.ensures.taken.backward (counted_back trace) refl c.requires.numbers).1 in
    let small = first-small trace c.args.at _ other strong in
    let is : other ≡ length trace - (length trace - other) = omega (arith, small) in
    on_ok_weaker c.link.result
    (λ linked.
    HasLinks-on trace c.args.at (length trace) c.args.links.now new other c.requires.within strong linked.grown
    (λ j there at. subst (IsKept trace new c.args.at) (let same : length trace - other ≡ j = omega (arith, at, there, small) in same) (linked.backward is c.requires.known).1) c.requires.links)
    c.link.ensures.linked
