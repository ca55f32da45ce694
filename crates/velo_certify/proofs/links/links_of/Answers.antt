use Rattle.std.proofs.Common.{length, sym, subst}
use Rattle.velo_traces.specs.Places.{AllHavePlaces}
use Rattle.velo_certify.proofs.OnLinks.{HasLinks-start}
use Rattle.velo_certify.proofs.links.links_of.Goals as goal

pub link_all_back-requires-clause-links : goal.link_all_back-requires-clause-links
link_all_back-requires-clause-links c = HasLinks-start c.args.events.now c.in_ok-links.links c.in_ok-links.ensures.count c.in_ok-links.ensures.blank

pub link_all_back-requires-clause-names : goal.link_all_back-requires-clause-names
link_all_back-requires-clause-names c = subst (λ s. AllHavePlaces s c.args.events.now (length c.args.events.now)) (sym c.in_ok-table.ensures.sizes) c.requires.names
