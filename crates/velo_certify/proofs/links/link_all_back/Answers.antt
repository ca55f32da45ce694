use Rattle.std.proofs.Common.{sym, subst, arith, length}
use Rattle.velo_certify.specs.Links.{counted, IsBefore}
use Rattle.velo_traces.specs.Places.{AllHavePlaces}
use Rattle.velo_certify.proofs.OnNumbered.{HasNumbers-first}
use Rattle.velo_certify.proofs.OnCovering.{AreShown-none}
use Rattle.velo_certify.proofs.OnLinks.{HasLinks-turn}
use Rattle.velo_certify.proofs.links.link_all_back.Goals as goal

pub loop-at-init : goal.loop-at-init
loop-at-init c =
    let trace = c.args.events.now in
    record {
      same = c.clear.ensures.sizes;
      names = subst (λ s. AllHavePlaces s trace (length trace)) (sym c.clear.ensures.sizes) c.requires.names;
      numbers = HasNumbers-first trace counted c.clear.new.self c.clear.ensures.blank;
      known = AreShown-none trace (IsBefore 0) c.args.links.now c.in_ok-known.known.items c.in_ok-known.ensures.count c.in_ok-known.ensures.blank;
      links = c.requires.links;
    }

pub returns-clause-links : goal.returns-clause-links
returns-clause-links c = HasLinks-turn c.args.events.now c.loop-at.at c.loop-at.links (omega arith) c.loop-at.invariant.links

pub returns-clause-names : goal.returns-clause-names
returns-clause-names c = c.loop-at.invariant.same
