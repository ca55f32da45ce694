use Rattle.std.proofs.Common.{sym, subst, arith, length}
use Rattle.velo_certify.specs.Links.{counted_back, IsBehind}
use Rattle.velo_traces.specs.Places.{AllHavePlaces}
use Rattle.velo_certify.proofs.OnNumbered.{HasNumbers-last}
use Rattle.velo_certify.proofs.OnCovering.{AreShown-none}
use Rattle.velo_certify.proofs.links.link_all_on.Goals as goal

pub loop-at-init : goal.loop-at-init
loop-at-init c =
    let trace = c.args.events.now in
    record {
      within = omega arith;
      names = subst (λ s. AllHavePlaces s trace (length trace)) (sym c.clear.ensures.sizes) c.requires.names;
      numbers = HasNumbers-last trace (counted_back trace) c.clear.new.self c.clear.ensures.blank;
      known = AreShown-none trace (IsBehind trace (length trace)) c.args.links.now c.in_ok-known.known.items c.in_ok-known.ensures.count c.in_ok-known.ensures.blank;
      links = c.requires.links;
    }
