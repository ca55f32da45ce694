use Rattle.std.proofs.Common.{◌&&◌, ◌∙◌, sym, subst}
use Rattle.velo_events.specs.declared.config.Bounds.{Bounds}
use Rattle.velo_filter.specs.Tables.{left_of}
use Rattle.velo_search.specs.Fitting.{AreAlike}
use Rattle.velo_search.specs.Names.{numbers_back, numbers_of}
use Rattle.velo_search.specs.Parts.{ArePartsOf, part_at}
use Rattle.velo_search.specs.Trail.{turns_for}
use Rattle.velo_search.proofs.OnSearchedAs.{alarms-here, cut-here, exchanged-of, never-here, parts-those, plain-those, short-those, shown-here, true-here, AreSearchedAs}
use Rattle.velo_search.proofs.bounding.search.Goals as goal

pub search_states-requires-clause-plain : goal.search_states-requires-clause-plain
search_states-requires-clause-plain g c =
    let bounds = c.args.config.now.bounds in
    let scripts = c.args.scripts.now.kinds in
    let ns = numbers_of c.in_ok-naming.naming in
    let back = numbers_back c.in_ok-naming.naming in
    let those = c.new-marked.result.kinds in
    let left = left_of c.args.left.now in
    let parts = (part_at c.new-marked.result.parts) in
    let needed = c.within-needed.result.bounds in
    let is : AreSearchedAs bounds needed ns back scripts those left parts = record {
      exchanged = exchanged-of bounds c.in_ok-naming.naming c.in_ok-naming.ensures;
      same = c.new-marked.ensures.kinds ∙ c.in_ok-renamed.ensures;
      alike = subst (AreAlike bounds needed) (sym c.new-marked.ensures.kinds) (subst (λ (b : Bounds). AreAlike bounds b c.in_ok-renamed.renamed.kinds) (sym c.within-needed.ensures) c.fitted.ensures.alike);
      are_parts = subst (λ ps. ArePartsOf left scripts (part_at ps)) (sym c.new-marked.ensures.parts) c.in_ok-parts.ensures;
    } in
    plain-those bounds needed ns back scripts those left parts is c.requires.plain

pub search_states-requires-clause-short : goal.search_states-requires-clause-short
search_states-requires-clause-short g c =
    let bounds = c.args.config.now.bounds in
    let scripts = c.args.scripts.now.kinds in
    let ns = numbers_of c.in_ok-naming.naming in
    let back = numbers_back c.in_ok-naming.naming in
    let those = c.new-marked.result.kinds in
    let left = left_of c.args.left.now in
    let parts = (part_at c.new-marked.result.parts) in
    let needed = c.within-needed.result.bounds in
    let is : AreSearchedAs bounds needed ns back scripts those left parts = record {
      exchanged = exchanged-of bounds c.in_ok-naming.naming c.in_ok-naming.ensures;
      same = c.new-marked.ensures.kinds ∙ c.in_ok-renamed.ensures;
      alike = subst (AreAlike bounds needed) (sym c.new-marked.ensures.kinds) (subst (λ (b : Bounds). AreAlike bounds b c.in_ok-renamed.renamed.kinds) (sym c.within-needed.ensures) c.fitted.ensures.alike);
      are_parts = subst (λ ps. ArePartsOf left scripts (part_at ps)) (sym c.new-marked.ensures.parts) c.in_ok-parts.ensures;
    } in
    short-those bounds needed ns back scripts those left parts is c.requires.short

pub search_states-requires-clause-parts : goal.search_states-requires-clause-parts
search_states-requires-clause-parts g c =
    let bounds = c.args.config.now.bounds in
    let scripts = c.args.scripts.now.kinds in
    let ns = numbers_of c.in_ok-naming.naming in
    let back = numbers_back c.in_ok-naming.naming in
    let those = c.new-marked.result.kinds in
    let left = left_of c.args.left.now in
    let parts = (part_at c.new-marked.result.parts) in
    let needed = c.within-needed.result.bounds in
    let is : AreSearchedAs bounds needed ns back scripts those left parts = record {
      exchanged = exchanged-of bounds c.in_ok-naming.naming c.in_ok-naming.ensures;
      same = c.new-marked.ensures.kinds ∙ c.in_ok-renamed.ensures;
      alike = subst (AreAlike bounds needed) (sym c.new-marked.ensures.kinds) (subst (λ (b : Bounds). AreAlike bounds b c.in_ok-renamed.renamed.kinds) (sym c.within-needed.ensures) c.fitted.ensures.alike);
      are_parts = subst (λ ps. ArePartsOf left scripts (part_at ps)) (sym c.new-marked.ensures.parts) c.in_ok-parts.ensures;
    } in
    parts-those bounds needed ns back scripts those left parts is

pub returns-clause-found : goal.returns-clause-found
returns-clause-found g c =
    let bounds = c.args.config.now.bounds in
    let scripts = c.args.scripts.now.kinds in
    let ns = numbers_of c.in_ok-naming.naming in
    let back = numbers_back c.in_ok-naming.naming in
    let those = c.new-marked.result.kinds in
    let left = left_of c.args.left.now in
    let parts = (part_at c.new-marked.result.parts) in
    let needed = c.within-needed.result.bounds in
    let is : AreSearchedAs bounds needed ns back scripts those left parts = record {
      exchanged = exchanged-of bounds c.in_ok-naming.naming c.in_ok-naming.ensures;
      same = c.new-marked.ensures.kinds ∙ c.in_ok-renamed.ensures;
      alike = subst (AreAlike bounds needed) (sym c.new-marked.ensures.kinds) (subst (λ (b : Bounds). AreAlike bounds b c.in_ok-renamed.renamed.kinds) (sym c.within-needed.ensures) c.fitted.ensures.alike);
      are_parts = subst (λ ps. ArePartsOf left scripts (part_at ps)) (sym c.new-marked.ensures.parts) c.in_ok-parts.ensures;
    } in
    true-here bounds needed ns back scripts those left parts is c.in_ok-searched.searched.found c.in_ok-searched.ensures.found

pub returns-clause-whole : goal.returns-clause-whole
returns-clause-whole g c = λ whole fault none.
    let bounds = c.args.config.now.bounds in
    let scripts = c.args.scripts.now.kinds in
    let ns = numbers_of c.in_ok-naming.naming in
    let back = numbers_back c.in_ok-naming.naming in
    let those = c.new-marked.result.kinds in
    let left = left_of c.args.left.now in
    let parts = (part_at c.new-marked.result.parts) in
    let needed = c.within-needed.result.bounds in
    let is : AreSearchedAs bounds needed ns back scripts those left parts = record {
      exchanged = exchanged-of bounds c.in_ok-naming.naming c.in_ok-naming.ensures;
      same = c.new-marked.ensures.kinds ∙ c.in_ok-renamed.ensures;
      alike = subst (AreAlike bounds needed) (sym c.new-marked.ensures.kinds) (subst (λ (b : Bounds). AreAlike bounds b c.in_ok-renamed.renamed.kinds) (sym c.within-needed.ensures) c.fitted.ensures.alike);
      are_parts = subst (λ ps. ArePartsOf left scripts (part_at ps)) (sym c.new-marked.ensures.parts) c.in_ok-parts.ensures;
    } in
    never-here bounds needed ns back scripts those left parts is fault (c.in_ok-searched.ensures.whole whole fault none)

pub returns-clause-cut : goal.returns-clause-cut
returns-clause-cut g c = λ cut.
    let bounds = c.args.config.now.bounds in
    let scripts = c.args.scripts.now.kinds in
    let ns = numbers_of c.in_ok-naming.naming in
    let back = numbers_back c.in_ok-naming.naming in
    let those = c.new-marked.result.kinds in
    let left = left_of c.args.left.now in
    let parts = (part_at c.new-marked.result.parts) in
    let needed = c.within-needed.result.bounds in
    let is : AreSearchedAs bounds needed ns back scripts those left parts = record {
      exchanged = exchanged-of bounds c.in_ok-naming.naming c.in_ok-naming.ensures;
      same = c.new-marked.ensures.kinds ∙ c.in_ok-renamed.ensures;
      alike = subst (AreAlike bounds needed) (sym c.new-marked.ensures.kinds) (subst (λ (b : Bounds). AreAlike bounds b c.in_ok-renamed.renamed.kinds) (sym c.within-needed.ensures) c.fitted.ensures.alike);
      are_parts = subst (λ ps. ArePartsOf left scripts (part_at ps)) (sym c.new-marked.ensures.parts) c.in_ok-parts.ensures;
    } in
    cut-here bounds needed ns back scripts those left parts is c.args.most_states c.args.first
    (g.P.Progress.may_end c.args.progress.now && g.P.Progress.says_over c.search_states.new.progress) c.in_ok-searched.searched.found c.in_ok-searched.searched.states (c.in_ok-searched.ensures.cut cut)

pub returns-clause-shown : goal.returns-clause-shown
returns-clause-shown g c = λ fault.
    let bounds = c.args.config.now.bounds in
    let scripts = c.args.scripts.now.kinds in
    let ns = numbers_of c.in_ok-naming.naming in
    let back = numbers_back c.in_ok-naming.naming in
    let those = c.new-marked.result.kinds in
    let left = left_of c.args.left.now in
    let parts = (part_at c.new-marked.result.parts) in
    let needed = c.within-needed.result.bounds in
    let is : AreSearchedAs bounds needed ns back scripts those left parts = record {
      exchanged = exchanged-of bounds c.in_ok-naming.naming c.in_ok-naming.ensures;
      same = c.new-marked.ensures.kinds ∙ c.in_ok-renamed.ensures;
      alike = subst (AreAlike bounds needed) (sym c.new-marked.ensures.kinds) (subst (λ (b : Bounds). AreAlike bounds b c.in_ok-renamed.renamed.kinds) (sym c.within-needed.ensures) c.fitted.ensures.alike);
      are_parts = subst (λ ps. ArePartsOf left scripts (part_at ps)) (sym c.new-marked.ensures.parts) c.in_ok-parts.ensures;
    } in
    shown-here bounds needed ns back scripts those left parts is fault (turns_for c.in_ok-searched.searched.schedules fault) (c.in_ok-searched.ensures.shown fault)

pub returns-clause-alarms : goal.returns-clause-alarms
returns-clause-alarms g c =
    let bounds = c.args.config.now.bounds in
    let scripts = c.args.scripts.now.kinds in
    let ns = numbers_of c.in_ok-naming.naming in
    let back = numbers_back c.in_ok-naming.naming in
    let those = c.new-marked.result.kinds in
    let left = left_of c.args.left.now in
    let parts = (part_at c.new-marked.result.parts) in
    let needed = c.within-needed.result.bounds in
    let is : AreSearchedAs bounds needed ns back scripts those left parts = record {
      exchanged = exchanged-of bounds c.in_ok-naming.naming c.in_ok-naming.ensures;
      same = c.new-marked.ensures.kinds ∙ c.in_ok-renamed.ensures;
      alike = subst (AreAlike bounds needed) (sym c.new-marked.ensures.kinds) (subst (λ (b : Bounds). AreAlike bounds b c.in_ok-renamed.renamed.kinds) (sym c.within-needed.ensures) c.fitted.ensures.alike);
      are_parts = subst (λ ps. ArePartsOf left scripts (part_at ps)) (sym c.new-marked.ensures.parts) c.in_ok-parts.ensures;
    } in
    alarms-here bounds needed ns back scripts those left parts is c.args.first c.in_ok-searched.searched.schedules c.in_ok-searched.ensures.alarms
