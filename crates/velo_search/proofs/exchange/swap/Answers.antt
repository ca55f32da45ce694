use Rattle.std.proofs.Common.{◌≡◌, ◌<◌, length, ◌∙◌, subst, arith}
use Rattle.std.specs.Prelude.{slice_index_or}
use Rattle.std.proofs.lemmas.List.{get_or_default}
use Rattle.velo_search.specs.Exchanges.{number_in}
use Rattle.velo_search.proofs.OnExchanges.{paired-swapped}
use Rattle.velo_search.proofs.exchange.swap.Goals as goal

pub index_mut-requires-2 : goal.index_mut-requires-2
index_mut-requires-2 c =
    let to = c.args.to.now.items in
    let back = c.args.back.now.items in
    let y = c.args.number in
    let y_there : y < length back = let l = c.requires.number in let count = c.requires.paired.count in omega (arith, l, count) in
    let other : c.index-other.result.now ≡ number_in back y =
    subst (λ k. c.index-other.result.now ≡ slice_index_or back k c.index-other.result.now) c.from-2.ensures c.index-other.ensures ∙ get_or_default back y c.index-other.result.now y y_there in
    let below = c.requires.paired.within_back y c.requires.number in
    omega (arith, below, other, c.from-4.ensures, c.args.to.now.ok.0)

pub index_mut-requires-4 : goal.index_mut-requires-4
index_mut-requires-4 c =
    let to = c.args.to.now.items in
    let x = c.args.one in
    let had : c.index-had.result.now ≡ number_in to x =
    subst (λ k. c.index-had.result.now ≡ slice_index_or to k c.index-had.result.now) c.from.ensures c.index-had.ensures ∙ get_or_default to x c.index-had.result.now x c.requires.one in
    let below = c.requires.paired.within x c.requires.one in
    let count = c.requires.paired.count in
    omega (arith, below, had, count, c.from-6.ensures, c.args.back.now.ok.0)

pub returns-clause-paired : goal.returns-clause-paired
returns-clause-paired c =
    let to = c.args.to.now.items in
    let back = c.args.back.now.items in
    let x = c.args.one in
    let y = c.args.number in
    let y_there : y < length back = let l = c.requires.number in let count = c.requires.paired.count in omega (arith, l, count) in
    let had : c.index-had.result.now ≡ number_in to x =
    subst (λ k. c.index-had.result.now ≡ slice_index_or to k c.index-had.result.now) c.from.ensures c.index-had.ensures ∙ get_or_default to x c.index-had.result.now x c.requires.one in
    let other : c.index-other.result.now ≡ number_in back y =
    subst (λ k. c.index-other.result.now ≡ slice_index_or back k c.index-other.result.now) c.from-2.ensures c.index-other.ensures ∙ get_or_default back y c.index-other.result.now y y_there in
    rw (c.from-3.ensures, c.from-4.ensures, c.from-5.ensures, c.from-6.ensures, had, other) (paired-swapped to back x y c.requires.paired c.requires.one c.requires.number)
