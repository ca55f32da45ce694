use Rattle.std.proofs.Common.{◌≡◌, ◌++◌, map}
use Rattle.velo_names.specs.Answers.{entry_of}
use Rattle.velo_names.specs.Names.{numbers_like}
use Rattle.velo_names.proofs.kind_names.KindNames.numbers_like.Given as goal

abbrev pub invariant-loop-number : goal.invariant-loop-number
invariant-loop-number l = l.numbers.items ++ numbers_like (map entry_of l.number-iterator) l.pattern ≡ numbers_like l.self l.pattern
