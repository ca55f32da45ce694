use Rattle.std.proofs.Common.{[], refl, ap, ◌∙◌}
use Rattle.json.specs.Lex.{tokens}
use Rattle.json.specs.Print.{ArePrintable, print_from}
use Rattle.json.proofs.Printed.Tokens.{tokens-print}
use Rattle.velo_finding.proofs.writer.JsonWriter.new.Goals as goal

pub invariant_of-result : goal.invariant_of-result
unfolding ArePrintable print_from
invariant_of-result c = record { printed = []; printable = tt; text = c.new.ensures.items; place = refl }

pub returns : goal.returns
unfolding ArePrintable print_from
returns c = ap tokens c.new.ensures.items ∙ tokens-print [] tt
