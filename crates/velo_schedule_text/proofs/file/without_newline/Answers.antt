use Rattle.std.proofs.Common.{None, Some, arith, inl, inr, refl}
use Rattle.std.proofs.lemmas.Str.Pattern.{strip_suffix_char}
use Rattle.velo_schedule_text.proofs.file.without_newline.Goals as goal

pub returns-in-Some : goal.returns-in-Some
returns-in-Some c = inl (strip_suffix_char 10 c.args.text.now (Some c.in-Some.text) c.in-Some.ensures.cases (omega arith))

pub returns-in-None : goal.returns-in-None
returns-in-None c = inr (refl, strip_suffix_char 10 c.args.text.now None c.in-None.ensures.cases (omega arith))
