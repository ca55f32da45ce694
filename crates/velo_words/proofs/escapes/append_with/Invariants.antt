use Rattle.std.proofs.Common.{◌≡◌, ◌++◌, length}
use Rattle.velo_words.specs.Escaped.{escaped_after}
use Rattle.velo_words.proofs.escapes.append_with.Given as goal

abbrev pub invariant-loop-byte : goal.invariant-loop-byte
invariant-loop-byte l = l.text.items ++ escaped_after l.newline l.before l.rest ≡ l.fn.text.items ++ escaped_after l.newline 0 l.bytes

abbrev pub decreases-loop-byte : goal.decreases-loop-byte
decreases-loop-byte l = length l.rest
