use Rattle.std.proofs.Common.{◌≡◌, ◌≤◌, ◌++◌, length, take}
use Rattle.velo_logtext.specs.Text.{event_lines}
use Rattle.velo_ffi.proofs.lines.put_lines.Given as goal

abbrev pub invariant-loop-count : goal.invariant-loop-count
invariant-loop-count l = record {
  within : l.used ≤ length l.buffer;
  same_length : length l.buffer ≡ length l.fn.buffer;
  start : l.count ≡ 0 → l.used ≡ l.fn.at;
  text : take l.used l.buffer ≡ take l.fn.at l.fn.buffer ++ event_lines (take l.count l.fn.events);
}
