use Rattle.std.proofs.Common.{◌≡◌, ◌≤◌, ◌+◌, ◌++◌, length, map, vec_len}
use Rattle.uasm_read.specs.Texts.{lines_of}
use Rattle.uasm_read.specs.Lines.{line_of as line_in_text}
use Rattle.uasm_read.proofs.read.read_lines.Given as goal

abbrev pub invariant-loop-lines : goal.invariant-loop-lines
invariant-loop-lines l = record {
  same : l.lines.items ++ map line_in_text (lines_of l.rest) ≡ map line_in_text (lines_of l.text);
  few : vec_len l.lines + length l.rest ≤ length l.text;
}

abbrev pub decreases-loop-lines : goal.decreases-loop-lines
decreases-loop-lines l = length l.rest
