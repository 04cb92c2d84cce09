use Rattle.std.proofs.Common.{◌≡◌, length}
use Rattle.std.specs.List.{find}
use Rattle.std.specs.Str.{bytes_eq}
use Rattle.hum_syntax.specs.Forms.{word_of, keyword_of}
use Rattle.hum_syntax.proofs.keyword.Keyword.of_run.Given as goal

abbrev pub invariant-loop-rest : goal.invariant-loop-rest
invariant-loop-rest l = find (λ word. bytes_eq l.run (word_of word)) l.rest ≡ keyword_of l.run

abbrev pub decreases-loop-rest : goal.decreases-loop-rest
decreases-loop-rest l = length l.rest
