use Rattle.hum_parse.proofs.grammar.Grammar.+calls.Given as goal

abbrev pub decreases-calls : goal.decreases-calls
decreases-calls g l = l.n
