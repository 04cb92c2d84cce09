-- The text that `chain N` runs.
use Rattle.std.specs.Prelude.{ℕ, zero, suc, ◌+◌, ◌-◌, List, [], ◌∷◌, ◌++◌, codes, decimal}
use Rattle.std.specs.List.{concat}

-- the statement that creates the actor behind the first k, which forwards to the last of them
abbrev pub forwarder : ℕ → List ℕ
forwarder k = concat (codes "CREATE a" ∷ decimal (k + 1) ∷ codes " WITH fwd(a" ∷ decimal k ∷ codes ")\n" ∷ [])

-- the statements that create n actors behind the first
abbrev pub forwarders : ℕ → List ℕ
forwarders zero = []
forwarders (suc n) = forwarders n ++ forwarder (n + 1)

-- Each of n actors forwards one more than it is sent, the first one to `println`, and the last one is sent 0.
abbrev pub chain_text : ℕ → List ℕ
chain_text n = concat (
    codes "LET fwd(next) = \\n.[ SEND add(n, 1) TO next ]\n"
    ∷ codes "CREATE a1 WITH fwd(println)\n"
    ∷ forwarders (n - 1)
    ∷ codes "SEND 0 TO a" ∷ decimal n ∷ codes "\n" ∷ [])
