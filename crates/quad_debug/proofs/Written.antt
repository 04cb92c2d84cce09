-- Lines by the texts of their parts.
use Rattle.std.proofs.Common.{◌≡◌, ℕ, [], ◌∷◌, codes}
use Rattle.std.specs.Prelude.{decimal}
use Rattle.std.specs.List.{concat}
use Rattle.uasm_read.specs.Texts.{Bytes}
use Rattle.quad_debug.specs.Texts.{flight_line}

pub flight_line-is : (message : ℕ) (number : Bytes) → number ≡ decimal message → concat (codes "* in flight " ∷ number ∷ codes "\n" ∷ []) ≡ flight_line message
flight_line-is message number is = λ i. concat (codes "* in flight " ∷ is i ∷ codes "\n" ∷ [])
