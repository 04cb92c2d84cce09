-- What is known of an answer, case by case.
use Rattle.std.specs.Prelude.{◌≡◌, false, true, Result, Ok, Err, IfOk}

pub if_ok-map : {T E : Type 0} {P Q : T → Type 0} (result : Result T E) → IfOk result P → ((x : T) → P x → Q x) → IfOk result Q
if_ok-map (Ok x) p f = f x p
if_ok-map (Err _) p f = tt

pub false-true : false ≡ true → ⊥
false-true e = cc
