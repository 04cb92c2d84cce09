-- What is known of an answer, case by case.
use Rattle.std.specs.Prelude.{Result, Ok, Err, OnOk, OnErr}

pub on_ok-map : {T E P Q : Type 0} (result : Result T E) → OnOk result P → (P → Q) → OnOk result Q
on_ok-map (Ok _) p f = f p
on_ok-map (Err _) p f = tt

pub on_err-map : {T E P Q R : Type 0} (result : Result T E) → OnErr result P → OnErr result Q → (P → Q → R) → OnErr result R
on_err-map (Ok _) p q f = tt
on_err-map (Err _) p q f = f p q
