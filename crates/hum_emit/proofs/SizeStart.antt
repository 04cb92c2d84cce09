-- How large the fixed code is with the cells of the built-in functions, by computing.
use Rattle.std.proofs.Common.{◌≡◌, refl, ◌≤◌, true}
use Rattle.std.specs.Prelude.{nat_le}
use Rattle.std.proofs.lemmas.Bool.{leb-true}
use Rattle.hum_emit.specs.Runtime.{ended, aborted, failed, went_back, called, executed, applied, compared, same_called, built_in, fixed_code}
use Rattle.hum_emit.specs.Program.{start}
use Rattle.hum_emit.specs.Size.{item_count}

start_test : nat_le (item_count start) 4063 ≡ true
unfolding ended aborted failed went_back called executed applied compared same_called built_in fixed_code
start_test = refl

pub start_small : item_count start ≤ 4063
start_small = leb-true (item_count start) 4063 start_test
