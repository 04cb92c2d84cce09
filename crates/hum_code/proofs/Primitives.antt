-- All built-in functions.
use Rattle.std.proofs.Common.{ℕ, List}
use Rattle.cap_words.specs.Words.{W}
use Rattle.cap_words.specs.Seen.{Seen}
use Rattle.instr_table.specs.Event.{Effects}
use Rattle.hum_meaning.specs.Value.{BuiltIn, Add, Sub, Mul, Compare, Less, LessEqual, Greater, GreaterEqual, Equal, And, Or, Not}
use Rattle.hum_code.specs.Bounds.{Limits}
use Rattle.hum_code.specs.Emission.{Emission}
use Rattle.hum_code.proofs.Standing.{Gathered}
use Rattle.hum_code.proofs.Claims.{PrimitivesRun}
use Rattle.hum_code.proofs.Routines.{Called, Runs}
use Rattle.hum_code.proofs.Numbers.{add_runs, sub_runs, mul_runs, compare_runs, less_runs, less_equal_runs, greater_runs, greater_equal_runs}
use Rattle.hum_code.proofs.Truths.{and_runs, or_runs, not_runs}
use Rattle.hum_code.proofs.Equals.{equal_runs}

-- the routine of each
routine_runs : {em : Emission} {lim : Limits} {d : Effects} {c q s : ℕ} {f : Gathered} {t : Seen} (call : Called em lim d c q s f t)
    (k : W) (S : List W) (b : BuiltIn) → Runs call k S b
routine_runs call k S Add = add_runs call k S
routine_runs call k S Sub = sub_runs call k S
routine_runs call k S Mul = mul_runs call k S
routine_runs call k S Compare = compare_runs call k S
routine_runs call k S Less = less_runs call k S
routine_runs call k S LessEqual = less_equal_runs call k S
routine_runs call k S Greater = greater_runs call k S
routine_runs call k S GreaterEqual = greater_equal_runs call k S
routine_runs call k S Equal = equal_runs call k S
routine_runs call k S And = and_runs call k S
routine_runs call k S Or = or_runs call k S
routine_runs call k S Not = not_runs call k S

pub primitives_run : (em : Emission) (lim : Limits) → PrimitivesRun em lim
primitives_run em lim = record {
  at = λ b v k w S d c q s f t above h e cf qf least.
      routine_runs (record { above = above; record_stands = e; cycles_fit = cf; quads_fit = qf; least_in = least }) k S b _ w v h;
}
