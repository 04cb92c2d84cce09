-- The fixed code: its routines one after the other, each over the numbers of those before it. No number of an instruction is written: where
-- one more is put into a routine all others follow.
use Rattle.std.specs.Prelude.{ℕ, ◌-◌, pos, negsuc, List, [], ◌∷◌, map, slice_index, None}
use Rattle.hum_emit.specs.declared.instruction.Instruction.{Instruction}
use Rattle.hum_emit.specs.Emitted.{Emitted, roll}
use Rattle.hum_emit.specs.Routines.{each, ends, back, fails_with, call_code, exec_code, apply_code, compare_code, built_in_codes}

-- the codes that code fails with; a second `BECOME` is refused by the machine, with 6
abbrev pub failure_codes : List ℕ
failure_codes = 1 ∷ 2 ∷ 3 ∷ 4 ∷ 5 ∷ 6 ∷ 7 ∷ []

-- the number of the failure with that code, from 1 on
abbrev pub fail_in : List ℕ → (code : ℕ) → ℕ
fail_in fails code = slice_index fails (code - 1)

-- ---- what is emitted in turn, and the numbers of the first instructions

abbrev pub no_code : Emitted
no_code = record { code = []; cells = []; symbols = λ name. None }

unfoldable pub ended : Emitted × ℕ
ended = ends (pos 1) 0 no_code

unfoldable pub aborted : Emitted × ℕ
aborted = ends (negsuc 0) 0 ended.0

-- with each code
unfoldable pub failed : Emitted × List ℕ
failed = each (map fails_with failure_codes) aborted.1 aborted.0

unfoldable pub went_back : Emitted × ℕ
went_back = back 0 failed.0

unfoldable pub called : Emitted × ℕ
called = call_code (fail_in failed.1) 0 went_back.0

unfoldable pub executed : Emitted × ℕ
executed = exec_code 0 called.0

unfoldable pub applied : Emitted × ℕ
applied = apply_code called.1 executed.1 ended.1 executed.0

unfoldable pub compared : Emitted × ℕ
compared = compare_code went_back.1 applied.0

unfoldable pub same_called : Emitted × ℕ
same_called = roll (negsuc 2) compared.1 compared.0

unfoldable pub built_in : Emitted × List ℕ
built_in = each (built_in_codes (fail_in failed.1) compared.1) went_back.1 same_called.0

-- ---- the whole, and what others name of it

-- the instructions, and where the parts begin
pub record FixedCode : Type 0 where
  pub code : List Instruction
  pub end : ℕ
  pub fails : List ℕ
  pub call : ℕ
  pub exec : ℕ
  pub apply : ℕ
  pub same : ℕ
  pub built_ins : List ℕ

unfoldable pub fixed_code : FixedCode
fixed_code = record {
  code = built_in.0.code;
  end = ended.1;
  fails = failed.1;
  call = called.1;
  exec = executed.1;
  apply = applied.1;
  same = same_called.1;
  built_ins = built_in.1;
}

abbrev pub runtime : List Instruction
runtime = fixed_code.code

-- ends an event that commits
abbrev pub end_place : ℕ
end_place = fixed_code.end

-- calls a function: from `S function argument return` to `S value` at return
abbrev pub call_place : ℕ
call_place = fixed_code.call

-- executes a value: from `S value return` to `S` at return
abbrev pub exec_place : ℕ
exec_place = fixed_code.exec

-- applies a behaviour: the code of each actor but the first
abbrev pub apply_place : ℕ
apply_place = fixed_code.apply

-- compares two values: from `S a b return` to `S truth` at return
abbrev pub same_place : ℕ
same_place = fixed_code.same

-- fails with that code, from 1 to 7
abbrev pub fail_place : ℕ → ℕ
fail_place = fail_in fixed_code.fails

-- the built-in functions, in the order of their numbers: from `S return argument number` to `S value` at return
abbrev pub routine_places : List ℕ
routine_places = fixed_code.built_ins
