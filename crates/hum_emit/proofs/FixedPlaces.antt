-- The parts of the fixed code begin within it.
use Rattle.std.proofs.Common.{◌≡◌, refl, ap, ◌∙◌, ℕ, zero, suc, ◌+◌, ◌<◌, lit<, pos, true, List, [], ◌∷◌, length, Some, arith}
use Rattle.std.specs.Prelude.{nat_lt, slice_get, slice_index}
use Rattle.std.specs.List.{list_all}
use Rattle.hum_emit.specs.declared.instruction.Field.TheVariants.{Number, Place}
use Rattle.hum_emit.specs.declared.instruction.Datum.{Datum}
use Rattle.hum_emit.specs.Emitted.{function_type}
use Rattle.hum_emit.specs.Program.{routine_cells}
use Rattle.hum_emit.specs.Runtime.{ended, aborted, failed, went_back, called, executed, applied, compared, same_called, built_in, fixed_code, runtime, end_place, call_place, exec_place, apply_place, same_place, routine_places}

pub end_inside : end_place < length runtime
unfolding ended aborted failed went_back called executed applied compared same_called built_in fixed_code
end_inside = lit< tt

pub call_inside : call_place < length runtime
unfolding ended aborted failed went_back called executed applied compared same_called built_in fixed_code
call_inside = lit< tt

pub exec_inside : exec_place < length runtime
unfolding ended aborted failed went_back called executed applied compared same_called built_in fixed_code
exec_inside = lit< tt

pub apply_inside : apply_place < length runtime
unfolding ended aborted failed went_back called executed applied compared same_called built_in fixed_code
apply_inside = lit< tt

pub same_inside : same_place < length runtime
unfolding ended aborted failed went_back called executed applied compared same_called built_in fixed_code
same_inside = lit< tt

-- each failure
pub fails_inside : (i : ℕ) → slice_index fixed_code.fails i < length runtime
unfolding ended aborted failed went_back called executed applied compared same_called built_in fixed_code
fails_inside zero = lit< tt
fails_inside (suc zero) = lit< tt
fails_inside (suc (suc zero)) = lit< tt
fails_inside (suc (suc (suc zero))) = lit< tt
fails_inside (suc (suc (suc (suc zero)))) = lit< tt
fails_inside (suc (suc (suc (suc (suc zero))))) = lit< tt
fails_inside (suc (suc (suc (suc (suc (suc zero)))))) = lit< tt
fails_inside (suc (suc (suc (suc (suc (suc (suc i))))))) = lit< tt

pub routines_inside : list_all (λ i. nat_lt i (length runtime)) routine_places ≡ true
unfolding ended aborted failed went_back called executed applied compared same_called built_in fixed_code
routines_inside = refl

pub routines_many : length routine_places ≡ 12
unfolding ended aborted failed went_back called executed applied compared same_called built_in fixed_code
routines_many = refl

-- ---- the cells of the built-in functions

abbrev pub routine_cell : (number place : ℕ) → Datum
routine_cell number place = record { kind = function_type; first = Place place; second = Number (pos number) }

pub routine_at : (number : ℕ) (places : List ℕ) (i : ℕ) → i < length places
    → slice_get (routine_cells number places) i ≡ Some (routine_cell (number + i) (slice_index places i))
routine_at number [] i h = absurd (omega (arith, h))
routine_at number (place ∷ more) zero h = ap (λ n. Some (routine_cell n place)) (let same : number ≡ number + 0 = omega arith in same)
routine_at number (place ∷ more) (suc i) h =
    routine_at (suc number) more i (omega (arith, h))
    ∙ ap (λ n. Some (routine_cell n (slice_index more i))) (let same : suc number + i ≡ number + suc i = omega arith in same)

pub cells_many : (number : ℕ) (places : List ℕ) → length (routine_cells number places) ≡ length places
cells_many number [] = refl
cells_many number (place ∷ more) = ap suc (cells_many (suc number) more)
