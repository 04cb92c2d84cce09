-- Where the parts of an emitted program stand.
use Rattle.std.specs.Prelude.{ℕ, ◌-◌, List, [], length, slice_index, slice_index_or, option_map}
use Rattle.hum_core.specs.declared.tested.TestUnit.{TestUnit}
use Rattle.hum_code.specs.Layout.{Layout, Shape, number_of_primitive}
use Rattle.hum_emit.specs.Emitted.{Emitted}
use Rattle.hum_emit.specs.Runtime.{call_place, exec_place, apply_place, same_place, fail_place, routine_places}
use Rattle.hum_emit.specs.Holds.{Places, place_word, unit_word, data_word}

-- the places of what was emitted, where the units' first instructions have these numbers
abbrev pub places_of : Emitted × List ℕ → Places
places_of made = record { size = length made.0.code; entry = slice_index made.1 }

-- The layout of units in these shapes, of which that was emitted in the end. The last instruction is the first one of the first event.
abbrev pub program_layout : Places → List TestUnit → List Shape → Emitted → Layout
program_layout p units shapes final = record {
  units = units;
  place = unit_word p;
  shape = λ u. slice_index_or shapes u [];
  symbol = λ name. option_map (data_word p) (final.symbols name);
  primitive = λ b. data_word p (number_of_primitive b);
  routine = λ b. place_word p (slice_index routine_places (number_of_primitive b));
  apply = place_word p apply_place;
  boot = place_word p (p.size - 1);
  call = place_word p call_place;
  exec = place_word p exec_place;
  same = place_word p same_place;
  fail = λ code. place_word p (fail_place code);
}
