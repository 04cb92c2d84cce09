use Rattle.std.proofs.Common.{◌≡◌, ◌+◌, ◌≤◌, length, min, IsTrue}
use Rattle.std.specs.List.{list_all}
use Rattle.uasm_read.specs.Modules.{is_module}
use Rattle.uasm_read.specs.Links.{count_of_items, item_limit}
use Rattle.uasm_link.proofs.numbers.count_items.Given as goal

abbrev pub invariant-loop-rest : goal.invariant-loop-rest
invariant-loop-rest l = record {
  counted : min (l.count + count_of_items l.rest) (item_limit + 1) ≡ min (count_of_items l.modules) (item_limit + 1);
  few : l.count ≤ item_limit + 1;
  kept : IsTrue (list_all is_module l.rest) → IsTrue (list_all is_module l.modules);
}

abbrev pub decreases-loop-rest : goal.decreases-loop-rest
decreases-loop-rest l = length l.rest
