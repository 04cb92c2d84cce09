-- How many items a program's module has.
use Rattle.std.proofs.Common.{ℕ, zero, suc, ◌+◌, ◌*◌, ◌≤◌, List, [], ◌∷◌, map, arith}
use Rattle.std.specs.Prelude.{sum, slice_index}
use Rattle.hum_syntax.proofs.SizedTrees.{sum-cons, spelled_size}
use Rattle.hum_syntax.specs.declared.tree.Stmt.{Stmt}
use Rattle.hum_syntax.specs.Tokens.{Placed, kinds_of, weight}
use Rattle.hum_syntax.specs.Spells.{IsStmts}
use Rattle.hum_core.specs.declared.tested.TestUnit.{TestUnit}
use Rattle.hum_core.specs.declared.tested.TestUnit.TheVariants as unit
use Rattle.hum_core.specs.declared.tested.TestStmt.{TestStmt}
use Rattle.hum_core.specs.declared.tested.TestStmt.TheVariants as stmt
use Rattle.hum_core.specs.declared.tested.TestExpr.{TestExpr}
use Rattle.hum_core.specs.declared.tested.Test.{Test}
use Rattle.hum_core.specs.Units.{resolved}
use Rattle.hum_core.specs.Lists.{tested}
use Rattle.hum_core.specs.Sizes.{size_of_expr, size_of_tests, size_of_stmt, size_of_unit, size_of_units}
use Rattle.hum_core.proofs.SizedUnits.{programs_are_small}
use Rattle.hum_code.specs.Layout.{Shape, with_singles}
use Rattle.hum_emit.specs.Emitted.{Emitted, ◌▷◌, dup}
use Rattle.hum_emit.specs.Runtime.{fail_place}
use Rattle.hum_emit.specs.Templates.{matching, after_all, expr_code, test_code, statement, shape_after, statements, unit_code, units_code, push_data, boot_code}
use Rattle.hum_emit.specs.Program.{start}
use Rattle.hum_emit.specs.Shapes.{shapes_of}
use Rattle.hum_emit.specs.Compiled.{compiled}
use Rattle.hum_emit.specs.Size.{item_count, EmissionsAreSmall, ModulesAreSmall, ProgramsLink}
use Rattle.hum_emit.proofs.Size.{Adds, a_one, a_choose, a_calls, a_jump, a_nothing, a_both, a_to, a_fits}
use Rattle.hum_emit.proofs.SizeStart.{start_small}
use Rattle.hum_emit.proofs.SizeTrees.{adds_expr, adds_tests}
use Rattle.hum_emit.proofs.Linking.{item_count as items_are, links}

match_adds : (ts : List Test) (shape : Shape) → Adds 0 (4 + 16 * size_of_tests ts) (matching (map test_code ts) shape)
match_adds ts shape =
    a_fits 0 _ (a_both a_one (a_both a_one (a_both a_one (a_both (adds_tests ts shape (fail_place 1) 0) a_one)))) (omega arith)

part_adds : (e : TestExpr) (shape : Shape) → Adds 0 (16 * size_of_expr e) (dup 1 ▷ expr_code e shape)
part_adds e shape = a_fits 0 _ (a_both a_one (adds_expr e shape)) (omega arith)

-- ---- statements and units

statement_adds : (x : TestStmt) (shape : Shape) → Adds 0 (16 * size_of_stmt x) (statement x shape)
statement_adds (stmt.Let ts e) shape = a_fits 0 _ (a_both a_one (a_both (adds_expr e shape) (match_adds ts shape))) (omega arith)
statement_adds (stmt.Group numbers) shape = a_fits 0 _ (a_both a_one a_one) (omega arith)
statement_adds stmt.Defined shape = a_fits 0 _ a_one (omega arith)
statement_adds (stmt.Send e target) shape =
    a_fits 0 _ (a_both a_one (a_both (adds_expr e shape) (a_both a_one (a_both (adds_expr target shape) (a_both a_one (a_both a_one (a_both a_choose a_one)))))))
    (omega arith)
statement_adds (stmt.Create e) shape = a_fits 0 _ (a_both a_one (a_both (adds_expr e shape) (a_both a_one (a_both a_one a_one)))) (omega arith)
statement_adds (stmt.Become e) shape = a_fits 0 _ (a_both a_one (a_both (adds_expr e shape) (a_both a_one a_one))) (omega arith)
statement_adds (stmt.Throw e) shape = a_fits 0 _ (a_to (fail_place 7) (part_adds e shape)) (omega arith)
statement_adds (stmt.Do e) shape = a_fits 0 _ (a_both a_one (a_both (adds_expr e shape) a_calls)) (omega arith)

statements_add : (ss : List TestStmt) (shape : Shape) → Adds 0 (2 + 16 * sum (map size_of_stmt ss)) (statements ss shape)
statements_add [] shape = a_both a_one a_jump
statements_add (x ∷ more) shape =
    let all = sum-cons size_of_stmt x more in
    a_fits 0 _ (a_both (statement_adds x shape) (statements_add more (shape_after x shape))) (omega (arith, all))

unit_adds : (u : TestUnit) (shape : Shape) → Adds 0 (16 * size_of_unit u) (unit_code u shape)
unit_adds (unit.Abs ts e) shape =
    a_fits 0 _ (a_both a_one (a_both (match_adds ts shape) (a_both (adds_expr e (with_singles (after_all (map test_code ts) 0) shape)) (a_both a_one a_jump))))
    (omega arith)
unit_adds (unit.Block ss) shape = a_fits 0 _ (statements_add ss shape) (omega arith)

units_add : (us : List TestUnit) (shapes : List Shape) (s : Emitted) → item_count (units_code us shapes s).0 ≤ 16 * size_of_units us + item_count s
units_add [] shapes s = omega arith
units_add (u ∷ us) [] s = omega arith
units_add (u ∷ us) (shape ∷ shapes) s =
    let all = sum-cons size_of_unit u us in
    let later = units_add us shapes s in
    let is = (unit_adds u shape).at 0 (units_code us shapes s).0 in
    omega (arith, all, later, is)

-- ---- the whole

push_adds : (from n : ℕ) → Adds 0 n (push_data from n)
push_adds from zero = a_nothing
push_adds from (suc n) = a_fits 0 (suc n) (a_both a_one (push_adds (suc from) n)) (omega arith)

boot_adds : Adds 0 17 boot_code
boot_adds = a_both a_one (a_both a_one (a_both (push_adds 0 12) (a_both a_one (a_both a_one a_one))))

pub emissions_are_small : EmissionsAreSmall
emissions_are_small units shapes =
    let made = units_code units shapes start in
    let fixed = start_small in
    let is = units_add units shapes start in
    let boot = boot_adds.at (slice_index made.1 0) made.0 in
    omega (arith, fixed, is, boot)

small_by_weight : (n : ℕ) (ts : List Placed) (file : List Stmt) → IsStmts n (kinds_of ts) file
    → item_count (compiled (tested (resolved file))).0 ≤ 64 * weight ts + 4096
small_by_weight n ts file h =
    let light = spelled_size n ts file h in
    let three = programs_are_small file in
    let few = emissions_are_small (tested (resolved file)) (shapes_of (tested (resolved file))) in
    omega (arith, light, three, few)

pub modules_are_small : ModulesAreSmall
modules_are_small n ts file h =
    let units = tested (resolved file) in
    let is = items_are (compiled units).0 (compiled units).1 in
    let few = small_by_weight n ts file h in
    omega (arith, is, few)

pub programs_link : ProgramsLink
programs_link n ts file h light =
    let units = tested (resolved file) in
    let few = small_by_weight n ts file h in
    record {
      links = links (compiled units).0 (compiled units).1 (omega (arith, few, light));
      code = omega (arith, few, light);
      cells = omega (arith, few, light);
    }
