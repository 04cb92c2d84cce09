use Rattle.std.proofs.Common.{◌≡◌, ◌∙◌, ◌+◌, ◌≤◌, suc, ℕ, ap, sym, arith, take, length, List, Some, None}
use Rattle.std.specs.Prelude.{slice_get}
use Rattle.quad_memory.specs.Memory.{Memory}
use Rattle.hum_outside.specs.Outside.{appended}
use Rattle.hum_outside.proofs.Fronts.{on_err}
use Rattle.instr_table.specs.Sheet.{Account}
use Rattle.vm_sponsor.specs.Sheets.{sheet_of}
use Rattle.quad_debug.specs.Texts.{sheet_lines}
use Rattle.quad_debug.proofs.AtRest.{sound-at}
use Rattle.quad_debug.proofs.Rows.{few-rows, rows-front, rows-more, shown-none, shown-of, whole-long, whole-there}
use Rattle.quad_debug.proofs.sheet.put_sheet.Goals as goal

pub rows-preserved : goal.rows-preserved
rows-preserved g c =
    let w = g.K.Sink.written in
    let m = c.args.machine.now in
    let n = c.rows.number in
    let rows_are : sheet_of c.quads-quads.result.now.store c.sheet-sheet.result.now.rows ≡ m.state.sheet =
    ap (λ (q : Memory). sheet_of q.store c.sheet-sheet.result.now.rows) c.quads-quads.ensures.value ∙ c.sheet-sheet.ensures.sheet in
    let row = shown-of (slice_get (sheet_of c.quads-quads.result.now.store c.sheet-sheet.result.now.rows) n) c.in-Some.row c.in-Some.ensures in
    let at : slice_get m.state.sheet n ≡ Some row.0 = ap (λ (s : List Account). slice_get s n) (sym rows_are) ∙ row.1 in
    let next = rows-more n m.state.sheet row.0 at (w c.args.out.now) (w c.rows.out) (w c.put_account.new.out) c.rows.invariant.so_far (c.in_ok-put_account.ensures.all row.0 row.2) in
    let one : suc n ≡ n + 1 = omega arith in
    record {
      so_far = next ∙ ap (λ (k : ℕ). appended (w c.args.out.now) (sheet_lines 0 (take k m.state.sheet))) one;
      later = omega (arith, c.rows.invariant.later, c.put_account.ensures.cause.later);
    }

pub returns-in_err-put_account-clause-front : goal.returns-in_err-put_account-clause-front
returns-in_err-put_account-clause-front g c =
    let w = g.K.Sink.written in
    let m = c.args.machine.now in
    let n = c.rows.number in
    let rows_are : sheet_of c.quads-quads.result.now.store c.sheet-sheet.result.now.rows ≡ m.state.sheet =
    ap (λ (q : Memory). sheet_of q.store c.sheet-sheet.result.now.rows) c.quads-quads.ensures.value ∙ c.sheet-sheet.ensures.sheet in
    let row = shown-of (slice_get (sheet_of c.quads-quads.result.now.store c.sheet-sheet.result.now.rows) n) c.in-Some.row c.in-Some.ensures in
    let at : slice_get m.state.sheet n ≡ Some row.0 = ap (λ (s : List Account). slice_get s n) (sym rows_are) ∙ row.1 in
    on_err c.from_residual.result (rows-front n m.state.sheet row.0 at (w c.args.out.now) (w c.rows.out) (w c.put_account.new.out) c.rows.invariant.so_far (c.in_err-put_account.ensures.front row.0 row.2))

pub returns-in_default-clause-all : goal.returns-in_default-clause-all
returns-in_default-clause-all g c =
    let w = g.K.Sink.written in
    let m = c.args.machine.now in
    let n = c.rows.number in
    let rows_are : sheet_of c.quads-quads.result.now.store c.sheet-sheet.result.now.rows ≡ m.state.sheet =
    ap (λ (q : Memory). sheet_of q.store c.sheet-sheet.result.now.rows) c.quads-quads.ensures.value ∙ c.sheet-sheet.ensures.sheet in
    let none : slice_get m.state.sheet n ≡ None =
    ap (λ (s : List Account). slice_get s n) (sym rows_are) ∙ shown-none (slice_get (sheet_of c.quads-quads.result.now.store c.sheet-sheet.result.now.rows) n) (sym c.in_default.is ∙ c.row.ensures) in
    c.rows.invariant.so_far ∙ ap (λ (s : List Account). appended (w c.args.out.now) (sheet_lines 0 s)) (whole-there n m.state.sheet none)

pub returns-clause-all : goal.returns-clause-all
returns-clause-all g c =
    let w = g.K.Sink.written in
    let m = c.args.machine.now in
    let n = c.rows.number in
    let few = few-rows m.grant c.quads-quads.result.now.store m.state (sound-at m c.turns-turns.result c.turns-turns.ensures.run) c.quads-quads.ensures.seen in
    let top = c.used.ensures in
    let past = c.rows-test.false in
    let all : length m.state.sheet ≤ n = omega (arith, few, top, past) in
    c.rows.invariant.so_far ∙ ap (λ (s : List Account). appended (w c.args.out.now) (sheet_lines 0 s)) (whole-long n m.state.sheet all)
