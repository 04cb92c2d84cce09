-- Texts and constants are data whose words name what is there.
use Rattle.std.proofs.Common.{◌≡◌, refl, ap, ◌∙◌, ℕ, suc, ◌+◌, ◌<◌, ◌≤◌, lit<, ◌^◌, Bool, true, false, List, [], ◌∷◌, ◌++◌, length, Option, Some, None, arith, if◌then◌else◌}
use Rattle.std.specs.Prelude.{◌&&◌, nat_lt}
use Rattle.std.specs.List.{AllByRecursion, list_all}
use Rattle.std.specs.Str.{bytes_eq}
use Rattle.std.proofs.lemmas.List.{length-append}
use Rattle.std.proofs.lemmas.Slice.Eq.{bytes_eq-Decides}
use Rattle.cap_words.specs.Text.{is_run}
use Rattle.instr_table.specs.Reach.{Every}
use Rattle.instr_table.proofs.GotWords.{every-append}
use Rattle.hum_core.specs.declared.slot.Const.{Const}
use Rattle.hum_core.specs.declared.slot.Const.TheVariants as const
use Rattle.hum_emit.specs.declared.instruction.Datum.{Datum}
use Rattle.hum_emit.specs.Emitted.{Emitted, list_cells, list_field, text, symbol_cells, with_symbol, symbol_at, constant}
use Rattle.hum_emit.specs.Made.{FieldMade, DatumMade}
use Rattle.hum_emit.specs.Shapes.{TextFits, ConstFits}
use Rattle.hum_emit.proofs.ShapeConstants.{run_fits}
use Rattle.hum_emit.proofs.Fair.{NoCode, Fair, Worded, code_more, cells_more, all_end}

pub parts_true : (a b : Bool) → a && b ≡ true → (a ≡ true) × (b ≡ true)
parts_true true b h = (refl, h)
parts_true false b h = absurd (cc)

pub length_list : (at : ℕ) (ps : List ℕ) → length (list_cells at ps) ≡ length ps
length_list at [] = refl
length_list at (n ∷ []) = refl
length_list at (n ∷ m ∷ more) = ap suc (length_list (suc at) (m ∷ more))

module _ (units : ℕ) where
  abbrev Cells : (size total : ℕ) → List Datum → Type 0
  Cells size total ds = AllByRecursion (DatumMade size units total) ds

  list_made : (size total : ℕ) (ps : List ℕ) (at : ℕ) → TextFits ps → at + length ps ≤ total → Cells size total (list_cells at ps)
  list_made size total [] at h le = tt
  list_made size total (n ∷ []) at h le = (record { kind = lit< tt; first = (parts_true (nat_lt n (2 ^ 30)) true h).0; second = lit< tt }, tt)
  list_made size total (n ∷ m ∷ more) at h le =
      let parts = parts_true (nat_lt n (2 ^ 30)) (list_all (λ c. nat_lt c (2 ^ 30)) (m ∷ more)) h in (
        record { kind = lit< tt; first = parts.0; second = omega (arith, le) },
        list_made size total (m ∷ more) (suc at) parts.1 (omega (arith, le)),
      )

  list_data : (ps : List ℕ) (at : ℕ) → Every NoCode (list_cells at ps)
  list_data [] at = tt
  list_data (n ∷ []) at = (refl, tt)
  list_data (n ∷ m ∷ more) at = (refl, list_data (m ∷ more) (suc at))

  list_word : (size total : ℕ) (ps : List ℕ) (at : ℕ) → at + length ps ≤ total → FieldMade size units total (list_field at ps)
  list_word size total [] at le = lit< tt
  list_word size total (n ∷ more) at le = omega (arith, le)

  -- further data
  module _ (s : Emitted) (fair : Fair units s) (ds : List Datum) (made : Cells (length s.code) (length s.cells + length ds) ds)
      (plain : Every NoCode ds) where
    abbrev both : List Datum
    both = s.cells ++ ds

    how_many : length both ≡ length s.cells + length ds
    how_many = length-append s.cells ds

    pub more_data : length s.cells ≤ length both
    more_data = let is = how_many in omega (arith, is)

    same_code : length s.code ≤ length s.code
    same_code = omega arith

    pub fair_data : (symbols : List ℕ → Option ℕ) → ((name : List ℕ) (n : ℕ) → symbols name ≡ Some n → (n < length both) × (is_run name ≡ true))
        → Fair units (record s { cells = both; symbols = symbols })
    fair_data symbols known = record {
      instructions = code_more units (length s.code) (length s.code) (length s.cells) (length both) same_code more_data s.code fair.instructions;
      cells = all_end units (DatumMade (length s.code) units (length both)) s.cells ds
          (cells_more units (length s.code) (length s.code) (length s.cells) (length both) same_code more_data s.cells fair.cells)
          (cells_more units (length s.code) (length s.code) (length s.cells + length ds) (length both) same_code (let is = how_many in omega (arith, is)) ds made);
      no_code = every-append NoCode s.cells ds fair.no_code plain;
      symbols = known;
      fixed = fair.fixed;
    }

  pub text_fair : (points : List ℕ) → TextFits points → (s : Emitted) → Fair units s → Worded units s (text points s)
  text_fair points h s fair =
      let n = length s.cells in
      let ds = list_cells n points in
      let many = length_list n points in
      let more = length-append s.cells ds in
      let cells = list_made (length s.code) (n + length ds) points n h (omega (arith, many)) in
      let plain = list_data points n in
      let up = more_data s fair ds cells plain in
      record {
        fair = fair_data s fair ds cells plain s.symbols
            (λ name i e. let low = (fair.symbols name i e).0 in (omega (arith, up, low), (fair.symbols name i e).1));
        field = list_word (length s.code) (length (s.cells ++ ds)) points n (omega (arith, many, more));
        code = refl;
        cells = up;
      }

  symbol_made : (size total : ℕ) (name : List ℕ) (at : ℕ) → TextFits name → suc at + length name ≤ total → Cells size total (symbol_cells at name)
  symbol_made size total name at h le = (
    record { kind = lit< tt; first = list_word size total name (suc at) le; second = lit< tt },
    list_made size total name (suc at) h le,
  )

  symbols_known : (symbols : List ℕ → Option ℕ) (name : List ℕ) (now total : ℕ) → is_run name ≡ true
      → ((other : List ℕ) (n : ℕ) → symbols other ≡ Some n → (n < total) × (is_run other ≡ true)) → now < total
      → (other : List ℕ) (n : ℕ) → with_symbol name now symbols other ≡ Some n → (n < total) × (is_run other ≡ true)
  symbols_known symbols name now total run known low other n h = by_test (bytes_eq other name) refl h
    where
      by_test : (t : Bool) → bytes_eq other name ≡ t → (if t then Some now else symbols other) ≡ Some n → (n < total) × (is_run other ≡ true)
      by_test true q e =
          let is : now ≡ n = cc in
          let same : other ≡ name = (bytes_eq-Decides other name).0 q in
          (omega (arith, is, low), ap is_run same ∙ run)
      by_test false q e = known other n e

  symbol_fair : (o : Option ℕ) (name : List ℕ) → is_run name ≡ true → (s : Emitted) → s.symbols name ≡ o → Fair units s
      → Worded units s (symbol_at o name s)
  symbol_fair (Some n) name h s is fair = record { fair = fair; field = (fair.symbols name n is).0; code = refl; cells = omega arith }
  symbol_fair None name h s is fair =
      let n = length s.cells in
      let ds = symbol_cells n name in
      let many = length_list (suc n) name in
      let more = length-append s.cells ds in
      let cells = symbol_made (length s.code) (n + length ds) name n (run_fits name h) (omega (arith, many)) in
      let plain : Every NoCode ds = (refl, list_data name (suc n)) in
      let up = more_data s fair ds cells plain in
      let here : n < length (s.cells ++ ds) = omega (arith, more) in
      record {
        fair = fair_data s fair ds cells plain (with_symbol name n s.symbols)
            (symbols_known s.symbols name n (length (s.cells ++ ds)) h
            (λ other i e. let low = (fair.symbols other i e).0 in (omega (arith, up, low), (fair.symbols other i e).1)) here);
        field = here;
        code = refl;
        cells = up;
      }

  pub constant_fair : (x : Const) → ConstFits x → (s : Emitted) → Fair units s → Worded units s (constant x s)
  constant_fair const.Undef h s fair = record { fair = fair; field = lit< tt; code = refl; cells = omega arith }
  constant_fair const.Nil h s fair = record { fair = fair; field = lit< tt; code = refl; cells = omega arith }
  constant_fair const.True h s fair = record { fair = fair; field = lit< tt; code = refl; cells = omega arith }
  constant_fair const.False h s fair = record { fair = fair; field = lit< tt; code = refl; cells = omega arith }
  constant_fair (const.Num n) h s fair = record { fair = fair; field = h; code = refl; cells = omega arith }
  constant_fair (const.Sym name) h s fair = symbol_fair (s.symbols name) name h s refl fair
