-- Data that are made stay, and stand for texts and constants.
use Rattle.std.proofs.Common.{◌≡◌, refl, ap, sym, subst, ◌∙◌, ℕ, suc, ◌<◌, Bool, true, false, List, [], ◌∷◌, ◌++◌, length, append_assoc, Option, Some, None, option_map, ◌⊎◌, inl, inr, arith, if◌then◌else◌}
use Rattle.std.specs.Prelude.{slice_get}
use Rattle.std.specs.Str.{bytes_eq}
use Rattle.std.proofs.lemmas.List.{append-nil}
use Rattle.std.proofs.lemmas.Option.{slice_get_within}
use Rattle.std.proofs.lemmas.Slice.Eq.{bytes_eq-Decides}
use Rattle.cap_words.specs.Words.{W}
use Rattle.cap_words.specs.Seen.{Seen}
use Rattle.cap_words.proofs.Places.{get-seam}
use Rattle.instr_table.specs.Types.{Grows}
use Rattle.instr_table.proofs.ShownWords.{read-shown}
use Rattle.hum_core.specs.declared.slot.Const.{Const}
use Rattle.hum_core.specs.declared.slot.Const.TheVariants as const
use Rattle.hum_meaning.specs.Value.{Plain, text_value}
use Rattle.hum_core.specs.Numbered.{atom_of}
use Rattle.hum_code.specs.Stands.{Shows, Stands}
use Rattle.hum_code.specs.Code.{Constant}
use Rattle.hum_code.proofs.Makings.{length_end}
use Rattle.hum_emit.specs.declared.instruction.Datum.{Datum}
use Rattle.hum_emit.specs.Emitted.{Emitted, list_cells, list_field, text, symbol_cells, with_symbol, symbol_at, constant}
use Rattle.hum_emit.specs.Holds.{data_word, word_of, datum_quad}
use Rattle.hum_emit.proofs.Makes.{CellsAt, cells_longer, Kept, Begins, begins_same, Image, layout}

pub cells_end : (cells ds : List Datum) → CellsAt (cells ++ ds) (length cells) ds
cells_end cells [] = tt
cells_end cells (d ∷ ds) = (
  get-seam cells ds d,
  subst (λ xs. CellsAt xs (suc (length cells)) ds) (append_assoc cells (d ∷ []) ds)
      (subst (λ n. CellsAt ((cells ++ d ∷ []) ++ ds) n ds) (length_end cells d) (cells_end (cells ++ d ∷ []) ds)),
)

-- ---- data only add

add_cells : (s : Emitted) (ds : List Datum) → Begins s (record s { cells = s.cells ++ ds })
add_cells s ds = record {
  code = [];
  code_is = sym (append-nil s.code);
  cells = ds;
  cells_is = refl;
  symbols = λ name n h. h;
  keeps = λ h. record { cells = λ name n e. cells_longer s.cells ds n (symbol_cells n name) (h.cells name n e); names = h.names };
}

pub text_begins : (points : List ℕ) (s : Emitted) → Begins s (text points s).0
text_begins points s = add_cells s (list_cells (length s.cells) points)

-- what a name has then, it has now, or had before
of_symbol : (symbols : List ℕ → Option ℕ) (name : List ℕ) (now : ℕ) (other : List ℕ) (n : ℕ) → with_symbol name now symbols other ≡ Some n
    → ((other ≡ name) × (n ≡ now)) ⊎ (symbols other ≡ Some n)
of_symbol symbols name now other n h = by_test (bytes_eq other name) refl
  where
    by_test : (t : Bool) → bytes_eq other name ≡ t → ((other ≡ name) × (n ≡ now)) ⊎ (symbols other ≡ Some n)
    by_test true e =
        let is : Some now ≡ Some n = sym (ap (λ t. if t then Some now else symbols other) e) ∙ h in
        inl ((bytes_eq-Decides other name).0 e, cc)
    by_test false e = inr (sym (ap (λ t. if t then Some now else symbols other) e) ∙ h)

symbol_kept : (symbols : List ℕ → Option ℕ) (name : List ℕ) (now : ℕ) (other : List ℕ) (n : ℕ) → symbols name ≡ None → symbols other ≡ Some n
    → with_symbol name now symbols other ≡ Some n
symbol_kept symbols name now other n none h = by_test (bytes_eq other name) refl
  where
    by_test : (t : Bool) → bytes_eq other name ≡ t → with_symbol name now symbols other ≡ Some n
    by_test true e =
        let same : other ≡ name = (bytes_eq-Decides other name).0 e in
        let is : Some n ≡ None = sym h ∙ (ap symbols same ∙ none) in
        absurd (cc)
    by_test false e = ap (λ t. if t then Some now else symbols other) e ∙ h

module _ (name : List ℕ) (s : Emitted) (none : s.symbols name ≡ None) (kept : Kept s) where
  abbrev now : ℕ
  now = length s.cells

  new_cells : (other : List ℕ) (n : ℕ) → ((other ≡ name) × (n ≡ now)) ⊎ (s.symbols other ≡ Some n)
      → CellsAt (s.cells ++ symbol_cells now name) n (symbol_cells n other)
  new_cells other n (inl is) =
      subst (λ m. CellsAt (s.cells ++ symbol_cells now name) m (symbol_cells m other)) (sym is.1)
      (subst (λ x. CellsAt (s.cells ++ symbol_cells now name) now (symbol_cells now x)) (sym is.0) (cells_end s.cells (symbol_cells now name)))
  new_cells other n (inr is) = cells_longer s.cells (symbol_cells now name) n (symbol_cells n other) (kept.cells other n is)

  new_names : (a b : List ℕ) (n : ℕ) → ((a ≡ name) × (n ≡ now)) ⊎ (s.symbols a ≡ Some n) → ((b ≡ name) × (n ≡ now)) ⊎ (s.symbols b ≡ Some n)
      → bytes_eq a b ≡ true
  new_names a b n (inl i) (inl j) = (bytes_eq-Decides a b).1 (i.0 ∙ sym j.0)
  new_names a b n (inl i) (inr j) =
      let is : n ≡ length s.cells = i.1 in
      let within : n < length s.cells = slice_get_within s.cells n _ (kept.cells b n j).0 in absurd (omega (arith, is, within))
  new_names a b n (inr i) (inl j) =
      let is : n ≡ length s.cells = j.1 in
      let within : n < length s.cells = slice_get_within s.cells n _ (kept.cells a n i).0 in absurd (omega (arith, is, within))
  new_names a b n (inr i) (inr j) = kept.names a b n i j

  symbol_keeps : Kept (record s { cells = s.cells ++ symbol_cells now name; symbols = with_symbol name now s.symbols })
  symbol_keeps = record {
    cells = λ other n h. new_cells other n (of_symbol s.symbols name now other n h);
    names = λ a b n h k. new_names a b n (of_symbol s.symbols name now a n h) (of_symbol s.symbols name now b n k);
  }

symbol_begins : (o : Option ℕ) (name : List ℕ) (s : Emitted) → s.symbols name ≡ o → Begins s (symbol_at o name s).0
symbol_begins (Some n) name s is = begins_same s
symbol_begins None name s is = record {
  code = [];
  code_is = sym (append-nil s.code);
  cells = symbol_cells (length s.cells) name;
  cells_is = refl;
  symbols = λ other n h. symbol_kept s.symbols name (length s.cells) other n is h;
  keeps = symbol_keeps name s is;
}

pub constant_begins : (x : Const) (s : Emitted) → Begins s (constant x s).0
constant_begins const.Undef s = begins_same s
constant_begins const.Nil s = begins_same s
constant_begins const.True s = begins_same s
constant_begins const.False s = begins_same s
constant_begins (const.Num n) s = begins_same s
constant_begins (const.Sym name) s = symbol_begins (s.symbols name) name s refl

-- ---- what data stand for

module _ (c : Image) where
  pub datum_shown : (j : ℕ) (d : Datum) → slice_get c.final.cells j ≡ Some d → Shows c.setting.base (data_word c.places j) (datum_quad c.places d)
  datum_shown j d h = read-shown c.setting.base (data_word c.places j) (datum_quad c.places d) (c.holds.cells j d h)

  pub list_stands : (points : List ℕ) (at : ℕ) → CellsAt c.final.cells at (list_cells at points) → (t : Seen) (roll : List W) → Grows c.setting.base t
      → Stands (layout c) t roll (word_of c.places (list_field at points)) (text_value points)
  unfolding Stands
  list_stands [] at h t roll g = refl
  list_stands (n ∷ []) at h t roll g = (_, _, g.keeps _ _ (datum_shown at _ h.0), refl, refl)
  list_stands (n ∷ m ∷ more) at h t roll g = (_, _, g.keeps _ _ (datum_shown at _ h.0), refl, list_stands (m ∷ more) (suc at) h.1 t roll g)

  -- the data that a list begins with stand in each longer one
  later_cells : (s : Emitted) (at : ℕ) (ds : List Datum) → Begins s c.final → CellsAt s.cells at ds → CellsAt c.final.cells at ds
  later_cells s at ds later h = subst (λ xs. CellsAt xs at ds) (sym later.cells_is) (cells_longer s.cells later.cells at ds h)

  pub text_known : (points : List ℕ) (s : Emitted) → Begins (text points s).0 c.final
      → Constant c.setting (layout c) (word_of c.places (text points s).1) (text_value points)
  text_known points s later t roll g =
      list_stands points (length s.cells) (later_cells (text points s).0 (length s.cells) (list_cells (length s.cells) points) later (cells_end s.cells (list_cells (length s.cells) points))) t roll g

  symbol_known : (o : Option ℕ) (name : List ℕ) (s : Emitted) → s.symbols name ≡ o → Begins (symbol_at o name s).0 c.final
      → (layout c).symbol name ≡ Some (word_of c.places (symbol_at o name s).1)
  symbol_known (Some n) name s is later = ap (option_map (data_word c.places)) (later.symbols name n is)
  symbol_known None name s is later =
      ap (option_map (data_word c.places))
      (later.symbols name (length s.cells)
      (ap (λ t. if t then Some (length s.cells) else s.symbols name) ((bytes_eq-Decides name name).1 refl)))

  pub constant_known : (x : Const) (s : Emitted) → Begins (constant x s).0 c.final
      → Constant c.setting (layout c) (word_of c.places (constant x s).1) (Plain (atom_of x))
  unfolding Stands
  constant_known const.Undef s later t roll g = refl
  constant_known const.Nil s later t roll g = refl
  constant_known const.True s later t roll g = refl
  constant_known const.False s later t roll g = refl
  constant_known (const.Num n) s later t roll g = refl
  constant_known (const.Sym name) s later t roll g = symbol_known (s.symbols name) name s refl later
