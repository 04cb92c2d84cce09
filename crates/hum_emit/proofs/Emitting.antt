-- The code of an emitted program stands in each store that holds what was emitted.
use Rattle.std.proofs.Common.{◌≡◌, refl, ap, sym, subst, ◌∙◌, ℕ, zero, suc, ◌+◌, ◌-◌, ◌<◌, lit<, pos, Bool, true, false, List, [], ◌∷◌, ◌++◌, map, length, Option, Some, None, option_map, nat_eq, arith}
use Rattle.std.specs.Prelude.{slice_get, slice_index}
use Rattle.std.specs.Str.{bytes_eq}
use Rattle.std.proofs.lemmas.Bool.Decides.{nat_tests}
use Rattle.std.proofs.lemmas.Option.{slice_get_within}
use Rattle.std.proofs.lemmas.Slice.Eq.{bytes_eq-Decides}
use Rattle.cap_words.specs.Words.{W, Fix, undef, nil, symbol_t, func_t, same_word}
use Rattle.cap_words.specs.Text.{is_run}
use Rattle.cap_words.proofs.Places.{get-left}
use Rattle.instr_table.specs.declared.op.Op.TheVariants as op
use Rattle.instr_table.specs.Code.{named}
use Rattle.hum_core.specs.declared.tested.TestUnit.{TestUnit}
use Rattle.hum_core.specs.declared.tested.TestUnit.TheVariants as unit
use Rattle.hum_core.specs.TestLists.{test_body}
use Rattle.hum_meaning.specs.Value.{BuiltIn, Add, Sub, Mul, Compare, Less, LessEqual, Greater, GreaterEqual, Equal, And, Or, Not, text_value}
use Rattle.hum_code.specs.Comes.{Setting, At}
use Rattle.hum_code.specs.Layout.{Shape, number_of_primitive}
use Rattle.hum_code.specs.Stands.{Shows, Stands, three_quad, DataStand}
use Rattle.hum_code.specs.Code.{Line, StatementsAt}
use Rattle.hum_code.specs.Runtime.{BootAt, RuntimeAt, outermost_words}
use Rattle.hum_code.specs.Emission.{CodeStands}
use Rattle.hum_code.proofs.Makings.{length_end}
use Rattle.hum_code.proofs.World.{same}
use Rattle.hum_emit.specs.declared.instruction.Field.TheVariants.{Constant as ConstantField, Place, Data}
use Rattle.hum_emit.specs.declared.instruction.Instruction.{Instruction}
use Rattle.hum_emit.specs.declared.instruction.Datum.{Datum}
use Rattle.hum_emit.specs.Emitted.{Emitted, ◌▷◌, push, put, pair, state, list_field}
use Rattle.hum_emit.specs.Holds.{Holds, word_of, data_word}
use Rattle.hum_emit.specs.Runtime.{routine_places, end_place}
use Rattle.hum_emit.specs.Templates.{units_code, push_data, boot_code}
use Rattle.hum_emit.specs.Program.{start, routine_cells, emission}
use Rattle.hum_emit.specs.Shapes.{ShapesFit}
use Rattle.hum_emit.specs.ProgramLayout.{places_of, program_layout}
use Rattle.hum_emit.proofs.Makes.{Kept, Begins, begins_same, begins_later, Image, layout, Makes, makes_one, makes_both, pushes, pairs_up}
use Rattle.hum_emit.proofs.DataCells.{datum_shown, list_stands}
use Rattle.hum_emit.proofs.FixedPlaces.{routines_many, routine_cell, routine_at}
use Rattle.hum_emit.proofs.Fixed.{kept_start, fails, calls, executes, applies, compares, primitives, ends}
use Rattle.hum_emit.proofs.Expressions.{below, at, index_is}
use Rattle.hum_emit.proofs.MadeUnits.{UnitAt, units_grow, units_stand}
use Rattle.hum_emit.proofs.FairStart.{whole}

-- ---- data

module _ (c : Image) (kept : Kept c.final) where
  abbrev Named : List ℕ → W → Type 0
  Named name w = (n : ℕ) × (c.final.symbols name ≡ Some n) × (w ≡ data_word c.places n)

  -- a symbol's cell is that of a datum
  of_symbol : (name : List ℕ) (w : W) → (layout c).symbol name ≡ Some w → Named name w
  of_symbol name w h = by_datum (c.final.symbols name) refl h
    where
      by_datum : (o : Option ℕ) → c.final.symbols name ≡ o → option_map (data_word c.places) o ≡ Some w → Named name w
      by_datum None is h = absurd (let no : None ≡ Some w = h in cc)
      by_datum (Some n) is h = (n, is, let e : Some (data_word c.places n) ≡ Some w = h in cc)

  symbols_stand : (name : List ℕ) (w : W) → Named name w
      → (bytes : W) × Shows c.setting.base w (three_quad symbol_t bytes undef) × Stands (layout c) c.setting.base [] bytes (text_value name)
  symbols_stand name w h =
      let cells = kept.cells name h.0 h.1 in (
        word_of c.places (list_field (suc h.0) name),
        subst (λ x. Shows c.setting.base x (three_quad symbol_t (word_of c.places (list_field (suc h.0) name)) undef)) (sym h.2)
            (datum_shown c h.0 _ cells.0),
        list_stands c name (suc h.0) cells.1 c.setting.base [] (same c.setting.base),
      )

  -- two data have one word only where they are one
  one_datum : (m n : ℕ) (t u : Bool) → same_word (data_word c.places m) (data_word c.places n) ≡ t → (t ≡ true → u ≡ true) → (u ≡ true → m ≡ n) → t ≡ u
  one_datum m n true u is f g = sym (f refl)
  one_datum m n false true is f g =
      let e : m ≡ n = g refl in
      let no : nat_eq (16 + (c.places.size + m)) (16 + (c.places.size + n)) ≡ true = grind (arith, nat_tests, e) in
      absurd (let bad : false ≡ true = sym is ∙ no in cc)
  one_datum m n false false is f g = refl

  names_differ : (a b : List ℕ) (v w : W) → Named a v → Named b w → same_word v w ≡ bytes_eq a b
  names_differ a b v w h k =
      subst (λ x. same_word x w ≡ bytes_eq a b) (sym h.2) (subst (λ y. same_word (data_word c.places h.0) y ≡ bytes_eq a b) (sym k.2)
      (one_datum h.0 k.0 _ (bytes_eq a b) refl same_cell same_name))
    where
      same_cell : same_word (data_word c.places h.0) (data_word c.places k.0) ≡ true → bytes_eq a b ≡ true
      same_cell e =
          let one : nat_eq (16 + (c.places.size + h.0)) (16 + (c.places.size + k.0)) ≡ true = e in
          let is : k.0 ≡ h.0 = grind (arith, nat_tests, one) in
          kept.names a b h.0 h.1 (k.1 ∙ ap Some is)

      same_name : bytes_eq a b ≡ true → h.0 ≡ k.0
      same_name e =
          let names : a ≡ b = (bytes_eq-Decides a b).0 e in
          let both : Some h.0 ≡ Some k.0 = sym h.1 ∙ (ap c.final.symbols names ∙ k.1) in cc

  module _ (more : List Datum) (begins : c.final.cells ≡ routine_cells 0 routine_places ++ more) where
    cell : (j : ℕ) → j < 12 → slice_get c.final.cells j ≡ Some (routine_cell j (slice_index routine_places j))
    cell j few =
        let is = routine_at 0 routine_places j (let many = routines_many in omega (arith, many, few))
        ∙ ap (λ n. Some (routine_cell n (slice_index routine_places j))) (let same : 0 + j ≡ j = omega arith in same) in
        ap (λ xs. slice_get xs j) begins ∙ (get-left (routine_cells 0 routine_places) more j (slice_get_within (routine_cells 0 routine_places) j _ is) ∙ is)

    primitives_stand : (b : BuiltIn)
        → Shows c.setting.base ((layout c).primitive b) (three_quad func_t ((layout c).routine b) (Fix (pos (number_of_primitive b))))
    primitives_stand Add = datum_shown c 0 _ (cell 0 (lit< tt))
    primitives_stand Sub = datum_shown c 1 _ (cell 1 (lit< tt))
    primitives_stand Mul = datum_shown c 2 _ (cell 2 (lit< tt))
    primitives_stand Compare = datum_shown c 3 _ (cell 3 (lit< tt))
    primitives_stand Less = datum_shown c 4 _ (cell 4 (lit< tt))
    primitives_stand LessEqual = datum_shown c 5 _ (cell 5 (lit< tt))
    primitives_stand Greater = datum_shown c 6 _ (cell 6 (lit< tt))
    primitives_stand GreaterEqual = datum_shown c 7 _ (cell 7 (lit< tt))
    primitives_stand Equal = datum_shown c 8 _ (cell 8 (lit< tt))
    primitives_stand And = datum_shown c 9 _ (cell 9 (lit< tt))
    primitives_stand Or = datum_shown c 10 _ (cell 10 (lit< tt))
    primitives_stand Not = datum_shown c 11 _ (cell 11 (lit< tt))

    pub data_stand : ((name : List ℕ) (n : ℕ) → c.final.symbols name ≡ Some n → is_run name ≡ true) → DataStand (layout c) c.setting.base
    data_stand runs = record {
      runs = λ name w h. let is = of_symbol name w h in runs name is.0 is.1;
      symbols = λ name w h. symbols_stand name w (of_symbol name w h);
      names = λ a b v w h k. names_differ a b v w (of_symbol a v h) (of_symbol b w k);
      primitives = primitives_stand;
    }

-- ---- the first actor's code

module _ (c : Image) where
  states : (n : ℕ) → named 18 (Fix (pos n)) ≡ Some (op.State (pos n)) → Makes c (state n) (λ a k. At c.setting a (op.State (pos n)) k)
  states n is = makes_one _ is

  pub made_boot : Makes c boot_code (λ a k.
      Line c.setting (op.Push (at c end_place) ∷ op.Push nil ∷ map op.Push (outermost_words c.setting (layout c)) ++ op.State (pos 1) ∷ op.State (pos 2) ∷ op.Pair (pos 14) ∷ []) a k)
  made_boot =
      makes_both (pushes (Place end_place)) (makes_both (pushes (ConstantField 1))
      (makes_both (pushes (Data 0)) (makes_both (pushes (Data 1)) (makes_both (pushes (Data 2)) (makes_both (pushes (Data 3))
      (makes_both (pushes (Data 4)) (makes_both (pushes (Data 5)) (makes_both (pushes (Data 6)) (makes_both (pushes (Data 7))
      (makes_both (pushes (Data 8)) (makes_both (pushes (Data 9)) (makes_both (pushes (Data 10)) (makes_both (pushes (Data 11))
      (makes_both (states 1 refl) (makes_both (states 2 refl) (pairs_up 14 refl))))))))))))))))

-- ---- the whole program

item_at : {A : Type 0} (xs : List A) (k : ℕ) → k < length xs → (x : A) × (slice_get xs k ≡ Some x)
item_at [] k h = absurd (omega (arith, h))
item_at (x ∷ xs) zero h = (x, refl)
item_at (x ∷ xs) (suc k) h = item_at xs k (omega (arith, h))

-- the instruction that was made last has the last number
last_made : (x : Instruction) (s : Emitted) → length (put x s).0.code - 1 ≡ (put x s).1
last_made x s = let one_more = length_end s.code x in omega (arith, one_more)

module _ (m : Setting) (units : List TestUnit) (shapes : List Shape) (fit : ShapesFit units shapes)
    (holds : Holds (places_of (emission units shapes)) m.base (emission units shapes).0) where
  abbrev made : Emitted × List ℕ
  made = units_code units shapes start

  abbrev final : Emitted
  final = (emission units shapes).0

  abbrev image : Image
  image = record { setting = m; places = places_of (emission units shapes); units = units; shapes = shapes; final = final; holds = holds }

  grown_units : Begins start made.0
  grown_units = units_grow image units shapes (fit.each 0) start

  grown_boot : Begins made.0 final
  grown_boot = (made_boot image).grows.at (slice_index made.1 0) made.0

  begun : Begins start final
  begun = begins_later start made.0 final grown_units grown_boot

  unit_at : (n k : ℕ) (u : TestUnit) → slice_get units k ≡ Some u → UnitAt image n u ((layout image).shape k) ((layout image).place k)
  unit_at n k u is =
      let below_length : k < length units = slice_get_within units k u is in
      let shape = item_at shapes k (subst (λ j. k < j) (sym fit.count) below_length) in
      subst (λ x. UnitAt image n u x ((layout image).place k)) (sym (index_is shapes k shape.0 [] shape.1))
      (units_stand image n units shapes (fit.each n) start grown_boot k u shape.0 is shape.1)

  boots : BootAt m (layout image)
  boots =
      let first = slice_index made.1 0 in
      let rest = (push (ConstantField 1) ▷ push_data 0 12 ▷ state 1 ▷ state 2 ▷ pair 14) first made.0 in
      let last : length final.code - 1 ≡ (boot_code first made.0).1
      = last_made (record { operation = 0; field = Place end_place; next = Some rest.1 }) rest.0 in
      record {
        ending = at image end_place;
        b = at image end_place;
        k = undef;
        pushes = subst (λ i. Line m (op.Push (at image end_place) ∷ op.Push nil ∷ map op.Push (outermost_words m (layout image))
            ++ op.State (pos 1) ∷ op.State (pos 2) ∷ op.Pair (pos 14) ∷ []) (at image i) ((layout image).place 0)) (sym last)
            ((made_boot image).stands first made.0 (begins_same final));
        commits = ends image begun;
      }

  runtime_stands : RuntimeAt m (layout image)
  runtime_stands = record {
    fails = fails image begun;
    calls = calls image begun;
    executes = executes image begun;
    applies = applies image begun;
    compares = compares image begun;
    primitives = primitives image begun;
    boots = boots;
  }

  -- what is emitted of units in shapes that fit stands, to every depth, in each store that holds it
  pub code_stands : CodeStands m (program_layout (places_of (emission units shapes)) units shapes final)
  code_stands = record {
    cells = data_stand image (begun.keeps kept_start) begun.cells begun.cells_is
        (λ name n h. ((whole units shapes fit).fair.symbols name n h).1);
    runtime = runtime_stands;
    functions = λ n k f. unit_at n k (unit.Abs f.tests f.value) f.is;
    blocks = λ n k b.
        subst (λ o. StatementsAt m (layout image) (below image n) (test_body o) ((layout image).shape k) ((layout image).place k)) (sym b.is)
        (unit_at n k (unit.Block b.statements) b.is);
  }
