-- The units of a formed file in which no name is refused fit in the shapes that the walk finds.
use Rattle.std.proofs.Common.{◌≡◌, refl, sym, subst, ◌∙◌, ap, ℕ, zero, suc, true, List, [], ◌∷◌, map, length, Option, Some, None, arith, slice_get}
use Rattle.std.proofs.lemmas.List.Folds.{list_all-map}
use Rattle.hum_syntax.specs.declared.tree.Stmt.{Stmt}
use Rattle.hum_syntax.specs.Formed as tree
use Rattle.hum_syntax.proofs.Induction as induction
use Rattle.hum_syntax.proofs.Induction.{nodes}
use Rattle.hum_core.specs.declared.tested.TestUnit.{TestUnit}
use Rattle.hum_meaning.specs.Named.{written}
use Rattle.hum_meaning.specs.Look.{outermost}
use Rattle.hum_meaning.specs.Scope as judged
use Rattle.hum_meaning.specs.Scope.{Scoped, outermost_scope}
use Rattle.hum_core.specs.Alike.{scope_of, Each}
use Rattle.hum_core.specs.Units.{resolved}
use Rattle.hum_core.specs.Lists.{tested}
use Rattle.hum_core.proofs.ScopedNames.{Fine}
use Rattle.hum_core.proofs.BoundNames.{found_stmt}
use Rattle.hum_core.proofs.ScopedFiles.{outermost_seen}
use Rattle.hum_code.specs.Layout.{Shape}
use Rattle.hum_emit.specs.Shapes.{outermost_shape, shapes_of, BlockIn, UnitFits, fits_to}
use Rattle.hum_emit.specs.Laws.{ShapesOfProgramsFit}
use Rattle.hum_emit.proofs.ShapePlaces.{themselves, as_many, Here, AllFit, Ready}
use Rattle.hum_emit.proofs.ShapeBlocks.{S, block_fits}
use Rattle.hum_emit.proofs.ShapeTrees.{stmt_fit}

-- ---- each of a list

abbrev OnSome : {A : Type 0} → (A → Type 0) → Option A → Type 0
OnSome P (Some a) = P a
OnSome P None = Unit {0}

each_get : {A B : Type 0} (R : A → B → Type 0) (as' : List A) (bs : List B) (k : ℕ) (a : A) (b : B) → Each R as' bs → slice_get as' k ≡ Some a
    → slice_get bs k ≡ Some b → R a b
each_get R (x ∷ as') (y ∷ bs) zero a b h e d = subst (OnSome (R a)) d (subst (OnSome (λ a. R a y)) e h.0)
each_get R (x ∷ as') (y ∷ bs) (suc k) a b h e d = each_get R as' bs k a b h.1 e d
each_get R [] bs k a b h e d = absurd (cc)
each_get R (x ∷ as') [] k a b h e d = absurd h

-- ---- the outermost scope

ready : (units : List TestUnit) (shapes : List Shape) → Ready units shapes (scope_of (outermost written)) outermost_shape outermost_scope
ready units shapes = record {
  fits = tt;
  sees = outermost_seen;
  few = let a : length outermost_shape ≡ 14 = refl in let b : length outermost_scope ≡ 14 = refl in omega (arith, a, b);
  bounded = let a : length outermost_shape ≡ 14 = refl in omega (arith, a);
}

-- ---- files

module _ (units : List TestUnit) (shapes : List Shape) where
  fitting : List Stmt → induction.Each (S units shapes)
  fitting [] = []
  fitting (s ∷ file) = (s, stmt_fit units shapes s) ∷ fitting file

  same_nodes : (file : List Stmt) → nodes (fitting file) ≡ file
  unfolding fitting
  same_nodes [] = refl
  same_nodes (s ∷ file) = ap (λ ss. s ∷ ss) (same_nodes file)

-- a file, and the units and shapes of that
abbrev Fits : List Stmt → Type 0
Fits file =
    tree.are_formed file ≡ true → Scoped file
    → let units = tested (resolved file) in BlockIn units (shapes_of units) outermost_shape 0 × ((m : ℕ) → AllFit units (shapes_of units) m (resolved file) (outermost_shape ∷ []))

file_fits : (file : List Stmt) → Fits file
file_fits file formed scoped =
    let units = tested (resolved file) in
    let shapes = shapes_of units in
    let ss = fitting units shapes file in
    let is = same_nodes units shapes file in
    let here : Here units shapes 0 (resolved file) (outermost_shape ∷ []) = record { units_at = themselves units; shapes_at = themselves shapes } in
    subst (λ file. BlockIn units shapes outermost_shape 0 × ((m : ℕ) → AllFit units shapes m (resolved file) (outermost_shape ∷ []))) is
    (block_fits units shapes ss
    (subst (λ file. tree.all (map tree.is_formed_stmt file) ≡ true) (sym is) (list_all-map (λ b. b) tree.is_formed_stmt file ∙ formed))
    (scope_of (outermost written)) outermost_shape outermost_scope 0 (ready units shapes)
    (subst (λ file. Fine (judged.block (map found_stmt file) outermost_scope)) (sym is) (record { none = scoped }))
    (subst (λ file. Here units shapes 0 (resolved file) (outermost_shape ∷ [])) (sym is) here))

pub shapes-fit : ShapesOfProgramsFit
shapes-fit file formed scoped =
    let units = tested (resolved file) in
    let all = file_fits file formed scoped in
    record {
      each = λ n k u shape e d. each_get (UnitFits units (shapes_of units) (fits_to units (shapes_of units) n)) units (shapes_of units) k u shape (all.1 n).each e d;
      count = as_many units (outermost_shape ∷ []);
      first = all.0;
    }
