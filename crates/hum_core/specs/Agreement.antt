-- How a written tree stands for a numbered one, and that the two mean the same.
use Rattle.std.specs.Prelude.{◌≡◌, ℕ, suc, if◌then◌else◌, List, [], ◌∷◌, ◌++◌, Option, Some, None}
use Rattle.std.specs.Str.{bytes_eq}
use Rattle.hum_syntax.specs.declared.tree.Expr.{Expr}
use Rattle.hum_syntax.specs.declared.tree.Pat.{Pat, out-Pat, fold-Pat}
use Rattle.hum_syntax.specs.declared.tree.Stmt.{Stmt}
use Rattle.hum_syntax.specs.declared.tree.Arm.{Arm}
use Rattle.hum_syntax.specs.declared.tree.Branch.{Branch}
use Rattle.hum_syntax.specs.declared.tree.Expr.TheOpen.{Pat-F}
use Rattle.hum_syntax.specs.declared.tree.Expr.TheOpen as layer
use Rattle.hum_core.specs.declared.slot.Slot.{Slot}
use Rattle.hum_core.specs.declared.slot.Const.TheVariants as const
use Rattle.hum_core.specs.declared.resolved.CoreUnit.{CoreUnit}
use Rattle.hum_core.specs.declared.resolved.CoreExpr.{CoreExpr}
use Rattle.hum_core.specs.declared.resolved.CorePat.{CorePat, out-CorePat}
use Rattle.hum_core.specs.declared.resolved.CoreArm.{CoreArm}
use Rattle.hum_core.specs.declared.resolved.CoreBranch.{CoreBranch}
use Rattle.hum_core.specs.declared.resolved.CoreExpr.TheOpen.{CorePat-F}
use Rattle.hum_core.specs.declared.resolved.CoreExpr.TheOpen as core
use Rattle.hum_meaning.specs.Named.{Name, Named, written}
use Rattle.hum_meaning.specs.Written.{humus}
use Rattle.hum_core.specs.CoreTrees.{Core, core_language}
use Rattle.hum_core.specs.Alike.{Marked, One, Many, Scope, Each, Reading}
use Rattle.hum_core.specs.Reading.{Linking, ArmsAs, whole_reading}

-- ---- names

abbrev pub newest : Slot
newest = record { back = 0; member = None }

-- one entry further back
abbrev pub further : Option Slot → Option Slot
further None = None
further (Some slot) = Some (record { back = suc slot.back; member = slot.member })

abbrev pub next_place : Option ℕ → Option ℕ
next_place None = None
next_place (Some k) = Some (suc k)

-- the first place of a name in a group
abbrev pub place : List Name → Name → Option ℕ
place [] x = None
place (m ∷ ms) x = if bytes_eq m x then Some 0 else next_place (place ms x)

abbrev pub in_group : Option ℕ → Option Slot → Option Slot
in_group (Some k) other = Some (record { back = 0; member = Some k })
in_group None other = further other

-- the slot of the newest entry that has the name
abbrev pub slot_of : List (Marked Name) → Name → Option Slot
slot_of [] x = None
slot_of (One m ∷ rest) x = if bytes_eq m x then Some newest else further (slot_of rest x)
slot_of (Many ms ∷ rest) x = in_group (place ms x) (slot_of rest x)

-- ---- patterns

abbrev pub Names : Type 0
Names = List Name

-- the later list in front
abbrev pub joined : {X : Type 0} → List (List X) → List X
joined [] = []
joined (xs ∷ more) = joined more ++ xs

-- the names that a pattern binds, the newest first
abbrev pub names_node : Pat-F (Unit {0}) Names (Unit {0}) (Unit {0}) (Unit {0}) → Names
names_node (layer.Bind x) = x ∷ []
names_node (layer.Pat::Tuple names) = joined names
names_node _ = []

abbrev pub names_of : Pat → Names
names_of = fold-Pat (Unit {0}) Names (Unit {0}) (Unit {0}) (Unit {0}) (λ _. tt) names_node (λ _. tt) (λ _. tt) (λ _. tt)

abbrev pub WrittenPat : Type 0
WrittenPat = Pat-F Expr Pat Stmt Arm Branch

abbrev pub NumberedPat : Type 0
NumberedPat = CorePat-F CoreExpr CorePat CoreArm CoreBranch

-- a constant becomes `Is`; each other node keeps its kind
abbrev pub PatternNodeAs : Reading (Named written) Core → Scope (Named written) → WrittenPat → NumberedPat → Type 0
PatternNodeAs r scope layer.Any core.Any = Unit {0}
PatternNodeAs r scope (layer.Bind x) core.Bind = Unit {0}
PatternNodeAs r scope layer.Pat::Undef (core.CorePat::Is c) = c ≡ const.Undef
PatternNodeAs r scope layer.Pat::Nil (core.CorePat::Is c) = c ≡ const.Nil
PatternNodeAs r scope layer.Pat::True (core.CorePat::Is c) = c ≡ const.True
PatternNodeAs r scope layer.Pat::False (core.CorePat::Is c) = c ≡ const.False
PatternNodeAs r scope (layer.Pat::Num n) (core.CorePat::Is c) = c ≡ const.Num n
PatternNodeAs r scope (layer.Pat::Sym x) (core.CorePat::Is c) = c ≡ const.Sym x
PatternNodeAs r scope (layer.Value e) (core.Value d) = r.ExprAs scope e d
PatternNodeAs r scope (layer.Pat::Tuple ps) (core.CorePat::Tuple qs) = Each (r.PatternAs scope) ps qs
PatternNodeAs r scope _ _ = ⊥

abbrev pub resolving : Linking (Named written) Core
resolving = record {
  ReferenceAs = λ scope x slot. slot_of scope x ≡ Some slot;
  marks = names_of;
  PatternNodeAs = λ r scope p q. PatternNodeAs r scope (out-Pat p) (out-CorePat q);
  ChoiceAs = ArmsAs (Named written) Core names_of;
}

-- ---- whole trees

-- which written trees these units stand for
abbrev pub Resolution : List CoreUnit → Reading (Named written) Core
Resolution units = whole_reading humus (core_language units) resolving
