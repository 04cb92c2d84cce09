-- The module of an accepted text's program links.
use Rattle.std.proofs.Common.{◌≡◌, sym, subst, List, [], ◌∷◌, None}
use Rattle.uasm_read.specs.Links.{link_fault}
use Rattle.hum_syntax.specs.declared.Tree.{Tree}
use Rattle.hum_syntax.specs.Forms.{Bytes}
use Rattle.hum_syntax.specs.Spells.{deepest}
use Rattle.hum_core.specs.declared.tested.TestUnit.{TestUnit}
use Rattle.hum_core.specs.Programs.{program}
use Rattle.hum_emit.specs.Compiled.{compiled_module}
use Rattle.hum_emit.proofs.SizeUnits.{programs_link}
use Rattle.hum_front.specs.Accepted.{Accepted}

pub accepted_links : (bytes : Bytes) (tree : Tree) (units : List TestUnit) → Accepted bytes tree → units ≡ program tree.statements
    → link_fault (compiled_module units ∷ []) ≡ None
accepted_links bytes tree units is same =
    subst (λ us. link_fault (compiled_module us ∷ []) ≡ None) (sym same)
    (programs_link deepest is.tokens tree.statements is.spells is.are.light).links
