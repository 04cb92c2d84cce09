-- When a tree of one language stands for a tree of another, and when their values, effects and outcomes are alike.
use Rattle.std.specs.Prelude.{◌≡◌, ℕ, ◌≤◌, List, [], ◌∷◌, map, Option, Some, None}
use Rattle.hum_meaning.specs.Value.{Parts, Atom, BuiltIn, Value, Plain, Pair, Function, Block, Primitive, Env, Outside, Bind, Group, Entry}
use Rattle.hum_meaning.specs.Action.{Effects, Outcome, Gives, Fails, Undecided}
use Rattle.hum_meaning.specs.Language.{ExprNode, Is, Var, Myself, Abs, BlockOf, Call, Tuple, New, Case, If, StmtNode, Let, Functions, Defined, Send, Create, Become, Throw, Do}

-- ---- lists and options, part by part

abbrev pub Both : {A B : Type 0} → (A → B → Type 0) → Option A → Option B → Type 0
Both R (Some a) (Some b) = R a b
Both R None None = Unit {0}
Both R _ _ = ⊥

abbrev pub Each : {A B : Type 0} → (A → B → Type 0) → List A → List B → Type 0
Each R (a ∷ more) (b ∷ others) = R a b × Each R more others
Each R [] [] = Unit {0}
Each R _ _ = ⊥

-- ---- scopes

-- what an entry of an environment binds: one mark, or those of a group
pub data Marked (M : Type 0) : Type 0 where
  One : M → Marked M
  Many : List M → Marked M

abbrev pub Scope : Parts → Type 0
Scope L = List (Marked L.Mark)

-- in a group
abbrev pub grouped : {M F : Type 0} → List (M × F) → List (Marked M) → List (Marked M)
grouped fs scope = Many (map (λ f. f.0) fs) ∷ scope

abbrev pub scope_of : {L : Parts} → Env L → Scope L
scope_of Outside = []
scope_of (Bind m v env) = One m ∷ scope_of env
scope_of (Group fs env) = grouped fs (scope_of env)

-- the marks of a pattern's entries, the newest first, in front of a scope
abbrev pub with_marks : {M : Type 0} → List M → List (Marked M) → List (Marked M)
with_marks [] scope = scope
with_marks (m ∷ ms) scope = One m ∷ with_marks ms scope

-- ---- trees

-- Which parts of a language L stand for which parts of a language K in a scope of L, and the marks that a pattern of L binds, the newest
-- first.
pub record Reading (L K : Parts) : Type 1 where
  pub ExprAs : Scope L → L.Expr → K.Expr → Type 0
  pub PatternAs : Scope L → L.Pattern → K.Pattern → Type 0
  pub ChoiceAs : Scope L → L.Choice → K.Choice → Type 0
  pub BodyAs : Scope L → L.Body → K.Body → Type 0
  pub AbstractionAs : Scope L → L.Abstraction → K.Abstraction → Type 0
  pub ReferenceAs : Scope L → L.Reference → K.Reference → Type 0
  pub marks : L.Pattern → List L.Mark

abbrev pub MemberAs : {L K : Parts} (r : Reading L K) → Scope L → L.Mark × L.Abstraction → K.Mark × K.Abstraction → Type 0
MemberAs r scope f g = r.AbstractionAs scope f.1 g.1

-- constants and texts
abbrev pub ConstantAs : {L K : Parts} → Value L → Value K → Type 0
ConstantAs (Plain a) (Plain b) = a ≡ b
ConstantAs (Pair a b) (Pair c d) = ConstantAs a c × ConstantAs b d
ConstantAs _ _ = ⊥

module _ {L K : Parts} (r : Reading L K) where
  -- ---- one node of a tree

  abbrev pub ArmAs : Scope L → L.Pattern × L.Expr → K.Pattern × K.Expr → Type 0
  ArmAs scope a b = r.PatternAs scope a.0 b.0 × r.ExprAs (with_marks (r.marks a.0) scope) a.1 b.1

  abbrev pub BranchAs : Scope L → L.Expr × L.Body → K.Expr × K.Body → Type 0
  BranchAs scope a b = r.ExprAs scope a.0 b.0 × r.BodyAs scope a.1 b.1

  abbrev pub ExprNodeAs : Scope L → ExprNode L → ExprNode K → Type 0
  ExprNodeAs scope (Is v) (Is w) = ConstantAs v w
  ExprNodeAs scope (Var x) (Var y) = r.ReferenceAs scope x y
  ExprNodeAs scope Myself Myself = Unit {0}
  ExprNodeAs scope (Abs f) (Abs g) = r.AbstractionAs scope f g
  ExprNodeAs scope (BlockOf b) (BlockOf c) = r.BodyAs scope b c
  ExprNodeAs scope (Call f a) (Call g b) = r.ExprAs scope f g × r.ExprAs scope a b
  ExprNodeAs scope (Tuple es) (Tuple ds) = Each (r.ExprAs scope) es ds
  ExprNodeAs scope (New e) (New d) = r.ExprAs scope e d
  ExprNodeAs scope (Case e x) (Case d y) = r.ExprAs scope e d × r.ChoiceAs scope x y
  ExprNodeAs scope (If more b) (If others c) = Each (BranchAs scope) more others × r.BodyAs scope b c
  ExprNodeAs scope _ _ = ⊥

  -- the statements of a body, each in the scope that those before it leave
  abbrev pub StatementsAs : Scope L → List (StmtNode L) → List (StmtNode K) → Type 0
  StatementsAs scope [] [] = Unit {0}
  StatementsAs scope (Let p e ∷ more) (Let q d ∷ others) = r.PatternAs scope p q × r.ExprAs scope e d × StatementsAs (with_marks (r.marks p) scope) more others
  StatementsAs scope (Functions fs ∷ more) (Functions gs ∷ others) = Each (MemberAs r (grouped fs scope)) fs gs × StatementsAs (grouped fs scope) more others
  StatementsAs scope (Defined ∷ more) (Defined ∷ others) = StatementsAs scope more others
  StatementsAs scope (Send e a ∷ more) (Send d b ∷ others) = r.ExprAs scope e d × r.ExprAs scope a b × StatementsAs scope more others
  StatementsAs scope (Create m e ∷ more) (Create n d ∷ others) = r.ExprAs scope e d × StatementsAs (One m ∷ scope) more others
  StatementsAs scope (Become e ∷ more) (Become d ∷ others) = r.ExprAs scope e d × StatementsAs scope more others
  StatementsAs scope (Throw e ∷ more) (Throw d ∷ others) = r.ExprAs scope e d × StatementsAs scope more others
  StatementsAs scope (Do e ∷ more) (Do d ∷ others) = r.ExprAs scope e d × StatementsAs scope more others
  StatementsAs scope _ _ = ⊥

-- ---- values and environments

mutual
  -- the same up to what is in functions and blocks, which stand for one another in the scope of their environment
  pub data Alike {L K : Parts} (r : Reading L K) : Value L → Value K → Type 0 where
    plain_as : (a : Atom) → Alike r (Plain a) (Plain a)
    pair_as : {a b : Value L} {c d : Value K} → Alike r a c → Alike r b d → Alike r (Pair a b) (Pair c d)
    function_as : {f : L.Abstraction} {g : K.Abstraction} {env : Env L} {env' : Env K} → r.AbstractionAs (scope_of env) f g
        → AlikeEnv r env env' → Alike r (Function f env) (Function g env')
    block_as : {b : L.Body} {c : K.Body} {env : Env L} {env' : Env K} → r.BodyAs (scope_of env) b c → AlikeEnv r env env'
        → Alike r (Block b env) (Block c env')
    primitive_as : (b : BuiltIn) → Alike r (Primitive b) (Primitive b)

  -- entry by entry
  pub data AlikeEnv {L K : Parts} (r : Reading L K) : Env L → Env K → Type 0 where
    outside_as : AlikeEnv r Outside Outside
    bind_as : {m : L.Mark} {n : K.Mark} {v : Value L} {w : Value K} {env : Env L} {env' : Env K} → Alike r v w → AlikeEnv r env env'
        → AlikeEnv r (Bind m v env) (Bind n w env')
    group_as : {fs : List (L.Mark × L.Abstraction)} {gs : List (K.Mark × K.Abstraction)} {env : Env L} {env' : Env K}
        → Each (MemberAs r (grouped fs (scope_of env))) fs gs → AlikeEnv r env env' → AlikeEnv r (Group fs env) (Group gs env')

-- ---- entries, effects and outcomes

module _ {L K : Parts} (r : Reading L K) where
  -- entries that bear these marks, and entries whose values are alike
  abbrev pub EntriesAs : List L.Mark → List (Entry L) → List (Entry K) → Type 0
  EntriesAs marks es ds = (map (λ e. e.0) es ≡ marks) × Each (λ a b. Alike r a.1 b.1) es ds

  abbrev pub SentAs : ℕ × Value L → ℕ × Value K → Type 0
  SentAs a b = (a.0 ≡ b.0) × Alike r a.1 b.1

  pub record EffectsAs (e : Effects L) (d : Effects K) : Type 0 where
    pub created_as : Each (Alike r) e.created d.created
    pub sent_as : Each SentAs e.sent d.sent
    pub next_as : Both (Alike r) e.next d.next

  -- the same outcome, undecided included, with the same steps left, which are no more than s
  abbrev pub OutcomeAs : {A B : Type 0} → (s : ℕ) → (A → B → Type 0) → Outcome L A → Outcome K B → Type 0
  OutcomeAs s R (Gives a e t) (Gives b d u) = R a b × EffectsAs e d × (t ≡ u) × (t ≤ s)
  OutcomeAs s R (Fails c n) (Fails d m) = (c ≡ d) × (n ≡ m)
  OutcomeAs s R Undecided Undecided = Unit {0}
  OutcomeAs s R _ _ = ⊥
