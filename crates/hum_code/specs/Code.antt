-- Which instructions stand for an expression, for tests, for statements and for units. In a comment `S` is a stack that is not looked
-- into, with the top on the right; `env` is a word that stands for an environment.
use Rattle.std.specs.Prelude.{◌≡◌, ℕ, zero, suc, pos, negsuc, true, false, List, [], ◌∷◌, map, fold, Option, Some, None, slice_get}
use Rattle.cap_words.specs.Words.{W, undef, nil, truth, pair_t, func_t, block_t, actor_t}
use Rattle.cap_words.specs.Seen.{Seen}
use Rattle.instr_table.specs.declared.op.Op.{Op}
use Rattle.instr_table.specs.declared.op.Op.TheVariants.{Push, Dup, Drop, Pick, Roll, Pair, Part, Nth, QuadMake, Typeq, Eq, If, Jump, My, ActorSend, ActorCreate, ActorBecome, Debug}
use Rattle.instr_table.specs.Types.{Grows}
use Rattle.hum_core.specs.declared.tested.TestExpr.{TestExpr, out-TestExpr}
use Rattle.hum_core.specs.declared.tested.Test.{Test, out-Test}
use Rattle.hum_core.specs.declared.tested.Test.TheOpen as test
use Rattle.hum_meaning.specs.Value.{Value, Plain}
use Rattle.hum_meaning.specs.Language as node
use Rattle.hum_meaning.specs.Language.{ExprNode, StmtNode}
use Rattle.hum_core.specs.Numbered.{Code, Opening, Of, atom_of}
use Rattle.hum_core.specs.TestLists.{Tests, test_expr}
use Rattle.hum_core.specs.Lowering.{TestNode, left_behind}
use Rattle.hum_code.specs.Comes.{Setting, At}
use Rattle.hum_code.specs.Layout.{Single, Several, Shape, with_singles, Layout, IsFunction, IsBlock, minus}
use Rattle.hum_code.specs.Stands.{Stands}

-- these operations stand one after the other, the first one at a, and k is the word after the last
abbrev pub Line : Setting → List Op → W → W → Type 0
Line m [] a k = a ≡ k
Line m (op ∷ []) a k = At m a op k
Line m (op ∷ op' ∷ ops) a k = (b : W) × At m a op b × Line m (op' ∷ ops) b k

-- where the test of the value on top succeeds it goes on at b, and else at miss
abbrev pub Choice : Setting → (a b miss : W) → Type 0
Choice m a b miss = At m a (If b) miss

-- ---- places in a shape

-- the entry after that many is a binding
abbrev pub HasSingle : Shape → ℕ → Type 0
HasSingle [] b = ⊥
HasSingle (Single ∷ shape) zero = Unit {0}
HasSingle (Several cs ∷ shape) zero = ⊥
HasSingle (entry ∷ shape) (suc b) = HasSingle shape b

-- the entry after that many is a group, whose member i is unit u, and the unit's place has the entries from the group on
abbrev pub HasMember : Layout → Shape → (b i u : ℕ) → Type 0
HasMember lay [] b i u = ⊥
HasMember lay (Single ∷ shape) zero i u = ⊥
HasMember lay (Several cs ∷ shape) zero i u = (slice_get cs i ≡ Some (Of u)) × (lay.shape u ≡ Several cs ∷ shape) × IsFunction lay u
HasMember lay (entry ∷ shape) (suc b) i u = HasMember lay shape b i u

-- how many bindings there are after a test, and after tests
abbrev pub bound_behind : TestNode → ℕ → ℕ
bound_behind test.Bind n = suc n
bound_behind _ n = n

abbrev pub bound_after : List Test → ℕ → ℕ
bound_after ts n = fold (λ before t. bound_behind (out-Test t) before) n ts

-- What stands for expressions and for tests: in a shape, from a to k. Tests are of that many values and stand where there are n bindings; one
-- that fails goes to miss.
pub record Codes : Type 1 where
  pub ExprAt : Shape → TestExpr → (a k : W) → Type 0
  pub TestsAt : Shape → (miss : W) → List Test → (values n : ℕ) → (a k : W) → Type 0

module _ (m : Setting) (lay : Layout) where
  -- the word stands for the value in every store that shows what the image does
  abbrev pub Constant : W → Value Tests → Type 0
  Constant w v = (t : Seen) (roll : List W) → Grows m.base t → Stands lay t roll w v

  module _ (below : Codes) (shape : Shape) where
    -- ---- expressions: from `S env` to `S value`

    -- a function of that unit, with the environment on top of the stack
    abbrev pub FunctionAt : ℕ → (a k : W) → Type 0
    FunctionAt u a k = Line m (Push (lay.place u) ∷ Push func_t ∷ QuadMake (pos 3) ∷ []) a k

    -- a block of that unit, with the environment on top of the stack
    abbrev pub BlockAt : ℕ → (a k : W) → Type 0
    BlockAt u a k = Line m (Push (lay.place u) ∷ Push block_t ∷ QuadMake (pos 3) ∷ []) a k × (lay.shape u ≡ shape) × IsBlock lay u

    -- a use of a binding, or of a member of a group
    abbrev pub VarAt : (back : ℕ) (member : Option ℕ) → (a k : W) → Type 0
    VarAt back None a k = At m a (Nth (pos (suc back))) k × HasSingle shape back
    VarAt back (Some i) a k = (b : W) × (u : ℕ) × At m a (Nth (minus back)) b × FunctionAt u b k × HasMember lay shape back i u

    abbrev pub AbsAt : Code → (a k : W) → Type 0
    AbsAt Opening a k = ⊥
    AbsAt (Of u) a k = FunctionAt u a k × (lay.shape u ≡ shape) × IsFunction lay u

    -- the items from left to right, and then the pairs from right to left
    abbrev pub ItemsAt : List TestExpr → (a k : W) → Type 0
    ItemsAt [] a k = ⊥
    ItemsAt (e ∷ []) a k = below.ExprAt shape e a k
    ItemsAt (e ∷ f ∷ more) a k = (b : W) × (c : W) × (d : W) × (l : W) × At m a (Dup (pos 1)) b × below.ExprAt shape e b c
        × At m c (Roll (pos 2)) d × ItemsAt (f ∷ more) d l × Line m (Roll (pos 2) ∷ Pair (pos 1) ∷ []) l k

    abbrev pub TupleAt : List TestExpr → (a k : W) → Type 0
    TupleAt [] a k = ⊥
    TupleAt (e ∷ []) a k = ⊥
    TupleAt (e ∷ f ∷ more) a k = ItemsAt (e ∷ f ∷ more) a k

    -- each condition in turn; the block of the first one that is TRUE, or the last block
    abbrev pub BranchesAt : List (TestExpr × ℕ) → (other : ℕ) → (a k : W) → Type 0
    BranchesAt [] other a k = BlockAt other a k
    BranchesAt (branch ∷ more) other a k = (b : W) × (c : W) × (d : W) × (yes : W) × (no : W) × (e : W) × (f : W) × (next : W)
        × At m a (Dup (pos 1)) b × below.ExprAt shape branch.0 b c × Line m (Dup (pos 1) ∷ Eq (truth true) ∷ []) c d × Choice m d yes no
        × At m yes (Drop (pos 1)) e × BlockAt branch.1 e k
        × At m no (Eq (truth false)) f × Choice m f next (lay.fail 5) × BranchesAt more other next k

    -- ---- tests: from `S env values` to the same with the bindings in front of env and the values that are left; where a test fails, to
    -- miss with a word in the place of each of the two

    -- one test, with n bindings so far
    abbrev pub TestAt : (miss : W) → TestNode → (n : ℕ) → (a k : W) → Type 0
    TestAt miss test.Pair n a k = (b : W) × (c : W) × Line m (Dup (pos 1) ∷ Nth (pos 1) ∷ Typeq pair_t ∷ []) a b × Choice m b c miss
        × Line m (Part (pos 1) ∷ Part (pos 1) ∷ Pair (pos 2) ∷ []) c k
    TestAt miss (test.Test::Is const) n a k = (b : W) × (c : W) × (w : W) × Line m (Dup (pos 1) ∷ Nth (pos 1) ∷ Eq w ∷ []) a b × Choice m b c miss
        × At m c (Nth (negsuc 0)) k × Constant w (Plain (atom_of const))
    TestAt miss (test.Same e) n a k = (b : W) × (c : W) × (d : W) × (l : W)
        × Line m (Dup (pos 1) ∷ Nth (pos 1) ∷ Pick (pos 3) ∷ Nth (minus n) ∷ []) a b × below.ExprAt shape e b c × At m c (Push d) lay.same
        × Choice m d l miss × At m l (Nth (negsuc 0)) k
    TestAt miss test.Bind n a k = Line m (Part (pos 1) ∷ Roll (pos 3) ∷ Roll (pos 2) ∷ Pair (pos 1) ∷ Roll (pos 2) ∷ []) a k
    TestAt miss test.Skip n a k = At m a (Nth (negsuc 0)) k

    -- tests of that many values, with n bindings so far
    abbrev pub TestsAt : (miss : W) → List Test → (values n : ℕ) → (a k : W) → Type 0
    TestsAt miss [] values n a k = a ≡ k
    TestsAt miss (t ∷ ts) zero n a k = ⊥
    TestsAt miss (t ∷ ts) (suc values) n a k = (b : W) × TestAt miss (out-Test t) n a b
        × TestsAt miss ts (left_behind (out-Test t) values) (bound_behind (out-Test t) n) b k

    -- ---- patterns

    -- the value on top, over env, is tested: from `S env value` to `S env` with the bindings, or to the failure of what does not match
    abbrev pub MatchAt : List Test → (a k : W) → Type 0
    MatchAt ts a k = (b : W) × (c : W) × Line m (Push nil ∷ Roll (pos 2) ∷ Pair (pos 1) ∷ []) a b × below.TestsAt shape (lay.fail 1) ts 1 0 b c
        × At m c (Drop (pos 1)) k

    -- ---- arms, with a word `kept` below: from `S kept env values` to `S value`, or to miss with a word in the place of each of env and values

    abbrev pub ArmAt : List Test × TestExpr → (miss a k : W) → Type 0
    ArmAt arm miss a k = (b : W) × (c : W) × below.TestsAt shape miss arm.0 1 0 a b × Line m (Drop (pos 1) ∷ Roll (pos 2) ∷ Drop (pos 1) ∷ []) b c
        × below.ExprAt (with_singles (bound_after arm.0 0) shape) arm.1 c k

    -- from `S kept` to `S kept env values`, where kept is a list of the values, env and a rest
    abbrev pub RestoreAt : (a k : W) → Type 0
    RestoreAt a k = Line m (Dup (pos 1) ∷ Nth (pos 2) ∷ Pick (pos 2) ∷ Nth (pos 1) ∷ []) a k

    -- the arms behind one that did not match: from `S kept x y`
    abbrev pub LaterArmsAt : List (List Test × TestExpr) → (a k : W) → Type 0
    LaterArmsAt [] a k = ⊥
    LaterArmsAt (arm ∷ []) a k = (b : W) × Line m (Drop (pos 2) ∷ Part (pos 2) ∷ []) a b × ArmAt arm (lay.fail 1) b k
    LaterArmsAt (arm ∷ other ∷ more) a k = (b : W) × (c : W) × (next : W) × At m a (Drop (pos 2)) b × RestoreAt b c × ArmAt arm next c k
        × LaterArmsAt (other ∷ more) next k

    -- all arms: from `S #nil env values`
    abbrev pub ArmsAt : List (List Test × TestExpr) → (a k : W) → Type 0
    ArmsAt [] a k = ⊥
    ArmsAt (arm ∷ []) a k = ArmAt arm (lay.fail 1) a k
    ArmsAt (arm ∷ other ∷ more) a k = (b : W) × (c : W) × (next : W) × At m a (Pair (pos 2)) b × RestoreAt b c × ArmAt arm next c k
        × LaterArmsAt (other ∷ more) next k

    -- ---- one node of an expression
    abbrev pub NodeAt : ExprNode Tests → (a k : W) → Type 0
    NodeAt (node.Is v) a k = (w : W) × Line m (Drop (pos 1) ∷ Push w ∷ []) a k × Constant w v
    NodeAt (node.Var slot) a k = VarAt slot.back slot.member a k
    NodeAt node.Myself a k = Line m (Drop (pos 1) ∷ My (pos 0) ∷ []) a k
    NodeAt (node.Abs code) a k = AbsAt code a k
    NodeAt (node.BlockOf u) a k = BlockAt u a k
    NodeAt (node.Call f x) a k = (b : W) × (c : W) × (d : W) × (l : W) × At m a (Dup (pos 1)) b × below.ExprAt shape f b c × At m c (Roll (pos 2)) d
        × below.ExprAt shape x d l × At m l (Push k) lay.call
    NodeAt (node.Tuple es) a k = TupleAt es a k
    NodeAt (node.New e) a k = (b : W) × (c : W) × At m a Debug b × below.ExprAt shape e b c × Line m (Push lay.apply ∷ ActorCreate ∷ []) c k
    NodeAt (node.Case e arms) a k = (b : W) × (c : W) × (d : W) × Line m (Push nil ∷ Roll (pos 2) ∷ Dup (pos 1) ∷ []) a b × below.ExprAt shape e b c
        × Line m (Push nil ∷ Roll (pos 2) ∷ Pair (pos 1) ∷ []) c d × ArmsAt arms d k
    NodeAt (node.If branches other) a k = BranchesAt branches other a k

  -- ---- statements: from `S return env` on, where a block goes back at its end with `S`

  module _ (below : Codes) where
    -- an expression, with the environment kept below its value
    abbrev pub PartAt : Shape → TestExpr → (a k : W) → Type 0
    PartAt shape e a k = (b : W) × At m a (Dup (pos 1)) b × below.ExprAt shape e b k

    abbrev pub StatementsAt : List (StmtNode Tests) → Shape → W → Type 0
    StatementsAt [] shape a = (k : W) × Line m (Drop (pos 1) ∷ Jump ∷ []) a k
    StatementsAt (node.Let ts e ∷ more) shape a = (b : W) × (k : W) × PartAt shape e a b × MatchAt below shape ts b k
        × StatementsAt more (with_singles (bound_after ts 0) shape) k
    StatementsAt (node.Functions fs ∷ more) shape a = (k : W) × Line m (Push undef ∷ Pair (pos 1) ∷ []) a k
        × StatementsAt more (Several (map (λ f. f.1) fs) ∷ shape) k
    StatementsAt (node.Defined ∷ more) shape a = (k : W) × At m a Debug k × StatementsAt more shape k
    StatementsAt (node.Send e target ∷ more) shape a = (b : W) × (c : W) × (d : W) × (l : W) × (n : W) × (k : W) × PartAt shape e a b
        × At m b (Pick (pos 2)) c × below.ExprAt shape target c d × Line m (Dup (pos 1) ∷ Typeq actor_t ∷ []) d l × Choice m l n (lay.fail 3)
        × At m n ActorSend k × StatementsAt more shape k
    StatementsAt (node.Create mark e ∷ more) shape a = (b : W) × (k : W) × PartAt shape e a b
        × Line m (Push lay.apply ∷ ActorCreate ∷ Pair (pos 1) ∷ []) b k × StatementsAt more (Single ∷ shape) k
    StatementsAt (node.Become e ∷ more) shape a = (b : W) × (k : W) × PartAt shape e a b × Line m (Push lay.apply ∷ ActorBecome ∷ []) b k
        × StatementsAt more shape k
    StatementsAt (node.Throw e ∷ more) shape a = PartAt shape e a (lay.fail 7)
    StatementsAt (node.Do e ∷ more) shape a = (b : W) × (k : W) × PartAt shape e a b × At m b (Push k) lay.exec × StatementsAt more shape k

    -- ---- units

    -- a function: from `S return argument env` to `S value` at return
    abbrev pub FunctionCode : List Test → TestExpr → Shape → W → Type 0
    FunctionCode ts e shape a = (b : W) × (c : W) × (d : W) × (k : W) × At m a (Roll (pos 2)) b × MatchAt below shape ts b c
        × below.ExprAt (with_singles (bound_after ts 0) shape) e c d × Line m (Roll (pos 2) ∷ Jump ∷ []) d k

  -- to depth n
  abbrev pub codes_to : ℕ → Codes
  codes_to zero = record { ExprAt = λ shape e a k. Unit {0}; TestsAt = λ shape miss ts values n a k. Unit {0} }
  codes_to (suc n) = record {
    ExprAt = λ shape e a k. NodeAt (codes_to n) shape (test_expr (out-TestExpr e)) a k;
    TestsAt = λ shape miss ts values bound a k. TestsAt (codes_to n) shape miss ts values bound a k;
  }
