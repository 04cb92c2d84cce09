-- How a language is read, one node at a time, and what its meaning consists of.
use Rattle.std.specs.Prelude.{List, Option}
use Rattle.hum_meaning.specs.Value.{Parts, Value, Env, Entry}
use Rattle.hum_meaning.specs.Action.{Action}

-- one node of an expression; an `If` without `ELSE` has the empty body there
pub data ExprNode (L : Parts) : Type 0 where
  Is : Value L → ExprNode L
  Var : L.Reference → ExprNode L
  Myself : ExprNode L
  Abs : L.Abstraction → ExprNode L
  BlockOf : L.Body → ExprNode L
  Call : (callee argument : L.Expr) → ExprNode L
  Tuple : List L.Expr → ExprNode L
  New : L.Expr → ExprNode L
  Case : L.Expr → L.Choice → ExprNode L
  If : List (L.Expr × L.Body) → (other : L.Body) → ExprNode L

-- one statement; the first function definition of a stretch is `Functions` with all definitions of the stretch, and each further one is
-- `Defined`
pub data StmtNode (L : Parts) : Type 0 where
  Let : L.Pattern → L.Expr → StmtNode L
  Functions : List (L.Mark × L.Abstraction) → StmtNode L
  Defined : StmtNode L
  Send : (message target : L.Expr) → StmtNode L
  Create : L.Mark → L.Expr → StmtNode L
  Become : L.Expr → StmtNode L
  Throw : L.Expr → StmtNode L
  Do : L.Expr → StmtNode L

-- evaluates an expression
abbrev pub Evaluator : Parts → Type 0
Evaluator L = L.Expr → Env L → Action L (Value L)

-- what a pattern gives: its entries, the newest first, in front of the entries so far, or none where it does not match
abbrev pub Matched : Parts → Type 0
Matched L = Option (List (Entry L))

-- matches a pattern with a value, over the environment outside the whole pattern and the entries so far
abbrev pub Matcher : Parts → Type 0
Matcher L = L.Pattern → Value L → Env L → List (Entry L) → Action L (Matched L)

-- executes the body of a block
abbrev pub Executor : Parts → Type 0
Executor L = L.Body → Env L → Action L (Unit {0})

-- evaluation, matching and execution
pub record Meaning (L : Parts) : Type 0 where
  pub eval : Evaluator L
  pub matches : Matcher L
  pub exec : Executor L

-- how a language is read: the node of an expression, the statements of a body, the pattern and the body of an abstraction, what a reference
-- finds in an environment, one node of matching over evaluation and matching of what is below it, and what a choice gives for a value over the
-- meaning of what is below
pub record Language (L : Parts) : Type 0 where
  pub expr : L.Expr → ExprNode L
  pub body : L.Body → List (StmtNode L)
  pub abstraction : L.Abstraction → Option (L.Pattern × L.Expr)
  pub look : Env L → L.Reference → Option (Value L)
  pub match_node : Evaluator L → Matcher L → Matcher L
  pub choose_node : Meaning L → L.Choice → Value L → Env L → Action L (Value L)
