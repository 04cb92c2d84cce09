-- The fixed code: what calls, executes, applies, compares and fails, the built-in functions, and what an event of the first actor begins
-- with. In a comment `S` is a stack that is not looked into, with the top on the right.
use Rattle.std.specs.Prelude.{ℕ, nat_eq, pos, negsuc, true, false, IsTrue, List, [], ◌∷◌, ◌++◌, map}
use Rattle.std.specs.List.{list_any}
use Rattle.cap_words.specs.Words.{W, Fix, nil, truth, fixnum_t, pair_t, func_t, block_t}
use Rattle.instr_table.specs.declared.op.Op.{Op}
use Rattle.instr_table.specs.declared.op.Op.TheVariants.{Push, Dup, Drop, Pick, Roll, Pair, Part, Nth, QuadTake, Typeq, Eq, Cmp, Alu, Jump, Msg, State, My, End}
use Rattle.hum_meaning.specs.Value.{BuiltIn, Add, Sub, Mul, Compare, Less, LessEqual, Greater, GreaterEqual, Equal, And, Or, Not, built_ins}
use Rattle.hum_code.specs.Comes.{Setting, At}
use Rattle.hum_code.specs.Layout.{Layout}
use Rattle.hum_code.specs.Code.{Line, Choice}

-- fails with that code
pub record FailAt (m : Setting) (code : ℕ) (a : W) : Type 0 where
  pub b : W
  pub k : W
  pub pushes : At m a (Push (Fix (pos code))) b
  pub aborts : At m b (End (negsuc 0)) k

-- goes back: from `S return value` to `S value` at return
abbrev pub BackAt : Setting → W → Type 0
BackAt m a = (k : W) × Line m (Roll (pos 2) ∷ Jump ∷ []) a k

-- from `S function argument return` to the function's code with `S return argument env`
pub record CallAt (m : Setting) (lay : Layout) : Type 0 where
  pub b : W
  pub c : W
  pub k : W
  pub tests : Line m (Roll (negsuc 2) ∷ Roll (pos 2) ∷ Dup (pos 1) ∷ Typeq func_t ∷ []) lay.call b
  pub chooses : Choice m b c (lay.fail 2)
  pub enters : Line m (QuadTake (negsuc 2) ∷ Drop (pos 1) ∷ Jump ∷ []) c k

-- from `S value return` to a block's code with `S return env`, or to return with `S`
pub record ExecAt (m : Setting) (lay : Layout) : Type 0 where
  pub b : W
  pub block : W
  pub none : W
  pub j : W
  pub k : W
  pub tests : Line m (Roll (pos 2) ∷ Dup (pos 1) ∷ Typeq block_t ∷ []) lay.exec b
  pub chooses : Choice m b block none
  pub enters : Line m (QuadTake (negsuc 2) ∷ Drop (pos 1) ∷ []) block j
  pub skips : At m none (Drop (pos 1)) j
  pub jumps : At m j Jump k

-- the code of each actor but the first: from no stack to the end of the event
pub record ApplyAt (m : Setting) (lay : Layout) : Type 0 where
  pub b : W
  pub result : W
  pub ending : W
  pub k : W
  pub reads : Line m (My (pos 2) ∷ Msg (pos 0) ∷ []) lay.apply b
  pub calls : At m b (Push result) lay.call
  pub executes : At m result (Push ending) lay.exec
  pub commits : At m ending (End (pos 1)) k

-- Comparison: from `S a b return` to `S truth` at return. `state` is at `S return a b`, and `loop` at `S return todo a b`, where `todo` is a
-- list of pairs that were taken apart, whose tails are still to be compared; `more` is at `S return todo` where a and b are the same, and
-- `no` at `S return any` where they are not.
pub record SameAt (m : Setting) (lay : Layout) : Type 0 where
  pub state : W
  pub loop : W
  pub pairs : W
  pub leaf : W
  pub differ : W
  pub more : W
  pub tails : W
  pub yes : W
  pub no : W
  pub b : W
  pub c : W
  pub d : W
  pub e : W
  pub f : W
  pub g : W
  pub h : W
  pub i : W
  pub j : W
  pub k : W
  pub enters : At m lay.same (Roll (negsuc 2)) state
  pub begins : Line m (Push nil ∷ Roll (negsuc 2) ∷ []) state loop
  pub top : Line m (Dup (pos 1) ∷ Typeq pair_t ∷ []) loop b
  pub top_chooses : Choice m b c leaf
  pub other : Line m (Pick (pos 2) ∷ Typeq pair_t ∷ []) c d
  pub other_chooses : Choice m d pairs differ
  pub heads : Line m (Pair (pos 2) ∷ Dup (pos 1) ∷ Nth (pos 2) ∷ Nth (pos 1) ∷ Pick (pos 2) ∷ Nth (pos 1) ∷ Nth (pos 1) ∷ []) pairs loop
  pub function : Line m (Dup (pos 1) ∷ Typeq func_t ∷ []) leaf e
  pub function_chooses : Choice m e differ f
  pub block : Line m (Dup (pos 1) ∷ Typeq block_t ∷ []) f g
  pub block_chooses : Choice m g differ h
  pub compares : At m h (Cmp (pos 0)) i
  pub same_chooses : Choice m i more no
  pub looks : At m more (Dup (pos 1)) j
  pub more_chooses : Choice m j tails yes
  pub takes : Line m (Part (pos 2) ∷ Nth (negsuc 0) ∷ Roll (pos 2) ∷ Nth (negsuc 0) ∷ Roll (pos 2) ∷ []) tails loop
  pub differs : At m differ (Drop (pos 2)) no
  pub answers_yes : Line m (Drop (pos 1) ∷ Push (truth true) ∷ []) yes k
  pub answers_no : Line m (Drop (pos 1) ∷ Push (truth false) ∷ []) no k
  pub back : BackAt m k

module _ (m : Setting) (lay : Layout) where
  -- ---- built-in functions: from `S return argument number` to `S value` at return

  -- the parts of a pair: to `S return x y`
  abbrev pub PartsAt : (a k : W) → Type 0
  PartsAt a k = (b : W) × (c : W) × Line m (Drop (pos 1) ∷ Dup (pos 1) ∷ Typeq pair_t ∷ []) a b × Choice m b c (lay.fail 1)
      × Line m (Part (pos 1) ∷ Roll (pos 2) ∷ []) c k

  -- two numbers are on top
  abbrev pub NumbersAt : (a k : W) → Type 0
  NumbersAt a k = (b : W) × (c : W) × (d : W) × Line m (Dup (pos 1) ∷ Typeq fixnum_t ∷ []) a b × Choice m b c (lay.fail 4)
      × Line m (Pick (pos 2) ∷ Typeq fixnum_t ∷ []) c d × Choice m d k (lay.fail 4)

  -- one operation on two numbers
  abbrev pub CalculatesAt : Op → W → Type 0
  CalculatesAt op a = (b : W) × (c : W) × (d : W) × PartsAt a b × NumbersAt b c × At m c op d × BackAt m d

  -- the n-th item is a truth value
  abbrev pub TruthAt : ℕ → (a k : W) → Type 0
  TruthAt n a k = (b : W) × (c : W) × (d : W) × Line m (Pick (pos n) ∷ Eq (truth true) ∷ []) a b × Choice m b k c
      × Line m (Pick (pos n) ∷ Eq (truth false) ∷ []) c d × Choice m d k (lay.fail 5)

  -- drops an item and answers with that word
  abbrev pub AnswersAt : ℕ → W → W → Type 0
  AnswersAt n w a = (b : W) × Line m (Drop (pos n) ∷ Push w ∷ []) a b × BackAt m b

  abbrev pub CompareAt : W → Type 0
  CompareAt a = (b : W) × (c : W) × (d : W) × (low : W) × (e : W) × (f : W) × (high : W) × (level : W) × (back : W)
      × PartsAt a b × NumbersAt b c × Line m (Dup (pos 2) ∷ Cmp (pos 3) ∷ []) c d × Choice m d low e
      × AnswersAt 2 (Fix (negsuc 0)) low × At m e (Cmp (pos 2)) f × Choice m f high level
      × At m high (Push (Fix (pos 1))) back × At m level (Push (Fix (pos 0))) back × BackAt m back

  -- both are tested; where the second is true the first is the answer
  abbrev pub AndAt : W → Type 0
  AndAt a = (b : W) × (c : W) × (d : W) × (yes : W) × (no : W) × PartsAt a b × TruthAt 2 b c × TruthAt 1 c d × Choice m d yes no
      × BackAt m yes × AnswersAt 1 (truth false) no

  abbrev pub OrAt : W → Type 0
  OrAt a = (b : W) × (c : W) × (d : W) × (yes : W) × (no : W) × PartsAt a b × TruthAt 2 b c × TruthAt 1 c d × Choice m d yes no
      × AnswersAt 1 (truth true) yes × BackAt m no

  abbrev pub NotAt : W → Type 0
  NotAt a = (b : W) × (c : W) × (d : W) × At m a (Drop (pos 1)) b × TruthAt 1 b c × At m c (Eq (truth false)) d × BackAt m d

  abbrev pub PrimitiveAt : SameAt m lay → BuiltIn → W → Type 0
  PrimitiveAt s Add a = CalculatesAt (Alu (pos 4)) a
  PrimitiveAt s Sub a = CalculatesAt (Alu (pos 5)) a
  PrimitiveAt s Mul a = CalculatesAt (Alu (pos 6)) a
  PrimitiveAt s Compare a = CompareAt a
  PrimitiveAt s Less a = CalculatesAt (Cmp (pos 3)) a
  PrimitiveAt s LessEqual a = CalculatesAt (Cmp (pos 4)) a
  PrimitiveAt s Greater a = CalculatesAt (Cmp (pos 2)) a
  PrimitiveAt s GreaterEqual a = CalculatesAt (Cmp (pos 1)) a
  PrimitiveAt s Equal a = PartsAt a s.state
  PrimitiveAt s And a = AndAt a
  PrimitiveAt s Or a = OrAt a
  PrimitiveAt s Not a = NotAt a

  -- ---- the first actor's code: the outermost environment is put on the stack, the newest entry first, and unit 0 runs in it

  abbrev pub outermost_words : List W
  outermost_words = map lay.primitive built_ins

  pub record BootAt : Type 0 where
    pub ending : W
    pub b : W
    pub k : W
    pub pushes : Line m (Push ending ∷ Push nil ∷ map Push outermost_words ++ State (pos 1) ∷ State (pos 2) ∷ Pair (pos 14) ∷ []) lay.boot
        (lay.place 0)
    pub commits : At m ending (End (pos 1)) k

-- the codes that code fails with; a second `BECOME` is refused by the machine
abbrev pub IsFailure : ℕ → Type 0
IsFailure code = IsTrue (list_any (λ c. nat_eq c code) (1 ∷ 2 ∷ 3 ∷ 4 ∷ 5 ∷ 7 ∷ []))

-- all fixed code
pub record RuntimeAt (m : Setting) (lay : Layout) : Type 0 where
  pub fails : (code : ℕ) → IsFailure code → FailAt m code (lay.fail code)
  pub calls : CallAt m lay
  pub executes : ExecAt m lay
  pub applies : ApplyAt m lay
  pub compares : SameAt m lay
  pub primitives : (b : BuiltIn) → PrimitiveAt m lay compares b (lay.routine b)
  pub boots : BootAt m lay
