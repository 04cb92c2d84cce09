-- The language as it is written speaks of actors that are there.
use Rattle.std.proofs.Common.{ℕ, Bool, true, false, List, [], ◌∷◌, ◌++◌, map, Option, Some, None, arith}
use Rattle.std.specs.Prelude.{if◌then◌else◌, codes}
use Rattle.std.specs.List.{AllByRecursion}
use Rattle.std.specs.Str.{bytes_eq}
use Rattle.hum_syntax.specs.declared.tree.Expr.TheOpen as layer
use Rattle.hum_meaning.specs.Value.{Parts, BuiltIn, built_ins, Primitive, Atom, Undefined, Nil, Truth, Number, Symbol, Actor, Value, Plain, Env, Outside, Bind, Group, Entry, text_value}
use Rattle.hum_meaning.specs.Language.{Meaning}
use Rattle.hum_meaning.specs.Named.{Name, Trees, Lambda, Named, ExprTree, PatTree, expr_node}
use Rattle.hum_meaning.specs.Look.{built_in_name, definition, member, look, outermost_names, bind_all, outermost}
use Rattle.hum_meaning.specs.Pattern.{Match, match_any, match_bind, match_atom, match_value, match_pair, match_items, match_tuple}
use Rattle.hum_meaning.specs.Match.{match_tree}
use Rattle.hum_meaning.specs.Written.{named_language}
use Rattle.hum_meaning.specs.Sound.{ValueWithin, EnvWithin}
use Rattle.hum_meaning.proofs.Within.{value_more, env_more, EntriesWithin, OptionWithin, MatchedWithin, entries_more, Keeps, pure_keeps, bind_keeps, step_keeps}
use Rattle.hum_meaning.proofs.WithinLaw.{if_matched_keeps, if_pair_keeps, equals_keeps, MeaningKeeps, IsConstant, KeepsActors, arms_keeps}

-- ---- patterns

-- a match of a value, over an environment and entries, none of which names an actor that is not there
abbrev MatchKeeps : {L : Parts} → (base : ℕ) → Match L → Type 0
MatchKeeps {L} base match =
    (n : ℕ) (v : Value L) (env : Env L) (es : List (Entry L)) → ValueWithin n v → EnvWithin n env → EntriesWithin n es →
    Keeps base n MatchedWithin (match v env es)

module _ {L : Parts} (base : ℕ) where
  pub any_keeps : MatchKeeps {L = L} base match_any
  any_keeps n v env es i j k = step_keeps base (pure_keeps base n MatchedWithin (Some es) (λ m le up. entries_more n m le es k))

  pub mark_keeps : (mark : L.Mark) → MatchKeeps {L = L} base (match_bind mark)
  mark_keeps mark n v env es i j k =
      step_keeps base (pure_keeps base n MatchedWithin (Some ((mark, v) ∷ es)) (λ m le up. (value_more n m le v i, entries_more n m le es k)))

  pub atom_keeps : (a : Atom) → MatchKeeps {L = L} base (match_atom a)
  atom_keeps a n v env es i j k = step_keeps base (equals_keeps base n v (Plain a) es k)

module _ {L : Parts} (base : ℕ) (m : Meaning L) (h : MeaningKeeps base m) where
  pub value_keeps : (e : L.Expr) → MatchKeeps base (match_value m.eval e)
  value_keeps e n v env es i j k =
      step_keeps base (bind_keeps base (h.eval n e env j) (λ l le w a. equals_keeps base l v w es (entries_more n l le es k)))

  pair_keeps : (p : L.Pattern) (rest : Match L) → MatchKeeps base rest → MatchKeeps base (match_pair m.matches p rest)
  pair_keeps p rest r n v env es i j k =
      step_keeps base (if_pair_keeps base n v _ i (λ head tail a b. bind_keeps base (h.matches n p head env es a j k)
      (λ l le o c. if_matched_keeps base l MatchedWithin o _ _ c (λ es d. r l tail env es (value_more n l le tail b) (env_more n l le env j) d)
      (pure_keeps base l MatchedWithin None (λ q up over. tt)))))

  items_keep : (more : List L.Pattern) (p q : L.Pattern) → MatchKeeps base (match_items m.matches p q more)
  items_keep [] p q = pair_keeps p _ (λ n v env es i j k. h.matches n q v env es i j k)
  items_keep (r ∷ more) p q = pair_keeps p _ (items_keep more q r)

  pub tuple_keeps : (ps : List L.Pattern) → MatchKeeps base (match_tuple m.matches ps)
  tuple_keeps [] n v env es i j k = pure_keeps base n MatchedWithin None (λ l le up. tt)
  tuple_keeps (p ∷ []) n v env es i j k = pure_keeps base n MatchedWithin None (λ l le up. tt)
  tuple_keeps (p ∷ q ∷ more) n v env es i j k = items_keep more p q n v env es i j k

module _ (t : Trees) (base : ℕ) (m : Meaning (Named t)) (h : MeaningKeeps base m) where
  tree_keeps : (p : PatTree t) → MatchKeeps base (match_tree t m.eval m.matches p)
  tree_keeps layer.Any = any_keeps base
  tree_keeps (layer.Bind name) = mark_keeps base name
  tree_keeps layer.Pat::Undef = atom_keeps base Undefined
  tree_keeps layer.Pat::Nil = atom_keeps base Nil
  tree_keeps layer.Pat::True = atom_keeps base (Truth _)
  tree_keeps layer.Pat::False = atom_keeps base (Truth _)
  tree_keeps (layer.Pat::Num n) = atom_keeps base (Number n)
  tree_keeps (layer.Pat::Sym name) = atom_keeps base (Symbol name)
  tree_keeps (layer.Value e) = value_keeps base m h e
  tree_keeps (layer.Pat::Tuple ps) = tuple_keeps base m h ps

-- ---- expressions

text_within : (L : Parts) (points : List ℕ) → ValueWithin 0 (text_value {L = L} points)
text_within L [] = tt
text_within L (c ∷ cs) = (tt, text_within L cs)

module _ (t : Trees) where
  is_constant : (e : ExprTree t) → IsConstant (expr_node t e)
  is_constant (layer.Text points) = text_within (Named t) points
  is_constant _ = tt

  -- ---- names

  either : (n : ℕ) (v : Value (Named t)) (o : Option (Value (Named t))) → ValueWithin n v → OptionWithin n o → (b : Bool)
      → OptionWithin n (if b then Some v else o)
  either n v o h k true = h
  either n v o h k false = k

  member_within : (n : ℕ) (f : Option (Lambda t)) (env : Env (Named t)) (o : Option (Value (Named t))) → EnvWithin n env → OptionWithin n o
      → OptionWithin n (member t f env o)
  member_within n (Some f) env o h k = h
  member_within n None env o h k = k

  look_within : (n : ℕ) (env : Env (Named t)) (name : Name) → EnvWithin n env → OptionWithin n (look t env name)
  look_within n Outside name h = tt
  look_within n (Bind k v env) name h = either n v (look t env name) h.0 (look_within n env name h.1) (bytes_eq k name)
  look_within n (Group fs env) name h = member_within n (definition t fs name) (Group fs env) (look t env name) h (look_within n env name h)

  -- ---- the outermost environment

  abbrev IsWithin : ℕ → Name × Value (Named t) → Type 0
  IsWithin n b = ValueWithin n b.1

  bound_within : (n : ℕ) (bs : List (Name × Value (Named t))) (env : Env (Named t)) → AllByRecursion (IsWithin n) bs → EnvWithin n env
      → EnvWithin n (bind_all t bs env)
  bound_within n [] env h k = k
  bound_within n (b ∷ bs) env h k = bound_within n bs (Bind b.0 b.1 env) h.1 (h.0, k)

  built_ins_within : (n : ℕ) (bs : List BuiltIn) (rest : List (Name × Value (Named t))) → AllByRecursion (IsWithin n) rest
      → AllByRecursion (IsWithin n) (map (λ b. (built_in_name b, Primitive b)) bs ++ rest)
  built_ins_within n [] rest h = h
  built_ins_within n (b ∷ bs) rest h = (tt, built_ins_within n bs rest h)

  -- it names the devices alone
  pub outermost_within : EnvWithin 3 (outermost t)
  outermost_within =
      let devices : List (Name × Value (Named t)) = (codes "println", Plain (Actor 1)) ∷ (codes "say", Plain (Actor 2)) ∷ [] in
      let there : AllByRecursion (IsWithin 3) devices = (omega arith, (omega arith, tt)) in
      bound_within 3 (outermost_names t) Outside (built_ins_within 3 built_ins devices there) tt

pub named_keeps : (t : Trees) → KeepsActors (named_language t)
named_keeps t = record {
  constants = λ e. is_constant t (t.expr e);
  look = look_within t;
  matching = λ base m h n p v env es i j k. tree_keeps t base m h (t.pat p) n v env es i j k;
  choosing = λ base m h x n v env i j. arms_keeps base m h x n v env i j;
}
