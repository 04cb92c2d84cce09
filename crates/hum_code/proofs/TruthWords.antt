-- Words that are no truth values.
use Rattle.std.proofs.Common.{◌≡◌, refl, ap, ◌∙◌, List, Bool, true, false, Some}
use Rattle.cap_words.specs.Words.{W, same_word, undef, nil, truth}
use Rattle.cap_words.specs.Seen.{Seen}
use Rattle.instr_table.specs.Types.{Grows}
use Rattle.hum_meaning.specs.Value.{Undefined, Nil, Truth, Number, Symbol, Actor, Plain, Pair, Function, Block, Primitive}
use Rattle.hum_code.specs.Layout.{Layout}
use Rattle.hum_code.specs.Stands.{Stands, DataStand}
use Rattle.hum_code.proofs.Standing.{CoreValue}
use Rattle.hum_code.proofs.TypesOf.{type_for}
use Rattle.hum_code.proofs.Atoms.{parts_differ}

-- the word is neither of the two
abbrev pub NoTruthWord : W → Type 0
NoTruthWord w = (b : Bool) → same_word w (truth b) ≡ false

abbrev pub IsTruth : CoreValue → Type 0
IsTruth (Plain (Truth b)) = Unit {0}
IsTruth _ = ⊥

undef_differs : NoTruthWord undef
undef_differs true = refl
undef_differs false = refl

nil_differs : NoTruthWord nil
nil_differs true = refl
nil_differs false = refl

module _ (base : Seen) (lay : Layout) (cells : DataStand lay base) (t : Seen) (roll : List W) (above : Grows base t) where
  -- what has a type
  typed_differs : (v : CoreValue) (w : W) → Stands lay t roll w v → (u : W) → type_for v ≡ Some u → NoTruthWord w
  unfolding Stands
  typed_differs v w h u e b = parts_differ base lay cells t roll above v (Truth b) w (truth b) u e refl h refl

  pub no_truth_word : (v : CoreValue) (w : W) → Stands lay t roll w v → (IsTruth v → ⊥) → NoTruthWord w
  unfolding Stands
  no_truth_word (Plain Undefined) w h n b = ap (λ w. same_word w (truth b)) h ∙ undef_differs b
  no_truth_word (Plain Nil) w h n b = ap (λ w. same_word w (truth b)) h ∙ nil_differs b
  no_truth_word (Plain (Truth a)) w h n b = absurd (n tt)
  no_truth_word (Plain (Number z)) w h n b = typed_differs (Plain (Number z)) w h _ refl b
  no_truth_word (Plain (Symbol name)) w h n b = typed_differs (Plain (Symbol name)) w h _ refl b
  no_truth_word (Plain (Actor i)) w h n b = typed_differs (Plain (Actor i)) w h _ refl b
  no_truth_word (Pair x y) w h n b = typed_differs (Pair x y) w h _ refl b
  no_truth_word (Function u env) w h n b = typed_differs (Function u env) w h _ refl b
  no_truth_word (Block u env) w h n b = typed_differs (Block u env) w h _ refl b
  no_truth_word (Primitive p) w h n b = typed_differs (Primitive p) w h _ refl b
