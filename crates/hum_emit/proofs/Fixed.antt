-- The fixed code stands.
use Rattle.std.proofs.Common.{◌≡◌, refl, ap, sym, subst, ◌∙◌, ℕ, zero, suc, ◌<◌, ◌≤◌, pos, negsuc, Bool, true, false, List, [], ◌∷◌, ◌++◌, map, length, Some, None, arith}
use Rattle.std.specs.Prelude.{slice_get, slice_index, nat_eq, ◌||◌}
use Rattle.std.specs.List.{list_any, AllByRecursion}
use Rattle.std.proofs.lemmas.Bool.Decides.{nat_tests}
use Rattle.std.proofs.lemmas.List.{append-nil}
use Rattle.cap_words.specs.Words.{W, Fix, nil, truth, pair_t, func_t, block_t}
use Rattle.instr_table.specs.declared.op.Op.{Op}
use Rattle.instr_table.specs.declared.op.Op.TheVariants as op
use Rattle.instr_table.specs.Code.{named}
use Rattle.hum_meaning.specs.Value.{BuiltIn, Add, Sub, Mul, Compare, Less, LessEqual, Greater, GreaterEqual, Equal, And, Or, Not}
use Rattle.hum_code.specs.Comes.{At}
use Rattle.hum_code.specs.Code.{Line, Choice}
use Rattle.hum_code.specs.Runtime.{FailAt, BackAt, CallAt, ExecAt, ApplyAt, SameAt, PartsAt, NumbersAt, TruthAt, CalculatesAt, CompareAt, AndAt, OrAt, NotAt, PrimitiveAt, IsFailure}
use Rattle.hum_code.proofs.Makings.{length_end}
use Rattle.hum_emit.specs.declared.instruction.Field.TheVariants.{Number, Constant as ConstantField, Place}
use Rattle.hum_emit.specs.declared.instruction.Field.{Field}
use Rattle.hum_emit.specs.declared.instruction.Instruction.{Instruction}
use Rattle.hum_emit.specs.Emitted.{Emitted, Piece, ◌▷◌, put, one, choose, dup, drop, pick, roll, pair, part, nth, quad, typeq, eq}
use Rattle.hum_emit.specs.Holds.{place_word, next_word}
use Rattle.hum_emit.specs.Routines.{goes, unless, or_else, either, looped, each, cmp, alu, message, my_state, false_word, back, fails_with, call_code, exec_code, apply_code, pairs_code, more_code, leaves_code, compare_turn, compare_loop, compare_code, two_of_them, numbers, truth as truth_code, calculates, orders, both, any, negates, built_in_codes}
use Rattle.hum_emit.specs.Runtime.{failure_codes, no_code, ended, aborted, failed, went_back, called, executed, applied, compared, same_called, built_in, fixed_code, end_place, fail_place, routine_places}
use Rattle.hum_emit.specs.Program.{routine_cells, start}
use Rattle.hum_emit.proofs.Makes.{Kept, Begins, begins_same, begins_later, put_begins, Growing, g_one, Image, layout, put_stands, Makes, makes_one, makes_both, makes_as, makes_miss, makes_to, makes_choose, makes_calls, makes_jump, pushes, dups, drops, picks, rolls, pairs_up, parts, nths}
use Rattle.hum_emit.proofs.Expressions.{at, typeqs, eqs}

-- ---- pieces that have as many instructions

pub record Alike (q r : Piece) : Type 0 where
  pub at : (j k : ℕ) (s t : Emitted) → length s.code ≡ length t.code → length (q j s).0.code ≡ length (r k t).0.code

alike_put : (x y : ℕ → Instruction) → Alike (λ k s. put (x k) s) (λ k s. put (y k) s)
alike_put x y = record { at = λ j k s t h. length_end s.code (x j) ∙ (ap suc h ∙ sym (length_end t.code (y k))) }

alike_one : (operation : ℕ) (field : Field) → Alike (one operation field) (one operation field)
alike_one operation field =
    alike_put (λ k. record { operation = operation; field = field; next = Some k }) (λ k. record { operation = operation; field = field; next = Some k })

alike_choose : (i j : ℕ) → Alike (choose i) (choose j)
alike_choose i j = alike_put (λ k. record { operation = 15; field = Place k; next = Some i }) (λ k. record { operation = 15; field = Place k; next = Some j })

alike_unless : (i j : ℕ) → Alike (unless i) (unless j)
alike_unless i j = alike_put (λ k. record { operation = 15; field = Place i; next = Some k }) (λ k. record { operation = 15; field = Place j; next = Some k })

alike_goes : (i j : ℕ) → Alike (goes i) (goes j)
alike_goes i j = record { at = λ j k s t h. h }

alike_both : {q r q' r' : Piece} → Alike q q' → Alike r r' → Alike (q ▷ r) (q' ▷ r')
alike_both {q} {r} {q'} {r'} g h =
    record { at = λ j k s t same. g.at (r j s).1 (r' k t).1 (r j s).0 (r' k t).0 (h.at j k s t same) }

alike_either : {q r q' r' : Piece} → Alike q q' → Alike r r' → Alike (either q r) (either q' r')
alike_either {q} {r} {q'} {r'} g h = record {
  at = λ j k s t same.
      let x = r j s in
      let y = r' k t in
      (alike_both {q = choose x.1} {r = q} {q' = choose y.1} {r' = q'} (alike_choose x.1 y.1) g).at j k x.0 y.0 (h.at j k s t same);
}

-- where a turn of the comparison begins does not depend on the number that it goes back to
turns_alike : (differ deny i k : ℕ) (s : Emitted) → (compare_turn differ deny i k s).1 ≡ (compare_turn differ deny 0 k s).1
turns_alike differ deny i k s =
    (alike_both {q = typeq 10} {r = either (pairs_code i differ) (leaves_code i differ deny)} {q' = typeq 10}
    {r' = either (pairs_code 0 differ) (leaves_code 0 differ deny)} (alike_one 11 (ConstantField 10)) (alike_either pairs_alike leaves_alike)).at k k s s refl
  where
    pairs_alike : Alike (pairs_code i differ) (pairs_code 0 differ)
    pairs_alike =
        alike_both (alike_one 3 (Number (pos 2))) (alike_both (alike_one 11 (ConstantField 10)) (alike_both (alike_choose differ differ)
        (alike_both (alike_one 6 (Number (pos 2))) (alike_both (alike_one 1 (Number (pos 1))) (alike_both (alike_one 8 (Number (pos 2)))
        (alike_both (alike_one 8 (Number (pos 1))) (alike_both (alike_one 3 (Number (pos 2))) (alike_both (alike_one 8 (Number (pos 1)))
        (alike_both (alike_one 8 (Number (pos 1))) (alike_goes i 0))))))))))

    tails_alike : Alike (part 2 ▷ nth (negsuc 0) ▷ roll (pos 2) ▷ nth (negsuc 0) ▷ roll (pos 2) ▷ goes i)
        (part 2 ▷ nth (negsuc 0) ▷ roll (pos 2) ▷ nth (negsuc 0) ▷ roll (pos 2) ▷ goes 0)
    tails_alike =
        alike_both (alike_one 7 (Number (pos 2))) (alike_both (alike_one 8 (Number (negsuc 0))) (alike_both (alike_one 4 (Number (pos 2)))
        (alike_both (alike_one 8 (Number (negsuc 0))) (alike_both (alike_one 4 (Number (pos 2))) (alike_goes i 0)))))

    more_alike : Alike (more_code i) (more_code 0)
    more_alike =
        alike_both (alike_one 1 (Number (pos 1)))
        (alike_either tails_alike (alike_both (alike_one 2 (Number (pos 1))) (alike_one 0 (ConstantField 3))))

    leaves_alike : Alike (leaves_code i differ deny) (leaves_code 0 differ deny)
    leaves_alike =
        alike_both (alike_one 1 (Number (pos 1))) (alike_both (alike_one 11 (ConstantField 14)) (alike_both (alike_unless differ differ)
        (alike_both (alike_one 1 (Number (pos 1))) (alike_both (alike_one 11 (ConstantField 15)) (alike_both (alike_unless differ differ)
        (alike_both (alike_one 13 (Number (pos 0))) (alike_both (alike_choose deny deny) more_alike)))))))

-- ---- pieces one after the other

pub all_grow : (ps : List Piece) → AllByRecursion Growing ps → (k : ℕ) (s : Emitted) → Begins s (each ps k s).0
all_grow [] h k s = begins_same s
all_grow (p ∷ ps) h k s = begins_later _ _ _ (h.0.at k s) (all_grow ps h.1 k (p k s).0)

module _ (c : Image) where
  makes_unless : {hit : ℕ} → Makes c (unless hit) (λ a k. Choice c.setting a (at c hit) k)
  makes_unless {hit} = record {
    grows = record { at = λ k s. put_begins (record { operation = 15; field = Place hit; next = Some k }) s };
    stands = λ k s later. put_stands c (record { operation = 15; field = Place hit; next = Some k }) _ s refl later;
  }

  makes_or_else : {first : ℕ → Piece} {other : Piece} {S : W → W → Type 0} {T : W → W → W → Type 0} → Makes c other S
      → ((miss : ℕ) → Makes c (first miss) (T (at c miss))) → Makes c (or_else first other) (λ a k. (next : W) × T next a k × S next k)
  makes_or_else {first} {other} {S} {T} g h = makes_miss {q = other} {r = first} {S = S} {T = T} g h

  makes_either : {q r : Piece} {S T : W → W → Type 0} → Makes c q S → Makes c r T
      → Makes c (either q r) (λ a k. (n : W) × ((y : W) × Choice c.setting a y n × S y k) × T n k)
  makes_either {q} {r} {S} {T} g h =
      makes_or_else {first = λ other. choose other ▷ q} {other = r} {S = T} {T = λ n a k. (y : W) × Choice c.setting a y n × S y k} h
      (λ other. makes_both makes_choose g)

  makes_looped : {body : ℕ → Piece} (T : W → W → W → Type 0) → ((i : ℕ) → Makes c (body i) (T (at c i)))
      → ((i k : ℕ) (s : Emitted) → (body i k s).1 ≡ (body 0 k s).1) → Makes c (looped body) (λ a k. T a a k)
  makes_looped {body} T h alike = record {
    grows = record { at = λ k s. (h (body 0 k s).1).grows.at k s };
    stands = λ k s later.
        let head = (body 0 k s).1 in
        subst (λ i. T (at c i) (at c (body head k s).1) (at c k)) (sym (alike head k s)) ((h head).stands k s later);
  }

  each_stands : (ps : List Piece) → AllByRecursion Growing ps → (k : ℕ) (s : Emitted) → Begins (each ps k s).0 c.final
      → (i : ℕ) {q : Piece} {S : W → W → Type 0} → slice_get ps i ≡ Some q → Makes c q S → S (at c (slice_index (each ps k s).1 i)) (at c k)
  each_stands [] grow k s later i {q} {S} is made = absurd (let no : None ≡ Some q = is in cc)
  each_stands (p ∷ ps) grow k s later zero {q} {S} is made =
      let same : p ≡ q = (let e : Some p ≡ Some q = is in cc) in
      subst (λ (r : Piece). S (at c (r k s).1) (at c k)) (sym same)
      (made.stands k s (subst (λ (r : Piece). Begins (r k s).0 c.final) same (begins_later _ _ _ (all_grow ps grow.1 k (p k s).0) later)))
  each_stands (p ∷ ps) grow k s later (suc i) {q} {S} is made = each_stands ps grow.1 k (p k s).0 later i is made

  -- ---- single instructions

  takes : Makes c (quad (negsuc 2)) (λ a k. At c.setting a (op.QuadTake (negsuc 2)) k)
  takes = makes_one _ refl

  cmps : (n : ℕ) → named 13 (Fix (pos n)) ≡ Some (op.Cmp (pos n)) → Makes c (cmp n) (λ a k. At c.setting a (op.Cmp (pos n)) k)
  cmps n is = makes_one _ is

  alus : (n : ℕ) → named 14 (Fix (pos n)) ≡ Some (op.Alu (pos n)) → Makes c (alu n) (λ a k. At c.setting a (op.Alu (pos n)) k)
  alus n is = makes_one _ is

  messages : Makes c message (λ a k. At c.setting a (op.Msg (pos 0)) k)
  messages = makes_one _ refl

  states : Makes c my_state (λ a k. At c.setting a (op.My (pos 2)) k)
  states = makes_one _ refl

  -- ---- calling, executing and applying

  made_back : Makes c back (λ a k. BackAt c.setting a)
  made_back = makes_as (makes_both (rolls (pos 2) refl) makes_jump) (λ a k s. (s.2.0, (s.0, s.1, s.2.1)))

  -- the parts of the routine that calls, the first one at a
  abbrev Calls : W → Type 0
  Calls a = (b : W) × (d : W) × (k : W) × Line c.setting (op.Roll (negsuc 2) ∷ op.Roll (pos 2) ∷ op.Dup (pos 1) ∷ op.Typeq func_t ∷ []) a b
      × Choice c.setting b d ((layout c).fail 2) × Line c.setting (op.QuadTake (negsuc 2) ∷ op.Drop (pos 1) ∷ op.Jump ∷ []) d k

  made_call : Makes c (call_code fail_place) (λ a k. Calls a)
  made_call =
      makes_as (makes_both (makes_both (rolls (negsuc 2) refl) (makes_both (rolls (pos 2) refl) (makes_both (dups 1 refl) (typeqs c 14))))
      (makes_both makes_choose (makes_both takes (makes_both (drops 1 refl) makes_jump))))
      (λ a k s. (s.0, s.2.0, s.2.2.2.2.0, s.1, s.2.1, (s.2.2.0, s.2.2.1, (s.2.2.2.0, s.2.2.2.1, s.2.2.2.2.1))))

  abbrev Executes : W → Type 0
  Executes a = (b : W) × (block : W) × (none : W) × (j : W) × (k : W)
      × Line c.setting (op.Roll (pos 2) ∷ op.Dup (pos 1) ∷ op.Typeq block_t ∷ []) a b × Choice c.setting b block none
      × Line c.setting (op.QuadTake (negsuc 2) ∷ op.Drop (pos 1) ∷ []) block j × At c.setting none (op.Drop (pos 1)) j × At c.setting j op.Jump k

  made_exec : Makes c exec_code (λ a k. Executes a)
  made_exec =
      makes_as (makes_both (makes_both (rolls (pos 2) refl) (makes_both (dups 1 refl) (typeqs c 15)))
      (makes_both (makes_either (makes_both takes (drops 1 refl)) (drops 1 refl)) makes_jump))
      (λ a k s. (s.0, s.2.1.1.0, s.2.1.0, s.2.0, s.2.2.0, s.1, s.2.1.1.1, s.2.1.1.2, s.2.1.2, s.2.2.1))

  made_apply : (call exec : ℕ) → Makes c (apply_code call exec) (λ a k. (b : W) × Line c.setting (op.My (pos 2) ∷ op.Msg (pos 0) ∷ []) a b
      × ((r : W) × At c.setting b (op.Push r) (at c call) × At c.setting r (op.Push k) (at c exec)))
  made_apply call exec = makes_both (makes_both states messages) (makes_both makes_calls makes_calls)

  -- ---- comparison

  abbrev PairsIn : (differ loop a : W) → Type 0
  PairsIn differ loop a = (b : W) × (d : W) × Line c.setting (op.Pick (pos 2) ∷ op.Typeq pair_t ∷ []) a b × Choice c.setting b d differ
      × Line c.setting (op.Pair (pos 2) ∷ op.Dup (pos 1) ∷ op.Nth (pos 2) ∷ op.Nth (pos 1) ∷ op.Pick (pos 2) ∷ op.Nth (pos 1) ∷ op.Nth (pos 1) ∷ []) d loop

  made_pairs : (head differ : ℕ) → Makes c (pairs_code head differ) (λ a k. PairsIn (at c differ) (at c head) a)
  made_pairs head differ =
      makes_as (makes_to {q = (pick 2 ▷ typeq 10) ▷ choose differ ▷ pair 2 ▷ dup 1 ▷ nth (pos 2) ▷ nth (pos 1) ▷ pick 2 ▷ nth (pos 1) ▷ nth (pos 1)} head
      (makes_both (makes_both (picks 2 refl) (typeqs c 10)) (makes_both makes_choose
      (makes_both (pairs_up 2 refl) (makes_both (dups 1 refl) (makes_both (nths (pos 2) refl) (makes_both (nths (pos 1) refl)
      (makes_both (picks 2 refl) (makes_both (nths (pos 1) refl) (nths (pos 1) refl))))))))))
      (λ a k s. (s.0, s.2.0, s.1, s.2.1, s.2.2))

  abbrev MoreIn : (loop a k : W) → Type 0
  MoreIn loop a k = (b : W) × (tails : W) × (yes : W) × At c.setting a (op.Dup (pos 1)) b × Choice c.setting b tails yes
      × Line c.setting (op.Part (pos 2) ∷ op.Nth (negsuc 0) ∷ op.Roll (pos 2) ∷ op.Nth (negsuc 0) ∷ op.Roll (pos 2) ∷ []) tails loop
      × Line c.setting (op.Drop (pos 1) ∷ op.Push (truth true) ∷ []) yes k

  made_more : (head : ℕ) → Makes c (more_code head) (λ a k. MoreIn (at c head) a k)
  made_more head =
      makes_as (makes_both (dups 1 refl) (makes_either {q = part 2 ▷ nth (negsuc 0) ▷ roll (pos 2) ▷ nth (negsuc 0) ▷ roll (pos 2) ▷ goes head}
      (makes_to {q = part 2 ▷ nth (negsuc 0) ▷ roll (pos 2) ▷ nth (negsuc 0) ▷ roll (pos 2)} head
      (makes_both (parts 2 refl) (makes_both (nths (negsuc 0) refl) (makes_both (rolls (pos 2) refl) (makes_both (nths (negsuc 0) refl) (rolls (pos 2) refl))))))
      (makes_both (drops 1 refl) (pushes (ConstantField 3)))))
      (λ a k s. (s.0, s.2.1.0, s.2.0, s.1, s.2.1.1, s.2.1.2, s.2.2))

  abbrev LeavesIn : (differ deny loop a k : W) → Type 0
  LeavesIn differ deny loop a k = (e : W) × (f : W) × (g : W) × (h : W) × (i : W) × (more : W)
      × Line c.setting (op.Dup (pos 1) ∷ op.Typeq func_t ∷ []) a e × Choice c.setting e differ f
      × Line c.setting (op.Dup (pos 1) ∷ op.Typeq block_t ∷ []) f g × Choice c.setting g differ h
      × At c.setting h (op.Cmp (pos 0)) i × Choice c.setting i more deny × MoreIn loop more k

  made_leaves : (head differ deny : ℕ) → Makes c (leaves_code head differ deny) (λ a k. LeavesIn (at c differ) (at c deny) (at c head) a k)
  made_leaves head differ deny =
      makes_as (makes_both (makes_both (dups 1 refl) (typeqs c 14)) (makes_both makes_unless
      (makes_both (makes_both (dups 1 refl) (typeqs c 15)) (makes_both makes_unless (makes_both (cmps 0 refl) (makes_both makes_choose (made_more head)))))))
      (λ a k s. (
        s.0,
        s.2.0,
        s.2.2.0,
        s.2.2.2.0,
        s.2.2.2.2.0,
        s.2.2.2.2.2.0,
        s.1,
        s.2.1,
        s.2.2.1,
        s.2.2.2.1,
        s.2.2.2.2.1,
        s.2.2.2.2.2.1,
        s.2.2.2.2.2.2,
      ))

  abbrev TurnIn : (differ deny loop a k : W) → Type 0
  TurnIn differ deny loop a k = (b : W) × (d : W) × (leaf : W) × Line c.setting (op.Dup (pos 1) ∷ op.Typeq pair_t ∷ []) a b × Choice c.setting b d leaf
      × PairsIn differ loop d × LeavesIn differ deny loop leaf k

  made_turn : (differ deny head : ℕ) → Makes c (compare_turn differ deny head) (TurnIn (at c differ) (at c deny) (at c head))
  made_turn differ deny head =
      makes_as (makes_both (makes_both (dups 1 refl) (typeqs c 10)) (makes_either (made_pairs head differ) (made_leaves head differ deny)))
      (λ a k s. (s.0, s.2.1.0, s.2.0, s.1, s.2.1.1, s.2.1.2, s.2.2))

  made_turns : (differ deny : ℕ) → Makes c (looped (compare_turn differ deny)) (λ a k. TurnIn (at c differ) (at c deny) a a k)
  made_turns differ deny =
      makes_looped {body = compare_turn differ deny} (TurnIn (at c differ) (at c deny)) (made_turn differ deny) (turns_alike differ deny)

  -- the loop at a, and what answers that the values differ
  abbrev LoopIn : (a k : W) → Type 0
  LoopIn a k = (differ : W) × (deny : W) × TurnIn differ deny a a k × At c.setting differ (op.Drop (pos 2)) deny
      × Line c.setting (op.Drop (pos 1) ∷ op.Push (truth false) ∷ []) deny k

  answers_no : Makes c (drop 1 ▷ false_word) (λ a k. Line c.setting (op.Drop (pos 1) ∷ op.Push (truth false) ∷ []) a k)
  answers_no = makes_both (drops 1 refl) (pushes (ConstantField 2))

  drops_two : Makes c (drop 2) (λ a k. At c.setting a (op.Drop (pos 2)) k)
  drops_two = drops 2 refl

  made_loop : Makes c compare_loop LoopIn
  made_loop = record {
    grows = record {
      at = λ k s.
          let deny = (drop 1 ▷ false_word) k s in
          let differ = drop 2 deny.1 deny.0 in
          begins_later _ _ _ (answers_no.grows.at k s)
          (begins_later _ _ _ (drops_two.grows.at deny.1 deny.0) ((made_turns differ.1 deny.1).grows.at k differ.0));
    };
    stands = λ k s later.
        let deny = (drop 1 ▷ false_word) k s in
        let differ = drop 2 deny.1 deny.0 in
        let in_differ = begins_later _ _ _ ((made_turns differ.1 deny.1).grows.at k differ.0) later in (
          at c differ.1,
          at c deny.1,
          (made_turns differ.1 deny.1).stands k differ.0 later,
          drops_two.stands deny.1 deny.0 in_differ,
          answers_no.stands k s (begins_later _ _ _ (drops_two.grows.at deny.1 deny.0) in_differ),
        );
  }

  made_compare : Makes c compare_code (λ a k. (loop : W) × Line c.setting (op.Push nil ∷ op.Roll (negsuc 2) ∷ []) a loop × LoopIn loop k)
  made_compare = makes_both (makes_both (pushes (ConstantField 1)) (rolls (negsuc 2) refl)) made_loop

  -- ---- built-in functions, which go on with what goes back

  made_two : Makes c (two_of_them fail_place) (λ a k. PartsAt c.setting (layout c) a k)
  made_two =
      makes_as (makes_both (makes_both (drops 1 refl) (makes_both (dups 1 refl) (typeqs c 10)))
      (makes_both makes_choose (makes_both (parts 1 refl) (rolls (pos 2) refl))))
      (λ a k s. (s.0, s.2.0, s.1, s.2.1, s.2.2))

  made_numbers : Makes c (numbers fail_place) (λ a k. NumbersAt c.setting (layout c) a k)
  made_numbers =
      makes_as (makes_both (makes_both (dups 1 refl) (typeqs c 5)) (makes_both makes_choose (makes_both (makes_both (picks 2 refl) (typeqs c 5)) makes_choose)))
      (λ a k s. (s.0, s.2.0, s.2.2.0, s.1, s.2.1, s.2.2.1, s.2.2.2))

  made_truth : (n : ℕ) → named 3 (Fix (pos n)) ≡ Some (op.Pick (pos n))
      → Makes c (truth_code fail_place n) (λ a k. TruthAt c.setting (layout c) n a k)
  made_truth n is =
      makes_as (makes_or_else {first = λ other. pick n ▷ eq (ConstantField 3) ▷ choose other}
      {T = λ next a k. (b : W) × Line c.setting (op.Pick (pos n) ∷ op.Eq (truth true) ∷ []) a b × Choice c.setting b k next}
      (makes_both (makes_both (picks n is) (eqs c (ConstantField 2))) makes_choose)
      (λ other. makes_both (makes_both (picks n is) (eqs c (ConstantField 3))) makes_choose))
      (λ a k s. (s.1.0, s.0, s.2.0, s.1.1, s.1.2, s.2.1, s.2.2))

  made_calculates : {q : Piece} (o : Op) → Makes c q (λ a k. At c.setting a o k)
      → Makes c (calculates fail_place q) (λ a k. BackAt c.setting k → CalculatesAt c.setting (layout c) o a)
  made_calculates o made =
      makes_as (makes_both made_two (makes_both made_numbers made)) (λ a k s back. (s.0, s.2.0, k, s.1, s.2.1, s.2.2, back))

  made_orders : Makes c (orders fail_place) (λ a k. BackAt c.setting k → CompareAt c.setting (layout c) a)
  made_orders =
      makes_as (makes_both made_two (makes_both made_numbers (makes_both (makes_both (dups 2 refl) (cmps 3 refl))
      (makes_either (makes_both (drops 2 refl) (pushes (Number (negsuc 0))))
      (makes_both (cmps 2 refl) (makes_either (pushes (Number (pos 1))) (pushes (Number (pos 0)))))))))
      (λ a k s back.
      let choice = s.2.2.2 in
      let second = choice.2.2 in (
        s.0,
        s.2.0,
        s.2.2.0,
        choice.1.0,
        choice.0,
        choice.2.0,
        second.1.0,
        second.0,
        k,
        s.1,
        s.2.1,
        s.2.2.1,
        choice.1.1,
        (k, choice.1.2, back),
        choice.2.1,
        second.1.1,
        second.1.2,
        second.2,
        back,
      ))

  made_equal : (state : ℕ) → Makes c (two_of_them fail_place ▷ goes state) (λ a k. PartsAt c.setting (layout c) a (at c state))
  made_equal state = makes_to {q = two_of_them fail_place} state made_two

  made_both : Makes c (both fail_place) (λ a k. BackAt c.setting k → AndAt c.setting (layout c) a)
  made_both =
      makes_as (makes_both made_two (makes_both (made_truth 2 refl) (makes_both (made_truth 1 refl)
      (makes_or_else {first = choose} {T = λ next a k. Choice c.setting a k next} answers_no (λ other. makes_choose)))))
      (λ a k s back. (s.0, s.2.0, s.2.2.0, k, s.2.2.2.0, s.1, s.2.1, s.2.2.1, s.2.2.2.1, back, (k, s.2.2.2.2, back)))

  made_any : Makes c (any fail_place) (λ a k. BackAt c.setting k → OrAt c.setting (layout c) a)
  made_any =
      makes_as (makes_both made_two (makes_both (made_truth 2 refl) (makes_both (made_truth 1 refl)
      (makes_or_else {first = unless} {T = λ next a k. Choice c.setting a next k} (makes_both (drops 1 refl) (pushes (ConstantField 3))) (λ other. makes_unless)))))
      (λ a k s back. (s.0, s.2.0, s.2.2.0, s.2.2.2.0, k, s.1, s.2.1, s.2.2.1, s.2.2.2.1, (k, s.2.2.2.2, back), back))

  made_negates : Makes c (negates fail_place) (λ a k. BackAt c.setting k → NotAt c.setting (layout c) a)
  made_negates =
      makes_as (makes_both (drops 1 refl) (makes_both (made_truth 1 refl) (eqs c (ConstantField 2))))
      (λ a k s back. (s.0, s.2.0, k, s.1, s.2.1, s.2.2, back))

  built_ins_grow : (state : ℕ) → AllByRecursion Growing (built_in_codes fail_place state)
  built_ins_grow state = (
    (made_calculates _ (alus 4 refl)).grows,
    (
      (made_calculates _ (alus 5 refl)).grows,
      (
        (made_calculates _ (alus 6 refl)).grows,
        (
          made_orders.grows,
          (
            (made_calculates _ (cmps 3 refl)).grows,
            (
              (made_calculates _ (cmps 4 refl)).grows,
              (
                (made_calculates _ (cmps 2 refl)).grows,
                ((made_calculates _ (cmps 1 refl)).grows, ((made_equal state).grows, (made_both.grows, (made_any.grows, (made_negates.grows, tt))))),
              ),
            ),
          ),
        ),
      ),
    ),
  )

  fails_grow : AllByRecursion Growing (map fails_with failure_codes)
  fails_grow = (g_one, (g_one, (g_one, (g_one, (g_one, (g_one, (g_one, tt)))))))

-- ---- failures are of the codes from 1 to 7

no_either : (a b : Bool) → a ≡ false → b ≡ false → a || b ≡ false
no_either false b h k = k
no_either true b h k = h

differ : (m n : ℕ) → m < n → nat_eq m n ≡ false
differ m n h = grind (arith, nat_tests)

no_failure : (code : ℕ) → 8 ≤ code → list_any (λ c. nat_eq c code) (1 ∷ 2 ∷ 3 ∷ 4 ∷ 5 ∷ 7 ∷ []) ≡ false
no_failure code h =
    no_either _ _ (differ 1 code (omega (arith, h))) (no_either _ _ (differ 2 code (omega (arith, h))) (no_either _ _ (differ 3 code (omega (arith, h)))
    (no_either _ _ (differ 4 code (omega (arith, h))) (no_either _ _ (differ 5 code (omega (arith, h)))
    (no_either _ _ (differ 7 code (omega (arith, h))) refl)))))

-- ---- one routine after the other, in each store that holds them all

-- the fixed code has no data
no_cells : built_in.0.cells ≡ []
unfolding ended aborted failed went_back called executed applied compared same_called built_in
no_cells = refl

no_symbols : (name : List ℕ) → built_in.0.symbols name ≡ None
unfolding ended aborted failed went_back called executed applied compared same_called built_in
no_symbols name = refl

kept_none : {s : Emitted} → ((name : List ℕ) → s.symbols name ≡ None) → Kept s
kept_none none = record {
  cells = λ name n h. absurd (let no : None ≡ Some n = sym (none name) ∙ h in cc);
  names = λ a b n h k. absurd (let no : None ≡ Some n = sym (none a) ∙ h in cc);
}

pub kept_start : Kept start
kept_start = kept_none (λ name. refl)

built_start : Begins built_in.0 start
unfolding fixed_code
built_start = record {
  code = [];
  code_is = sym (append-nil built_in.0.code);
  cells = routine_cells 0 routine_places;
  cells_is = sym (ap (λ ds. ds ++ routine_cells 0 routine_places) no_cells);
  symbols = λ name n h. absurd (let no : None ≡ Some n = sym (no_symbols name) ∙ h in cc);
  keeps = λ h. kept_start;
}

module _ (c : Image) (begun : Begins start c.final) where
  in_built : Begins built_in.0 c.final
  in_built = begins_later _ _ _ built_start begun

  in_same : Begins same_called.0 c.final
  unfolding fixed_code built_in
  in_same = begins_later _ _ _ (all_grow (built_in_codes fail_place compared.1) (built_ins_grow c compared.1) went_back.1 same_called.0) in_built

  in_compared : Begins compared.0 c.final
  unfolding same_called
  in_compared = begins_later _ _ _ (g_one.at compared.1 compared.0) in_same

  in_applied : Begins applied.0 c.final
  unfolding compared
  in_applied = begins_later _ _ _ ((made_compare c).grows.at went_back.1 applied.0) in_compared

  in_executed : Begins executed.0 c.final
  unfolding applied
  in_executed = begins_later _ _ _ ((made_apply c called.1 executed.1).grows.at ended.1 executed.0) in_applied

  in_called : Begins called.0 c.final
  unfolding executed
  in_called = begins_later _ _ _ ((made_exec c).grows.at 0 called.0) in_executed

  in_back : Begins went_back.0 c.final
  unfolding fixed_code called
  in_back = begins_later _ _ _ ((made_call c).grows.at 0 went_back.0) in_called

  in_failed : Begins failed.0 c.final
  unfolding went_back
  in_failed = begins_later _ _ _ ((made_back c).grows.at 0 failed.0) in_back

  in_aborted : Begins aborted.0 c.final
  unfolding failed
  in_aborted = begins_later _ _ _ (all_grow (map fails_with failure_codes) (fails_grow c) aborted.1 aborted.0) in_failed

  in_ended : Begins ended.0 c.final
  unfolding aborted
  in_ended = begins_later _ _ _ (put_begins (record { operation = 21; field = Number (negsuc 0); next = None }) ended.0) in_aborted

  pub ends : At c.setting (place_word c.places end_place) (op.End (pos 1)) (next_word c.places None)
  unfolding fixed_code ended
  ends = put_stands c (record { operation = 21; field = Number (pos 1); next = None }) _ no_code refl in_ended

  aborts : At c.setting (at c aborted.1) (op.End (negsuc 0)) (next_word c.places None)
  unfolding aborted
  aborts = put_stands c (record { operation = 21; field = Number (negsuc 0); next = None }) _ ended.0 refl in_aborted

  -- the i-th failure, whose code is that
  fails_at : (i code : ℕ) → slice_get (map fails_with failure_codes) i ≡ Some (fails_with code)
      → FailAt c.setting code (at c (slice_index fixed_code.fails i))
  unfolding fixed_code failed
  fails_at i code is = record {
    b = at c aborted.1;
    k = next_word c.places None;
    pushes =
        each_stands c (map fails_with failure_codes) (fails_grow c) aborted.1 aborted.0 in_failed i is (pushes (Number (pos code)));
    aborts = aborts;
  }

  pub fails : (code : ℕ) → IsFailure code → FailAt c.setting code ((layout c).fail code)
  fails zero h = absurd (let no : false ≡ true = h in cc)
  fails (suc zero) h = fails_at 0 1 refl
  fails (suc (suc zero)) h = fails_at 1 2 refl
  fails (suc (suc (suc zero))) h = fails_at 2 3 refl
  fails (suc (suc (suc (suc zero)))) h = fails_at 3 4 refl
  fails (suc (suc (suc (suc (suc zero))))) h = fails_at 4 5 refl
  fails (suc (suc (suc (suc (suc (suc zero)))))) h = absurd (let no : false ≡ true = h in cc)
  fails (suc (suc (suc (suc (suc (suc (suc zero))))))) h = fails_at 6 7 refl
  fails (suc (suc (suc (suc (suc (suc (suc (suc code)))))))) h =
      absurd (let no : false ≡ true = sym (no_failure (suc (suc (suc (suc (suc (suc (suc (suc code)))))))) (omega arith)) ∙ h in cc)

  goes_back : BackAt c.setting (at c went_back.1)
  unfolding went_back
  goes_back = (made_back c).stands 0 failed.0 in_back

  pub calls : CallAt c.setting (layout c)
  unfolding fixed_code called
  calls =
      let s = (made_call c).stands 0 went_back.0 in_called in
      record { b = s.0; c = s.1; k = s.2; tests = s.3; chooses = s.4; enters = s.5 }

  pub executes : ExecAt c.setting (layout c)
  unfolding fixed_code executed
  executes =
      let s = (made_exec c).stands 0 called.0 in_executed in
      record { b = s.0; block = s.1; none = s.2; j = s.3; k = s.4; tests = s.5; chooses = s.6; enters = s.7; skips = s.8; jumps = s.9 }

  pub applies : ApplyAt c.setting (layout c)
  unfolding fixed_code applied
  applies =
      let s = (made_apply c called.1 executed.1).stands ended.1 executed.0 in_applied in
      record { b = s.0; result = s.2.0; ending = at c ended.1; k = next_word c.places None; reads = s.1; calls = s.2.1; executes = s.2.2; commits = ends }

  pub compares : SameAt c.setting (layout c)
  unfolding fixed_code same_called compared
  compares =
      let s = (made_compare c).stands went_back.1 applied.0 in_compared in
      let turn = s.2.2 in
      let pairs = turn.5 in
      let leaves = turn.6 in
      let more = leaves.12 in
      record {
        state = at c compared.1;
        loop = s.0;
        pairs = pairs.1;
        leaf = turn.2;
        differ = s.2.0;
        more = leaves.5;
        tails = more.1;
        yes = more.2;
        no = s.2.1;
        b = turn.0;
        c = turn.1;
        d = pairs.0;
        e = leaves.0;
        f = leaves.1;
        g = leaves.2;
        h = leaves.3;
        i = leaves.4;
        j = more.0;
        k = at c went_back.1;
        enters = (rolls {c = c} (negsuc 2) refl).stands compared.1 compared.0 in_same;
        begins = s.1;
        top = turn.3;
        top_chooses = turn.4;
        other = pairs.2;
        other_chooses = pairs.3;
        heads = pairs.4;
        function = leaves.6;
        function_chooses = leaves.7;
        block = leaves.8;
        block_chooses = leaves.9;
        compares = leaves.10;
        same_chooses = leaves.11;
        looks = more.3;
        more_chooses = more.4;
        takes = more.5;
        differs = s.2.3;
        answers_yes = more.6;
        answers_no = s.2.4;
        back = goes_back;
      }

  -- the built-in function of that number
  built_in_at : (i : ℕ) {q : Piece} {S : W → W → Type 0} → slice_get (built_in_codes fail_place compared.1) i ≡ Some q → Makes c q S
      → S (at c (slice_index routine_places i)) (at c went_back.1)
  unfolding fixed_code built_in
  built_in_at i is made =
      each_stands c (built_in_codes fail_place compared.1) (built_ins_grow c compared.1) went_back.1 same_called.0 in_built i is made

  pub primitives : (b : BuiltIn) → PrimitiveAt c.setting (layout c) compares b ((layout c).routine b)
  unfolding compares
  primitives Add = built_in_at 0 refl (made_calculates c _ (alus c 4 refl)) goes_back
  primitives Sub = built_in_at 1 refl (made_calculates c _ (alus c 5 refl)) goes_back
  primitives Mul = built_in_at 2 refl (made_calculates c _ (alus c 6 refl)) goes_back
  primitives Compare = built_in_at 3 refl (made_orders c) goes_back
  primitives Less = built_in_at 4 refl (made_calculates c _ (cmps c 3 refl)) goes_back
  primitives LessEqual = built_in_at 5 refl (made_calculates c _ (cmps c 4 refl)) goes_back
  primitives Greater = built_in_at 6 refl (made_calculates c _ (cmps c 2 refl)) goes_back
  primitives GreaterEqual = built_in_at 7 refl (made_calculates c _ (cmps c 1 refl)) goes_back
  primitives Equal = built_in_at 8 refl (made_equal c compared.1)
  primitives And = built_in_at 9 refl (made_both c) goes_back
  primitives Or = built_in_at 10 refl (made_any c) goes_back
  primitives Not = built_in_at 11 refl (made_negates c) goes_back
