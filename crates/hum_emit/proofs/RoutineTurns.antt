-- What the calls that make the fixed code make, one after the other.
use Rattle.std.proofs.Common.{◌≡◌, refl, ap, sym, ◌∙◌, ℕ, ◌+◌, ◌<◌, ◌≤◌, pos, negsuc, List, [], ◌∷◌, ◌++◌, map, length, take, append_assoc, Some, arith}
use Rattle.std.specs.Prelude.{slice_get, slice_index}
use Rattle.std.proofs.lemmas.List.{take_more, take_all}
use Rattle.std.proofs.lemmas.Option.{slice_get_within, get_or_from_slice_get}
use Rattle.std.proofs.Math.Seq.{take-append_seam}
use Rattle.hum_emit.specs.declared.instruction.Field.TheVariants.{Place}
use Rattle.hum_emit.specs.Emitted.{Emitted, Piece, choose, drop, roll}
use Rattle.hum_emit.specs.Routines.{goes, unless, either, looped, each, ends, back, fails_with, call_code, exec_code, apply_code, pairs_code, more_code, leaves_code, compare_turn, compare_loop, compare_code, false_word, built_in_codes}
use Rattle.hum_emit.specs.Runtime.{failure_codes, no_code, ended, aborted, failed, went_back, called, executed, applied, compared, same_called, built_in, fixed_code, fail_in, runtime, end_place, call_place, exec_place, apply_place, same_place, routine_places}
use Rattle.hum_emit.specs.Emitting.{with_cells}
use Rattle.hum_emit.specs.Program.{routine_cells}
use Rattle.hum_emit.proofs.FixedPlaces.{routines_many, routine_cell, routine_at, cells_many}
use Rattle.hum_emit.proofs.Makes.{begins_same, begins_later, put_begins, Growing, g_one, g_choose, g_both}

-- ---- a piece, and then those behind it

pub each_more : (p : Piece) (ps : List Piece) (k : ℕ) (s : Emitted) (made : Emitted × ℕ) (others : Emitted × List ℕ) → made ≡ p k s → others ≡ each ps k made.0
    → (others.0, made.1 ∷ others.1) ≡ each (p ∷ ps) k s
each_more p ps k s made others g h =
    ap (λ (o : Emitted × List ℕ). (o.0, made.1 ∷ o.1)) h
    ∙ ap (λ (m : Emitted × ℕ). ((each ps k m.0).0, m.1 ∷ (each ps k m.0).1)) g

-- ---- a turn of the comparison only adds code

g_goes : {i : ℕ} → Growing (goes i)
g_goes {i} = record { at = λ k s. begins_same s }

g_unless : {hit : ℕ} → Growing (unless hit)
g_unless {hit} = record { at = λ k s. put_begins (record { operation = 15; field = Place hit; next = Some k }) s }

g_either : {q r : Piece} → Growing q → Growing r → Growing (either q r)
g_either {q} {r} g h = record {
  at = λ k s.
      let other = r k s in
      begins_later _ _ _ (h.at k s) ((g_both {q = choose other.1} {r = q} g_choose g).at k other.0);
}

pairs_grow : (head differ : ℕ) → Growing (pairs_code head differ)
pairs_grow head differ =
    g_both g_one (g_both g_one (g_both g_choose (g_both g_one (g_both g_one (g_both g_one (g_both g_one (g_both g_one (g_both g_one (g_both g_one g_goes)))))))))

more_grow : (head : ℕ) → Growing (more_code head)
more_grow head =
    g_both g_one (g_either (g_both g_one (g_both g_one (g_both g_one (g_both g_one (g_both g_one g_goes))))) (g_both g_one g_one))

leaves_grow : (head differ deny : ℕ) → Growing (leaves_code head differ deny)
leaves_grow head differ deny =
    g_both g_one (g_both g_one (g_both g_unless (g_both g_one (g_both g_one (g_both g_unless (g_both g_one (g_both g_choose (more_grow head))))))))

turn_grows : (differ deny head : ℕ) → Growing (compare_turn differ deny head)
turn_grows differ deny head = g_both g_one (g_both g_one (g_either (pairs_grow head differ) (leaves_grow head differ deny)))

-- a turn was made with another number to go back to, was taken back, and was made again with the number of its own beginning
pub made_again : (differ deny head k count : ℕ) (s t u : Emitted) (o : Emitted × ℕ) → count ≡ length s.code → (t, head) ≡ compare_turn differ deny 0 k s
    → u ≡ record t { code = take count t.code } → o ≡ compare_turn differ deny head k u → o ≡ looped (compare_turn differ deny) k s
made_again differ deny head k count s t u o many first back second =
    let made = compare_turn differ deny 0 k s in
    let begins = (turn_grows differ deny 0).at k s in
    let kept : take (length s.code) made.0.code ≡ s.code = ap (take (length s.code)) begins.code_is ∙ take-append_seam s.code begins.code in
    let rewound : u ≡ s = back ∙ (ap (λ (x : Emitted × ℕ). record x.0 { code = take count x.0.code }) first
    ∙ (ap (λ n. record made.0 { code = take n made.0.code }) many ∙ ap (λ xs. record s { code = xs }) kept)) in
    second ∙ (ap (λ (x : Emitted × ℕ). compare_turn differ deny x.1 k u) first ∙ ap (compare_turn differ deny made.1 k) rewound)

-- the loop behind what answers that values differ
pub loop_made : (k x deny differ : ℕ) (s a b d : Emitted) (o : Emitted × ℕ) → (a, x) ≡ false_word k s → (b, deny) ≡ drop 1 x a
    → (d, differ) ≡ drop 2 deny b → o ≡ looped (compare_turn differ deny) k d → o ≡ compare_loop k s
loop_made k x deny differ s a b d o first second third made =
    made ∙ (ap (λ (y : Emitted × ℕ). looped (compare_turn y.1 deny) k y.0) third
    ∙ (ap (λ (y : Emitted × ℕ). looped (compare_turn (drop 2 y.1 y.0).1 y.1) k (drop 2 y.1 y.0).0) second
    ∙ ap (λ (y : Emitted × ℕ). let z = drop 1 y.1 y.0 in looped (compare_turn (drop 2 z.1 z.0).1 z.1) k (drop 2 z.1 z.0).0) first))

-- ---- the whole

-- the fixed code is code alone
code_alone : built_in.0 ≡ record no_code { code = built_in.0.code }
unfolding ended aborted failed went_back called executed applied compared same_called built_in
code_alone = refl

-- each routine is made behind the one before it
module _ (s0 s1 s2 s3 s4 s5 s6 s7 s8 s9 s10 : Emitted) (end abort home call exec apply compare same : ℕ) (fails places : List ℕ)
    (h0 : s0 ≡ no_code) (h1 : (s1, end) ≡ ends (pos 1) 0 s0) (h2 : (s2, abort) ≡ ends (negsuc 0) 0 s1)
    (h3 : (s3, fails) ≡ each (map fails_with failure_codes) abort s2) (h4 : (s4, home) ≡ back 0 s3)
    (h5 : (s5, call) ≡ call_code (fail_in fails) 0 s4) (h6 : (s6, exec) ≡ exec_code 0 s5) (h7 : (s7, apply) ≡ apply_code call exec end s6)
    (h8 : (s8, compare) ≡ compare_code home s7) (h9 : (s9, same) ≡ roll (negsuc 2) compare s8)
    (h10 : (s10, places) ≡ each (built_in_codes (fail_in fails) compare) home s9) where
  first : (s1, end) ≡ ended
  unfolding ended
  first = h1 ∙ ap (ends (pos 1) 0) h0

  second : (s2, abort) ≡ aborted
  unfolding aborted
  second = h2 ∙ ap (λ (x : Emitted × ℕ). ends (negsuc 0) 0 x.0) first

  third : (s3, fails) ≡ failed
  unfolding failed
  third = h3 ∙ ap (λ (x : Emitted × ℕ). each (map fails_with failure_codes) x.1 x.0) second

  fourth : (s4, home) ≡ went_back
  unfolding went_back
  fourth = h4 ∙ ap (λ (x : Emitted × List ℕ). back 0 x.0) third

  fifth : (s5, call) ≡ called
  unfolding called
  fifth =
      h5 ∙ (ap (λ (x : Emitted × List ℕ). call_code (fail_in x.1) 0 s4) third
      ∙ ap (λ (x : Emitted × ℕ). call_code (fail_in failed.1) 0 x.0) fourth)

  sixth : (s6, exec) ≡ executed
  unfolding executed
  sixth = h6 ∙ ap (λ (x : Emitted × ℕ). exec_code 0 x.0) fifth

  seventh : (s7, apply) ≡ applied
  unfolding applied
  seventh =
      h7 ∙ (ap (λ (x : Emitted × ℕ). apply_code x.1 exec end s6) fifth
      ∙ (ap (λ (x : Emitted × ℕ). apply_code called.1 x.1 end x.0) sixth ∙ ap (λ (x : Emitted × ℕ). apply_code called.1 executed.1 x.1 executed.0) first))

  eighth : (s8, compare) ≡ compared
  unfolding compared
  eighth = h8 ∙ (ap (λ (x : Emitted × ℕ). compare_code x.1 s7) fourth ∙ ap (λ (x : Emitted × ℕ). compare_code went_back.1 x.0) seventh)

  ninth : (s9, same) ≡ same_called
  unfolding same_called
  ninth = h9 ∙ ap (λ (x : Emitted × ℕ). roll (negsuc 2) x.1 x.0) eighth

  tenth : (s10, places) ≡ built_in
  unfolding built_in
  tenth =
      h10 ∙ (ap (λ (x : Emitted × List ℕ). each (built_in_codes (fail_in x.1) compare) home s9) third
      ∙ (ap (λ (x : Emitted × ℕ). each (built_in_codes (fail_in failed.1) x.1) home s9) eighth
      ∙ (ap (λ (x : Emitted × ℕ). each (built_in_codes (fail_in failed.1) compared.1) x.1 s9) fourth
      ∙ ap (λ (x : Emitted × ℕ). each (built_in_codes (fail_in failed.1) compared.1) went_back.1 x.0) ninth)))

  -- what is made in the end, and where its parts begin
  pub record FixedMade : Type 0 where
    pub code : s10 ≡ record no_code { code = runtime }
    pub ends_there : end ≡ end_place
    pub fails_there : fails ≡ fixed_code.fails
    pub calls_there : call ≡ call_place
    pub executes_there : exec ≡ exec_place
    pub applies_there : apply ≡ apply_place
    pub compares_there : same ≡ same_place
    pub built_there : places ≡ routine_places

  pub fixed_made : FixedMade
  unfolding fixed_code
  fixed_made = record {
    code = ap (λ (x : Emitted × List ℕ). x.0) tenth ∙ code_alone;
    ends_there = ap (λ (x : Emitted × ℕ). x.1) first;
    fails_there = ap (λ (x : Emitted × List ℕ). x.1) third;
    calls_there = ap (λ (x : Emitted × ℕ). x.1) fifth;
    executes_there = ap (λ (x : Emitted × ℕ). x.1) sixth;
    applies_there = ap (λ (x : Emitted × ℕ). x.1) seventh;
    compares_there = ap (λ (x : Emitted × ℕ). x.1) ninth;
    built_there = ap (λ (x : Emitted × List ℕ). x.1) tenth;
  }

-- ---- the cells of the built-in functions

-- one more cell, of the routine with the next number
pub cells_turn : (places : List ℕ) (i : ℕ) (s t u : Emitted) → i < 12 → places ≡ routine_places
    → t ≡ with_cells (take i (routine_cells 0 routine_places)) s → u ≡ with_cells (routine_cell i (slice_index places i) ∷ []) t
    → u ≡ with_cells (take (i + 1) (routine_cells 0 routine_places)) s
cells_turn places i s t u few there before put =
    let cells = routine_cells 0 routine_places in
    let cell = routine_cell i (slice_index routine_places i) in
    let many = routines_many in
    let found : slice_get cells i ≡ Some cell
    = routine_at 0 routine_places i (omega (arith, many, few))
    ∙ ap (λ n. Some (routine_cell n (slice_index routine_places i))) (let same : 0 + i ≡ i = omega arith in same) in
    let more : take (i + 1) cells ≡ take i cells ++ cell ∷ []
    = take_more cells i cell (slice_get_within cells i cell found) ∙ ap (λ y. take i cells ++ y ∷ []) (get_or_from_slice_get cells i cell cell found) in
    put ∙ (ap (λ ps. with_cells (routine_cell i (slice_index ps i) ∷ []) t) there ∙ (ap (with_cells (cell ∷ [])) before
    ∙ ap (λ ds. record s { cells = ds }) (append_assoc s.cells (take i cells) (cell ∷ []) ∙ ap (λ ds. s.cells ++ ds) (sym more))))

pub cells_done : (i : ℕ) (s t : Emitted) → 12 ≤ i → t ≡ with_cells (take i (routine_cells 0 routine_places)) s
    → t ≡ with_cells (routine_cells 0 routine_places) s
cells_done i s t far h =
    let many = cells_many 0 routine_places in
    let twelve = routines_many in
    h ∙ ap (λ ds. with_cells ds s) (take_all i (routine_cells 0 routine_places) (omega (arith, many, twelve, far)))
