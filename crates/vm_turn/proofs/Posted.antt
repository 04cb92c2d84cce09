-- The sponsors that an event names in `actor post` are ones that it may have.
use Rattle.std.proofs.Common.{◌≡◌, ◌⊎◌, inl, inr, ℕ, ◌%◌, Bool, true, false, List, [], ◌∷◌, ◌++◌, length, Option, Some, None, refl, sym, subst, arith, nat_eq, if◌then◌else◌, append_assoc, option_map}
use Rattle.std.specs.Prelude.{slice_get}
use Rattle.std.proofs.lemmas.Bool.Decides.{nat_tests}
use Rattle.cap_words.specs.declared.word.Quad.{Quad}
use Rattle.cap_words.specs.Words.{W, Fix, Rom, Ram, Cap}
use Rattle.cap_words.specs.Seen.{Seen, cell_seen}
use Rattle.cap_words.specs.Frame.{Among}
use Rattle.instr_table.specs.declared.op.Op.{Op}
use Rattle.instr_table.specs.declared.op.Op.TheVariants.{Push, Dup, Drop, Pick, Roll, Depth, Pair, Part, Nth, QuadMake, QuadTake, Get, Typeq, Eq, Cmp, AluNot, Alu, If, Jump, Msg, State, My, ActorSend, ActorPost, ActorCreate, ActorAssign, ActorBecome, End, DictTest, DictPut, DictDel, DequeNew, DequeTest, DequePut, DequeTake, SponsorNew, SponsorGrant, SponsorReclaim, SponsorStart, SponsorStop, Assert, Debug}
use Rattle.instr_table.specs.Types.{Readable, shows_sponsor, look_up, is_actor, is_sponsor}
use Rattle.instr_table.specs.Code.{fetched}
use Rattle.instr_table.specs.Lists.{item}
use Rattle.instr_table.specs.Event.{Own, Effects}
use Rattle.instr_table.specs.Sheet.{Account}
use Rattle.instr_table.specs.Outcome.{Going, Goes, faults, not_actor, not_sponsor}
use Rattle.instr_table.specs.ActorRows.{post_row, message_to}
use Rattle.instr_table.specs.Row.{row_at}
use Rattle.instr_table.specs.Lane.{Lane, values, lane_row}
use Rattle.instr_table.specs.Reach.{given, IsOpaque}
use Rattle.instr_table.specs.Authority.{effects_words, lane_words}
use Rattle.vm_turn.specs.State.{State as Machine}
use Rattle.vm_turn.specs.Turn.{turn}
use Rattle.vm_turn.specs.Run.{run}
use Rattle.vm_turn.specs.Authority.{WordsTaken, made_next, posted_next, is_post, posted_by, noted_in, noted_at, noted_since, had_at, PostsKeepAuthority}
use Rattle.vm_turn.proofs.Sponsors.{among-left, among-of}
use Rattle.vm_turn.proofs.TurnCases.{turn-by}
use Rattle.vm_turn.proofs.RunsSound.{run-sound}
use Rattle.vm_turn.proofs.WordsKept.{turn-taken, run-taken}
use Rattle.vm_turn.proofs.Rights.{Holds, Underway, widen, turn-holds, dispatched-holds, dispatched-underway}
use Rattle.instr_table.specs.Reach.{Reach}

-- ---- what a sponsor's word is

no-readable : (o : Option Quad) → shows_sponsor (option_map Readable o) ≡ true → ⊥
no-readable None h = cc
no-readable (Some q) h = cc

-- it is opaque
sponsor-opaque : (s : Seen) (w : W) → is_sponsor s w ≡ true → IsOpaque w
unfolding look_up
sponsor-opaque s (Fix n) h = cc
sponsor-opaque s (Rom n) h = absurd (no-readable (cell_seen s (Rom n)) h)
sponsor-opaque s (Ram n) h = absurd (no-readable (cell_seen s (Ram n)) h)
sponsor-opaque s (Cap n) h = tt

-- on top of a stack it is one of the values
top-among : (s : Seen) (vs : List W) → is_sponsor s (item vs 1) ≡ true → Among (item vs 1) vs
top-among s [] h = absurd (sponsor-opaque s (item [] 1) h)
top-among s (v ∷ vs) h = inl refl

-- ---- the row

post-is : (op : Op) → is_post op ≡ true → op ≡ ActorPost
post-is (Push v) h = cc
post-is (Dup n) h = cc
post-is (Drop n) h = cc
post-is (Pick n) h = cc
post-is (Roll n) h = cc
post-is Depth h = cc
post-is (Pair n) h = cc
post-is (Part n) h = cc
post-is (Nth n) h = cc
post-is (QuadMake n) h = cc
post-is (QuadTake n) h = cc
post-is (Get n) h = cc
post-is (Typeq t) h = cc
post-is (Eq v) h = cc
post-is (Cmp n) h = cc
post-is AluNot h = cc
post-is (Alu n) h = cc
post-is (If label) h = cc
post-is Jump h = cc
post-is (Msg n) h = cc
post-is (State n) h = cc
post-is (My n) h = cc
post-is ActorSend h = cc
post-is ActorPost h = refl
post-is ActorCreate h = cc
post-is ActorAssign h = cc
post-is ActorBecome h = cc
post-is (End n) h = cc
post-is (DictTest n) h = cc
post-is (DictPut n) h = cc
post-is DictDel h = cc
post-is DequeNew h = cc
post-is (DequeTest n) h = cc
post-is (DequePut n) h = cc
post-is (DequeTake n) h = cc
post-is SponsorNew h = cc
post-is (SponsorGrant n) h = cc
post-is SponsorReclaim h = cc
post-is SponsorStart h = cc
post-is SponsorStop h = cc
post-is (Assert v) h = cc
post-is Debug h = cc

-- where a post goes on, the item on top is a sponsor
post-names : (s : Seen) (vs : List W) (k : W) (g : Going) → (post_row s vs k).outcome ≡ Goes g → is_sponsor s (item vs 1) ≡ true
post-names s vs k g is = by (is_sponsor s (item vs 1)) refl is
  where
    by : (b : Bool) → is_sponsor s (item vs 1) ≡ b → (if b then if is_actor s (item vs 2) then message_to 3 (item vs 1) s (item vs 2) (item vs 3) k else faults 1 1 not_actor else faults 1 1 not_sponsor).outcome ≡ Goes g → is_sponsor s (item vs 1) ≡ true
    by true e h = e
    by false e h = cc

row-names : (own : Own) (o : Option (Op × W)) (s : Seen) (sheet : List Account) (e : Effects) (vs : List W) (g : Going) → (row_at own o s sheet e vs).outcome ≡ Goes g → (w : W) → Among w (posted_by o vs) → (w ≡ item vs 1) × (is_sponsor s (item vs 1) ≡ true)
row-names own None s sheet e vs g is w a = absurd a
row-names own (Some o) s sheet e vs g is w a = by (is_post o.0) refl a
  where
    by : (b : Bool) → is_post o.0 ≡ b → Among w (if b then item vs 1 ∷ [] else []) → (w ≡ item vs 1) × (is_sponsor s (item vs 1) ≡ true)
    by true p (inl same) = (same, post-names s vs o.1 g (subst (λ (op : Op). (row_at own (Some (op, o.1)) s sheet e vs).outcome ≡ Goes g) (post-is o.0 p) is))
    by true p (inr none) = absurd none
    by false p none = absurd none

-- ---- turn by turn

nat-is : (m n : ℕ) → nat_eq m n ≡ true → m ≡ n
nat-is m n e = grind (arith, nat_tests)

module _ (P : W → Type 0) (number : ℕ) where
  module _ (s : Machine) (made : List W) (h : Holds P number made s) where
    picked-posts : (place : ℕ) (l : Lane) (g : Going) → slice_get s.flight place ≡ Some l → (lane_row s.store s.sheet l).outcome ≡ Goes g → (w : W) → Among w (noted_in posted_next number s (Some l)) → P w ⊎ Among w made
    picked-posts place l g at is w a = by (nat_eq l.number number) refl a
      where
        by : (b : Bool) → nat_eq l.number number ≡ b → Among w (if b then posted_next s l else []) → P w ⊎ Among w made
        by true e a =
            let n = row-names l.own (fetched s.store l.code) s.store s.sheet l.effects (values l.stack) g is w a in
            let top = item (values l.stack) 1 in
            let held = among-left top (values l.stack) (effects_words l.own.sponsor l.effects) (top-among s.store (values l.stack) n.1) in
            h place l at (nat-is l.number number e) w (subst (λ (v : W). Reach s.store (lane_words l) v) (sym n.0) (sponsor-opaque s.store top n.1, given (inr (inr (inr (inr (inr held)))))))
        by false e a = absurd a

    turn-posts : (pick : ℕ) (w : W) → Among w (noted_at posted_next number s pick (turn s pick).1) → P w ⊎ Among w made
    turn-posts pick w = turn-by s pick (λ t a. Among w (noted_at posted_next number s pick a) → P w ⊎ Among w made) (record {
      spent = λ kind out n. absurd n;
      rests = λ run waits none n. absurd n;
      begins = λ m d n. absurd n;
      writes = λ m device bytes d e n. absurd n;
      refuses = λ m device d e n. absurd n;
      goes = λ l g at paid is n. picked-posts (pick % length s.flight) l g at is w (subst (λ (o : Option Lane). Among w (noted_in posted_next number s o)) at n);
      fails = λ l v at paid is n. absurd n;
      commits = λ l at paid is n. absurd n;
      runs_out = λ l kind at lacks other n. absurd n;
      root_runs_out = λ l kind at lacks same run n. absurd n;
    })

  posts-since : (s : Machine) (ps : List ℕ) (made : List W) → WordsTaken s → Holds P number made s → Underway number s → (w : W) → Among w (noted_since posted_next number s ps) → P w ⊎ Among w (made ++ noted_since made_next number s ps)
  posts-since s [] made taken h u w a = absurd a
  posts-since s (p ∷ ps) made taken h u w a =
      let t = turn-holds P number s taken made h p u in
      let more = noted_at made_next number s p (turn s p).1 in
      let later = posts-since (turn s p).0 ps (made ++ more) (turn-taken s p taken) t.0 t.1 w in
      by later (among-of w (noted_at posted_next number s p (turn s p).1) (noted_since posted_next number (turn s p).0 ps) a)
    where
      by : (Among w (noted_since posted_next number (turn s p).0 ps) → P w ⊎ Among w ((made ++ noted_at made_next number s p (turn s p).1) ++ noted_since made_next number (turn s p).0 ps)) → Among w (noted_at posted_next number s p (turn s p).1) ⊎ Among w (noted_since posted_next number (turn s p).0 ps) → P w ⊎ Among w (made ++ noted_since made_next number s (p ∷ ps))
      by later (inl now) = widen P number w made (noted_since made_next number s (p ∷ ps)) (turn-posts s made h p w now)
      by later (inr b) = subst (λ (ws : List W). P w ⊎ Among w ws) (append_assoc made (noted_at made_next number s p (turn s p).1) (noted_since made_next number (turn s p).0 ps)) (later b)

-- ---- the law

pub posts-keep_authority : PostsKeepAuthority
posts-keep_authority image grant lanes valid e w a =
    let s = run image grant lanes e.before in
    let ok = run-sound image grant lanes e.before in
    let taken = run-taken image grant lanes e.before valid in
    posts-since (Reach s.store (had_at s e.message)) e.message.number (turn s e.pick).0 e.since [] (turn-taken s e.pick taken)
    (dispatched-holds s ok taken e.message e.chosen e.pick e.begins) (dispatched-underway s ok taken e.message e.chosen e.pick e.begins) w a
