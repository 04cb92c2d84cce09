-- Why a run of a file's image stops.
use Rattle.instr_table.specs.Spent.{spent_in_kind}
use Rattle.vm_turn.specs.Spending.{Spending, spent_in_run, spent_by_ended}
use Rattle.std.proofs.Common.{◌≡◌, refl, ap, sym, subst, ◌∙◌, ℕ, ◌+◌, ◌≤◌, List, [], ◌∷◌, ◌++◌, map, sum, Option, Some, None, arith}
use Rattle.std.proofs.lemmas.List.Sums.{sum_by-cons}
use Rattle.std.proofs.lemmas.Option.{none-some}
use Rattle.cap_words.specs.Words.{W}
use Rattle.quad_memory.specs.Image.{RomImage}
use Rattle.instr_table.specs.declared.charge.Quota.{Quota}
use Rattle.instr_table.specs.Sheet.{Account, account, amount, short}
use Rattle.instr_table.specs.Lane.{lane_row}
use Rattle.vm_sponsor.specs.declared.amounts.Amounts.{Amounts}
use Rattle.vm_sponsor.specs.Ledger.{of_kind}
use Rattle.vm_sponsor.specs.Totals.{kept, total}
use Rattle.vm_turn.specs.declared.journal.Entry as machine
use Rattle.vm_turn.specs.declared.journal.Turn.TheVariants.{Rest}
use Rattle.vm_turn.specs.State.{State, root}
use Rattle.vm_turn.specs.Boot.{booted}
use Rattle.vm_turn.specs.Turn.{unless_spent, turn}
use Rattle.vm_turn.specs.Changes.{place}
use Rattle.vm_turn.specs.Run.{after, run}
use Rattle.vm_turn.specs.Sound.{Sound}
use Rattle.vm_turn.proofs.RunsSound.{run-sound}
use Rattle.hum_syntax.specs.declared.tree.Stmt.{Stmt}
use Rattle.hum_meaning.specs.Value.{Parts}
use Rattle.hum_meaning.specs.Language.{Language}
use Rattle.hum_meaning.specs.Deliver.{Message, Configuration}
use Rattle.hum_meaning.specs.Named.{Named, written}
use Rattle.hum_meaning.specs.Written.{humus}
use Rattle.hum_meaning.specs.After as meaning
use Rattle.hum_meaning.specs.After.{Entry, Follows}
use Rattle.hum_core.specs.declared.tested.TestUnit.{TestUnit}
use Rattle.hum_core.specs.Alike.{Each}
use Rattle.hum_core.specs.Bound.{Cost, HaveBounds, Fit}
use Rattle.hum_sim.specs.Journal.{EntryAs}
use Rattle.hum_core.specs.TestLists.{tests_language}
use Rattle.hum_core.proofs.Programs.{program_means}
use Rattle.hum_code.specs.Layout.{Layout}
use Rattle.hum_sim.specs.Program.{HoldsFile}
use Rattle.vm_turn.specs.Alone.{RootAlone}
use Rattle.hum_sim.specs.Within.{allowed, MessagesOf, AreWithin, FinishedBounds, NoChoiceFits}
use Rattle.hum_sim.specs.Runs.{FollowsItsJournal, RootIsShort, RanOutBecause, BoundsAlwaysFit, RunStands, RunsFollowTheirJournals}
use Rattle.vm_turn.proofs.Root.{root-account}
use Rattle.hum_sim.proofs.Lanes.{lane_stands}
use Rattle.hum_sim.proofs.Causes.{rest_means, rest_comes, sum_first, within_kind, none_fit}
use Rattle.hum_sim.proofs.Outs.{OutNow, out_now}
use Rattle.hum_sim.proofs.Files.{none_fits_back}
use Rattle.hum_sim.proofs.Runs.{follows_journal, lanes_stay, what_follows}

-- ---- sums

-- events that ended spent no more than the bounds of their deliveries
ended_within : {L : Parts} (language : Language L) (kind : Quota) (spent : Spending) (c : Configuration L) (xs : List machine.Entry) (es : List Entry) (d : Configuration L)
    → Each EntryAs xs es → (f : Follows language c es d) → AreWithin language spent c es d f → (costs : List Cost) → FinishedBounds language c es d f costs
    → spent_by_ended kind spent xs ≤ sum (map (allowed kind) costs)
ended_within language kind spent c [] [] d a f h [] b = omega arith
ended_within language kind spent c [] [] d a f h (x ∷ costs) b = absurd b
ended_within language kind spent c [] (e ∷ es) d a f h costs b = absurd a
ended_within language kind spent c (y ∷ xs) [] d a f h costs b = absurd a
ended_within language kind spent c (y ∷ xs) (e ∷ es) d a f h [] b = absurd b
ended_within language kind spent c (y ∷ xs) (e ∷ es) d a f h (x ∷ costs) b =
    let one = within_kind kind (spent e.message) x (h.0 b.0.0 x b.0.1) in
    let same = ap (λ (n : ℕ). spent_in_kind kind (spent n)) a.0.message in
    let more = ended_within language kind spent f.0 xs es d a.1 f.2 h.1 costs b.1 in
    let p = sum_by-cons (λ (z : machine.Entry). spent_in_kind kind (spent z.message)) y xs in
    let s = sum_first kind x costs in
    omega (arith, one, same, more, p, s)

pub sum_both : (kind : Quota) (xs ys : List Cost) → sum (map (allowed kind) (xs ++ ys)) ≡ sum (map (allowed kind) xs) + sum (map (allowed kind) ys)
sum_both kind [] ys = omega arith
sum_both kind (x ∷ xs) ys = let a = sum_first kind x (xs ++ ys) in let b = sum_first kind x xs in let h = sum_both kind xs ys in omega (arith, a, b, h)

-- what the root spent and holds was granted
root_kept : (sheet : List Account) (out : Option Quota) (r : RootAlone sheet out) (kind : Quota) → (amount kind (account sheet root)).spent + (amount kind (account sheet root)).held ≡ total kind sheet
root_kept sheet out r kind =
    let a = root-account sheet out r in
    let s = ap (λ (x : Account). (amount kind x).spent) a in
    let h = ap (λ (x : Account). (amount kind x).held) a in
    let t : total kind sheet ≡ total kind (r.account ∷ []) = ap (total kind) r.only in
    let k = sum_by-cons (kept kind) r.account [] in
    omega (arith, s, h, t, k)

-- ---- the turn in which the root ran out

record OutAt (s : State) (picks : List ℕ) (kind : Quota) : Type 0 where
  pub earlier : List ℕ
  pub pick : ℕ
  pub later : List ℕ
  pub picks_are : picks ≡ earlier ++ pick ∷ later
  pub running : (after s earlier).out_of ≡ None
  pub out : (turn (after s earlier) pick).0.out_of ≡ Some kind
  pub stays : after s picks ≡ (turn (after s earlier) pick).0

nothing_changes : (s : State) (kind : Quota) → s.out_of ≡ Some kind → (picks : List ℕ) → after s picks ≡ s
nothing_changes s kind e [] = refl
nothing_changes s kind e (p ∷ picks) =
    let same : (turn s p).0 ≡ s = ap (λ (q : Option Quota). (unless_spent s p q).0) e in
    ap (λ (t : State). after t picks) same ∙ nothing_changes s kind e picks

out_at : (s : State) (picks : List ℕ) (kind : Quota) → s.out_of ≡ None → (after s picks).out_of ≡ Some kind → OutAt s picks kind
out_at s [] kind running out = absurd (none-some kind (sym running ∙ out))
out_at s (p ∷ picks) kind running out = by (turn s p).0.out_of refl (λ e. out_at (turn s p).0 picks kind e out)
  where
    by : (o : Option Quota) → (turn s p).0.out_of ≡ o → ((turn s p).0.out_of ≡ None → OutAt (turn s p).0 picks kind) → OutAt s (p ∷ picks) kind
    by None e more =
        let x = more e in
        record { earlier = p ∷ x.earlier; pick = x.pick; later = x.later; picks_are = ap (λ (ps : List ℕ). p ∷ ps) x.picks_are; running = x.running; out = x.out; stays = x.stays }
    by (Some k) e more =
        let same = nothing_changes (turn s p).0 k e picks in
        record { earlier = []; pick = p; later = picks; picks_are = refl; running = running; out = sym (ap (λ (t : State). t.out_of) same) ∙ out; stays = same }

-- ---- of a state that follows its journal

module _ (file : List Stmt) (image : RomImage) (layout : Layout) (grant : Amounts) (spent : Spending) (s : State) (sound : Sound grant s) (f : FollowsItsJournal file image layout spent s) where
  -- where the root is short, no choice fits
  pub none_fits : (kind : Quota) (pick : ℕ) → RootIsShort kind s pick → NoChoiceFits humus f.configuration spent s kind
  none_fits kind pick x =
      let h = f.stands in
      let sponsor = (lane_stands layout image h.holds.holds_program spent s h.of_program sound h.stands (place x.event) x.event.lane x.event.there).sponsor in
      let due = subst (λ (w : W). short (account s.sheet w) (lane_row s.store s.sheet x.event.lane).charge ≡ Some kind) (sym sponsor) x.due in
      none_fits_back file (program_means file) f.configuration h.of_program h.alike spent s kind
      (subst (λ (us : List TestUnit). NoChoiceFits (tests_language us) h.of_program spent s kind) h.holds.units
      (none_fit layout image h.holds.holds_program spent s h.of_program sound h.stands kind (place x.event) x.event.lane x.event.there due))

  -- where all bounds fit the grant, each instruction can be paid
  pub all_paid : (kind : Quota) (pick : ℕ) (finished : List Cost) (messages : List (Message (Named written))) (costs : List Cost)
      → FinishedBounds humus (meaning.opening file) f.journal f.configuration f.follows finished → MessagesOf f.configuration s.flight messages
      → HaveBounds humus (map (λ m. (f.configuration, m)) messages) costs → Fit (allowed kind) (finished ++ costs) (of_kind kind grant) → RootIsShort kind s pick → ⊥
  all_paid kind pick finished messages costs b m g fit x =
      let a = ended_within humus kind spent (meaning.opening file) s.journal f.journal f.configuration f.same f.follows f.within finished b in
      let t = sum_both kind finished costs in
      let k = root_kept s.sheet s.out_of f.stands.stands.root kind in
      let c = sound.conserved kind in
      let p = f.paid kind in
      none_fits kind pick x messages costs m g (omega (arith, a, t, k, c, p, fit))

-- ---- of runs

module _ (file : List Stmt) (image : RomImage) (layout : Layout) (holds : HoldsFile file image layout) (grant : Amounts) (lanes : ℕ) where
  pub why_out : (picks : List ℕ) (kind : Quota) → (run image grant lanes picks).out_of ≡ Some kind → RanOutBecause file image layout grant lanes picks kind
  why_out picks kind out =
      let x = out_at (booted image grant lanes) picks kind refl out in
      let s = run image grant lanes x.earlier in
      let f = follows_journal file image layout grant lanes holds x.earlier in
      let now : OutNow kind s x.pick = out_now s x.pick x.running kind x.out in
      record {
        earlier = x.earlier;
        pick = x.pick;
        later = x.later;
        picks_are = x.picks_are;
        running = x.running;
        before = f;
        is_short = now.is_short;
        last = ap (λ (t : State). t.journal) x.stays ∙ now.last;
        none_fits = none_fits file image layout grant (spent_in_run image grant lanes x.earlier) s (run-sound image grant lanes x.earlier) f kind x.pick now.is_short;
      }

  pub holds_out : (picks : List ℕ) → BoundsAlwaysFit file image layout grant lanes picks → (run image grant lanes picks).out_of ≡ None
  holds_out picks fits = by (run image grant lanes picks).out_of refl
    where
      by : (o : Option Quota) → (run image grant lanes picks).out_of ≡ o → (run image grant lanes picks).out_of ≡ None
      by None e = e
      by (Some kind) e =
          let c = why_out picks kind e in
          let b = fits c.earlier (c.pick ∷ c.later) c.picks_are in
          absurd (all_paid file image layout grant (spent_in_run image grant lanes c.earlier) (run image grant lanes c.earlier) (run-sound image grant lanes c.earlier) b.at kind c.pick
          b.finished b.messages b.in_flight b.bound_finished b.are_in_flight b.bound_in_flight (b.fit kind) c.is_short)

  pub nothing_left : (picks : List ℕ) (pick : ℕ) → 1 ≤ lanes → (turn (run image grant lanes picks) pick).1 ≡ Rest → (follows_journal file image layout grant lanes holds picks).configuration.pending ≡ []
  nothing_left picks pick some rest =
      let s = run image grant lanes picks in
      let f = follows_journal file image layout grant lanes holds picks in
      let h = f.stands in
      ((program_means file).seen f.configuration h.of_program h.alike).at_rest.1
      (rest_means layout image h.holds.holds_program (spent_in_run image grant lanes picks) s h.of_program (run-sound image grant lanes picks) h.stands pick
      (let l = lanes_stay file image layout grant lanes holds picks in omega (arith, l, some)) rest)

  run_stands : (picks : List ℕ) → RunStands file image layout grant lanes picks
  run_stands picks =
      let s = run image grant lanes picks in
      let spent = spent_in_run image grant lanes picks in
      let f = follows_journal file image layout grant lanes holds picks in
      let h = f.stands in
      let at_rest = ((program_means file).seen f.configuration h.of_program h.alike).at_rest in
      record {
        lanes_are = lanes_stay file image layout grant lanes holds picks;
        follows = f;
        what_follows = what_follows file image layout spent s f;
        comes_to_rest = λ pick running none. rest_comes layout image h.holds.holds_program spent s h.of_program (run-sound image grant lanes picks) h.stands running (at_rest.0 none) pick;
        nothing_pending = nothing_left picks;
        why_out = why_out picks;
        holds_out = holds_out picks;
      }

pub runs_follow_their_journals : RunsFollowTheirJournals
runs_follow_their_journals file image layout holds grant lanes picks = run_stands file image layout holds grant lanes picks
