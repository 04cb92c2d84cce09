-- With one lane a run's deliveries are those of the file in the order of their numbers.
use Rattle.vm_turn.specs.Spending.{spent_in_run}
use Rattle.std.proofs.Common.{◌≡◌, refl, ap, sym, subst, ◌∙◌, ℕ, zero, suc, ◌≤◌, List, [], ◌∷◌, ◌++◌, length, map, sum, Option, Some, None, slice_get, arith, append-nil}
use Rattle.std.proofs.lemmas.Option.{none-some, same_Some}
use Rattle.quad_memory.specs.Image.{RomImage}
use Rattle.instr_table.specs.declared.charge.Quota.{Quota}
use Rattle.instr_table.specs.Lane.{Lane}
use Rattle.vm_sponsor.specs.declared.amounts.Amounts.{Amounts}
use Rattle.vm_turn.specs.declared.journal.Entry as machine
use Rattle.vm_turn.specs.declared.journal.Turn.TheVariants.{Rest}
use Rattle.vm_turn.specs.Turn.{turn}
use Rattle.vm_turn.specs.Changes.{place}
use Rattle.vm_turn.specs.Run.{run}
use Rattle.vm_turn.proofs.RunsSound.{run-sound}
use Rattle.vm_turn.proofs.Taken.{every-get}
use Rattle.hum_syntax.specs.declared.tree.Stmt.{Stmt}
use Rattle.hum_meaning.specs.Value.{Parts}
use Rattle.hum_meaning.specs.Language.{Language}
use Rattle.hum_meaning.specs.Laws.{IsClosed}
use Rattle.hum_meaning.specs.Named.{Named, written}
use Rattle.hum_meaning.specs.Written.{humus}
use Rattle.hum_meaning.specs.Deliver.{Message, Configuration, Delivery, Committed, Failed, Open, deliver}
use Rattle.hum_meaning.specs.After as meaning
use Rattle.hum_meaning.specs.After.{Ending, Commits, FailsWith, RunsOut, Entry, message_of, Leads, Follows}
use Rattle.hum_meaning.proofs.Law.{Lawful}
use Rattle.hum_meaning.proofs.NamedLaw.{named_lawful}
use Rattle.hum_meaning.proofs.Deliveries.{deliver_once}
use Rattle.hum_core.specs.Alike.{Both, Each}
use Rattle.hum_core.specs.Bound.{Cost, HasBound}
use Rattle.hum_core.specs.Programs.{FileAs}
use Rattle.hum_core.specs.TestLists.{Tests}
use Rattle.hum_core.proofs.Programs.{program_means}
use Rattle.hum_code.specs.Layout.{Layout}
use Rattle.hum_sim.specs.Program.{HoldsFile}
use Rattle.hum_sim.specs.Journal.{EntryAs, HasRunOut, AreDecided}
use Rattle.hum_sim.specs.Standing.{IsFirst}
use Rattle.hum_sim.specs.Legal.{IsLegal}
use Rattle.hum_sim.specs.Within.{allowed, MessagesOf, FinishedBounds}
use Rattle.hum_sim.specs.File.{StandsForFile}
use Rattle.hum_sim.specs.Runs.{FollowsItsJournal, RanOutBecause}
use Rattle.hum_sim.specs.OneLane.{OutputIsTheTexts, Delivers, ComesToRest, CompletesThem, RunsComeToRest}
use Rattle.hum_sim.proofs.Choosing.{rising}
use Rattle.hum_sim.proofs.Lanes.{lane_stands}
use Rattle.hum_sim.proofs.Order.{Contiguous, moves, contiguous_next, found_number, least_is}
use Rattle.hum_sim.proofs.Pending.{head_least}
use Rattle.hum_sim.proofs.Runs.{follows_journal, lanes_stay, what_follows}
use Rattle.hum_sim.proofs.Stops.{sum_both, all_paid, why_out, nothing_left}

module _ {L : Parts} where
  closed_as : (d e : Delivery L) → d ≡ e → IsClosed e → IsClosed d
  closed_as d e is h = subst IsClosed (sym is) h

  abbrev to_of : Configuration L → Delivery L → Configuration L
  to_of other (Committed c) = c
  to_of other (Failed code sends c) = c
  to_of other Open = other

  abbrev ending_of : Delivery L → Ending
  ending_of (Committed c) = Commits
  ending_of (Failed code sends c) = FailsWith code
  ending_of Open = RunsOut

  none_pending : (c : Configuration L) (n : ℕ) (m : Message L) → c.pending ≡ [] → message_of n c.pending ≡ Some m → ⊥
  none_pending c n m e f = none-some m (sym (ap (λ ps. message_of n ps) e) ∙ f)

  module _ (language : Language L) (lawful : Lawful language) where
    -- a delivery that is decided ends one way, and leads to one configuration
    once : (c : Configuration L) (m : Message L) (s r : ℕ) (x y : Delivery L) → IsClosed x → IsClosed y → deliver language c m s ≡ x → deliver language c m r ≡ y → x ≡ y
    once c m s r x y p q h k = sym h ∙ (deliver_once language lawful c m s r (closed_as _ x h p) (closed_as _ y k q) ∙ k)

    decided_once : (c : Configuration L) (m : Message L) (a b : Ending) (d d' : Configuration L) → (HasRunOut a → ⊥) → (HasRunOut b → ⊥) → Leads language c m a d → Leads language c m b d'
        → (a ≡ b) × (d ≡ d')
    decided_once c m Commits Commits d d' x y h k = let e = once c m h.0 k.0 (Committed d) (Committed d') tt tt h.1 k.1 in (refl, ap (to_of c) e)
    decided_once c m Commits (FailsWith code) d d' x y h k = let e = once c m h.0 k.0 (Committed d) (Failed code k.1 d') tt tt h.1 k.2 in (ap ending_of e, ap (to_of c) e)
    decided_once c m (FailsWith code) Commits d d' x y h k = let e = once c m h.0 k.0 (Failed code h.1 d) (Committed d') tt tt h.2 k.1 in (ap ending_of e, ap (to_of c) e)
    decided_once c m (FailsWith code) (FailsWith code') d d' x y h k =
        let e = once c m h.0 k.0 (Failed code h.1 d) (Failed code' k.1 d') tt tt h.2 k.2 in (ap ending_of e, ap (to_of c) e)
    decided_once c m RunsOut b d d' x y h k = absurd (x tt)
    decided_once c m Commits RunsOut d d' x y h k = absurd (y tt)
    decided_once c m (FailsWith code) RunsOut d d' x y h k = absurd (y tt)

    -- the message of the next entry has the least number
    next_number : (k : ℕ) (c : Configuration L) (es : List Entry) (e : Entry) (d : Configuration L) (f : Follows language c (e ∷ es) d) → IsLegal language 1 c (e ∷ es) d f
        → Contiguous k c.next_number c.pending → (f.1.message.number ≡ k) × (e.message ≡ k)
    next_number k c es e d f o h =
        let is = least_is k c.next_number c f.1.message e.message h f.1.pending (o.0.of_all refl) in
        (is, sym (found_number e.message c.pending f.1.message f.1.pending) ∙ is)

    -- ---- two journals of one length

    one_way : (k : ℕ) (c : Configuration L) (es js : List Entry) (d d' : Configuration L) (f : Follows language c es d) (g : Follows language c js d')
        → IsLegal language 1 c es d f → IsLegal language 1 c js d' g → AreDecided es → AreDecided js → Contiguous k c.next_number c.pending → length es ≡ length js → d ≡ d'
    one_way k c [] [] d d' f g o p u v h e = sym f ∙ g
    one_way k c [] (j ∷ js) d d' f g o p u v h e = absurd (omega (arith, e))
    one_way k c (x ∷ es) [] d d' f g o p u v h e = absurd (omega (arith, e))
    one_way k c (x ∷ es) (j ∷ js) d d' f g o p u v h e =
        let a = next_number k c es x d f o h in
        let b = next_number k c js j d' g p h in
        let m = f.1.message in
        let same : g.1.message ≡ m = same_Some g.1.message m (sym g.1.pending ∙ (ap (λ (i : ℕ). message_of i c.pending) (b.1 ∙ sym a.1) ∙ f.1.pending)) in
        let to : g.0 ≡ f.0 = (decided_once c m j.ending x.ending g.0 f.0 v.0 u.0 (subst (λ z. Leads language c z j.ending g.0) same g.1.leads) f.1.leads).1 in
        one_way (suc k) f.0 es js d d' f.2 (by g.0 to g.2 p.1).0 o.1 (by g.0 to g.2 p.1).1 u.1 v.1
        (contiguous_next k c f.0 m x.message a.0 f.1.pending (moves language c m x.ending f.0 f.1.leads) h) (let l : length es ≡ length js = omega (arith, e) in l)
      where
        by : (z : Configuration L) → z ≡ f.0 → (r : Follows language z js d') → IsLegal language 1 z js d' r → (q : Follows language f.0 js d') × IsLegal language 1 f.0 js d' q
        by z to r q = subst (λ (y : Configuration L). (w : Follows language y js d') × IsLegal language 1 y js d' w) to (r, q)

    -- ---- where a decided journal ends, the other deliveries go on

    record GoesOn (first : Configuration L) (es : List Entry) (c : Configuration L) (f : Follows language first es c) (js : List Entry) (costs : List Cost) (d : Configuration L) : Type 0 where
      pub next : ℕ
      pub entries : List Entry
      pub entries_are : js ≡ es ++ entries
      pub before : List Cost
      pub behind : List Cost
      pub costs_are : costs ≡ before ++ behind
      pub bounds : FinishedBounds language first es c f before
      pub delivers : Delivers language next c entries behind d
      pub contiguous : Contiguous next c.next_number c.pending

    along : (k : ℕ) (first : Configuration L) (es : List Entry) (c : Configuration L) (f : Follows language first es c) → IsLegal language 1 first es c f → AreDecided es
        → Contiguous k first.next_number first.pending → (js : List Entry) (costs : List Cost) (d : Configuration L) → Delivers language k first js costs d → d.pending ≡ []
        → GoesOn first es c f js costs d
    along k first [] c f o u h js costs d x q = record {
      next = k;
      entries = js;
      entries_are = refl;
      before = [];
      behind = costs;
      costs_are = refl;
      bounds = tt;
      delivers = subst (λ z. Delivers language k z js costs d) f x;
      contiguous = subst (λ (z : Configuration L). Contiguous k z.next_number z.pending) f h;
    }
    along k first (e ∷ es) c f o u h [] [] d x q = absurd (none_pending first e.message f.1.message (ap (λ (z : Configuration L). z.pending) x ∙ q) f.1.pending)
    along k first (e ∷ es) c f o u h [] (y ∷ costs) d x q = absurd x
    along k first (e ∷ es) c f o u h (j ∷ js) [] d x q = absurd x
    along k first (e ∷ es) c f o u h (j ∷ js) (y ∷ costs) d x q =
        let m = f.1.message in
        let n = x.3.message in
        let is = next_number k first es e c f o h in
        let number : e.message ≡ j.message = is.1 ∙ sym x.0 in
        let same : n ≡ m = same_Some n m (sym x.3.pending ∙ (ap (λ (i : ℕ). message_of i first.pending) (sym number) ∙ f.1.pending)) in
        let way = decided_once first m j.ending e.ending x.2 f.0 x.1 u.0 (subst (λ z. Leads language first z j.ending x.2) same x.3.leads) f.1.leads in
        let r = along (suc k) f.0 es c f.2 o.1 u.1 (contiguous_next k first f.0 m e.message is.0 f.1.pending (moves language first m e.ending f.0 f.1.leads) h) js costs d
        (subst (λ z. Delivers language (suc k) z js costs d) way.1 x.5) q in
        let entry : j ≡ e = ap (λ (i : ℕ). record { message = i; ending = j.ending }) (sym number) ∙ ap (λ (a : Ending). record { message = e.message; ending = a }) way.0 in
        record {
          next = r.next;
          entries = r.entries;
          entries_are = ap (λ (z : Entry). z ∷ js) entry ∙ ap (λ (zs : List Entry). e ∷ zs) r.entries_are;
          before = y ∷ r.before;
          behind = r.behind;
          costs_are = ap (λ (zs : List Cost). y ∷ zs) r.costs_are;
          bounds = (subst (λ z. HasBound language (first, z) y) same x.4, r.bounds);
          delivers = r.delivers;
          contiguous = r.contiguous;
        }

-- ---- the output

pub output_is_the_texts : OutputIsTheTexts
output_is_the_texts file image image' layout layout' holds holds' grant grant' picks picks' running running' e =
    let f = follows_journal file image layout grant 1 holds picks in
    let g = follows_journal file image' layout' grant' 1 holds' picks' in
    let n = each_long (run image grant 1 picks).journal f.journal f.same in
    let n' = each_long (run image' grant' 1 picks').journal g.journal g.same in
    let o = subst (λ (k : ℕ). IsLegal humus k (meaning.opening file) f.journal f.configuration f.follows) (lanes_stay file image layout grant 1 holds picks) f.legal in
    let p = subst (λ (k : ℕ). IsLegal humus k (meaning.opening file) g.journal g.configuration g.follows) (lanes_stay file image' layout' grant' 1 holds' picks') g.legal in
    let same = one_way humus (named_lawful written) 0 (meaning.opening file) f.journal g.journal f.configuration g.configuration f.follows g.follows o p (f.decided running) (g.decided running')
    (refl, refl) (sym n ∙ (e ∙ n')) in
    (what_follows file image layout (spent_in_run image grant 1 picks) (run image grant 1 picks) f).output
    ∙ (ap (λ (c : Configuration (Named written)). c.output) same
    ∙ sym (what_follows file image' layout' (spent_in_run image' grant' 1 picks') (run image' grant' 1 picks') g).output)
  where
    each_long : (xs : List machine.Entry) (ys : List Entry) → Each EntryAs xs ys → length xs ≡ length ys
    each_long [] [] h = refl
    each_long [] (y ∷ ys) h = absurd h
    each_long (x ∷ xs) [] h = absurd h
    each_long (x ∷ xs) (y ∷ ys) h = ap suc (each_long xs ys h.1)

-- ---- coming to rest

alone_in : (ls : List Lane) (i : ℕ) (l : Lane) → length ls ≤ 1 → slice_get ls i ≡ Some l → ls ≡ l ∷ []
alone_in [] i l h e = absurd (none-some l e)
alone_in (k ∷ []) zero l h e = ap (λ (x : Lane). x ∷ []) (same_Some k l e)
alone_in (k ∷ []) (suc i) l h e = absurd (none-some l e)
alone_in (k ∷ m ∷ ls) i l h e = absurd (omega (arith, h))

module _ (file : List Stmt) (image : RomImage) (layout : Layout) (holds : HoldsFile file image layout) (grant : Amounts)
    (d : Configuration (Named written)) (comes : ComesToRest humus grant (meaning.opening file) d) where
  abbrev OnIts : List ℕ → Type 0
  OnIts picks = FollowsItsJournal file image layout (spent_in_run image grant 1 picks) (run image grant 1 picks)

  abbrev Others : (picks : List ℕ) → OnIts picks → Type 0
  Others picks f = GoesOn humus (named_lawful written) (meaning.opening file) f.journal f.configuration f.follows comes.entries comes.costs d

  others : (picks : List ℕ) (f : OnIts picks) → (run image grant 1 picks).out_of ≡ None → Others picks f
  others picks f running =
      along humus (named_lawful written) 0 (meaning.opening file) f.journal f.configuration f.follows
      (subst (λ (k : ℕ). IsLegal humus k (meaning.opening file) f.journal f.configuration f.follows) (lanes_stay file image layout grant 1 holds picks) f.legal)
      (f.decided running) (refl, refl) comes.entries comes.costs d comes.delivers comes.rests

  -- the event in flight is of the message with the next number
  record Of (picks : List ℕ) (f : OnIts picks) (next : ℕ) (l : Lane) : Type 0 where
    pub message : Message (Named written)
    pub found : message_of l.number f.configuration.pending ≡ Some message
    pub number : l.number ≡ next

  lane_of : (picks : List ℕ) (f : OnIts picks) (next : ℕ) → Contiguous next f.configuration.next_number f.configuration.pending → (i : ℕ) (l : Lane)
      → slice_get (run image grant 1 picks).flight i ≡ Some l → Of picks f next l
  lane_of picks f next contiguous i l at = record { message = found.0; found = found.1; number = sym (found_number l.number f.configuration.pending found.0 found.1) ∙ is }
    where
      one_of : (o : Option (Message (Named written))) (m : Message Tests) → Both ((FileAs file).Messages) o (Some m) → (n : Message (Named written)) × (o ≡ Some n)
      one_of (Some n) m b = (n, refl)
      one_of None m b = absurd b

      lane_is : (m : Message Tests) × (message_of l.number f.stands.of_program.pending ≡ Some m)
      lane_is = let x = lane_stands layout image f.stands.holds.holds_program (spent_in_run image grant 1 picks) (run image grant 1 picks) f.stands.of_program (run-sound image grant 1 picks) f.stands.stands i l at in (x.message, x.pending)

      found : (n : Message (Named written)) × (message_of l.number f.configuration.pending ≡ Some n)
      found = one_of (message_of l.number f.configuration.pending) lane_is.0
          (subst (λ (o : Option (Message Tests)). Both ((FileAs file).Messages) (message_of l.number f.configuration.pending) o) lane_is.1
          ((program_means file).messages f.configuration f.stands.of_program l.number f.stands.alike))

      first : IsFirst layout f.stands.of_program l
      first = every-get (IsFirst layout f.stands.of_program) (run image grant 1 picks).flight i l (f.stands.stands.flight.in_turn (lanes_stay file image layout grant 1 holds picks)) at

      is : found.0.number ≡ next
      is = least_is next f.configuration.next_number f.configuration found.0 l.number contiguous found.1 (λ n t p.
          let q = (((program_means file).seen f.configuration f.stands.of_program f.stands.alike).pending n t).0 p in
          let a = head_least 0 (run image grant 1 picks).next_number f.stands.of_program.pending first.0 (rising layout image f.stands.holds.holds_program (spent_in_run image grant 1 picks) (run image grant 1 picks) f.stands.of_program (run-sound image grant 1 picks) f.stands.stands) first.1 q.1 q.0 q.2 in
          let b = found_number l.number f.configuration.pending found.0 found.1 in
          let e = q.3 in
          let g = first.2 in
          omega (arith, a, b, e, g))

  -- the root does not run out
  no_cause : (picks : List ℕ) (kind : Quota) → RanOutBecause file image layout grant 1 picks kind → ⊥
  no_cause picks kind o = by r r.entries r.behind r.delivers r.costs_are
    where
      r : Others o.earlier o.before
      r = others o.earlier o.before o.running

      l : Of o.earlier o.before r.next o.is_short.event.lane
      l = lane_of o.earlier o.before r.next r.contiguous (place o.is_short.event) o.is_short.event.lane o.is_short.event.there

      alone : (run image grant 1 o.earlier).flight ≡ o.is_short.event.lane ∷ []
      alone = alone_in (run image grant 1 o.earlier).flight (place o.is_short.event) o.is_short.event.lane (let q = o.before.stands.stands.flight.room in let n = lanes_stay file image layout grant 1 holds o.earlier in omega (arith, q, n)) o.is_short.event.there

      by : (r : Others o.earlier o.before) (js : List Entry) (cs : List Cost) → Delivers humus r.next o.before.configuration js cs d → comes.costs ≡ r.before ++ cs → ⊥
      by r [] [] x e = none_pending o.before.configuration o.is_short.event.lane.number l.message (ap (λ (z : Configuration (Named written)). z.pending) x ∙ comes.rests) l.found
      by r [] (y ∷ cs) x e = absurd x
      by r (j ∷ js) [] x e = absurd x
      by r (j ∷ js) (y ∷ cs) x e =
          let own = lane_of o.earlier o.before r.next r.contiguous (place o.is_short.event) o.is_short.event.lane o.is_short.event.there in
          let m = x.3.message in
          let number : o.is_short.event.lane.number ≡ j.message = own.number ∙ sym x.0 in
          let found : message_of o.is_short.event.lane.number o.before.configuration.pending ≡ Some m = ap (λ (n : ℕ). message_of n o.before.configuration.pending) number ∙ x.3.pending in
          let messages : MessagesOf o.before.configuration (run image grant 1 o.earlier).flight (m ∷ []) = subst (λ (ls : List Lane). MessagesOf o.before.configuration ls (m ∷ [])) (sym alone) (found, tt) in
          let fit = comes.fits kind in
          let a = sum_both kind r.before (y ∷ []) in
          let b = sum_both kind r.before (y ∷ cs) in
          let c = sum_both kind (y ∷ []) cs in
          let g : sum (map (allowed kind) comes.costs) ≡ sum (map (allowed kind) (r.before ++ y ∷ cs)) = ap (λ (zs : List Cost). sum (map (allowed kind) zs)) e in
          all_paid file image layout grant (spent_in_run image grant 1 o.earlier) (run image grant 1 o.earlier) (run-sound image grant 1 o.earlier) o.before kind o.pick r.before (m ∷ []) (y ∷ []) r.bounds messages (x.4, tt)
          (omega (arith, fit, a, b, c, g)) o.is_short

  never_out : (picks : List ℕ) → (run image grant 1 picks).out_of ≡ None
  never_out picks = by (run image grant 1 picks).out_of refl
    where
      by : (o : Option Quota) → (run image grant 1 picks).out_of ≡ o → (run image grant 1 picks).out_of ≡ None
      by None e = e
      by (Some kind) e = absurd (no_cause picks kind (why_out file image layout holds grant 1 picks kind e))

  -- at rest no delivery is left
  record Ends (picks : List ℕ) (f : OnIts picks) : Type 0 where
    pub journal : comes.entries ≡ f.journal
    pub configuration : f.configuration ≡ d

  ends : (picks : List ℕ) (f : OnIts picks) → f.configuration.pending ≡ [] → (x : Others picks f) (js : List Entry) (cs : List Cost) → Delivers humus x.next f.configuration js cs d
      → comes.entries ≡ f.journal ++ js → Ends picks f
  ends picks f none x [] [] y e = record { journal = e ∙ append-nil f.journal; configuration = y }
  ends picks f none x [] (z ∷ cs) y e = absurd y
  ends picks f none x (j ∷ js) [] y e = absurd y
  ends picks f none x (j ∷ js) (z ∷ cs) y e = absurd (none_pending f.configuration j.message y.3.message none y.3.pending)

  completes : (picks : List ℕ) → CompletesThem file image layout grant picks d comes.entries
  completes picks = record {
    holds_out = never_out picks;
    journal = λ pick rest. subst (λ (es : List Entry). Each EntryAs (run image grant 1 picks).journal es) (sym (end pick rest).journal) f.same;
    stands = λ pick rest. subst (StandsForFile file image layout (spent_in_run image grant 1 picks) (run image grant 1 picks)) (end pick rest).configuration f.stands;
  }
    where
      f : OnIts picks
      f = follows_journal file image layout grant 1 holds picks

      end : (pick : ℕ) → (turn (run image grant 1 picks) pick).1 ≡ Rest → Ends picks f
      end pick rest =
          let x = others picks f (never_out picks) in
          ends picks f (nothing_left file image layout holds grant 1 picks pick (omega arith) rest) x x.entries x.behind x.delivers x.entries_are

pub runs_come_to_rest : RunsComeToRest
runs_come_to_rest file image layout holds grant picks d comes = completes file image layout holds grant d comes picks
