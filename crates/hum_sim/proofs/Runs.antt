-- Every run follows its journal.
use Rattle.instr_table.specs.Spent.{Spent}
use Rattle.vm_turn.specs.Spending.{Spending, none_spent, turn_spending, spending_after, spent_in_run, spent_in_flight, spent_by_ended}
use Rattle.vm_turn.specs.Sound.{spent_of, spent_by_all}
use Rattle.vm_turn.specs.Alone.{RootAlone}
use Rattle.vm_turn.proofs.Root.{root-account}
use Rattle.vm_turn.proofs.Charged.{events-spend_paid}
use Rattle.instr_table.specs.Sheet.{Account}
use Rattle.hum_sim.specs.Spent.{spent_by_root}
use Rattle.std.proofs.Common.{◌≡◌, ◌⊎◌, inl, inr, refl, ap, sym, subst, ◌∙◌, ℕ, ◌+◌, ◌<◌, List, [], ◌∷◌, ◌++◌, Option, Some, None, arith}
use Rattle.std.proofs.lemmas.List.Sums.{sum_by-cons}
use Rattle.std.proofs.lemmas.Option.{none-some}
use Rattle.quad_memory.specs.Image.{RomImage}
use Rattle.instr_table.specs.declared.charge.Quota.{Quota}
use Rattle.instr_table.specs.Reach.{Every}
use Rattle.instr_table.proofs.GotWords.{every-append, every-map}
use Rattle.vm_sponsor.specs.declared.amounts.Amounts.{Amounts}
use Rattle.vm_turn.specs.declared.journal.Entry.{Entry}
use Rattle.vm_turn.specs.State.{State}
use Rattle.vm_turn.specs.Boot.{booted}
use Rattle.vm_turn.specs.Turn.{unless_spent, turn}
use Rattle.vm_turn.specs.Run.{after, run}
use Rattle.vm_turn.proofs.RunsSound.{boot-sound}
use Rattle.hum_syntax.specs.declared.tree.Stmt.{Stmt}
use Rattle.hum_meaning.specs.Value.{Parts}
use Rattle.hum_meaning.specs.Language.{Language}
use Rattle.hum_meaning.specs.Deliver.{Message, Configuration}
use Rattle.hum_meaning.specs.Named.{Named, written}
use Rattle.hum_meaning.specs.Written.{humus}
use Rattle.hum_meaning.specs.After as meaning
use Rattle.hum_meaning.specs.After.{Enters, Follows}
use Rattle.hum_meaning.proofs.CodedNames.{named_coded, fails_by_code}
use Rattle.hum_core.specs.Alike.{Each}
use Rattle.hum_core.specs.Openings.{opening}
use Rattle.hum_core.proofs.Programs.{program_means, programs_mean}
use Rattle.hum_code.specs.Layout.{Layout}
use Rattle.hum_sim.specs.Program.{HoldsFile}
use Rattle.hum_sim.specs.Journal.{EntryAs, HasRunOut, AreDecided, HasCode, HaveCodes}
use Rattle.hum_sim.specs.Legal.{IsLegal}
use Rattle.hum_sim.specs.Within.{IsWithin, AreWithin}
use Rattle.vm_turn.specs.Sound.{Sound}
use Rattle.hum_sim.specs.File.{StandsForFile}
use Rattle.hum_sim.specs.Turns.{AddsAnEntry, Keeps, TurnStands}
use Rattle.hum_sim.specs.Runs.{FollowsItsJournal, WhatFollows}
use Rattle.hum_sim.proofs.Lists.{each_append}
use Rattle.hum_sim.proofs.Boots.{boot_stands}
use Rattle.hum_sim.proofs.Order.{moves, Gone, gone_next, gone_now, in_order, counted, found_number, found_every, Given, given_next}
use Rattle.hum_sim.proofs.Next.{EntersLegally}
use Rattle.hum_sim.proofs.Turned.{turned, others_spend_nothing}

-- ---- one entry more

module _ {L : Parts} (language : Language L) (lanes : ℕ) (spent : Spent) (e : meaning.Entry) where
  then : (c between d : Configuration L) (es : List meaning.Entry) → Follows language c es between → EntersLegally language lanes spent between e d → Follows language c (es ++ e ∷ []) d
  then c between d [] f g = (d, (subst (λ (x : Configuration L). EntersLegally language lanes spent x e d) (sym f) g).enters, refl)
  then c between d (y ∷ es) f g = (f.0, f.1, then f.0 between d es f.2 g)

  legal_then : (c between d : Configuration L) (es : List meaning.Entry) (f : Follows language c es between) (g : EntersLegally language lanes spent between e d)
      → IsLegal language lanes c es between f → IsLegal language lanes c (es ++ e ∷ []) d (then c between d es f g)
  unfolding then
  legal_then c between d [] f g h = ((subst (λ (x : Configuration L). EntersLegally language lanes spent x e d) (sym f) g).in_order, tt)
  legal_then c between d (y ∷ es) f g h = (h.0, legal_then f.0 between d es f.2 g h.1)

  within_then : (spending : Spending) → spending e.message ≡ spent → (c between d : Configuration L) (es : List meaning.Entry) (f : Follows language c es between)
      (g : EntersLegally language lanes spent between e d) → AreWithin language spending c es between f → AreWithin language spending c (es ++ e ∷ []) d (then c between d es f g)
  unfolding then
  within_then spending q c between d [] f g h =
      let x = subst (λ (z : Configuration L). EntersLegally language lanes spent z e d) (sym f) g in
      (subst (IsWithin language (c, x.enters.message)) (sym q) x.within, tt)
  within_then spending q c between d (y ∷ es) f g h = (h.0, within_then spending q f.0 between d es f.2 g h.1)

-- ---- events that spend nothing more

abbrev SpendNoMore : Spending → Spending → List meaning.Entry → Type 0
SpendNoMore old new es = Every (λ (e : meaning.Entry). new e.message ≡ old e.message) es

within_same : {L : Parts} (language : Language L) (old new : Spending) (c : Configuration L) (es : List meaning.Entry) (d : Configuration L) (f : Follows language c es d)
    → SpendNoMore old new es → AreWithin language old c es d f → AreWithin language new c es d f
within_same language old new c [] d f e h = tt
within_same language old new c (y ∷ es) d f e h = (subst (IsWithin language (c, f.1.message)) (sym e.0) h.0, within_same language old new f.0 es d f.2 e.1 h.1)

-- where the root holds out now it did before
pub ran_before : (s : State) (pick : ℕ) (o : Option Quota) → s.out_of ≡ o → (turn s pick).0.out_of ≡ None → s.out_of ≡ None
ran_before s pick None e out = e
ran_before s pick (Some k) e out =
    let same : (turn s pick).0 ≡ s = ap (λ (q : Option Quota). (unless_spent s pick q).0) e in
    sym (ap (λ (t : State). t.out_of) same) ∙ out

module _ (file : List Stmt) (image : RomImage) (layout : Layout) (grant : Amounts) (lanes : ℕ) where
  -- a state follows its journal; no message of a finished event is pending, and those that are have numbers that were given
  record Ran (spent : Spending) (s : State) : Type 0 where
    pub sound : Sound grant s
    pub lanes_are : s.lanes ≡ lanes
    pub journal : List meaning.Entry
    pub configuration : Configuration (Named written)
    pub same : Each EntryAs s.journal journal
    pub follows : meaning.After file journal configuration
    pub legal : IsLegal humus s.lanes (meaning.opening file) journal configuration follows
    pub stands : StandsForFile file image layout spent s configuration
    pub decided : s.out_of ≡ None → AreDecided journal
    pub within : AreWithin humus spent (meaning.opening file) journal configuration follows
    pub gone : Every (λ (e : meaning.Entry). Gone configuration e.message) journal
    pub given : Given configuration

  module _ (spent : Spending) (s : State) (pick : ℕ) (r : Ran spent s) where
    abbrev spent' : Spending
    spent' = turn_spending spent s pick

    abbrev t : State
    t = (turn s pick).0

    abbrev keeps : Keeps file image layout grant spent s r.configuration
    keeps = record { sound = r.sound; stands = r.stands }

    abbrev n : TurnStands file image layout grant spent s pick r.configuration
    n = turned file image layout grant spent s r.configuration keeps pick

    stay : SpendNoMore spent spent' r.journal
    stay = every-map (λ (e : meaning.Entry). Gone r.configuration e.message) (λ (e : meaning.Entry). spent' e.message ≡ spent e.message) r.journal
        (λ e g. others_spend_nothing file image layout grant spent s r.configuration keeps pick e.message g.none) r.gone

    -- no entry is added
    same_journal : t.journal ≡ s.journal → n.configuration ≡ r.configuration → Ran spent' t
    same_journal e q = record {
      sound = n.keeps.sound;
      lanes_are = n.lanes ∙ r.lanes_are;
      journal = r.journal;
      configuration = r.configuration;
      same = subst (λ (es : List Entry). Each EntryAs es r.journal) (sym e) r.same;
      follows = r.follows;
      legal = subst (λ (k : ℕ). IsLegal humus k (meaning.opening file) r.journal r.configuration r.follows) (sym n.lanes) r.legal;
      stands = subst (StandsForFile file image layout spent' t) q n.keeps.stands;
      decided = λ o. r.decided (ran_before s pick s.out_of refl o);
      within = within_same humus spent spent' (meaning.opening file) r.journal r.configuration r.follows stay r.within;
      gone = r.gone;
      given = r.given;
    }

    -- an entry is added
    more : (a : AddsAnEntry spent' s t r.configuration n.configuration)
        → Ran spent' t
    more a =
        let x : EntersLegally humus s.lanes (spent' a.delivery.message) r.configuration a.delivery n.configuration = record { enters = a.enters; in_order = a.in_turn; within = a.within } in
        let v = moves humus r.configuration a.enters.message a.delivery.ending n.configuration a.enters.leads in
        let number = found_number a.delivery.message r.configuration.pending a.enters.message a.enters.pending in
        let less = found_every (λ (q : Message (Named written)). q.number < r.configuration.next_number) a.delivery.message r.configuration.pending a.enters.message r.given a.enters.pending in
        record {
          sound = n.keeps.sound;
          lanes_are = n.lanes ∙ r.lanes_are;
          journal = r.journal ++ a.delivery ∷ [];
          configuration = n.configuration;
          same = subst (λ (es : List Entry). Each EntryAs es (r.journal ++ a.delivery ∷ [])) (sym a.added) (each_append EntryAs s.journal r.journal (a.entry ∷ []) (a.delivery ∷ []) r.same (a.same, tt));
          follows = then humus s.lanes (spent' a.delivery.message) a.delivery (meaning.opening file) r.configuration n.configuration r.journal r.follows x;
          legal =
              subst (λ (k : ℕ). IsLegal humus k (meaning.opening file) (r.journal ++ a.delivery ∷ []) n.configuration
              (then humus s.lanes (spent' a.delivery.message) a.delivery (meaning.opening file) r.configuration n.configuration r.journal r.follows x)) (sym n.lanes)
              (legal_then humus s.lanes (spent' a.delivery.message) a.delivery (meaning.opening file) r.configuration n.configuration r.journal r.follows x r.legal);
          stands = n.keeps.stands;
          decided = λ o.
              every-append (λ (y : meaning.Entry). HasRunOut y.ending → ⊥) r.journal (a.delivery ∷ []) (r.decided (ran_before s pick s.out_of refl o))
              ((λ y. let z = a.out y in none-some z.0 (sym o ∙ z.2)), tt);
          within =
              within_then humus s.lanes (spent' a.delivery.message) a.delivery spent' refl (meaning.opening file) r.configuration n.configuration r.journal r.follows x
              (within_same humus spent spent' (meaning.opening file) r.journal r.configuration r.follows stay r.within);
          gone = every-append (λ (y : meaning.Entry). Gone n.configuration y.message) r.journal (a.delivery ∷ [])
              (every-map (λ (y : meaning.Entry). Gone r.configuration y.message) (λ (y : meaning.Entry). Gone n.configuration y.message) r.journal
              (λ y g. gone_next r.configuration n.configuration a.enters.message y.message v g) r.gone)
              (subst (Gone n.configuration) number (gone_now r.configuration n.configuration a.enters.message v less), tt);
          given = given_next r.configuration n.configuration a.enters.message v r.given;
        }

    ran_next : Ran spent' t
    ran_next = by n.step
      where
        by : ((t.journal ≡ s.journal) × (n.configuration ≡ r.configuration)) ⊎ AddsAnEntry spent' s t r.configuration n.configuration → Ran spent' t
        by (inl e) = same_journal e.0 e.1
        by (inr a) = more a

  ran_after : (picks : List ℕ) (spent : Spending) (s : State) → Ran spent s → Ran (spending_after spent s picks) (after s picks)
  ran_after [] spent s r = r
  ran_after (p ∷ picks) spent s r = ran_after picks (turn_spending spent s p) (turn s p).0 (ran_next spent s p r)

  boot_ran : HoldsFile file image layout → Ran none_spent (booted image grant lanes)
  boot_ran holds = record {
    sound = boot-sound image grant lanes;
    lanes_are = refl;
    journal = [];
    configuration = meaning.opening file;
    same = tt;
    follows = refl;
    legal = tt;
    stands = record {
      holds = holds;
      of_program = opening;
      alike = (programs_mean file holds.formed holds.scoped).opens;
      stands = boot_stands layout image holds.holds_program grant lanes;
    };
    decided = λ o. tt;
    within = tt;
    gone = tt;
    given = (omega arith, tt);
  }

  ran : HoldsFile file image layout → (picks : List ℕ) → Ran (spent_in_run image grant lanes picks) (run image grant lanes picks)
  ran holds picks = ran_after picks none_spent (booted image grant lanes) (boot_ran holds)

  -- the root pays for all
  paid : (picks : List ℕ) (kind : Quota) → RootAlone (run image grant lanes picks).sheet (run image grant lanes picks).out_of → spent_by_root kind (run image grant lanes picks)
      ≡ spent_by_ended kind (spent_in_run image grant lanes picks) (run image grant lanes picks).journal + spent_in_flight kind (spent_in_run image grant lanes picks) (run image grant lanes picks).flight
  paid picks kind r =
      let s = run image grant lanes picks in
      let a = ap (λ (x : Account). spent_of kind x) (root-account s.sheet s.out_of r) in
      let b = ap (λ (rows : List Account). spent_by_all kind rows) r.only in
      let c = sum_by-cons (spent_of kind) r.account [] in
      let p = events-spend_paid image grant lanes picks kind in
      omega (arith, a, b, c, p)

  pub follows_journal : HoldsFile file image layout → (picks : List ℕ) → FollowsItsJournal file image layout (spent_in_run image grant lanes picks) (run image grant lanes picks)
  follows_journal holds picks =
      let r = ran holds picks in
      record {
        journal = r.journal;
        configuration = r.configuration;
        same = r.same;
        follows = r.follows;
        legal = r.legal;
        stands = r.stands;
        decided = r.decided;
        within = r.within;
        paid = λ kind. paid picks kind r.stands.stands.root;
      }

  pub lanes_stay : HoldsFile file image layout → (picks : List ℕ) → (run image grant lanes picks).lanes ≡ lanes
  lanes_stay holds picks = (ran holds picks).lanes_are

-- failures have the codes 1 to 8
have_codes : (c : Configuration (Named written)) (es : List meaning.Entry) (d : Configuration (Named written)) → Follows humus c es d → HaveCodes es
have_codes c [] d f = tt
have_codes c (e ∷ es) d f = (by e.ending f.1.leads, have_codes f.0 es d f.2)
  where
    by : (ending : meaning.Ending) → meaning.Leads humus c f.1.message ending f.0 → HasCode ending
    by meaning.Commits x = tt
    by (meaning.FailsWith code) x = (fails_by_code humus (named_coded written)).deliveries c f.0 f.1.message x.0 code x.1 x.2
    by meaning.RunsOut x = tt

-- what follows of the order
pub what_follows : (file : List Stmt) (image : RomImage) (layout : Layout) (spent : Spending) (s : State) (f : FollowsItsJournal file image layout spent s) → WhatFollows file image layout spent s f
what_follows file image layout spent s f = record {
  output = f.stands.stands.output ∙ sym ((program_means file).seen f.configuration f.stands.of_program f.stands.alike).output;
  codes = have_codes (meaning.opening file) f.journal f.configuration f.follows;
  in_order = in_order humus s.lanes (meaning.opening file) f.journal f.configuration f.follows f.legal (omega arith, tt);
  numbered = λ one. counted humus s.lanes one 0 (meaning.opening file) f.journal f.configuration f.follows f.legal (refl, refl);
}
