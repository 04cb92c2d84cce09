-- The turn in which the root runs out.
use Rattle.std.proofs.Common.{◌≡◌, inl, inr, refl, ap, sym, subst, ◌∙◌, ℕ, [], ◌∷◌, ◌++◌, Option, Some, None}
use Rattle.std.proofs.lemmas.Option.{none-some, same_Some}
use Rattle.cap_words.specs.Words.{W}
use Rattle.instr_table.specs.declared.charge.Quota.{Quota}
use Rattle.instr_table.specs.Sheet.{account, short, prepared}
use Rattle.vm_turn.specs.declared.journal.Entry.{Entry}
use Rattle.vm_turn.specs.declared.journal.Outcome.{Outcome as End}
use Rattle.vm_turn.specs.declared.journal.Outcome.TheVariants.{Committed, Failed, RanOut}
use Rattle.vm_turn.specs.declared.journal.Turn.{Turn as Answer}
use Rattle.vm_turn.specs.declared.journal.Turn.TheVariants.{Dispatched, Stepped, Finished, Rest, Spent}
use Rattle.vm_turn.specs.State.{State, root}
use Rattle.vm_turn.specs.Turn.{entry, released, turn}
use Rattle.vm_turn.specs.Changes.{Picked, next_row, Ends, Changes}
use Rattle.vm_turn.proofs.Changed.{turns-change}
use Rattle.hum_sim.specs.Runs.{RootIsShort}

-- the root is short, and the entry of the event that was picked is the last
pub record OutNow (kind : Quota) (s : State) (pick : ℕ) : Type 0 where
  pub is_short : RootIsShort kind s pick
  pub last : (turn s pick).0.journal ≡ s.journal ++ entry is_short.event.lane.number (RanOut kind) ∷ []

module _ (s : State) (pick : ℕ) (running : s.out_of ≡ None) (kind : Quota) where
  -- where nothing else comes of the turn, the root has not run out
  still : (t u : State) → t ≡ u → u.out_of ≡ s.out_of → t.out_of ≡ Some kind → OutNow kind s pick
  still t u e same out = absurd (none-some kind (sym running ∙ (sym same ∙ (sym (ap (λ (x : State). x.out_of) e) ∙ out))))

  released_out : (o : Option W) (k : Quota) (t : State) → (released o k t).out_of ≡ t.out_of
  released_out None k t = refl
  released_out (Some w) k t = refl

  released_journal : (o : Option W) (k : Quota) (t : State) → (released o k t).journal ≡ t.journal
  released_journal None k t = refl
  released_journal (Some w) k t = refl

  ended : (t : State) (e : Entry) (end : End) → Ends s pick e end t → t.out_of ≡ Some kind → OutNow kind s pick
  ended t e Committed (inl x) out = still t _ x.3 refl out
  ended t e Committed (inr x) out = still t _ x.2 refl out
  ended t e (Failed w) (inl x) out = still t _ x.3 refl out
  ended t e (Failed w) (inr x) out = still t _ x.2 refl out
  ended t e (RanOut k) x out = still t _ x.4 (released_out _ k _) out

  changed : (a : Answer) → (turn s pick).1 ≡ a → Changes s pick a (turn s pick).0 → (turn s pick).0.out_of ≡ Some kind → OutNow kind s pick
  changed Dispatched e x out = still (turn s pick).0 _ x.3 refl out
  changed Stepped e x out = still (turn s pick).0 _ x.goes refl out
  changed (Finished f) e x out = ended (turn s pick).0 f f.outcome x out
  changed Rest e x out = still (turn s pick).0 s x.0 refl out
  changed (Spent who k) e (by, inl x) out = absurd (none-some k (sym running ∙ x.0))
  changed (Spent who k) e (by, inr x) out =
      let event : Picked s pick = x.1 in
      let same : k ≡ kind = same_Some k kind (sym (ap (λ (t : State). t.out_of) x.4) ∙ out) in
      record {
        is_short = record {
          event = event;
          due = subst (λ (w : W). short (account s.sheet w) (next_row event).charge ≡ Some kind) x.3 (x.2 ∙ ap Some same);
          answer = e ∙ (ap (λ (w : W). Spent w k) by ∙ ap (λ (q : Quota). Spent root q) same);
        };
        last =
            ap (λ (t : State). t.journal) x.4
            ∙ (released_journal (prepared s.sheet event.lane.own.sponsor) k _
            ∙ ap (λ (q : Quota). s.journal ++ entry event.lane.number (RanOut q) ∷ []) same);
      }

  pub out_now : (turn s pick).0.out_of ≡ Some kind → OutNow kind s pick
  out_now out = changed (turn s pick).1 refl (turns-change s pick) out
