-- Each turn changes no more than its answer tells.
use Rattle.std.proofs.Common.{◌≡◌, inl, inr, ℕ, ◌+◌, ◌%◌, List, ◌++◌, Option, Some, None, false, ap, refl, subst, ◌∙◌, length, arith}
use Rattle.std.specs.Prelude.{drop}
use Rattle.std.proofs.lemmas.List.{append-nil, append_assoc}
use Rattle.cap_words.specs.Words.{W, same_word}
use Rattle.cap_words.proofs.Same.{word_same}
use Rattle.cap_words.specs.Seen.{Slot, grown}
use Rattle.instr_table.specs.declared.charge.Quota.{Quota}
use Rattle.instr_table.specs.Event.{no_effects}
use Rattle.instr_table.specs.Sheet.{Account, stop, prepared}
use Rattle.instr_table.specs.Outcome.{Going, Goes}
use Rattle.instr_table.specs.Lane.{Lane}
use Rattle.instr_table.proofs.Authorities.{pushed-store}
use Rattle.vm_turn.specs.declared.journal.Outcome.{Outcome as End}
use Rattle.vm_turn.specs.declared.journal.Outcome.TheVariants.{Failed, RanOut}
use Rattle.vm_turn.specs.State.{Message, State, root}
use Rattle.vm_turn.specs.Turn.{without, finish, go_on, released, run_out, turn}
use Rattle.vm_turn.specs.Changes.{GoesOn, Delivery, dropped, exhausted, Changes}
use Rattle.vm_turn.proofs.TurnCases.{IsPicked, row_of, paid_for, IsPaid, IsDispatched, IsPiece, turn-by}

dropped-is : (s : State) (i : ℕ) (l : Lane) (sheet : List Account) (end : End) → finish s i l sheet no_effects end ≡ dropped s i l sheet end
dropped-is s i l sheet end =
    let r = append-nil s.roll in
    let m = append-nil (without l.number s.messages) in
    let n : s.next_number + 0 ≡ s.next_number = omega arith in
    λ j. record (dropped s i l sheet end) { roll = r j; messages = m j; next_number = n j }

exhausted-is : (s : State) (i : ℕ) (l : Lane) (kind : Quota) → run_out s i l kind ≡ exhausted s i l kind
exhausted-is s i l kind = ap (λ (u : State). released (prepared s.sheet l.own.sponsor) kind u) (dropped-is s i l (stop s.sheet l.own.sponsor) (RanOut kind))

-- a sponsor that is not the root's word is another
other-sponsor : (w : W) → same_word w root ≡ false → w ≡ root → ⊥
other-sponsor w h e = let x : same_word root root ≡ false = subst (λ (v : W). same_word v root ≡ false) e h in cc

module _ (s : State) (pick : ℕ) where
  abbrev i : ℕ
  i = pick % length s.flight

  delivery : (m : Message) (device : ℕ) (bytes : Option (List ℕ)) → IsDispatched s m (Some device) → IsPiece s m device bytes → Delivery s m.number bytes
  delivery m device bytes d e = record { message = m; first = d.first; number_is = refl; device = device; device_is = d.device_is; bytes_are = e }

  went : (l : Lane) (g : Going) → IsPicked s pick l → IsPaid s l → (row_of s l).outcome ≡ Goes g → GoesOn s pick (go_on s i l (paid_for s l) g)
  went l g at paid is =
      let p = pushed-store (grown s.store g.made, drop g.pops l.stack) g.pushed in
      record {
        event = record { lane = l; there = at };
        going = g;
        comes_to = (paid, is);
        goes = refl;
        cells = g.made ++ p.0;
        takes = p.1 ∙ ap (λ (x : List Slot). record s.store { slots = x }) (append_assoc s.store.slots g.made p.0);
      }

  pub turns-change : Changes s pick (turn s pick).1 (turn s pick).0
  turns-change = turn-by s pick (λ t a. Changes s pick a t) (record {
    spent = λ kind out. (refl, inl (out, refl));
    rests = λ run waits none. (refl, none, waits);
    begins = λ m d. (m, d.first, d.device_is, refl);
    writes = λ m device bytes d e. inr (bytes, delivery m device (Some bytes) d e, refl);
    refuses = λ m device d e. inr (delivery m device None d e, refl, refl);
    goes = λ l g at paid is. went l g at paid is;
    fails = λ l w at paid is. inl (record { lane = l; there = at }, refl, (paid, is), dropped-is s i l (paid_for s l) (Failed w));
    commits = λ l at paid is. inl (record { lane = l; there = at }, refl, (paid, is), refl);
    runs_out = λ l kind at lacks other. (record { lane = l; there = at }, refl, lacks, other-sponsor l.own.sponsor other, exhausted-is s i l kind);
    root_runs_out = λ l kind at lacks same run. (refl, inr (run, record { lane = l; there = at }, lacks, word_same l.own.sponsor root same, ap (λ (u : State). record u { out_of = Some kind }) (exhausted-is s i l kind)));
  })
