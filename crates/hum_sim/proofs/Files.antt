-- What is so of deliveries of a file's program is so of those of the file.
use Rattle.instr_table.specs.Spent.{Spent}
use Rattle.vm_turn.specs.Spending.{Spending}
use Rattle.std.proofs.Common.{◌≡◌, refl, sym, subst, ℕ, ◌≤◌, sum, List, [], ◌∷◌, map, Option, Some, None, arith}
use Rattle.instr_table.specs.declared.charge.Quota.{Quota}
use Rattle.instr_table.specs.declared.charge.Quota.TheVariants.{Memory, Events, Cycles}
use Rattle.instr_table.specs.Lane.{Lane}
use Rattle.vm_turn.specs.State.{State}
use Rattle.hum_syntax.specs.declared.tree.Stmt.{Stmt}
use Rattle.hum_meaning.specs.Deliver.{Message, Configuration}
use Rattle.hum_meaning.specs.Named.{Named, written}
use Rattle.hum_meaning.specs.Written.{humus}
use Rattle.hum_meaning.specs.After.{Entry, message_of, Enters}
use Rattle.hum_core.specs.Alike.{Both, Each}
use Rattle.hum_core.specs.Bound.{Cost, Fit}
use Rattle.hum_core.specs.Likeness.{IsPending, IsAtMost, EventsAs, MeansTheSame}
use Rattle.hum_core.specs.Programs.{FileAs, program_language}
use Rattle.hum_core.specs.TestLists.{Tests}
use Rattle.hum_sim.specs.Legal.{IsItsTurn}
use Rattle.hum_sim.specs.Within.{SpentWithin, IsWithin, allowed, MessagesOf, NoChoiceFits}
use Rattle.hum_sim.proofs.Causes.{sum_first}
use Rattle.hum_sim.proofs.Next.{EntersLegally}

allowed_less : (kind : Quota) (a b : Cost) → IsAtMost a b → allowed kind a ≤ allowed kind b
allowed_less Memory a b h = h.memory
allowed_less Events a b h = h.events
allowed_less Cycles a b h = h.cycles

within_more : (n : Spent) (a b : Cost) → IsAtMost a b → SpentWithin n a → SpentWithin n b
within_more n a b h w = record {
  cycles = let x = w.cycles in let y = h.cycles in omega (arith, x, y);
  memory = let x = w.memory in let y = h.memory in omega (arith, x, y);
  events = let x = w.events in let y = h.events in omega (arith, x, y);
}

-- what fits an amount still does where no cost is more
fits_less : (kind : Quota) (less costs : List Cost) → Each IsAtMost less costs → (amount : ℕ) → Fit (allowed kind) costs amount → Fit (allowed kind) less amount
fits_less kind less costs h amount fit = let le = sums less costs h in omega (arith, le, fit)
  where
    sums : (less costs : List Cost) → Each IsAtMost less costs → sum (map (allowed kind) less) ≤ sum (map (allowed kind) costs)
    sums [] [] h = omega arith
    sums (x ∷ xs) (y ∷ ys) h =
        let one = allowed_less kind x y h.0 in
        let others = sums xs ys h.1 in
        let a = sum_first kind x xs in
        let b = sum_first kind y ys in
        omega (arith, one, others, a, b)
    sums [] (y ∷ ys) h = absurd h
    sums (x ∷ xs) [] h = absurd h

module _ (file : List Stmt) (means : MeansTheSame (FileAs file) humus (program_language file)) where
  abbrev pub Alike : Configuration (Named written) → Configuration Tests → Type 0
  Alike = (FileAs file).Configurations

  abbrev pub AlikeMessages : Message (Named written) → Message Tests → Type 0
  AlikeMessages = (FileAs file).Messages

  -- two messages of one number
  same_message : (m : Message (Named written)) (n : Message Tests) (o : Option (Message (Named written))) (q : Option (Message Tests)) → o ≡ Some m → q ≡ Some n
      → Both AlikeMessages o q → AlikeMessages m n
  same_message m n o q e f h = subst (λ x. Both AlikeMessages (Some m) x) f (subst (λ x. Both AlikeMessages x q) e h)

  pub none_forth : (c : Configuration (Named written)) (d : Configuration Tests) → Alike c d → (k : ℕ) → message_of k c.pending ≡ None → message_of k d.pending ≡ None
  none_forth c d h k e = by (message_of k d.pending) (subst (λ o. Both AlikeMessages o (message_of k d.pending)) e (means.messages c d k h))
    where
      by : (q : Option (Message Tests)) → Both AlikeMessages None q → q ≡ None
      by None b = refl
      by (Some n) b = absurd b

  turn_back : (lanes : ℕ) (c : Configuration (Named written)) (d : Configuration Tests) (m : Message (Named written)) (n : Message Tests) → Alike c d → AlikeMessages m n
      → IsItsTurn lanes d n → IsItsTurn lanes c m
  turn_back lanes c d m n h a o = record {
    to_its_target = λ k p.
        let q = ((means.seen c d h).pending k m.target).0 p in
        let l = o.to_its_target k (subst (λ t. IsPending d k t) (means.targets m n a) q) in
        let e = means.numbers m n a in
        omega (arith, l, e);
    of_all = λ one k t p.
        let l = o.of_all one k t (((means.seen c d h).pending k t).0 p) in
        let e = means.numbers m n a in
        omega (arith, l, e);
  }

  within_back : (c : Configuration (Named written)) (d : Configuration Tests) (m : Message (Named written)) (n : Message Tests) → Alike c d → AlikeMessages m n → (spent : Spent)
      → IsWithin (program_language file) (d, n) spent → IsWithin humus (c, m) spent
  within_back c d m n h a spent w s cost e =
      let less = means.bounds.forth (c, m) (d, n) s cost (h, a) e in
      within_more spent less.1 cost less.3 (w less.0 less.1 less.4)

  -- an entry of the program, as one of the file
  pub record Back (lanes : ℕ) (spent : Spent) (c : Configuration (Named written)) (d' : Configuration Tests) (e : Entry) : Type 0 where
    pub to : Configuration (Named written)
    pub enters : EntersLegally humus lanes spent c e to
    pub alike : Alike to d'

  pub enters_back : (lanes : ℕ) (spent : Spent) (c : Configuration (Named written)) (d d' : Configuration Tests) (e : Entry) → Alike c d
      → EntersLegally (program_language file) lanes spent d e d' → Back lanes spent c d' e
  enters_back lanes spent c d d' e h x =
      let y = means.journals.back (e ∷ []) c d d' h (d', x.enters, refl) in
      let one : Enters humus c e y.1.0 = y.1.1 in
      let a = same_message one.message x.enters.message (message_of e.message c.pending) (message_of e.message d.pending) one.pending x.enters.pending (means.messages c d e.message h) in
      record {
        to = y.1.0;
        enters = record {
          enters = one;
          in_order = turn_back lanes c d one.message x.enters.message h a x.in_order;
          within = within_back c d one.message x.enters.message h a spent x.within;
        };
        alike = subst (λ z. Alike z d') (sym y.1.2) y.2;
      }

  -- ---- bounds of those in flight

  messages_forth : (c : Configuration (Named written)) (d : Configuration Tests) → Alike c d → (ls : List Lane) (ms : List (Message (Named written))) → MessagesOf c ls ms
      → (ns : List (Message Tests)) × MessagesOf d ls ns × Each (EventsAs (FileAs file)) (map (λ m. (c, m)) ms) (map (λ n. (d, n)) ns)
  messages_forth c d h [] [] a = ([], tt, tt)
  messages_forth c d h [] (m ∷ ms) a = absurd a
  messages_forth c d h (x ∷ ls) [] a = absurd a
  messages_forth c d h (x ∷ ls) (m ∷ ms) a =
      let p = other_one m (message_of x.number d.pending) (subst (λ o. Both AlikeMessages o (message_of x.number d.pending)) a.0 (means.messages c d x.number h)) in
      let q = messages_forth c d h ls ms a.1 in
      (p.0 ∷ q.0, (p.1, q.1), ((h, p.2), q.2))
    where
      other_one : (m : Message (Named written)) (o : Option (Message Tests)) → Both AlikeMessages (Some m) o → (n : Message Tests) × (o ≡ Some n) × AlikeMessages m n
      other_one m (Some n) b = (n, refl, b)
      other_one m None b = absurd b

  pub none_fits_back : (c : Configuration (Named written)) (d : Configuration Tests) → Alike c d → (spent : Spending) (s : State) (kind : Quota)
      → NoChoiceFits (program_language file) d spent s kind → NoChoiceFits humus c spent s kind
  none_fits_back c d h spent s kind f ms costs m b fit =
      let q = messages_forth c d h s.flight ms m in
      let less = means.bounds.each_forth (map (λ x. (c, x)) ms) (map (λ x. (d, x)) q.0) costs q.2 b in
      f q.0 less.0 q.1 less.1 (fits_less kind less.0 costs less.2 _ fit)
