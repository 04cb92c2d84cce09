-- A delivery that some steps decide is decided so by all larger numbers of steps, so a journal leads to one configuration.
use Rattle.std.proofs.Common.{◌≡◌, refl, ap, sym, subst, ◌∙◌, ℕ, suc, ◌+◌, ◌≤◌, List, [], ◌∷◌, length, Option, Some, None, arith, slice_get}
use Rattle.hum_meaning.specs.Value.{Parts, Value, Behaviour, Device, Answers}
use Rattle.hum_meaning.specs.Action.{no_effects, Outcome, Gives, Fails, Undecided}
use Rattle.hum_meaning.specs.Language.{Language}
use Rattle.hum_meaning.specs.Deliver.{Configuration, Message, Delivery, Committed, Failed, Open, responded, respond, delivered, deliver}
use Rattle.hum_meaning.specs.After.{Ending, Commits, FailsWith, RunsOut, Entry, Leads, Enters, Follows}
use Rattle.hum_meaning.specs.Laws.{IsDecided, more_left, IsClosed}
use Rattle.hum_meaning.proofs.Agrees.{Agrees, bind_agrees}
use Rattle.hum_meaning.proofs.Law.{Lawful, level_stands, apply_agrees, perform_agrees, stays}

module _ {L : Parts} where
  decided_of : (c : Configuration L) (m : Message L) (r : Outcome L (Unit {0})) → IsClosed (responded c m r) → IsDecided r
  decided_of c m (Gives v e left) h = tt
  decided_of c m (Fails code n) h = tt
  decided_of c m Undecided h = h

  same_end : (c : Configuration L) (m : Message L) (j : ℕ) (r : Outcome L (Unit {0})) → responded c m (more_left j r) ≡ responded c m r
  same_end c m j (Gives v e left) = refl
  same_end c m j (Fails code n) = refl
  same_end c m j Undecided = refl

module _ {L : Parts} (language : Language L) (lawful : Lawful language) where
  respond_agrees : (self base s r : ℕ) → s ≤ r → (b v : Value L) → Agrees (suc s) (respond language self base s b v)
      (respond language self base r b v)
  respond_agrees self base s r le b v =
      let h = level_stands language lawful self base (suc s) (suc r) (suc s) (omega (arith, le)) in
      bind_agrees (suc s) (apply_agrees language self base (suc s) _ _ h b v) (λ x. perform_agrees (suc s) _ _ h x)

  delivered_stays : (c : Configuration L) (m : Message L) (s j : ℕ) (o : Option (Behaviour L)) → IsClosed (delivered language c m s o)
      → delivered language c m (s + j) o ≡ delivered language c m s o
  delivered_stays c m s j (Some (Device k)) h = refl
  delivered_stays c m s j (Some (Answers v)) h =
      let a = respond_agrees m.target (length c.behaviours) s (s + j) (omega arith) v m.value in
      let e = stays s j _ _ (a.at no_effects s j) (decided_of c m _ h) in
      ap (responded c m) e ∙ same_end c m j (respond language m.target (length c.behaviours) s v m.value no_effects s)
  delivered_stays c m s j None h = refl

  pub deliver_stays : (c : Configuration L) (m : Message L) (s j : ℕ) → IsClosed (deliver language c m s)
      → deliver language c m (s + j) ≡ deliver language c m s
  unfolding deliver
  deliver_stays c m s j h = delivered_stays c m s j (slice_get c.behaviours m.target) h

  -- so two numbers of steps that decide it decide it alike
  pub deliver_once : (c : Configuration L) (m : Message L) (s r : ℕ) → IsClosed (deliver language c m s)
      → IsClosed (deliver language c m r) → deliver language c m s ≡ deliver language c m r
  deliver_once c m s r h k =
      let same : s + r ≡ r + s = omega arith in
      sym (deliver_stays c m s r h) ∙ ap (deliver language c m) same ∙ deliver_stays c m r s k

-- ---- journals

module _ {L : Parts} where
  -- the configuration of a delivery, or one that stands for none
  abbrev configuration_of : Configuration L → Delivery L → Configuration L
  configuration_of other (Committed c) = c
  configuration_of other (Failed code sends c) = c
  configuration_of other Open = other

  pub closed_as : (d e : Delivery L) → d ≡ e → IsClosed e → IsClosed d
  closed_as d e is h = subst IsClosed (sym is) h

  pub the_message : (x y : Option (Message L)) (m n : Message L) → x ≡ Some m → y ≡ Some n → x ≡ y → m ≡ n
  the_message x y m n a b e = ap (elim [ Some z ↦ z | None ↦ m ]) (sym a ∙ e ∙ b)

module _ {L : Parts} (language : Language L) (lawful : Lawful language) where
  leads_once : (c : Configuration L) (m : Message L) (e : Ending) (d d' : Configuration L) → Leads language c m e d
      → Leads language c m e d' → d ≡ d'
  leads_once c m Commits d d' h k =
      ap (configuration_of c) (sym h.1 ∙ deliver_once language lawful c m h.0 k.0 (closed_as _ (Committed d) h.1 tt) (closed_as _ (Committed d') k.1 tt) ∙ k.1)
  leads_once c m (FailsWith code) d d' h k =
      ap (configuration_of c) (sym h.2 ∙ deliver_once language lawful c m h.0 k.0 (closed_as _ (Failed code h.1 d) h.2 tt) (closed_as _ (Failed code k.1 d') k.2 tt) ∙ k.2)
  leads_once c m RunsOut d d' h k = h ∙ sym k

  enters_once : (c : Configuration L) (e : Entry) (d d' : Configuration L) → Enters language c e d → Enters language c e d' → d ≡ d'
  enters_once c e d d' h k =
      let same = the_message _ _ k.message h.message k.pending h.pending refl in
      leads_once c h.message e.ending d d' h.leads (subst (λ m. Leads language c m e.ending d') same k.leads)

  -- a journal leads from a configuration to one at most
  pub follows_once : (journal : List Entry) (c d d' : Configuration L) → Follows language c journal d → Follows language c journal d'
      → d ≡ d'
  follows_once [] c d d' h k = sym h ∙ k
  follows_once (e ∷ more) c d d' h k =
      follows_once more h.0 d d' h.2 (subst (λ x. Follows language x more d') (sym (enters_once c e h.0 k.0 h.1 k.1)) k.2)
