-- What changes of actors and events, and instructions, leave of a store; and that what a word shows it shows after them.
use Rattle.std.proofs.Common.{◌≡◌, ◌⊎◌, inl, inr, ℕ, Bool, true, false, List, [], ◌∷◌, ◌++◌, Option, Some, None, refl, sym, ap, subst, ◌∙◌, append_assoc, drop}
use Rattle.std.specs.Prelude.{slice_get, slice_set, pos}
use Rattle.std.proofs.lemmas.Bool.{cases_eq}
use Rattle.std.proofs.lemmas.Option.{slice_get_within}
use Rattle.cap_words.specs.Words.{W, Fix, Rom, Ram, Cap, same_word, undef}
use Rattle.cap_words.specs.Store.{cap_place}
use Rattle.cap_words.specs.Seen.{Seen, Slot, OpenSlot, ActorSlot, UnbornSlot, EventSlot, SponsorSlot, SpentSlot, slot_seen, altered, grown}
use Rattle.cap_words.specs.Frame.{Among}
use Rattle.cap_words.proofs.Places.{get-left, get-set_same, get-set_other}
use Rattle.cap_words.proofs.Same.{word_same, word_differs}
use Rattle.instr_table.specs.Types.{AnActor, look_up, opaque_in, Grows}
use Rattle.instr_table.specs.Event.{Made, Behaviour, Effects}
use Rattle.instr_table.specs.Outcome.{Going}
use Rattle.instr_table.specs.Lane.{Item, after_going}
use Rattle.instr_table.proofs.Authorities.{pushed-store}
use Rattle.instr_table.proofs.ShownWords.{grows-then, changes-keep}
use Rattle.vm_effects.specs.Actors.{all_idle}
use Rattle.vm_effects.specs.Gathered.{made_words}
use Rattle.vm_turn.specs.Actors.{is_idle_in, remade, at_actor, refilled, with_content, busy, resting, settled}
use Rattle.vm_turn.specs.Sound.{times}

-- ---- words that are there

pub is-among : (w : W) (ws : List W) → Among w ws ⊎ (Among w ws → ⊥)
is-among w [] = inr (λ a. a)
is-among w (v ∷ ws) = by (same_word v w) refl (is-among w ws)
  where
    by : (b : Bool) → same_word v w ≡ b → Among w ws ⊎ (Among w ws → ⊥) → Among w (v ∷ ws) ⊎ (Among w (v ∷ ws) → ⊥)
    by true e h = inl (inl (sym (word_same v w e)))
    by b e (inl a) = inl (inr a)
    by false e (inr f) = inr no
      where
        no : Among w (v ∷ ws) → ⊥
        no (inl d) = word_differs v w e (sym d)
        no (inr a) = f a

pub among-times : (w : W) (ws : List W) → (Among w ws → ⊥) → times w ws ≡ 0
among-times w [] f = refl
among-times w (v ∷ ws) f = by (same_word v w) refl (among-times w ws (λ a. f (inr a)))
  where
    by : (b : Bool) → same_word v w ≡ b → times w ws ≡ 0 → times w (v ∷ ws) ≡ 0
    by true e h = absurd (f (inl (sym (word_same v w e))))
    by false e h = rw e h

-- ---- slots that a change leaves as they were

pub actor-other : (s : Seen) (a : W) (change : W → W → Slot) (w : W) → (w ≡ a → ⊥) → slot_seen (at_actor s a change) w ≡ slot_seen s w
actor-other s a change (Fix n) f = refl
actor-other s a change (Rom n) f = refl
actor-other s a change (Ram n) f = refl
actor-other s (Fix k) change (Cap n) f = refl
actor-other s (Rom k) change (Cap n) f = refl
actor-other s (Ram k) change (Cap n) f = refl
actor-other s (Cap k) change (Cap n) f = by (slice_get s.slots k)
  where
    by : (o : Option Slot) → slot_seen (remade o change (Cap k) s) (Cap n) ≡ slot_seen s (Cap n)
    by None = refl
    by (Some (OpenSlot q)) = refl
    by (Some (ActorSlot code state mark)) = get-set_other s.slots k n (change code state) (λ e. f (ap Cap e))
    by (Some UnbornSlot) = refl
    by (Some (EventSlot x y m)) = refl
    by (Some SponsorSlot) = refl
    by (Some SpentSlot) = refl

pub actor-same : (s : Seen) (a code state mark : W) (change : W → W → Slot) → slot_seen s a ≡ Some (ActorSlot code state mark) → slot_seen (at_actor s a change) a ≡ Some (change code state)
actor-same s (Fix k) code state mark change h = cc
actor-same s (Rom k) code state mark change h = cc
actor-same s (Ram k) code state mark change h = cc
actor-same s (Cap k) code state mark change h =
    let e : at_actor s (Cap k) change ≡ altered s k (change code state) = ap (λ (o : Option Slot). remade o change (Cap k) s) h in
    ap (λ (t : Seen). slot_seen t (Cap k)) e ∙ get-set_same s.slots k (change code state) (slice_get_within s.slots k (ActorSlot code state mark) h)

-- a word under which something is seen is opaque
abbrev pub IsSeen : Seen → W → Type 0
IsSeen s w = (x : Slot) × (slot_seen s w ≡ Some x)

pub altered-other : (s : Seen) (v w : W) (x : Slot) → IsSeen s v → (w ≡ v → ⊥) → slot_seen (altered s (cap_place v) x) w ≡ slot_seen s w
altered-other s (Fix k) w x h f = let e = h.1 in absurd cc
altered-other s (Rom k) w x h f = let e = h.1 in absurd cc
altered-other s (Ram k) w x h f = let e = h.1 in absurd cc
altered-other s (Cap k) (Fix n) x h f = refl
altered-other s (Cap k) (Rom n) x h f = refl
altered-other s (Cap k) (Ram n) x h f = refl
altered-other s (Cap k) (Cap n) x h f = get-set_other s.slots k n x (λ e. f (ap Cap e))

pub altered-same : (s : Seen) (v : W) (x y : Slot) → slot_seen s v ≡ Some x → slot_seen (altered s (cap_place v) y) v ≡ Some y
altered-same s (Fix k) x y h = cc
altered-same s (Rom k) x y h = cc
altered-same s (Ram k) x y h = cc
altered-same s (Cap k) x y h = get-set_same s.slots k y (slice_get_within s.slots k x h)

pub seen-altered : (s : Seen) (v w : W) (x : Slot) → IsSeen s v → IsSeen s w → IsSeen (altered s (cap_place v) x) w
seen-altered s v (Fix n) x h g = let e = g.1 in absurd cc
seen-altered s v (Rom n) x h g = let e = g.1 in absurd cc
seen-altered s v (Ram n) x h g = let e = g.1 in absurd cc
seen-altered s v (Cap n) x h g = by (cases_eq n (cap_place v))
  where
    by : (n ≡ cap_place v) ⊎ (n ≡ cap_place v → ⊥) → IsSeen (altered s (cap_place v) x) (Cap n)
    by (inl e) = (x, subst (λ (k : ℕ). slice_get (slice_set s.slots k x) n ≡ Some x) e (get-set_same s.slots n x (slice_get_within s.slots n g.0 g.1)))
    by (inr f) = (g.0, get-set_other s.slots (cap_place v) n x f ∙ g.1)

pub idle-other : (s : Seen) (ms : List Made) (w : W) → ((v : W) → Among v (made_words ms) → IsSeen s v) → (Among w (made_words ms) → ⊥) → slot_seen (all_idle s ms) w ≡ slot_seen s w
idle-other s [] w seen f = refl
idle-other s (m ∷ ms) w seen f =
    let x = ActorSlot m.code m.state undef in
    let t = altered s (cap_place m.actor) x in
    let here = seen m.actor (inl refl) in
    idle-other t ms w (λ v a. seen-altered s m.actor v x here (seen v (inr a))) (λ a. f (inr a)) ∙ altered-other s m.actor w x here (λ e. f (inl e))

pub content-other : (s : Seen) (v content w : W) → ((a b m : W) → slot_seen s w ≡ Some (EventSlot a b m) → ⊥) → slot_seen (with_content s v content) w ≡ slot_seen s w
content-other s (Fix k) content w f = refl
content-other s (Rom k) content w f = refl
content-other s (Ram k) content w f = refl
content-other s (Cap k) content (Fix n) f = by (slice_get s.slots k)
  where
    by : (o : Option Slot) → slot_seen (refilled o (Cap k) content s) (Fix n) ≡ None
    by o = refl
content-other s (Cap k) content (Rom n) f = refl
content-other s (Cap k) content (Ram n) f = refl
content-other s (Cap k) content (Cap n) f = by (slice_get s.slots k) refl
  where
    by : (o : Option Slot) → slice_get s.slots k ≡ o → slot_seen (refilled o (Cap k) content s) (Cap n) ≡ slot_seen s (Cap n)
    by None h = refl
    by (Some (OpenSlot q)) h = refl
    by (Some (ActorSlot code state mark)) h = refl
    by (Some UnbornSlot) h = refl
    by (Some (EventSlot a b m)) h = get-set_other s.slots k n (EventSlot a b content) (λ e. f a b m (ap (λ (i : ℕ). slice_get s.slots i) e ∙ h))
    by (Some SponsorSlot) h = refl
    by (Some SpentSlot) h = refl

pub content-apart : (s : Seen) (v content w : W) → (w ≡ v → ⊥) → slot_seen (with_content s v content) w ≡ slot_seen s w
content-apart s (Fix k) content w f = refl
content-apart s (Rom k) content w f = refl
content-apart s (Ram k) content w f = refl
content-apart s (Cap k) content (Fix n) f = refl
content-apart s (Cap k) content (Rom n) f = refl
content-apart s (Cap k) content (Ram n) f = refl
content-apart s (Cap k) content (Cap n) f = by (slice_get s.slots k)
  where
    by : (o : Option Slot) → slot_seen (refilled o (Cap k) content s) (Cap n) ≡ slot_seen s (Cap n)
    by None = refl
    by (Some (OpenSlot q)) = refl
    by (Some (ActorSlot code state mark)) = refl
    by (Some UnbornSlot) = refl
    by (Some (EventSlot a b m)) = get-set_other s.slots k n (EventSlot a b content) (λ e. f (ap Cap e))
    by (Some SponsorSlot) = refl
    by (Some SpentSlot) = refl

-- an instruction takes quads alone
pub going-slots : (s : Seen) (is : List Item) (g : Going) → (more : List Slot) × ((after_going s is g).0.slots ≡ s.slots ++ (g.made ++ more))
going-slots s is g =
    let p = pushed-store (grown s g.made, drop g.pops is) g.pushed in
    (p.0, ap (λ (t : Seen). t.slots) p.1 ∙ append_assoc s.slots g.made p.0)

pub going-seen : (s : Seen) (is : List Item) (g : Going) (w : W) (x : Slot) → slot_seen s w ≡ Some x → slot_seen (after_going s is g).0 w ≡ Some x
going-seen s is g (Fix n) x h = cc
going-seen s is g (Rom n) x h = cc
going-seen s is g (Ram n) x h = cc
going-seen s is g (Cap n) x h = let e = going-slots s is g in ap (λ (xs : List Slot). slice_get xs n) e.1 ∙ (get-left s.slots (g.made ++ e.0) n (slice_get_within s.slots n x h) ∙ h)

pub going-rom : (s : Seen) (is : List Item) (g : Going) → (after_going s is g).0.rom ≡ s.rom
going-rom s is g = let p = pushed-store (grown s g.made, drop g.pops is) g.pushed in ap (λ (t : Seen). t.rom) p.1

-- an idle actor is there, with no mark

pub idle-there : (o : Option Slot) → is_idle_in o ≡ true → (code : W) × (state : W) × (o ≡ Some (ActorSlot code state undef))
idle-there None h = cc
idle-there (Some (OpenSlot q)) h = cc
idle-there (Some (ActorSlot code state mark)) h = (code, state, ap (λ (w : W). Some (ActorSlot code state w)) (word_same mark undef h))
idle-there (Some UnbornSlot) h = cc
idle-there (Some (EventSlot a b m)) h = cc
idle-there (Some SponsorSlot) h = cc
idle-there (Some SpentSlot) h = cc

-- ---- what a word shows it shows after a change

pub same-grows : (s : Seen) → Grows s s
same-grows s = record { keeps = λ w x h. h }

-- a word under which an actor is seen, committed or not
abbrev pub IsActorSeen : Seen → W → Type 0
IsActorSeen s w = (x : Slot) × (slot_seen s w ≡ Some x) × (opaque_in (Some x) ≡ Some AnActor)

-- it shows an actor
pub shown-actor : (s : Seen) (w : W) → IsActorSeen s w → look_up s w ≡ Some AnActor
unfolding look_up
shown-actor s (Fix k) h = let e = h.1 in absurd cc
shown-actor s (Rom k) h = let e = h.1 in absurd cc
shown-actor s (Ram k) h = let e = h.1 in absurd cc
shown-actor s (Cap k) h = ap opaque_in h.1 ∙ h.2

-- an actor becomes another one
pub altered-grows : (s : Seen) (a code state mark : W) → IsActorSeen s a → Grows s (altered s (cap_place a) (ActorSlot code state mark))
altered-grows s (Fix k) code state mark h = let e = h.1 in absurd cc
altered-grows s (Rom k) code state mark h = let e = h.1 in absurd cc
altered-grows s (Ram k) code state mark h = let e = h.1 in absurd cc
altered-grows s (Cap k) code state mark h = by h.0 h.1 h.2
  where
    by : (x : Slot) → slot_seen s (Cap k) ≡ Some x → opaque_in (Some x) ≡ Some AnActor → Grows s (altered s k (ActorSlot code state mark))
    by (OpenSlot q) e o = cc
    by (ActorSlot c t m) e o = changes-keep s k (ActorSlot c t m) (ActorSlot code state mark) e (refl, refl)
    by UnbornSlot e o = changes-keep s k UnbornSlot (ActorSlot code state mark) e (refl, refl)
    by (EventSlot a b m) e o = cc
    by SponsorSlot e o = cc
    by SpentSlot e o = cc

pub actor-grows : (s : Seen) (a : W) (change : W → W → Slot) → ((code state : W) → (c : W) × (t : W) × (m : W) × (change code state ≡ ActorSlot c t m)) → Grows s (at_actor s a change)
actor-grows s a change is = by (slot_seen s a) refl
  where
    by : (o : Option Slot) → slot_seen s a ≡ o → Grows s (remade o change a s)
    by None e = same-grows s
    by (Some (OpenSlot q)) e = same-grows s
    by (Some (ActorSlot code state mark)) e =
        let i = is code state in
        subst (λ (x : Slot). Grows s (altered s (cap_place a) x)) (sym i.3) (altered-grows s a i.0 i.1 i.2 (ActorSlot code state mark, e, refl))
    by (Some UnbornSlot) e = same-grows s
    by (Some (EventSlot x y m)) e = same-grows s
    by (Some SponsorSlot) e = same-grows s
    by (Some SpentSlot) e = same-grows s

-- it becomes busy, or idle again
pub busy-grows : (s : Seen) (a : W) (number : ℕ) → Grows s (at_actor s a (busy number))
busy-grows s a number = actor-grows s a (busy number) (λ code state. (code, state, Fix (pos number), refl))

resting-is : (next : Option Behaviour) (code state : W) → (c : W) × (t : W) × (m : W) × (resting next code state ≡ ActorSlot c t m)
resting-is None code state = (code, state, undef, refl)
resting-is (Some b) code state = (b.code, b.state, undef, refl)

pub resting-grows : (s : Seen) (a : W) (next : Option Behaviour) → Grows s (at_actor s a (resting next))
resting-grows s a next = actor-grows s a (resting next) (resting-is next)

seen-actor : (s : Seen) (v w code state mark : W) → IsActorSeen s v → IsActorSeen s w → IsActorSeen (altered s (cap_place v) (ActorSlot code state mark)) w
seen-actor s v (Fix n) code state mark h g = let e = g.1 in absurd cc
seen-actor s v (Rom n) code state mark h g = let e = g.1 in absurd cc
seen-actor s v (Ram n) code state mark h g = let e = g.1 in absurd cc
seen-actor s v (Cap n) code state mark h g = by (cases_eq n (cap_place v))
  where
    by : (n ≡ cap_place v) ⊎ (n ≡ cap_place v → ⊥) → IsActorSeen (altered s (cap_place v) (ActorSlot code state mark)) (Cap n)
    by (inl e) = (ActorSlot code state mark, subst (λ (k : ℕ). slice_get (slice_set s.slots k (ActorSlot code state mark)) n ≡ Some (ActorSlot code state mark)) e (get-set_same s.slots n (ActorSlot code state mark) (slice_get_within s.slots n g.0 g.1)), refl)
    by (inr f) = (g.0, get-set_other s.slots (cap_place v) n (ActorSlot code state mark) f ∙ g.1, g.2)

-- created actors are committed
pub idle-grows : (s : Seen) (ms : List Made) → ((w : W) → Among w (made_words ms) → IsActorSeen s w) → Grows s (all_idle s ms)
idle-grows s [] seen = same-grows s
idle-grows s (m ∷ ms) seen =
    let t = altered s (cap_place m.actor) (ActorSlot m.code m.state undef) in
    let here = seen m.actor (inl refl) in
    grows-then s t (all_idle t ms) (altered-grows s m.actor m.code m.state undef here) (idle-grows t ms (λ w a. seen-actor s m.actor w m.code m.state undef here (seen w (inr a))))

-- an actor that is committed, with no mark
abbrev pub IsIdleIn : Seen → W → Type 0
IsIdleIn s w = (code : W) × (state : W) × (slot_seen s w ≡ Some (ActorSlot code state undef))

-- each of them is idle then
pub idle-made : (s : Seen) (ms : List Made) → ((w : W) → Among w (made_words ms) → IsActorSeen s w) → (w : W) → Among w (made_words ms) → IsIdleIn (all_idle s ms) w
idle-made s [] seen w a = absurd a
idle-made s (m ∷ ms) seen w a =
    let t = altered s (cap_place m.actor) (ActorSlot m.code m.state undef) in
    let here = seen m.actor (inl refl) in
    let later = λ (v : W) (b : Among v (made_words ms)). seen-actor s m.actor v m.code m.state undef here (seen v (inr b)) in
    by (is-among w (made_words ms)) a here later (idle-made t ms later w)
  where
    t' : Seen
    t' = altered s (cap_place m.actor) (ActorSlot m.code m.state undef)

    by : Among w (made_words ms) ⊎ (Among w (made_words ms) → ⊥) → Among w (m.actor ∷ made_words ms) → IsActorSeen s m.actor → ((v : W) → Among v (made_words ms) → IsActorSeen t' v) → (Among w (made_words ms) → IsIdleIn (all_idle t' ms) w) → IsIdleIn (all_idle t' ms) w
    by (inl b) c here later rest = rest b
    by (inr f) (inr b) here later rest = absurd (f b)
    by (inr f) (inl e) here later rest = (
      m.code,
      m.state,
      idle-other t' ms w (λ v b. let k = later v b in (k.0, k.1)) f
          ∙ subst (λ (v : W). slot_seen t' v ≡ Some (ActorSlot m.code m.state undef)) (sym e) (altered-same s m.actor here.0 (ActorSlot m.code m.state undef) here.1),
    )

pub settled-grows : (s : Seen) (actor : W) (e : Effects) → ((w : W) → Among w (made_words e.created) → IsActorSeen (at_actor s actor (resting e.next)) w) → Grows s (settled s actor e)
settled-grows s actor e seen = grows-then s (at_actor s actor (resting e.next)) (settled s actor e) (resting-grows s actor e.next) (idle-grows (at_actor s actor (resting e.next)) e.created seen)
