-- Where a second language means what a first one does, and a third one what the second does, the third means what the first does.
use Rattle.std.proofs.Common.{◌∙◌, List, [], ◌∷◌, Option, Some, None, arith}
use Rattle.hum_meaning.specs.Value.{Parts}
use Rattle.hum_meaning.specs.Language.{Language}
use Rattle.hum_meaning.specs.Deliver.{Message, Configuration, Delivery, Committed, Failed, Open, deliver}
use Rattle.hum_meaning.specs.After.{message_of}
use Rattle.hum_meaning.specs.Laws.{IsClosed}
use Rattle.hum_core.specs.Alike.{Both, Each}
use Rattle.hum_core.specs.Bound.{Event}
use Rattle.hum_core.specs.Likeness.{Likeness, through, SeenAlike, EventsAs, EndsAs, KeepsDeliveries, KeepsJournals, KeepsBounds, MeansTheSame}
use Rattle.hum_core.proofs.Likenesses.{at_most_then, each_at_most_then}

module _ {L K : Parts} (a : Likeness L K) where
  -- deliveries that end the same way are decided
  first_closed : (u : Delivery L) (v : Delivery K) → EndsAs a u v → IsClosed u
  first_closed (Committed c) v h = tt
  first_closed (Failed code n c) v h = tt
  first_closed Open v h = absurd h

  second_closed : (u : Delivery L) (v : Delivery K) → EndsAs a u v → IsClosed v
  second_closed u (Committed d) h = tt
  second_closed u (Failed code n d) h = tt
  second_closed (Committed c) Open h = absurd h
  second_closed (Failed code n c) Open h = absurd h
  second_closed Open Open h = absurd h

module _ {L K J : Parts} (a : Likeness L K) (b : Likeness K J) where
  seen_through : (c : Configuration L) (d : Configuration K) (e : Configuration J) → SeenAlike c d → SeenAlike d e → SeenAlike c e
  seen_through c d e h k = record {
    output = h.output ∙ k.output;
    next_number = h.next_number ∙ k.next_number;
    actors = h.actors ∙ k.actors;
    pending = λ n t. (λ p. (k.pending n t).0 ((h.pending n t).0 p), λ p. (h.pending n t).1 ((k.pending n t).1 p));
    at_rest = (λ p. k.at_rest.0 (h.at_rest.0 p), λ p. h.at_rest.1 (k.at_rest.1 p));
  }

  messages_through : (o : Option (Message L)) (p : Option (Message K)) (q : Option (Message J)) → Both a.Messages o p → Both b.Messages p q
      → Both (through a b).Messages o q
  messages_through (Some m) (Some n) (Some w) h k = (n, h, k)
  messages_through None None None h k = tt
  messages_through None (Some n) q h k = absurd h
  messages_through (Some m) None q h k = absurd h
  messages_through None None (Some w) h k = absurd k
  messages_through (Some m) (Some n) None h k = absurd k

  ends_through : (u : Delivery L) (v : Delivery K) (w : Delivery J) → EndsAs a u v → EndsAs b v w → EndsAs (through a b) u w
  ends_through (Committed c) (Committed d) (Committed e) h k = (d, h, k)
  ends_through (Failed code n c) (Failed code' n' d) (Failed code'' n'' e) h k = (h.0 ∙ k.0, h.1 ∙ k.1, (d, h.2, k.2))
  ends_through (Committed c) (Committed d) _ h k = absurd k
  ends_through (Failed code n c) (Failed code' n' d) _ h k = absurd k
  ends_through _ _ w h k = absurd h

  -- the events between
  between : (es : List (Event L)) (ds : List (Event J)) → Each (EventsAs (through a b)) es ds
      → (ms : List (Event K)) × Each (EventsAs a) es ms × Each (EventsAs b) ms ds
  between [] [] h = ([], tt, tt)
  between (e ∷ es) (d ∷ ds) h =
      let others = between es ds h.1 in
      ((h.0.0.0, h.0.1.0) ∷ others.0, ((h.0.0.1, h.0.1.1), others.1), ((h.0.0.2, h.0.1.2), others.2))
  between [] (d ∷ ds) h = absurd h
  between (e ∷ es) [] h = absurd h

  module _ (l : Language L) (k : Language K) (j : Language J) (x : MeansTheSame a l k) (y : MeansTheSame b k j) where
    deliveries_through : KeepsDeliveries (through a b) l j
    deliveries_through = record {
      forth = λ e d s h o.
          let m : Event K = (h.0.0, h.1.0) in
          let p = x.deliveries.forth e m s (h.0.1, h.1.1) o in
          let q = y.deliveries.forth m d p.0 (h.0.2, h.1.2) (second_closed a (deliver l e.0 e.1 s) (deliver k m.0 m.1 p.0) p.2) in
          (q.0, omega (arith, p.1, q.1), ends_through (deliver l e.0 e.1 s) (deliver k m.0 m.1 p.0) (deliver j d.0 d.1 q.0) p.2 q.2);
      back = λ e d t h o.
          let m : Event K = (h.0.0, h.1.0) in
          let q = y.deliveries.back m d t (h.0.2, h.1.2) o in
          let p = x.deliveries.back e m q.0 (h.0.1, h.1.1) (first_closed b (deliver k m.0 m.1 q.0) (deliver j d.0 d.1 t) q.1) in
          (p.0, ends_through (deliver l e.0 e.1 p.0) (deliver k m.0 m.1 q.0) (deliver j d.0 d.1 t) p.1 q.1);
    }

    journals_through : KeepsJournals (through a b) l j
    journals_through = record {
      forth = λ journal c c' d h f.
          let p = x.journals.forth journal c c' h.0 h.1 f in
          let q = y.journals.forth journal h.0 p.0 d h.2 p.1 in
          (q.0, q.1, (p.0, p.2, q.2));
      back = λ journal c d d' h f.
          let q = y.journals.back journal h.0 d d' h.2 f in
          let p = x.journals.back journal c h.0 q.0 h.1 q.1 in
          (p.0, p.1, (q.0, p.2, q.2));
    }

    bounds_through : KeepsBounds (through a b) l j
    bounds_through = record {
      forth = λ e d s cost h bounded.
          let m : Event K = (h.0.0, h.1.0) in
          let p = x.bounds.forth e m s cost (h.0.1, h.1.1) bounded in
          let q = y.bounds.forth m d p.0 p.1 (h.0.2, h.1.2) p.4 in
          (q.0, q.1, omega (arith, p.2, q.2), at_most_then q.1 p.1 cost q.3 p.3, q.4);
      back = λ e d t cost h bounded.
          let m : Event K = (h.0.0, h.1.0) in
          let q = y.bounds.back m d t cost (h.0.2, h.1.2) bounded in
          x.bounds.back e m q.0 q.1 (h.0.1, h.1.1) q.2;
      each_forth = λ es ds costs h bounded.
          let ms = between es ds h in
          let p = x.bounds.each_forth es ms.0 costs ms.1 bounded in
          let q = y.bounds.each_forth ms.0 ds p.0 ms.2 p.1 in
          (q.0, q.1, each_at_most_then q.0 p.0 costs q.2 p.2);
      each_back = λ es ds costs h bounded.
          let ms = between es ds h in
          let q = y.bounds.each_back ms.0 ds costs ms.2 bounded in
          x.bounds.each_back es ms.0 q.0 ms.1 q.1;
    }

    pub means_through : MeansTheSame (through a b) l j
    means_through = record {
      seen = λ c e h. seen_through c h.0 e (x.seen c h.0 h.1) (y.seen h.0 e h.2);
      messages = λ c e n h. messages_through (message_of n c.pending) (message_of n h.0.pending) (message_of n e.pending) (x.messages c h.0 n h.1) (y.messages h.0 e n h.2);
      numbers = λ m w h. x.numbers m h.0 h.1 ∙ y.numbers h.0 w h.2;
      targets = λ m w h. x.targets m h.0 h.1 ∙ y.targets h.0 w h.2;
      deliveries = deliveries_through;
      journals = journals_through;
      bounds = bounds_through;
    }
