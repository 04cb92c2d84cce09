-- A sheet in which the root is the only sponsor.
use Rattle.std.proofs.Common.{◌≡◌, inl, inr, refl, ap, sym, subst, ◌∙◌, true, List, [], ◌∷◌, Option, Some, None}
use Rattle.std.proofs.lemmas.Option.{none-some}
use Rattle.cap_words.specs.Words.{W, same_word}
use Rattle.cap_words.specs.Frame.{Among}
use Rattle.cap_words.proofs.Same.{word_is}
use Rattle.instr_table.specs.declared.charge.Charge.{Charge}
use Rattle.instr_table.specs.declared.charge.Quota.{Quota}
use Rattle.instr_table.specs.Sheet.{Account, account, spend, stop, prepared, runs, paid, stands_as, Stopped, signal_in, runs_in, at_account}
use Rattle.vm_sponsor.specs.Totals.{sponsors}
use Rattle.vm_turn.specs.State.{root}
use Rattle.vm_turn.specs.Alone.{RootAlone}

module _ (sheet : List Account) (out : Option Quota) (r : RootAlone sheet out) where
  is_same : same_word r.account.sponsor root ≡ true
  is_same = subst (λ (w : W). same_word w root ≡ true) (sym r.is_root) (word_is root)

  pub root-account : account sheet root ≡ r.account
  root-account = ap (λ (rows : List Account). account rows root) r.only ∙ rw is_same refl

  changed : (change : Account → Account) → at_account root change sheet ≡ change r.account ∷ []
  changed change = ap (λ (rows : List Account). at_account root change rows) r.only ∙ rw is_same refl

  pub root-spends : (who : W) (c : Charge) → who ≡ root → RootAlone (spend sheet who c) out
  root-spends who c e =
      subst (λ (w : W). RootAlone (spend sheet w c) out) (sym e)
      (record { account = paid c r.account; only = changed (paid c); is_root = r.is_root; no_signal = r.no_signal; runs = r.runs })

  pub root-stops : (who : W) (kind : Quota) → who ≡ root → RootAlone (stop sheet who) (Some kind)
  root-stops who kind e =
      subst (λ (w : W). RootAlone (stop sheet w) (Some kind)) (sym e)
      (record { account = stands_as Stopped r.account; only = changed (stands_as Stopped); is_root = r.is_root; no_signal = refl; runs = λ h. absurd (none-some kind (sym h)) })

  pub spent-account : (c : Charge) → account (spend sheet root c) root ≡ paid c (account sheet root)
  spent-account c =
      ap (λ (rows : List Account). account rows root) (changed (paid c))
      ∙ (let e : account (paid c r.account ∷ []) root ≡ paid c r.account = rw is_same refl in e ∙ ap (paid c) (sym root-account))

  pub stopped-account : account (stop sheet root) root ≡ stands_as Stopped (account sheet root)
  stopped-account =
      ap (λ (rows : List Account). account rows root) (changed (stands_as Stopped))
      ∙ (let e : account (stands_as Stopped r.account ∷ []) root ≡ stands_as Stopped r.account = rw is_same refl in e ∙ ap (stands_as Stopped) (sym root-account))

  pub root-prepared : (who : W) → who ≡ root → prepared sheet who ≡ None
  root-prepared who e = ap (λ (w : W). prepared sheet w) e ∙ (ap (λ (a : Account). signal_in a.standing) root-account ∙ r.no_signal)

  pub root-runs : out ≡ None → runs sheet root ≡ true
  root-runs h = ap (λ (a : Account). runs_in a.standing) root-account ∙ r.runs h

  pub only-root : (w : W) → Among w (sponsors sheet) → w ≡ root
  only-root w a = by (subst (λ (rows : List Account). Among w (sponsors rows)) r.only a)
    where
      by : Among w (r.account.sponsor ∷ []) → w ≡ root
      by (inl e) = e ∙ r.is_root
      by (inr b) = absurd b
