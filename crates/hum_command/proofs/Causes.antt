-- Declined commands have their answers' causes.
use Rattle.std.proofs.Common.{◌≡◌, ◌≤◌, Bool, true, false, not, ℕ, List, [], ◌∷◌, codes, Option, Some, refl, subst, inl, inr, ⊎_elim}
use Rattle.hum_outside.specs.Outside.{Files, told}
use Rattle.hum_command.proofs.Gathers.{rose-later}
use Rattle.quad_memory.specs.Image.{RomImage}
use Rattle.uasm_image.specs.Spelled.{spelled}
use Rattle.vm_machine.specs.Machine.{Machine}
use Rattle.quad_debug.specs.Script.{commands_of}
use Rattle.quad_debug.specs.Kept.{Debugged}
use Rattle.quad_debug.specs.Obeys.{HoldsState}
use Rattle.quad_debug.specs.declared.command.Command.{Command}
use Rattle.hum_command.specs.Grants.{grant_of}
use Rattle.hum_command.specs.LinkParts.{LinkFails}
use Rattle.hum_command.specs.Images.{LoadFails}
use Rattle.hum_command.specs.Writes.{Silent}
use Rattle.hum_command.specs.Texts.{IsText, HaveTexts, FileFails}
use Rattle.hum_command.specs.Link.{LinkTo}
use Rattle.hum_command.specs.Call.{Call, Declines, PutsAll}
use Rattle.hum_command.specs.TextRefusals.{TextFails, StartFails}
use Rattle.hum_command.specs.Chain.{chain_text}
use Rattle.hum_command.specs.RunAnswers.{RunsFile, FileAnswers, ChainAnswers, chain_file}
use Rattle.hum_command.specs.Code.{is_assembled, HoldsCode, IsListing, CodeFails}
use Rattle.hum_command.specs.AsmAnswers.{AsmAnswers}
use Rattle.hum_command.specs.DebugAnswers.{HaveBoth, Debugs, DebugFails, DebugAnswers}
use Rattle.hum_command.specs.DebugParts.{NotBooted, NotCommands, IsSession}
use Rattle.hum_command.specs.Debugging.{is_text, debugs, EndsDebugging}
use Rattle.hum_command.proofs.Debugging.{runs_to_end}
use Rattle.hum_command.specs.LinkAnswers.{LinkAnswers}
use Rattle.hum_command.specs.ExecAnswers.{Executes, ExecAnswers}
use Rattle.hum_command.specs.declared.keys.Keys.{Keys}
use Rattle.hum_command.specs.declared.answer.Answer.{Answer}
use Rattle.hum_command.specs.declared.answer.Answer.TheVariants.{Done, Unread, Fault, NoMemory, TextRefused, Refused, ScriptRefused}

module _ (file : Option (Option (List ℕ))) (name : List ℕ) (keys : Keys) (c : Call) where
  pub declined_run : (answer : Answer) → StartFails c.faults_old c.faults_new file answer → Declines answer c name → FileAnswers file name keys answer c
  declined_run Unread fails d = (fails, d)
  declined_run (TextRefused why) fails d = (record { text = fails.0; is_text = fails.1; refused = fails.2 }, d)
  declined_run NoMemory fails d = record { line = d.line; out = d.out; last = d.last }
  declined_run answer fails d = absurd fails

  pub ran : (answer : Answer) → RunsFile file keys answer c → FileAnswers file name keys answer c
  ran Unread r = absurd r.ends.ends
  ran (TextRefused why) r = absurd r.ends.ends
  ran NoMemory r = absurd r.ends.ends
  ran answer r = r

-- `chain` runs its text as if a file held it
module _ (n : ℕ) (keys : Keys) (c : Call) where
  pub chain_as_file : (answer : Answer) → ChainAnswers n keys answer c → FileAnswers (chain_file n) (codes "chain") keys answer c
  chain_as_file Unread a = absurd a
  chain_as_file answer a = a.1

  module _ (quiet : c.faults_new ≡ c.faults_old) where
    pub declined_chain : (answer : Answer) → TextFails (chain_text n) answer → Declines answer c (codes "chain") → ChainAnswers n keys answer c
    declined_chain NoMemory fails d = (quiet, record { line = d.line; out = d.out; last = d.last })
    declined_chain (TextRefused why) fails d = (quiet, (record { text = chain_text n; is_text = refl; refused = fails }, d))
    declined_chain answer fails d = absurd fails

    pub ran_chain : (answer : Answer) → RunsFile (chain_file n) keys answer c → ChainAnswers n keys answer c
    ran_chain Unread r = absurd r.ends.ends
    ran_chain (TextRefused why) r = absurd r.ends.ends
    ran_chain NoMemory r = absurd r.ends.ends
    ran_chain answer r = (quiet, r)

module _ (name : List ℕ) (c : Call) where
  pub declined_asm : (assembled : Bool) → is_assembled name ≡ assembled → (answer : Answer) → CodeFails assembled c.faults_old c.faults_new (told c.files name) answer
      → Declines answer c name → AsmAnswers name answer c
  declined_asm assembled is NoMemory fails d = record { line = d.line; out = d.out; last = d.last }
  declined_asm true is Unread fails d = (fails, d)
  declined_asm true is (Refused why) fails d = (is, record { bytes = fails.0; text = fails.1; refused = fails.2 }, d)
  declined_asm true is answer fails d = absurd fails
  declined_asm false is Unread fails d = (fails, d)
  declined_asm false is (TextRefused why) fails d = (is, record { text = fails.0; is_text = fails.1; refused = fails.2 }, d)
  declined_asm false is answer fails d = absurd fails

  module _ (bytes : List ℕ) (read : IsText (told c.files name) bytes) (image : RomImage) (holds : HoldsCode (is_assembled name) bytes image)
      (text : List ℕ) (listing : IsListing image text) (silent : Silent c.err) (last : c.last_new ≡ c.last_old) where
    pub listed : (answer : Answer) → PutsAll answer c.out text → AsmAnswers name answer c
    listed Done puts =
        record { bytes = bytes; read = read; image = image; holds = holds; text = text; listing = listing; out = puts; silent = silent; last = last }
    listed Fault puts =
        record { bytes = bytes; read = read; image = image; holds = holds; text = text; listing = listing; out = puts; silent = silent; last = last }
    listed answer puts = absurd puts

module _ (names : List (List ℕ)) (c : Call) where
  pub declined_link : (answer : Answer) (name : List ℕ) → LinkFails c.files c.faults_old c.faults_new names answer name
      → Declines answer c name → LinkAnswers names answer c
  declined_link Unread name fails d = (name, fails, d)
  declined_link (Refused why) name fails d = (name, record { texts = fails.0; have = fails.1; refused = fails.2 }, d)
  declined_link NoMemory name fails d = record { line = d.line; out = d.out; last = d.last }
  declined_link answer name fails d = absurd fails

  module _ (texts : List (List ℕ)) (have : HaveTexts c.files names texts) (image : RomImage) (links : LinkTo names texts image)
      (silent : Silent c.err) (last : c.last_new ≡ c.last_old) where
    pub linked : (answer : Answer) → PutsAll answer c.out (spelled image) → LinkAnswers names answer c
    linked Done puts = record { texts = texts; have = have; image = image; links = links; out = puts; silent = silent; last = last }
    linked Fault puts = record { texts = texts; have = have; image = image; links = links; out = puts; silent = silent; last = last }
    linked answer puts = absurd puts

-- ---- `debug`

module _ (name script : List ℕ) (keys : Keys) (c : Call) where
  pub declined_debug : (answer : Answer) (x : List ℕ) → DebugFails c.files c.faults_old c.faults_new name script answer x → Declines answer c x
      → DebugAnswers name script keys answer c
  declined_debug Done x fails d = absurd fails
  declined_debug Fault x fails d = absurd fails
  declined_debug answer x fails d = (x, fails, d)

  pub debugged : (answer : Answer) → Debugs name script keys answer c → DebugAnswers name script keys answer c
  debugged Done d = d
  debugged Fault d = d
  debugged answer d = absurd d.ends

  module _ (machine : Machine) (commands : List Command) (session : IsSession c.files name script keys machine commands) where
    pub debugs_in : HoldsState machine → (began end : Debugged) → began ≡ debugs machine → c.last_new ≡ record c.last_old { machine = Some end.machine } → Silent c.err
        → (answer : Answer) → EndsDebugging answer commands began end c.out → Debugs name script keys answer c
    debugs_in memory began end is left silent answer ends =
        let ended : EndsDebugging answer (commands_of session.lines) (debugs machine) end c.out =
        subst (λ (cs : List Command). EndsDebugging answer cs (debugs machine) end c.out) session.commands_are
        (subst (λ (d : Debugged). EndsDebugging answer commands d end c.out) is ends) in
        let image = session.boots.0 in
        let boots = session.boots.2 in
        record {
          bytes = session.bytes;
          lines = session.lines;
          have = session.have;
          image = image;
          holds = session.boots.1;
          formed = session.formed;
          start = machine;
          boots = boots;
          memory = memory;
          end = end;
          from = runs_to_end image (grant_of keys) keys.lanes keys.seed answer (commands_of session.lines) (debugs machine) end c.out boots.from ended;
          left = left;
          ends = ended;
          silent = silent;
        }

module _ (files : Option Files) (before now : ℕ) (name script : List ℕ) where
  pub unread_code : (answer : Answer) → FileFails before now (told files name) answer → DebugFails files before now name script answer name
  unread_code Unread fails = (record { before = []; after = script ∷ []; split = refl; texts = []; have = tt }, fails)
  unread_code NoMemory fails = tt
  unread_code answer fails = absurd fails

  pub unread_script : (between : ℕ) → before ≤ between → (bytes : List ℕ) → IsText (told files name) bytes → (answer : Answer)
      → FileFails between now (told files script) answer → DebugFails files before now name script answer script
  unread_script between later bytes is Unread fails = (
    record { before = name ∷ []; after = []; split = refl; texts = bytes ∷ []; have = (is, tt) },
    ⊎_elim (λ rose. inl (rose-later before between now later rose)) inr fails,
  )
  unread_script between later bytes is NoMemory fails = tt
  unread_script between later bytes is answer fails = absurd fails

  module _ (bytes lines : List ℕ) (have : HaveBoth files name script bytes lines) where
    pub not_booted : (text : Bool) → is_text name ≡ text → (answer : Answer) → NotBooted (not text) bytes answer
        → DebugFails files before now name script answer name
    not_booted text is NoMemory why = tt
    not_booted true is (TextRefused refusal) why = (refl, is, bytes, lines, have, why)
    not_booted false is (Refused refusal) why = (refl, is, bytes, lines, have, why)
    not_booted true is answer why = absurd why
    not_booted false is answer why = absurd why

    pub not_commands : (image : RomImage) → HoldsCode (not (is_text name)) bytes image → (answer : Answer) → NotCommands lines answer
        → DebugFails files before now name script answer script
    not_commands image holds NoMemory why = tt
    not_commands image holds (ScriptRefused line) why = (refl, bytes, lines, have, image, holds, why)
    not_commands image holds answer why = absurd why

pub declined_exec : (answer : Answer) (c : Call) (name : List ℕ) (keys : Keys) → LoadFails c.faults_old c.faults_new (told c.files name) answer
    → Declines answer c name → ExecAnswers name keys answer c
declined_exec Unread c name keys fails d = (fails, d)
declined_exec (Refused why) c name keys fails d = (record { bytes = fails.0; text = fails.1; refused = fails.2 }, d)
declined_exec NoMemory c name keys fails d = record { line = d.line; out = d.out; last = d.last }
declined_exec answer c name keys fails d = absurd fails

pub executed : (answer : Answer) (c : Call) (name : List ℕ) (keys : Keys) → Executes name keys answer c → ExecAnswers name keys answer c
executed Unread c name keys e = absurd e.ends
executed (Refused why) c name keys e = absurd e.ends
executed NoMemory c name keys e = absurd e.ends
executed answer c name keys e = e
