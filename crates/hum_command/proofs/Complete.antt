-- Where nothing fails, each command is done or refused.
use Rattle.std.proofs.Common.{Bool, true, false, not, ◌≡◌, ◌⊎◌, ◌∙◌, ℕ, List, [], ◌∷◌, codes, Option, Some, None, Ok, refl, sym, ap, subst, inl, inr, ⊎_elim, arith}
use Rattle.std.proofs.lemmas.Option.{none-some}
use Rattle.hum_outside.specs.Outside.{told}
use Rattle.quad_memory.specs.Image.{RomImage}
use Rattle.uasm_image.specs.Refused.{IsRefusedAt}
use Rattle.uasm_image.proofs.Once.{faultless}
use Rattle.uasm_read.specs.Modules.{ModuleParts}
use Rattle.uasm_read.specs.Links.{link_fault}
use Rattle.hum_command.specs.Writes.{Writes, Wrote, WroteFront, Faultless}
use Rattle.hum_command.specs.Texts.{IsNext, Unreadable, AreTold}
use Rattle.hum_command.specs.Link.{modules_of, LinkTo, RefusedBy}
use Rattle.hum_command.specs.Images.{Holds, HoldsNone, Loads, Unloaded, LinksAlone, UnlinkedAlone, is_image_file}
use Rattle.hum_run.specs.Drive.{written_by}
use Rattle.hum_command.specs.Call.{Call, NotRead, Reads}
use Rattle.hum_command.specs.MachineAnswers.{EndsRun}
use Rattle.hum_front.specs.Accepted.{IsRefusal}
use Rattle.hum_front.specs.declared.error.StartError.{StartError}
use Rattle.hum_front.proofs.Programs.{never_both}
use Rattle.hum_command.specs.Code.{is_assembled, HoldsCode}
use Rattle.hum_command.specs.TextRefusals.{RefusesText}
use Rattle.hum_command.specs.AsmAnswers.{ListsFile, AsmAnswers, AsmCompletes}
use Rattle.hum_command.specs.Debugging.{is_text, script_fault}
use Rattle.hum_command.specs.DebugAnswers.{HaveBoth, DebugAnswers, Told, DebugCompletes}
use Rattle.hum_command.specs.LinkAnswers.{LinksFiles, RefusesFiles, LinkAnswers, LinkCompletes}
use Rattle.hum_command.specs.ExecAnswers.{Executes, ExecAnswers, ExecCompletes}
use Rattle.hum_command.specs.Words.{Request, Run, Asm, Link, Exec, Debug, Chain}
use Rattle.hum_command.specs.RunAnswers.{chain_file}
use Rattle.hum_command.specs.Answers.{AnsweredTo, CompletesFor, status_of}
use Rattle.hum_command.specs.declared.keys.Keys.{Keys}
use Rattle.hum_command.specs.declared.refusal.Refusal.TheVariants.{FileTooLong, Image, Module}
use Rattle.hum_command.specs.declared.refusal.Refusal.{Refusal}
use Rattle.hum_command.specs.declared.refusal.TextRefusal.{TextRefusal}
use Rattle.hum_command.specs.declared.answer.Answer.{Answer}
use Rattle.hum_command.specs.declared.answer.Answer.TheVariants.{Done, Unread, TextRefused, Fault, Spent, Bound, NoMemory, EventFailed, Refused, ScriptRefused}
use Rattle.hum_command.proofs.Texts.{told_there, same_texts}
use Rattle.hum_command.proofs.Causes.{chain_as_file}
use Rattle.hum_command.proofs.RunComplete.{run_completes, reached, file_there, told_of, unbroken, accepts}

-- ---- `link`

linked_there : (names texts : List (List ℕ)) (modules : List ModuleParts) (why : Refusal) (name : List ℕ) → modules_of names texts ≡ Ok modules
    → link_fault modules ≡ None → RefusedBy names texts why name → ⊥
linked_there names texts modules why name read sound refused = ⊎_elim
    (λ bad. let other = bad.2 in cc)
    (λ fails.
    let other = fails.read in
    let same : fails.modules ≡ modules = cc in
    let fault : link_fault modules ≡ Some fails.fault = ap link_fault (sym same) ∙ fails.fails in cc) refused

module _ (names texts : List (List ℕ)) (c : Call) (are : AreTold c.files names texts) where
  -- each file is there
  read_there : (name : List ℕ) → NotRead names c name → Reads c → ⊥
  read_there name not_read no_fault = ⊎_elim no_fault
      (λ none. told_there c.files not_read.0.before not_read.0.after texts name (subst (λ (ns : List (List ℕ)). AreTold c.files ns texts) not_read.0.split are) none) not_read.1

  refused_with : (why : Refusal) (name : List ℕ) → RefusesFiles names why c name → RefusedBy names texts why name
  refused_with why name refuses = subst (λ (ts : List (List ℕ)). RefusedBy names ts why name) (same_texts c.files names texts refuses.texts are refuses.have) refuses.refused

  module _ (modules : List ModuleParts) (read : modules_of names texts ≡ Ok modules) (sound : link_fault modules ≡ None) (no_fault : Reads c) (no_out : Faultless c.out) where
    link_done : (answer : Answer) → LinkAnswers names answer c → (status_of answer ≡ 0) ⊎ (status_of answer ≡ 7)
    link_done Done a = inl refl
    link_done NoMemory a = inr refl
    link_done Unread a = absurd (read_there a.0 a.1 no_fault)
    link_done (Refused why) a = absurd (linked_there names texts modules why a.0 read sound (refused_with why a.0 a.1))
    link_done Fault a = absurd (no_out a.out.1)
    link_done answer a = absurd a

  module _ (why : Refusal) (name : List ℕ) (refused : RefusedBy names texts why name) (no_fault : Reads c) where
    links_not : (image : RomImage) → LinkTo names texts image → ⊥
    links_not image links = linked_there names texts links.modules why name links.read links.linked.sound refused

    links_none : (Writing : Writes → List ℕ → Type 0) → LinksFiles names Writing c → ⊥
    links_none Writing files = links_not files.image (subst (λ (ts : List (List ℕ)). LinkTo names ts files.image) (same_texts c.files names texts files.texts are files.have) files.links)

    link_refused : (answer : Answer) → LinkAnswers names answer c → (status_of answer ≡ 10) ⊎ (status_of answer ≡ 7)
    link_refused (Refused other) a = inl refl
    link_refused NoMemory a = inr refl
    link_refused Unread a = absurd (read_there a.0 a.1 no_fault)
    link_refused Done a = absurd (links_none Wrote a)
    link_refused Fault a = absurd (links_none WroteFront a)
    link_refused answer a = absurd a

link_completes : (names : List (List ℕ)) (answer : Answer) (c : Call) → LinkAnswers names answer c → LinkCompletes names (status_of answer) c
link_completes names answer c a = record {
  done = λ texts modules are read sound no_fault no_out. link_done names texts c are modules read sound no_fault no_out answer a;
  refused = λ texts why name are refused no_fault. link_refused names texts c are why name refused no_fault answer a;
}

-- ---- `exec`

unlinked : (bytes : List ℕ) (image : RomImage) (why : Refusal) → LinksAlone bytes image → UnlinkedAlone bytes why → ⊥
unlinked bytes image why links un =
    let one = links.assembles in
    let other = un.assembles in
    let same : un.parts ≡ links.parts = cc in
    let fault : link_fault (links.parts ∷ []) ≡ Some un.fault = ap (λ (m : ModuleParts). link_fault (m ∷ [])) (sym same) ∙ un.fails in
    let sound = links.linked.sound in cc

holds_one : (image_file : Bool) (why : Refusal) (bytes : List ℕ) (image : RomImage) → Holds image_file bytes image → HoldsNone image_file why bytes → ⊥
holds_one true (Image why) bytes image holds none =
    faultless image why.at why.cause holds.0 (subst (λ (bs : List ℕ). IsRefusedAt bs why.at why.cause) holds.1 none)
holds_one true why bytes image holds none = absurd none
holds_one false (Module why) bytes image holds none = let one = holds.assembles in cc
holds_one false why bytes image holds none = unlinked bytes image why holds none

loaded : (why : Refusal) (bytes : List ℕ) (image : RomImage) → Loads bytes image → Unloaded why bytes → ⊥
loaded FileTooLong bytes image loads un = omega (arith, loads.short, un)
loaded why bytes image loads un = holds_one (is_image_file bytes) why bytes image loads.holds un.1

module _ (name bytes : List ℕ) (keys : Keys) (c : Call) (is : told c.files name ≡ Some (Some bytes)) (no_fault : Reads c) where
  module _ (image : RomImage) (loads : Loads bytes image) (no_out : Faultless c.out) (no_err : Faultless c.err) where
    exec_runs : (answer : Answer) → ExecAnswers name keys answer c → EndsRun keys.bound (status_of answer)
    exec_runs Done a = inl refl
    exec_runs (Spent kind) a = inr (inl refl)
    exec_runs NoMemory a = inr (inr (inl refl))
    exec_runs EventFailed a = inr (inr (inr (inl refl)))
    exec_runs Bound a = let some = reached keys.bound a.machine.state a.ends.stops.1 in inr (inr (inr (inr (refl, some.0, some.1))))
    exec_runs Unread a = absurd (file_there (told c.files name) bytes c is no_fault a.0)
    exec_runs (Refused why) a = absurd (loaded why bytes image loads (told_of (told c.files name) bytes is (Unloaded why) a.0.bytes a.0.text a.0.refused))
    exec_runs Fault a = absurd (unbroken keys.bound a.machine (written_by a.machine) c no_out no_err a.ends)
    exec_runs answer a = absurd a.ends

  module _ (why : Refusal) (un : Unloaded why bytes) where
    executes_none : (answer : Answer) → Executes name keys answer c → ⊥
    executes_none answer e = loaded why bytes e.image (told_of (told c.files name) bytes is (λ bs. Loads bs e.image) e.bytes e.text e.loads) un

    exec_refused : (answer : Answer) → ExecAnswers name keys answer c → (status_of answer ≡ 10) ⊎ (status_of answer ≡ 7)
    exec_refused (Refused other) a = inl refl
    exec_refused NoMemory a = inr refl
    exec_refused Unread a = absurd (file_there (told c.files name) bytes c is no_fault a.0)
    exec_refused answer a = absurd (executes_none answer a)

exec_completes : (name : List ℕ) (keys : Keys) (answer : Answer) (c : Call) → ExecAnswers name keys answer c → ExecCompletes name keys (status_of answer) c
exec_completes name keys answer c a = record {
  runs = λ bytes image is loads no_fault no_out no_err. exec_runs name bytes keys c is no_fault image loads no_out no_err answer a;
  refused = λ bytes why is un no_fault. exec_refused name bytes keys c is no_fault why un answer a;
}

-- ---- `asm`

module _ (name bytes : List ℕ) (c : Call) (is : told c.files name ≡ Some (Some bytes)) (no_fault : Reads c) where
  -- code is not refused
  holds_code : (image : RomImage) → (assembled : Bool) → is_assembled name ≡ assembled → HoldsCode assembled bytes image
      → (answer : Answer) → Faultless c.out → AsmAnswers name answer c → (status_of answer ≡ 0) ⊎ (status_of answer ≡ 7)
  holds_code image assembled by holds Done no_out a = inl refl
  holds_code image assembled by holds NoMemory no_out a = inr refl
  holds_code image assembled by holds Unread no_out a = absurd (file_there (told c.files name) bytes c is no_fault a.0)
  holds_code image assembled by holds Fault no_out a = absurd (no_out a.out.1)
  holds_code image true by holds (Refused why) no_out a =
      absurd (loaded why bytes image holds (told_of (told c.files name) bytes is (Unloaded why) a.1.bytes a.1.text a.1.refused))
  holds_code image false by holds (Refused why) no_out a = let other = a.0 in absurd (cc)
  holds_code image false by holds (TextRefused why) no_out a =
      absurd (accepts bytes holds.tree why holds.accepted (told_of (told c.files name) bytes is (λ (bs : List ℕ). RefusesText bs why) a.1.text a.1.is_text a.1.refused))
  holds_code image true by holds (TextRefused why) no_out a = let other = a.0 in absurd (cc)
  holds_code image assembled by holds answer no_out a = absurd a

  listed_code : (Writing : Writes → List ℕ → Type 0) (assembled : Bool) → is_assembled name ≡ assembled → (l : ListsFile name Writing c) → HoldsCode assembled bytes l.image
  listed_code Writing assembled by l = subst (λ (x : Bool). HoldsCode x bytes l.image) by
      (told_of (told c.files name) bytes is (λ bs. HoldsCode (is_assembled name) bs l.image) l.bytes l.read l.holds)

  module _ (why : StartError) (by : is_assembled name ≡ false) (refusal : IsRefusal bytes why) where
    lists_no_text : (Writing : Writes → List ℕ → Type 0) → ListsFile name Writing c → ⊥
    lists_no_text Writing l = let holds = listed_code Writing false by l in never_both bytes holds.tree why holds.accepted refusal

    asm_refused_text : (answer : Answer) → AsmAnswers name answer c → (status_of answer ≡ 3) ⊎ (status_of answer ≡ 7)
    asm_refused_text (TextRefused other) a = inl refl
    asm_refused_text NoMemory a = inr refl
    asm_refused_text Unread a = absurd (file_there (told c.files name) bytes c is no_fault a.0)
    asm_refused_text (Refused other) a = let no = a.0 in absurd (cc)
    asm_refused_text Done a = absurd (lists_no_text Wrote a)
    asm_refused_text Fault a = absurd (lists_no_text WroteFront a)
    asm_refused_text answer a = absurd a

  module _ (why : Refusal) (by : is_assembled name ≡ true) (un : Unloaded why bytes) where
    lists_no_image : (Writing : Writes → List ℕ → Type 0) → ListsFile name Writing c → ⊥
    lists_no_image Writing l = loaded why bytes l.image (listed_code Writing true by l) un

    asm_refused : (answer : Answer) → AsmAnswers name answer c → (status_of answer ≡ 10) ⊎ (status_of answer ≡ 7)
    asm_refused (Refused other) a = inl refl
    asm_refused NoMemory a = inr refl
    asm_refused Unread a = absurd (file_there (told c.files name) bytes c is no_fault a.0)
    asm_refused (TextRefused other) a = let no = a.0 in absurd (cc)
    asm_refused Done a = absurd (lists_no_image Wrote a)
    asm_refused Fault a = absurd (lists_no_image WroteFront a)
    asm_refused answer a = absurd a

asm_completes : (name : List ℕ) (answer : Answer) (c : Call) → AsmAnswers name answer c → AsmCompletes name (status_of answer) c
asm_completes name answer c a = record {
  done = λ bytes image is holds no_fault no_out. holds_code name bytes c is no_fault image (is_assembled name) refl holds answer no_out a;
  refused_text = λ text why is by refusal no_fault. asm_refused_text name text c is no_fault why by refusal answer a;
  refused = λ bytes why is by un no_fault. asm_refused name bytes c is no_fault why by un answer a;
}

-- ---- `debug`

-- code is accepted, or refused, and not both
module _ (bytes : List ℕ) (image : RomImage) where
  not_refused_text : (text : Bool) (why : TextRefusal) → text ≡ true → HoldsCode (not text) bytes image → RefusesText bytes why → ⊥
  not_refused_text true why is holds refused = accepts bytes holds.tree why holds.accepted refused
  not_refused_text false why is holds refused = absurd (cc)

  not_unloaded : (text : Bool) (why : Refusal) → text ≡ false → HoldsCode (not text) bytes image → Unloaded why bytes → ⊥
  not_unloaded false why is holds un = loaded why bytes image holds un
  not_unloaded true why is holds un = absurd (cc)

  not_refusal : (text : Bool) (why : StartError) → text ≡ true → HoldsCode (not text) bytes image → IsRefusal bytes why → ⊥
  not_refusal true why is holds refusal = never_both bytes holds.tree why holds.accepted refusal
  not_refusal false why is holds refusal = absurd (cc)

module _ (name script bytes lines : List ℕ) (c : Call) (are : Told c name script bytes lines) where
  -- both files are there
  both_there : (x : List ℕ) → IsNext c.files (name ∷ script ∷ []) x → Unreadable c.faults_old c.faults_new (told c.files x) → ⊥
  both_there x next cause = ⊎_elim are.reads
      (λ none. told_there c.files next.before next.after (bytes ∷ lines ∷ []) x
      (subst (λ (ns : List (List ℕ)). AreTold c.files ns (bytes ∷ lines ∷ [])) next.split (are.code, (are.commands, tt))) none) cause

  module _ (bs ls : List ℕ) (have : HaveBoth c.files name script bs ls) where
    same_code : (P : List ℕ → Type 0) → P bs → P bytes
    same_code P p = told_of (told c.files name) bytes are.code P bs have.code p

    same_lines : (P : List ℕ → Type 0) → P ls → P lines
    same_lines P p = told_of (told c.files script) lines are.commands P ls have.commands p

    -- the script has commands
    formed_not : (line : ℕ) → script_fault lines ≡ Some line → script_fault ls ≡ None → ⊥
    formed_not line fault formed = none-some line (sym (same_lines (λ (xs : List ℕ). script_fault xs ≡ None) formed) ∙ fault)

  module _ (image : RomImage) (holds : HoldsCode (not (is_text name)) bytes image) where
    debug_done : (answer : Answer) (keys : Keys) → script_fault lines ≡ None → Faultless c.out → DebugAnswers name script keys answer c
        → (status_of answer ≡ 0) ⊎ (status_of answer ≡ 7)
    debug_done Done keys formed no_out a = inl refl
    debug_done NoMemory keys formed no_out a = inr refl
    debug_done Fault keys formed no_out a = absurd (no_out a.ends.1)
    debug_done Unread keys formed no_out a = absurd (both_there a.0 a.1.0 a.1.1)
    debug_done (TextRefused why) keys formed no_out a =
        let r = a.1 in absurd (not_refused_text bytes image (is_text name) why r.1 holds (same_code r.2 r.3 r.4 (λ (bs : List ℕ). RefusesText bs why) r.5))
    debug_done (Refused why) keys formed no_out a =
        let r = a.1 in absurd (not_unloaded bytes image (is_text name) why r.1 holds (same_code r.2 r.3 r.4 (λ (bs : List ℕ). Unloaded why bs) r.5))
    debug_done (ScriptRefused line) keys formed no_out a =
        let r = a.1 in
        let fault = same_lines r.1 r.2 r.3 (λ (ls : List ℕ). script_fault ls ≡ Some line) r.6 in absurd (none-some line (sym formed ∙ fault))
    debug_done answer keys formed no_out a = absurd a.1

    debug_refused_script : (line : ℕ) → script_fault lines ≡ Some line → (answer : Answer) (keys : Keys) → DebugAnswers name script keys answer c
        → (status_of answer ≡ 11) ⊎ (status_of answer ≡ 7)
    debug_refused_script line fault (ScriptRefused other) keys a = inl refl
    debug_refused_script line fault NoMemory keys a = inr refl
    debug_refused_script line fault Unread keys a = absurd (both_there a.0 a.1.0 a.1.1)
    debug_refused_script line fault (TextRefused why) keys a =
        let r = a.1 in absurd (not_refused_text bytes image (is_text name) why r.1 holds (same_code r.2 r.3 r.4 (λ (bs : List ℕ). RefusesText bs why) r.5))
    debug_refused_script line fault (Refused why) keys a =
        let r = a.1 in absurd (not_unloaded bytes image (is_text name) why r.1 holds (same_code r.2 r.3 r.4 (λ (bs : List ℕ). Unloaded why bs) r.5))
    debug_refused_script line fault Done keys a = absurd (formed_not a.bytes a.lines a.have line fault a.formed)
    debug_refused_script line fault Fault keys a = absurd (formed_not a.bytes a.lines a.have line fault a.formed)
    debug_refused_script line fault answer keys a = absurd a.1

  module _ (why : StartError) (is : is_text name ≡ true) (refusal : IsRefusal bytes why) where
    no_code_text : (bs ls : List ℕ) (image : RomImage) → HaveBoth c.files name script bs ls → HoldsCode (not (is_text name)) bs image → ⊥
    no_code_text bs ls image have holds =
        not_refusal bytes image (is_text name) why is (same_code bs ls have (λ (xs : List ℕ). HoldsCode (not (is_text name)) xs image) holds) refusal

    debug_refused_text : (answer : Answer) (keys : Keys) → DebugAnswers name script keys answer c → (status_of answer ≡ 3) ⊎ (status_of answer ≡ 7)
    debug_refused_text (TextRefused other) keys a = inl refl
    debug_refused_text NoMemory keys a = inr refl
    debug_refused_text Unread keys a = absurd (both_there a.0 a.1.0 a.1.1)
    debug_refused_text (Refused other) keys a = absurd (let yes = is in let no = a.1.1 in cc)
    debug_refused_text (ScriptRefused line) keys a = let r = a.1 in absurd (no_code_text r.1 r.2 r.4 r.3 r.5)
    debug_refused_text Done keys a = absurd (no_code_text a.bytes a.lines a.image a.have a.holds)
    debug_refused_text Fault keys a = absurd (no_code_text a.bytes a.lines a.image a.have a.holds)
    debug_refused_text answer keys a = absurd a.1

  module _ (why : Refusal) (is : is_text name ≡ false) (un : Unloaded why bytes) where
    no_code : (bs ls : List ℕ) (image : RomImage) → HaveBoth c.files name script bs ls → HoldsCode (not (is_text name)) bs image → ⊥
    no_code bs ls image have holds =
        not_unloaded bytes image (is_text name) why is (same_code bs ls have (λ (xs : List ℕ). HoldsCode (not (is_text name)) xs image) holds) un

    debug_refused : (answer : Answer) (keys : Keys) → DebugAnswers name script keys answer c → (status_of answer ≡ 10) ⊎ (status_of answer ≡ 7)
    debug_refused (Refused other) keys a = inl refl
    debug_refused NoMemory keys a = inr refl
    debug_refused Unread keys a = absurd (both_there a.0 a.1.0 a.1.1)
    debug_refused (TextRefused other) keys a = absurd (let yes = is in let no = a.1.1 in cc)
    debug_refused (ScriptRefused line) keys a = let r = a.1 in absurd (no_code r.1 r.2 r.4 r.3 r.5)
    debug_refused Done keys a = absurd (no_code a.bytes a.lines a.image a.have a.holds)
    debug_refused Fault keys a = absurd (no_code a.bytes a.lines a.image a.have a.holds)
    debug_refused answer keys a = absurd a.1

debug_completes : (name script : List ℕ) (keys : Keys) (answer : Answer) (c : Call) → DebugAnswers name script keys answer c
    → DebugCompletes name script (status_of answer) c
debug_completes name script keys answer c a = record {
  done = λ bytes lines image are holds formed no_out. debug_done name script bytes lines c are image holds answer keys formed no_out a;
  refused_text = λ bytes lines why are is refusal. debug_refused_text name script bytes lines c are why is refusal answer keys a;
  refused = λ bytes lines why are is un. debug_refused name script bytes lines c are why is un answer keys a;
  refused_script = λ bytes lines image line are holds fault. debug_refused_script name script bytes lines c are image holds line fault answer keys a;
}

-- ---- each command

completes_for : (request : Option Request) (answer : Answer) (c : Call) → AnsweredTo request answer c → CompletesFor request (status_of answer) c
completes_for None answer c a = ap status_of a.0
completes_for (Some (Run name keys)) answer c a = run_completes (told c.files name) name keys c answer a
completes_for (Some (Asm name)) answer c a = asm_completes name answer c a
completes_for (Some (Link names)) answer c a = link_completes names answer c a
completes_for (Some (Exec name keys)) answer c a = exec_completes name keys answer c a
completes_for (Some (Debug name script keys)) answer c a = debug_completes name script keys answer c a
completes_for (Some (Chain n keys)) answer c a = run_completes (chain_file n) (codes "chain") keys c answer (chain_as_file n keys c answer a)

pub completes : (request : Option Request) (answer : Answer) (status : ℕ) (c : Call) → status ≡ status_of answer → AnsweredTo request answer c → CompletesFor request status c
completes request answer status c is a = subst (λ (n : ℕ). CompletesFor request n c) (sym is) (completes_for request answer c a)
