use Rattle.std.proofs.Common.{◌≡◌, ℕ, ◌<◌, ◌≤◌, Bool, not, length, Option, MatchOption, IfSome, sym, subst}
use Rattle.hum_outside.specs.Outside.{Files, told}
use Rattle.hum_command.specs.Texts.{IsText, FileFails}
use Rattle.hum_command.specs.Debugging.{BootsCode}
use Rattle.hum_command.specs.DebugAnswers.{HaveBoth}
use Rattle.hum_command.proofs.Texts.{read_within}
use Rattle.hum_command.proofs.Causes.{unread_code, unread_script, not_booted, not_commands}
use Rattle.hum_command.proofs.debug.read_session.Goals as goal

pub returns-in-Err-clause-fails : goal.returns-in-Err-clause-fails
returns-in-Err-clause-fails g c =
    let a = c.args in
    unread_code (g.F.Folder.files a.files.now) (g.F.Folder.faults a.files.now) (g.F.Folder.faults c.read_file.new.files) a.name.now a.script.now
    c.in-Err.answer c.in-Err.ensures.fails

pub returns-in-Err-read_file-clause-fails : goal.returns-in-Err-read_file-clause-fails
returns-in-Err-read_file-clause-fails g c =
    let a = c.args in
    let code = c.in-Ok.ensures in
    let fails = subst (λ (fs : Option Files). FileFails (g.F.Folder.faults c.read_file.new.files) (g.F.Folder.faults c.read_file-2.new.files) (told fs a.script.now)
    c.in-Err-read_file.answer) code.files c.in-Err-read_file.ensures.fails in
    unread_script (g.F.Folder.files a.files.now) (g.F.Folder.faults a.files.now) (g.F.Folder.faults c.read_file-2.new.files) a.name.now a.script.now
    (g.F.Folder.faults c.read_file.new.files) code.later code.read.0 code.read.1 c.in-Err-read_file.answer fails

pub boot_code-requires-clause-short : goal.boot_code-requires-clause-short
boot_code-requires-clause-short g c =
    let read = c.in-Ok.ensures.read in
    subst (λ (l : ℕ). IfSome c.in-Ok.code (λ v. length v.items ≤ l)) c.code_limit.ensures (read_within (λ v. v.items) c.code_limit.result read.0 c.in-Ok.code read.2)

pub commands_in-requires : goal.commands_in-requires
commands_in-requires g c =
    let read = c.in-Ok-read_file.ensures.read in
    read_within (λ v. v.items) 1048576 read.0 c.in-Ok-read_file.lines read.2

pub returns-in-Err-boot_code-clause-fails : goal.returns-in-Err-boot_code-clause-fails
returns-in-Err-boot_code-clause-fails g c =
    let a = c.args in
    let code = c.in-Ok.ensures in
    let lines = c.in-Ok-read_file.ensures.read in
    let within = subst (λ (l : ℕ). MatchOption c.in-Ok.code (l < length code.read.0) (λ v. (v.items ≡ code.read.0) × (length code.read.0 ≤ l))) c.code_limit.ensures code.read.2 in
    let have : HaveBoth (g.F.Folder.files a.files.now) a.name.now a.script.now code.read.0 lines.0 = record {
      code = code.read.1;
      commands = subst (λ (fs : Option Files). IsText (told fs a.script.now) lines.0) code.files lines.1;
    } in
    not_booted (g.F.Folder.files a.files.now) (g.F.Folder.faults a.files.now) (g.F.Folder.faults c.read_file-2.new.files) a.name.now a.script.now code.read.0 lines.0 have
    c.is_text-text.result (sym c.is_text-text.ensures) c.in-Err-boot_code.answer (c.in-Err-boot_code.ensures.fails code.read.0 within)

pub returns-in-Ok-commands_in-clause-session : goal.returns-in-Ok-commands_in-clause-session
returns-in-Ok-commands_in-clause-session g c =
    let a = c.args in
    let code = c.in-Ok.ensures in
    let lines = c.in-Ok-read_file.ensures.read in
    let within = subst (λ (l : ℕ). MatchOption c.in-Ok.code (l < length code.read.0) (λ v. (v.items ≡ code.read.0) × (length code.read.0 ≤ l))) c.code_limit.ensures code.read.2 in
    let commands = c.in-Ok-commands_in.ensures.commands lines.0 lines.2 in
    record {
      bytes = code.read.0;
      lines = lines.0;
      have = record {
        code = code.read.1;
        commands = subst (λ (fs : Option Files). IsText (told fs a.script.now) lines.0) code.files lines.1;
      };
      boots = subst (λ (b : Bool). BootsCode (not b) code.read.0 a.keys c.in-Ok-boot_code.machine) c.is_text-text.ensures (c.in-Ok-boot_code.ensures.boots code.read.0 within);
      formed = commands.0;
      commands_are = commands.1;
    }

pub returns-in-Err-commands_in-clause-fails : goal.returns-in-Err-commands_in-clause-fails
returns-in-Err-commands_in-clause-fails g c =
    let a = c.args in
    let code = c.in-Ok.ensures in
    let lines = c.in-Ok-read_file.ensures.read in
    let within = subst (λ (l : ℕ). MatchOption c.in-Ok.code (l < length code.read.0) (λ v. (v.items ≡ code.read.0) × (length code.read.0 ≤ l))) c.code_limit.ensures code.read.2 in
    let boots = subst (λ (b : Bool). BootsCode (not b) code.read.0 a.keys c.in-Ok-boot_code.machine) c.is_text-text.ensures (c.in-Ok-boot_code.ensures.boots code.read.0 within) in
    let have : HaveBoth (g.F.Folder.files a.files.now) a.name.now a.script.now code.read.0 lines.0 = record {
      code = code.read.1;
      commands = subst (λ (fs : Option Files). IsText (told fs a.script.now) lines.0) code.files lines.1;
    } in
    not_commands (g.F.Folder.files a.files.now) (g.F.Folder.faults a.files.now) (g.F.Folder.faults c.read_file-2.new.files) a.name.now a.script.now code.read.0 lines.0 have
    boots.0 boots.1 c.in-Err-commands_in.answer (c.in-Err-commands_in.ensures.fails lines.0 lines.2)
