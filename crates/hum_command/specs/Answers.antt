-- The answers of the program: to each command its own, and for each answer why it comes and what it leaves.
use Rattle.std.specs.Prelude.{◌≡◌, ℕ, List, [], Option, None, Some}
use Rattle.hum_command.specs.Words.{Request, Run, Asm, Link, Exec, Debug, Chain, request_of}
use Rattle.hum_command.specs.Call.{Call, Declines}
use Rattle.hum_command.specs.RunAnswers.{RunAnswers, RunCompletes, ChainAnswers, ChainCompletes}
use Rattle.hum_command.specs.AsmAnswers.{AsmAnswers, AsmCompletes}
use Rattle.hum_command.specs.LinkAnswers.{LinkAnswers, LinkCompletes}
use Rattle.hum_command.specs.ExecAnswers.{ExecAnswers, ExecCompletes}
use Rattle.hum_command.specs.DebugAnswers.{DebugAnswers, DebugCompletes}
use Rattle.hum_command.specs.declared.answer.Answer.{Answer}
use Rattle.hum_command.specs.declared.answer.Answer.TheVariants.{Done, Usage, Unread, TextRefused, Fault, Spent, Bound, NoMemory, EventFailed, Refused, ScriptRefused}

-- the exit status
abbrev pub status_of : Answer → ℕ
status_of Done = 0
status_of Usage = 1
status_of Unread = 2
status_of (TextRefused why) = 3
status_of Fault = 4
status_of (Spent kind) = 5
status_of Bound = 6
status_of NoMemory = 7
status_of EventFailed = 9
status_of (Refused why) = 10
status_of (ScriptRefused line) = 11

-- ---- why an answer comes

abbrev pub AnsweredTo : Option Request → Answer → Call → Type 0
-- Words without a form have the line of the forms.
AnsweredTo None answer c = (answer ≡ Usage) × Declines Usage c []
AnsweredTo (Some (Run name keys)) answer c = RunAnswers name keys answer c
AnsweredTo (Some (Asm name)) answer c = AsmAnswers name answer c
AnsweredTo (Some (Link names)) answer c = LinkAnswers names answer c
AnsweredTo (Some (Exec name keys)) answer c = ExecAnswers name keys answer c
AnsweredTo (Some (Debug name script keys)) answer c = DebugAnswers name script keys answer c
AnsweredTo (Some (Chain n keys)) answer c = ChainAnswers n keys answer c

-- these words were answered so
abbrev pub Answered : List (List ℕ) → Answer → Call → Type 0
Answered words answer c = AnsweredTo (request_of words) answer c

-- ---- which answers come where nothing fails

abbrev pub CompletesFor : Option Request → ℕ → Call → Type 0
CompletesFor None status c = status ≡ 1
CompletesFor (Some (Run name keys)) status c = RunCompletes name keys status c
CompletesFor (Some (Asm name)) status c = AsmCompletes name status c
CompletesFor (Some (Link names)) status c = LinkCompletes names status c
CompletesFor (Some (Exec name keys)) status c = ExecCompletes name keys status c
CompletesFor (Some (Debug name script keys)) status c = DebugCompletes name script status c
CompletesFor (Some (Chain n keys)) status c = ChainCompletes n keys status c

-- where nothing fails, what these words ask for is done or refused
abbrev pub Completes : List (List ℕ) → ℕ → Call → Type 0
Completes words status c = CompletesFor (request_of words) status c
