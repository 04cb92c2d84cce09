-- What `asm` answers, and what it leaves.
use Rattle.std.specs.Prelude.{◌≡◌, ◌⊎◌, true, false, ℕ, List, [], Some}
use Rattle.hum_outside.specs.Outside.{told}
use Rattle.quad_memory.specs.Image.{RomImage}
use Rattle.hum_front.specs.Accepted.{IsRefusal}
use Rattle.hum_front.specs.declared.error.StartError.{StartError}
use Rattle.hum_command.specs.Writes.{Writes, Wrote, WroteFront, Silent, Faultless}
use Rattle.hum_command.specs.Texts.{IsText, Unreadable}
use Rattle.hum_command.specs.Images.{Unloaded}
use Rattle.hum_command.specs.Code.{is_assembled, HoldsCode, IsListing}
use Rattle.hum_command.specs.Call.{Call, Declines, Reads}
use Rattle.hum_command.specs.RunAnswers.{RefusesFileText}
use Rattle.hum_command.specs.ExecAnswers.{RefusesFile}
use Rattle.hum_command.specs.declared.refusal.Refusal.{Refusal}
use Rattle.hum_command.specs.declared.answer.Answer.{Answer}
use Rattle.hum_command.specs.declared.answer.Answer.TheVariants.{Done, Unread, Fault, NoMemory, TextRefused, Refused}

-- the file holds the code of an image, and of the text of its listing this was written to out; nothing else was, and the record is as it was
pub record ListsFile (name : List ℕ) (Writing : Writes → List ℕ → Type 0) (c : Call) : Type 0 where
  pub bytes : List ℕ
  pub read : IsText (told c.files name) bytes
  pub image : RomImage
  pub holds : HoldsCode (is_assembled name) bytes image
  pub text : List ℕ
  pub listing : IsListing image text
  pub out : Writing c.out text
  pub silent : Silent c.err
  pub last : c.last_new ≡ c.last_old

abbrev pub AsmAnswers : List ℕ → Answer → Call → Type 0
-- The listing of the file's code was written.
AsmAnswers name Done c = ListsFile name Wrote c
-- A write failed, and a front of the listing was written.
AsmAnswers name Fault c = ListsFile name WroteFront c
-- The file could not be read.
AsmAnswers name Unread c = Unreadable c.faults_old c.faults_new (told c.files name) × Declines Unread c name
-- The file is a text, which is refused.
AsmAnswers name (TextRefused why) c =
    (is_assembled name ≡ false) × RefusesFileText (told c.files name) why × Declines (TextRefused why) c name
-- The file is read as by `exec`, and holds no image.
AsmAnswers name (Refused why) c = (is_assembled name ≡ true) × RefusesFile name why c × Declines (Refused why) c name
-- There was no memory.
AsmAnswers name NoMemory c = Declines NoMemory c []
-- There is no other answer.
AsmAnswers name answer c = ⊥

-- Where the bytes of the file are told and no count rises: code is listed, and what holds none is refused, or else there is no memory.
pub record AsmCompletes (name : List ℕ) (status : ℕ) (c : Call) : Type 0 where
  pub done : (bytes : List ℕ) (image : RomImage) → told c.files name ≡ Some (Some bytes) → HoldsCode (is_assembled name) bytes image
      → Reads c → Faultless c.out → (status ≡ 0) ⊎ (status ≡ 7)
  pub refused_text : (text : List ℕ) (why : StartError) → told c.files name ≡ Some (Some text) → is_assembled name ≡ false → IsRefusal text why
      → Reads c → (status ≡ 3) ⊎ (status ≡ 7)
  pub refused : (bytes : List ℕ) (why : Refusal) → told c.files name ≡ Some (Some bytes) → is_assembled name ≡ true → Unloaded why bytes
      → Reads c → (status ≡ 10) ⊎ (status ≡ 7)
