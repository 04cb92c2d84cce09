-- What `link` answers, and what it leaves.
use Rattle.std.specs.Prelude.{◌≡◌, ◌⊎◌, ℕ, List, [], None, Ok}
use Rattle.quad_memory.specs.Image.{RomImage}
use Rattle.uasm_read.specs.Modules.{ModuleParts}
use Rattle.uasm_read.specs.Links.{link_fault}
use Rattle.uasm_image.specs.Spelled.{spelled}
use Rattle.hum_command.specs.Writes.{Writes, Wrote, WroteFront, Silent, Faultless}
use Rattle.hum_command.specs.Texts.{HaveTexts, AreTold}
use Rattle.hum_command.specs.Link.{modules_of, LinkTo, RefusedBy}
use Rattle.hum_command.specs.Call.{Call, Declines, DeclinesFor, NotRead, Reads}
use Rattle.hum_command.specs.declared.refusal.Refusal.{Refusal}
use Rattle.hum_command.specs.declared.answer.Answer.{Answer}
use Rattle.hum_command.specs.declared.answer.Answer.TheVariants.{Done, Unread, Fault, NoMemory, Refused}

-- the files link to an image, and of its bytes this was written to out; nothing else was, and the record is as it was
pub record LinksFiles (names : List (List ℕ)) (Writing : Writes → List ℕ → Type 0) (c : Call) : Type 0 where
  pub texts : List (List ℕ)
  pub have : HaveTexts c.files names texts
  pub image : RomImage
  pub links : LinkTo names texts image
  pub out : Writing c.out (spelled image)
  pub silent : Silent c.err
  pub last : c.last_new ≡ c.last_old

-- the files are refused, and the file of that name is told
pub record RefusesFiles (names : List (List ℕ)) (why : Refusal) (c : Call) (name : List ℕ) : Type 0 where
  pub texts : List (List ℕ)
  pub have : HaveTexts c.files names texts
  pub refused : RefusedBy names texts why name

abbrev pub LinkAnswers : List (List ℕ) → Answer → Call → Type 0
-- The bytes of the image that the files link to were written.
LinkAnswers names Done c = LinksFiles names Wrote c
-- A write failed, and a front of the bytes of that image was written.
LinkAnswers names Fault c = LinksFiles names WroteFront c
-- A file could not be read, and none of those before it is told to be absent.
LinkAnswers names Unread c = DeclinesFor (NotRead names) Unread c
-- A file is no module, or the modules do not link.
LinkAnswers names (Refused why) c = DeclinesFor (RefusesFiles names why) (Refused why) c
-- There was no memory.
LinkAnswers names NoMemory c = Declines NoMemory c []
-- There is no other answer.
LinkAnswers names answer c = ⊥

-- Where the texts of the files are told and no count rises: modules that link are linked, and files that are refused are so, or else there
-- is no memory.
pub record LinkCompletes (names : List (List ℕ)) (status : ℕ) (c : Call) : Type 0 where
  pub done : (texts : List (List ℕ)) (modules : List ModuleParts) → AreTold c.files names texts → modules_of names texts ≡ Ok modules
      → link_fault modules ≡ None → Reads c → Faultless c.out → (status ≡ 0) ⊎ (status ≡ 7)
  pub refused : (texts : List (List ℕ)) (why : Refusal) (name : List ℕ) → AreTold c.files names texts → RefusedBy names texts why name
      → Reads c → (status ≡ 10) ⊎ (status ≡ 7)
