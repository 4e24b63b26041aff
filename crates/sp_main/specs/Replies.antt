-- What the program answers to its command line. (This project's own.)
use Rattle.std.specs.Prelude.{◌≡◌, ◌⊎◌, ℕ, List, Option, codes, length, unwrap_or}
use Rattle.cls_link.specs.Links.{Links}
use Rattle.sp_words.specs.CommandLine.{AsksCheck, AsksRun, AsksSim, AsksText, IsUsageFault, RunWords, SimWords}
use Rattle.sp_main.specs.Folders.{AreFilesOf, Telling}
use Rattle.sp_texts.specs.RefusalTexts.{TellsRefusal, TellsUnreadable, unreadable_text}
use Rattle.sp_texts.specs.Reports.{CutsOff, IsTold, LeavesOther, Tells, line_of}
use Rattle.sp_files.specs.Programs.{IsNoProgram, IsProgram}
use Rattle.sp_runs.specs.Runs.{IsRefused, IsRun}
use Rattle.sp_texts.specs.Statuses.{code_of, outcome_status, refusal_status}
use Rattle.sp_texts.specs.Texts.{accepted_text, bad_line_text, outcome_text}
use Rattle.sp_files.specs.declared.refusal.Refusal.{Refusal}
use Rattle.sp_files.specs.declared.files.ClassBytes.{ClassBytes}
use Rattle.sp_files.specs.declared.outcome.RunOutcome.{RunOutcome}
use Rattle.sp_texts.specs.declared.status.Status.{Status}
use Rattle.sp_texts.specs.declared.status.Status.TheVariants.{Done, Failed}
use Rattle.vm_step.specs.declared.limits.Limits.{Limits}

-- what a task may use: the fuel that was said, or a million instructions
abbrev pub limits_of : Option ℕ → Limits
limits_of fuel = record { heap_words = 65536; stack_words = 16384; references = 1024; fuel = unwrap_or fuel 1000000 }

-- the arguments ask for something of a folder
abbrev pub AsksOf : List (List ℕ) → List ℕ → Type 0
AsksOf words folder = ((run : RunWords) × AsksRun words run × (folder ≡ run.folder))
    ⊎ (AsksCheck words folder ⊎ ((sim : SimWords) × AsksSim words sim × (folder ≡ sim.folder)))

-- What a script comes to, by the path of its file: it is done, and what it shows is not said here; a line of it is bad, by its number; or
-- its file cannot be read
pub data IsPlayed (path : List ℕ) (status : Status) (text : List ℕ) : Type 0 where
  done : status ≡ Done → IsPlayed path status text
  bad_line : (number : ℕ) → status ≡ Failed → text ≡ line_of (bad_line_text number) → IsPlayed path status text
  no_script : status ≡ Failed → text ≡ line_of (unreadable_text path) → IsPlayed path status text

-- A text is the answer to a command line, with a status: the help that it asked for, why it is refused, that a folder cannot be read, how
-- the method ended over the class files of the folder, or why they are not run, or that they are accepted, or why not, or what a script
-- comes to over them, or why they are not played. What a folder tells is given
pub data IsReply (telling : Telling) (words : List (List ℕ)) (status : Status) (text : List ℕ) : Type 0 where
  told : AsksText words → status ≡ Done → (said : List ℕ) → text ≡ line_of said → IsReply telling words status text
  mistaken : IsUsageFault words → status ≡ Failed → (said : List ℕ) → text ≡ line_of said → IsReply telling words status text
  unreadable : (folder path : List ℕ) → AsksOf words folder → status ≡ Failed → TellsUnreadable path text → IsReply telling words status text
  ran : (run : RunWords) (files : List ClassBytes) (outcome : RunOutcome) → AsksRun words run → AreFilesOf telling run.folder files
      → IsRun files run.class run.method run.arguments (limits_of run.fuel) outcome
      → status ≡ outcome_status outcome → text ≡ line_of (outcome_text outcome) → IsReply telling words status text
  accepted : (folder : List ℕ) (files : List ClassBytes) (program : Links) → AsksCheck words folder → AreFilesOf telling folder files → IsProgram files program
      → status ≡ Done → text ≡ line_of (accepted_text (length files)) → IsReply telling words status text
  rejected : (folder : List ℕ) (files : List ClassBytes) (refusal : Refusal) → AsksCheck words folder → AreFilesOf telling folder files → IsNoProgram files refusal
      → status ≡ refusal_status refusal → TellsRefusal files refusal text → IsReply telling words status text
  refused : (run : RunWords) (files : List ClassBytes) (refusal : Refusal) → AsksRun words run → AreFilesOf telling run.folder files
      → IsRefused files run.class run.method run.arguments (limits_of run.fuel) refusal
      → status ≡ refusal_status refusal → TellsRefusal files refusal text → IsReply telling words status text
  played : (sim : SimWords) (files : List ClassBytes) (program : Links) → AsksSim words sim → AreFilesOf telling sim.folder files → IsProgram files program
      → IsPlayed sim.script status text → IsReply telling words status text
  not_played : (sim : SimWords) (files : List ClassBytes) (refusal : Refusal) → AsksSim words sim → AreFilesOf telling sim.folder files → IsNoProgram files refusal
      → status ≡ refusal_status refusal → TellsRefusal files refusal text → IsReply telling words status text

-- the reply to a command line went to the output of its status, and the other was left alone
pub record Replies (telling : Telling) (words : List (List ℕ)) (number : ℕ) (out out' err err' : Option (List ℕ)) : Type 0 where
  pub status : Status
  pub text : List ℕ
  pub reply : IsReply telling words status text
  pub code : number ≡ code_of status
  pub told : Tells status text out out' err err'
  pub left : LeavesOther status out out' err err'

-- What status 3 stands for: a reply of that status was printed, memory ran out, or the output of a reply failed in its middle. Standard
-- output is left alone unless an answer was due there
pub data Fails (telling : Telling) (words : List (List ℕ)) (out out' err err' : Option (List ℕ)) : Type 0 where
  replied : Replies telling words 3 out out' err err' → Fails telling words out out' err err'
  exhausted : out' ≡ out → IsTold Failed (line_of (codes "no memory")) Failed out out' err err' → Fails telling words out out' err err'
  unwritten : (status : Status) (text : List ℕ) → IsReply telling words status text → CutsOff status text out out' err err'
      → LeavesOther status out out' err err' → Fails telling words out out' err err'
