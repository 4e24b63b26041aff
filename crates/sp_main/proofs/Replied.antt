-- A report is a reply.
use Rattle.std.proofs.Common.{◌≡◌, ◌<◌, ◌∙◌, ℕ, List, Option, Result, Ok, Err, IfOk, ap, arith, inl, inr, length, refl, subst, sym}
use Rattle.cls_link.specs.Links.{Links}
use Rattle.sp_words.specs.CommandLine.{AsksCheck, AsksRun, AsksSim, AsksText, IsUsageFault, RunWords, SimWords}
use Rattle.sp_main.specs.Folders.{AreFilesOf, Telling}
use Rattle.sp_texts.specs.RefusalTexts.{TellsRefusal, TellsUnreadable}
use Rattle.sp_main.specs.Replies.{Fails, IsPlayed, IsReply, Replies, accepted, bad_line, limits_of, mistaken, not_played, played, ran, refused, rejected, replied, told, unreadable, unwritten}
use Rattle.sp_texts.specs.Reports.{IsTold, LeavesOther, line_of}
use Rattle.sp_words.specs.Requests.{IsRequest, run_words, sim_words}
use Rattle.sp_files.specs.Programs.{IsNoProgram, IsProgram}
use Rattle.sp_runs.specs.Runs.{IsRefused, IsRun}
use Rattle.sp_texts.specs.Statuses.{code_of, outcome_status, refusal_status}
use Rattle.sp_texts.specs.Texts.{accepted_text, bad_line_text, outcome_text}
use Rattle.sp_files.specs.declared.refusal.Refusal.{Refusal}
use Rattle.sp_texts.specs.declared.report.Report.{Report}
use Rattle.sp_files.specs.declared.files.ClassBytes.{ClassBytes}
use Rattle.sp_files.specs.declared.outcome.RunOutcome.{RunOutcome}
use Rattle.sp_texts.specs.declared.status.Status.{Status}
use Rattle.sp_texts.specs.declared.status.Status.TheVariants.{Done, Failed}
use Rattle.sp_words.specs.declared.words.Request.{Request}
use Rattle.sp_words.specs.declared.words.Request.TheVariants.{Run, Check, Sim, Tell, Refuse}
use Rattle.sp_words.specs.declared.words.RunRequest.{RunRequest}
use Rattle.sp_words.specs.declared.words.SimRequest.{SimRequest}
use Rattle.vm_step.specs.declared.limits.Limits.{Limits}

module _ {E : Type 0} (telling : Telling) (run : RunWords) (answer : Result Report E) where
  -- the report is the reply to all arguments that ask for this run
  abbrev pub IsRunReply : Type 0
  IsRunReply = IfOk answer (λ report. (words : List (List ℕ)) → AsksRun words run → IsReply telling words report.status report.text.items)

-- a folder that cannot be read
pub unreadable_replied : {E : Type 0} (telling : Telling) (run : RunWords) (answer : Result Report E)
    → IfOk answer (λ report. report.status ≡ Failed) → IfOk answer (λ report. (path : List ℕ) × TellsUnreadable path report.text.items)
    → IsRunReply telling run answer
unreadable_replied telling run (Ok report) status text = λ words asks. unreadable run.folder text.0 (inl (run, asks, refl)) status text.1
unreadable_replied telling run (Err e) status text = tt

-- a run
pub run_replied : {E : Type 0} (telling : Telling) (run : RunWords) (files read : List ClassBytes) (class method : List ℕ) (limits : Limits)
    (outcome : RunOutcome) (answer : Result Report E) → AreFilesOf telling run.folder read → files ≡ read → class ≡ run.class → method ≡ run.method → limits ≡ limits_of run.fuel
    → IsRun files class method run.arguments limits outcome → IfOk answer (λ report. report.status ≡ outcome_status outcome)
    → IfOk answer (λ report. report.text.items ≡ line_of (outcome_text outcome)) → IsRunReply telling run answer
run_replied telling run files read class method limits outcome (Ok report) listed ef ec em el is status text =
    λ words asks. ran run read outcome asks listed
    (subst (λ (l : Limits). IsRun read run.class run.method run.arguments l outcome) el
    (subst (λ (m : List ℕ). IsRun read run.class m run.arguments limits outcome) em
    (subst (λ (n : List ℕ). IsRun read n method run.arguments limits outcome) ec
    (subst (λ (f : List ClassBytes). IsRun f class method run.arguments limits outcome) ef is)))) status text
run_replied telling run files read class method limits outcome (Err e) listed ef ec em el is status text = tt

-- a refusal
pub refusal_replied : {E : Type 0} (telling : Telling) (run : RunWords) (files read : List ClassBytes) (class method : List ℕ) (limits : Limits)
    (refusal : Refusal) (answer : Result Report E) → AreFilesOf telling run.folder read → files ≡ read → class ≡ run.class → method ≡ run.method → limits ≡ limits_of run.fuel
    → IsRefused files class method run.arguments limits refusal → IfOk answer (λ report. report.status ≡ refusal_status refusal)
    → IfOk answer (λ report. TellsRefusal read refusal report.text.items) → IsRunReply telling run answer
refusal_replied telling run files read class method limits refusal (Ok report) listed ef ec em el is status text =
    λ words asks. refused run read refusal asks listed
    (subst (λ (l : Limits). IsRefused read run.class run.method run.arguments l refusal) el
    (subst (λ (m : List ℕ). IsRefused read run.class m run.arguments limits refusal) em
    (subst (λ (n : List ℕ). IsRefused read n method run.arguments limits refusal) ec
    (subst (λ (f : List ClassBytes). IsRefused f class method run.arguments limits refusal) ef is)))) status text
refusal_replied telling run files read class method limits refusal (Err e) listed ef ec em el is status text = tt

module _ {E : Type 0} (telling : Telling) (sim : SimWords) (answer : Result Report E) where
  -- the report is the reply to all arguments that ask for this script
  abbrev pub IsSimReply : Type 0
  IsSimReply = IfOk answer (λ report. (words : List (List ℕ)) → AsksSim words sim → IsReply telling words report.status report.text.items)

pub unreadable_simulated : {E : Type 0} (telling : Telling) (sim : SimWords) (answer : Result Report E)
    → IfOk answer (λ report. report.status ≡ Failed) → IfOk answer (λ report. (path : List ℕ) × TellsUnreadable path report.text.items)
    → IsSimReply telling sim answer
unreadable_simulated telling sim (Ok report) status text = λ words asks. unreadable sim.folder text.0 (inr (inr (sim, asks, refl))) status text.1
unreadable_simulated telling sim (Err e) status text = tt

module _ {E : Type 0} (telling : Telling) (sim : SimWords) (files read : List ClassBytes) (listed : AreFilesOf telling sim.folder read) (same : files ≡ read) where
  pub refusal_simulated : (refusal : Refusal) (answer : Result Report E) → IsNoProgram files refusal → IfOk answer (λ report. report.status ≡ refusal_status refusal)
      → IfOk answer (λ report. TellsRefusal read refusal report.text.items) → IsSimReply telling sim answer
  refusal_simulated refusal (Ok report) is status text =
      λ words asks. not_played sim read refusal asks listed (subst (λ (f : List ClassBytes). IsNoProgram f refusal) same is) status text
  refusal_simulated refusal (Err e) is status text = tt

  pub played_simulated : (program : Links) (answer : Result Report E) → IsProgram files program
      → IfOk answer (λ report. IsPlayed sim.script report.status report.text.items) → IsSimReply telling sim answer
  played_simulated program (Ok report) is plays =
      λ words asks. played sim read program asks listed (subst (λ (f : List ClassBytes). IsProgram f program) same is) plays
  played_simulated program (Err e) is plays = tt

-- a bad line is one of the things that a script comes to
pub bad_line_told : {E : Type 0} (path : List ℕ) (number : ℕ) (answer : Result Report E) → IfOk answer (λ report. report.status ≡ Failed)
    → IfOk answer (λ report. report.text.items ≡ line_of (bad_line_text number)) → IfOk answer (λ report. IsPlayed path report.status report.text.items)
bad_line_told path number (Ok report) status text = bad_line number status text
bad_line_told path number (Err e) status text = tt

module _ {E : Type 0} (telling : Telling) (folder : List ℕ) (answer : Result Report E) where
  -- the report is the reply to all arguments that ask for a check of the folder
  abbrev pub IsCheckReply : Type 0
  IsCheckReply = IfOk answer (λ report. (words : List (List ℕ)) → AsksCheck words folder → IsReply telling words report.status report.text.items)

pub unreadable_checked : {E : Type 0} (telling : Telling) (folder : List ℕ) (answer : Result Report E)
    → IfOk answer (λ report. report.status ≡ Failed) → IfOk answer (λ report. (path : List ℕ) × TellsUnreadable path report.text.items)
    → IsCheckReply telling folder answer
unreadable_checked telling folder (Ok report) status text = λ words asks. unreadable folder text.0 (inr (inl asks)) status text.1
unreadable_checked telling folder (Err e) status text = tt

pub accepted_checked : {E : Type 0} (telling : Telling) (folder : List ℕ) (files read : List ClassBytes) (count : ℕ) (answer : Result Report E)
    → AreFilesOf telling folder read → files ≡ read → count ≡ length files → (program : Links) × IsProgram files program
    → IfOk answer (λ report. report.status ≡ Done) → IfOk answer (λ report. report.text.items ≡ line_of (accepted_text count))
    → IsCheckReply telling folder answer
accepted_checked telling folder files read count (Ok report) listed same counted made status text =
    λ words asks. accepted folder read made.0 asks listed (subst (λ (f : List ClassBytes). IsProgram f made.0) same made.1) status
    (text ∙ ap (λ n. line_of (accepted_text n)) (counted ∙ ap length same))
accepted_checked telling folder files read count (Err e) listed same counted made status text = tt

pub refusal_checked : {E : Type 0} (telling : Telling) (folder : List ℕ) (files read : List ClassBytes) (refusal : Refusal) (answer : Result Report E)
    → AreFilesOf telling folder read → files ≡ read → IsNoProgram files refusal
    → IfOk answer (λ report. report.status ≡ refusal_status refusal) → IfOk answer (λ report. TellsRefusal read refusal report.text.items)
    → IsCheckReply telling folder answer
refusal_checked telling folder files read refusal (Ok report) listed same is status text =
    λ words asks. rejected folder read refusal asks listed (subst (λ (f : List ClassBytes). IsNoProgram f refusal) same is) status text
refusal_checked telling folder files read refusal (Err e) listed same is status text = tt

module _ {E : Type 0} (telling : Telling) (words : List (List ℕ)) (request : Request) (answer : Result Report E) where
  -- a text that was asked for
  pub told_replied : (text said : _) → IsRequest words request → request ≡ Tell text → IfOk answer (λ report. report.status ≡ Done)
      → IfOk answer (λ report. report.text.items ≡ line_of said) → IfOk answer (λ report. IsReply telling words report.status report.text.items)
  told_replied text said asks is status line = go answer status line
    where
      asks_text : AsksText words
      asks_text = subst (λ (r : Request). IsRequest words r) is asks

      go : (answer : Result Report E) → IfOk answer (λ report. report.status ≡ Done) → IfOk answer (λ report. report.text.items ≡ line_of said)
          → IfOk answer (λ report. IsReply telling words report.status report.text.items)
      go (Ok report) status line = told asks_text status said line
      go (Err e) status line = tt

  -- a usage fault
  pub mistaken_replied : (text said : _) → IsRequest words request → request ≡ Refuse text → IfOk answer (λ report. report.status ≡ Failed)
      → IfOk answer (λ report. report.text.items ≡ line_of said) → IfOk answer (λ report. IsReply telling words report.status report.text.items)
  mistaken_replied text said asks is status line = go answer status line
    where
      is_fault : IsUsageFault words
      is_fault = subst (λ (r : Request). IsRequest words r) is asks

      go : (answer : Result Report E) → IfOk answer (λ report. report.status ≡ Failed) → IfOk answer (λ report. report.text.items ≡ line_of said)
          → IfOk answer (λ report. IsReply telling words report.status report.text.items)
      go (Ok report) status line = mistaken is_fault status said line
      go (Err e) status line = tt

  -- a run that was asked for
  pub asked_replied : (run : RunRequest) → IsRequest words request → request ≡ Run run → IsRunReply telling (run_words run) answer
      → IfOk answer (λ report. IsReply telling words report.status report.text.items)
  asked_replied run asks is replies = go answer replies
    where
      asks_run : AsksRun words (run_words run)
      asks_run = subst (λ (r : Request). IsRequest words r) is asks

      go : (answer : Result Report E) → IsRunReply telling (run_words run) answer → IfOk answer (λ report. IsReply telling words report.status report.text.items)
      go (Ok report) replies = replies words asks_run
      go (Err e) replies = tt

  -- a check that was asked for
  pub check_replied : (folder : _) → IsRequest words request → request ≡ Check folder → IsCheckReply telling folder.now answer
      → IfOk answer (λ report. IsReply telling words report.status report.text.items)
  check_replied folder asks is replies = go answer replies
    where
      asks_check : AsksCheck words folder.now
      asks_check = subst (λ (r : Request). IsRequest words r) is asks

      go : (answer : Result Report E) → IsCheckReply telling folder.now answer → IfOk answer (λ report. IsReply telling words report.status report.text.items)
      go (Ok report) replies = replies words asks_check
      go (Err e) replies = tt

  -- a script that was asked for
  pub sim_replied : (sim : SimRequest) → IsRequest words request → request ≡ Sim sim → IsSimReply telling (sim_words sim) answer
      → IfOk answer (λ report. IsReply telling words report.status report.text.items)
  sim_replied sim asks is replies = go answer replies
    where
      asks_sim : AsksSim words (sim_words sim)
      asks_sim = subst (λ (r : Request). IsRequest words r) is asks

      go : (answer : Result Report E) → IsSimReply telling (sim_words sim) answer → IfOk answer (λ report. IsReply telling words report.status report.text.items)
      go (Ok report) replies = replies words asks_sim
      go (Err e) replies = tt

-- a report that was written, whole or not
pub written_replied : (telling : Telling) (words : List (List ℕ)) (report : Report) (status : Status) (number : ℕ) (out out' err err' : Option (List ℕ))
    → IsReply telling words report.status report.text.items → number ≡ code_of status → LeavesOther report.status out out' err err'
    → IsTold report.status report.text.items status out out' err err' → number < 3
    → Replies telling words number out out' err err'
written_replied telling words report status number out out' err err' reply is left (inr cut) below =
    let three : number ≡ 3 = is ∙ ap code_of cut.0 in absurd (omega (arith, three, below))
written_replied telling words report status number out out' err err' reply is left (inl done) below =
    record { status = report.status; text = report.text.items; reply = reply; code = is ∙ ap code_of done.0; told = done.1; left = left }

pub written_failed : (telling : Telling) (words : List (List ℕ)) (report : Report) (status : Status) (number : ℕ) (out out' err err' : Option (List ℕ))
    → IsReply telling words report.status report.text.items → number ≡ code_of status → LeavesOther report.status out out' err err'
    → IsTold report.status report.text.items status out out' err err' → number ≡ 3
    → Fails telling words out out' err err'
written_failed telling words report status number out out' err err' reply is left (inr cut) three =
    unwritten report.status report.text.items reply cut.1 left
written_failed telling words report status number out out' err err' reply is left (inl done) three =
    replied (record { status = report.status; text = report.text.items; reply = reply; code = sym three ∙ is ∙ ap code_of done.0; told = done.1; left = left })
