-- What the fault of a plan's file says.
use Rattle.std.proofs.Common.{◌≡◌, ◌≢◌, ℕ, List, Result, Ok, Err, Some, inr, refl, subst}
use Rattle.std.specs.Prelude.{IfErr, ⊤}
use Rattle.std.specs.Str.{IsUtf8}
use Rattle.vdb_law.specs.Fields.{text_of}
use Rattle.file_tree.specs.Disk.{Map}
use Rattle.plan_text.specs.Faults.{IsFaulty, TellsLine}
use Rattle.plan_text.specs.declared.fault.PlanTextFault.{PlanTextFault}
use Rattle.plan_text.specs.declared.plan.Plan.{Plan}
use Rattle.plan_text.specs.declared.fault.PlanTextFault.TheVariants as texts
use Rattle.emerge_find.specs.Ends.{IsDeviceFailure, unread}
use Rattle.emerge_find.specs.Files.{IsRefusal}
use Rattle.emerge_find.specs.Sources.{MissesFile}

-- the fault isn't want of memory
abbrev IsReason : PlanTextFault → Type 0
IsReason texts.Memory = ⊥
IsReason f = ⊤

module _ (text : List ℕ) (utf8 : IsUtf8 text) where
  abbrev Stops : PlanTextFault → Type 0
  Stops f = (n groups : ℕ) × IsFaulty text n groups × TellsLine groups n f

  stops : (f : PlanTextFault) → IsReason f → (f ≢ texts.Memory → Stops f) → Stops f
  stops f reason at_line = at_line (λ e. subst IsReason e reason)

  pub refusal_of : (f : PlanTextFault) → (f ≢ texts.Memory → Stops f) → IsRefusal (Some text) f
  refusal_of (texts.Number line) at_line = let s = stops (texts.Number line) tt at_line in inr (s.0, s.1, record { utf8 = utf8; faulty = s.2 }, s.3)
  refusal_of (texts.NotBefore line) at_line = let s = stops (texts.NotBefore line) tt at_line in inr (s.0, s.1, record { utf8 = utf8; faulty = s.2 }, s.3)
  refusal_of texts.Limit at_line = let s = stops texts.Limit tt at_line in (s.0, s.1, record { utf8 = utf8; faulty = s.2 }, s.3)
  refusal_of (texts.Line line) at_line = let s = stops (texts.Line line) tt at_line in inr (s.0, s.1, record { utf8 = utf8; faulty = s.2 }, s.3)
  refusal_of texts.Memory at_line = tt

-- what is said of the file's text is said of the file
pub misses_of : (m : Map) (file : List ℕ) (f : PlanTextFault) → IsRefusal (text_of (m file)) f → MissesFile m file (unread file f)
misses_of m file (texts.Number line) is = (refl, is)
misses_of m file (texts.NotBefore line) is = (refl, is)
misses_of m file texts.Limit is = is
misses_of m file (texts.Line line) is = (refl, is)
misses_of m file texts.Memory is = tt

-- .. and tells no failure of the device
pub unread_fails_not : (file : List ℕ) (f : PlanTextFault) → ¬ IsDeviceFailure (unread file f)
unread_fails_not file texts.Memory fails = cc fails
unread_fails_not file (texts.Number line) fails = fails
unread_fails_not file (texts.NotBefore line) fails = fails
unread_fails_not file texts.Limit fails = fails
unread_fails_not file (texts.Line line) fails = fails

-- what is said of the text that the bytes are is said of the bytes
pub refused_text : (text bytes : List ℕ) → text ≡ bytes → IsUtf8 bytes → (r : Result Plan PlanTextFault) → IfErr r (λ f. f ≢ texts.Memory → (n groups : ℕ) × IsFaulty text n groups × TellsLine groups n f) → IfErr r (IsRefusal (Some bytes))
refused_text text bytes same utf8 (Ok p) is = tt
refused_text text bytes same utf8 (Err f) is = refusal_of bytes utf8 f (subst (λ (t : List ℕ). f ≢ texts.Memory → (n groups : ℕ) × IsFaulty t n groups × TellsLine groups n f) same is)
