-- The variables that a text sets, by the way in which it was read.
use Rattle.std.proofs.Common.{◌≡◌, ◌∙◌, ◌⊎◌, ℕ, List, [], Option, None, Some, ap, Bool, cond, false, inl, inr, refl, sym, true}
use Rattle.std.proofs.lemmas.Str.{IsUtf8-nil}
use Rattle.config_text.specs.AssignFaults.{FirstFault}
use Rattle.config_text.specs.declared.assignment.Assignment.{Assignment}
use Rattle.config_text.specs.declared.fault.TextFault.{TextFault}
use Rattle.config_text.specs.declared.fault.TextFault.TheVariants as texts
use Rattle.config_text.proofs.OneText.{one_list}
use Rattle.file_tree.specs.Disk.{Map}
use Rattle.profile_folders.specs.Defaults.{AreSet, IsFaultOf}
use Rattle.profile_folders.specs.Machine.{IsOfMachine}
use Rattle.file_tree.specs.Paths.{is_path}
use Rattle.profile_folders.specs.Places.{path_of}
use Rattle.profile_folders.specs.Texts.{text_at, text_fault, text_of}
use Rattle.file_tree.specs.declared.fault.TreeFault.TheVariants as trees
use Rattle.profile_folders.specs.declared.fault.ProfileFault.{ProfileFault}

-- an empty text sets nothing
pub none_set : (known : List Assignment) → AreSet [] known []
none_set known = record { utf8 = IsUtf8-nil; says = record { items = []; form = tt; spelled = refl; means = refl } }

pub one_set : (text : List ℕ) (known these those : List Assignment) → AreSet text known these → AreSet text known those → these ≡ those
one_set text known these those a b = one_list known text these those a.says b.says

-- a text without a path is empty, and else it is that of the file
pub no_text : (m : Map) (path : Option (List ℕ)) → path ≡ None → text_at m path ≡ []
no_text m path is = ap (text_at m) is

pub its_text : (m : Map) (path : Option (List ℕ)) (file bytes : List ℕ) → path ≡ Some file → bytes ≡ text_of (m file) → text_at m path ≡ bytes
its_text m path file bytes is read = ap (text_at m) is ∙ sym read

-- a fault of the text is told at its file, unless memory ran out
pub its_fault : (file text : List ℕ) (first : TextFault) (fault : ProfileFault) → FirstFault text first → fault ≡ text_fault file first → IsOfMachine fault ⊎ IsFaultOf file text fault
its_fault file text (texts.NotUtf8 line) fault has told = inr (record { first = texts.NotUtf8 line; has = has; own = λ e. absurd (cc e); told = told })
its_fault file text (texts.BadKey line) fault has told = inr (record { first = texts.BadKey line; has = has; own = λ e. absurd (cc e); told = told })
its_fault file text (texts.OpenQuote line) fault has told = inr (record { first = texts.OpenQuote line; has = has; own = λ e. absurd (cc e); told = told })
its_fault file text texts.Memory fault has told = inl (trees.Memory, told)

-- where the text sets something no fault but want of memory is told
pub only_memory : (file : List ℕ) (first : TextFault) (fault : ProfileFault) → first ≡ texts.Memory → fault ≡ text_fault file first → IsOfMachine fault
only_memory file first fault is told = (trees.Memory, told ∙ ap (text_fault file) is)

-- a path that a text is, is that text
pub is_itself : (text path : List ℕ) → path_of text ≡ Some path → path ≡ text
is_itself text path e = by_test (is_path text) e
  where
    by_test : (b : Bool) → cond b (Some text) None ≡ Some path → path ≡ text
    by_test true same = cc same
    by_test false none = absurd (cc none)
