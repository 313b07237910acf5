-- Which paths are in a package's folder, and that a package's own paths are in none.
use Rattle.std.proofs.Common.{◌≡◌, ◌⊎◌, ◌∙◌, ◌||◌, ◌==◌, ℕ, Bool, true, false, cond, List, [], ◌∷◌, ◌++◌, map, Option, Some, None, refl, ap, sym, subst, inl, inr, arith}
use Rattle.std.specs.Prelude.{codes, IsSome, slice_index}
use Rattle.std.specs.List.{AllByRecursion, list_any}
use Rattle.std.specs.List.Sorted.{IsStrictlySortedBy}
use Rattle.std.specs.declared.cmp.Ordering.TheVariants.{Less}
use Rattle.basics.specs.Members.{Has}
use Rattle.std.proofs.lemmas.Bool.{or_from, or_parts}
use Rattle.std.proofs.lemmas.Bool.Decides.{nat_tests}
use Rattle.basics.proofs.Membership.{has-append_cases, has-map_back}
use Rattle.basics.proofs.Texts.{not_less}
use Rattle.file_tree.specs.Paths.{is_below}
use Rattle.file_tree.specs.ObjectValue.{ObjectValue}
use Rattle.file_tree.specs.Fixed.{jobs}
use Rattle.pms_names.specs.Flags.{IsRising, byte_order}
use Rattle.vdb_contents.specs.Contents.{TellsOwned, Line, is_dropped, obj, sym as link_line, dir, owned_by, owned_in, path_of, unless_dropped}
use Rattle.vdb_law.specs.Database.{IsCounted, IsFolderName, folder_name, has_slash, is_skipped}
use Rattle.vdb_law.specs.Fields.{Folder, Says, contents, field_text, name_of, text_of}
use Rattle.dep_atom.specs.Ids.{IsId, name_and_version}
use Rattle.dep_atom.specs.Cuts.{Lacks, is_either, is_plain}
use Rattle.dep_atom.specs.declared.package.PackageId.{PackageId}
use Rattle.dep_atom.proofs.Plain.{ArePlain, plain-append, plain_name, plain_version}
use Rattle.pms_names.specs.Bytes.{begins_badly, may_contain}
use Rattle.pms_names.specs.Names.{IsName}
use Rattle.pms_names.specs.declared.kind.Kind.TheVariants.{Category, Package}
use Rattle.pms_grammar.specs.Grammar.{spelling}
use Rattle.vdb_paths.specs.Files.{package_file_path}
use Rattle.file_tree.specs.Fixed.{database_path}
use Rattle.vdb_paths.proofs.Packages.{package_file_path-parts}
use Rattle.vdb_contents.specs.declared.owned.Content.TheVariants.{File, Link}
use Rattle.vdb_contents.specs.declared.owned.Owned.{Owned}
use Rattle.vdb_law.specs.Packages.{Installed, paths}

pub cases_option : {A : Type 0} (o : Option A) → (o ≡ None) ⊎ ((x : A) × (o ≡ Some x))
cases_option None = inl refl
cases_option (Some x) = inr (x, refl)

no_slash : (b : ℕ) → is_plain b ≡ true → (b == 47) ≡ false
no_slash b h = grind (arith, nat_tests)

plain_part : (text : List ℕ) → ArePlain text → has_slash text ≡ false
plain_part [] h = refl
plain_part (b ∷ text) h = or_from (b == 47) (has_slash text) (no_slash b h.0) (plain_part text h.1)

-- names begin with neither sign that the database skips
category_taken : (b : ℕ) → begins_badly Category b ≡ false → (b == 45 || b == 46) ≡ false
category_taken b h = grind (arith, nat_tests)

package_taken : (b : ℕ) → begins_badly Package b ≡ false → may_contain Package b ≡ true → (b == 45 || b == 46) ≡ false
package_taken b h k = grind (arith, nat_tests)

name_taken : (name rest : List ℕ) → IsName Package name → is_skipped (name ++ rest) ≡ false
name_taken [] rest is = let some = is.spelled.sized.some in absurd (omega (arith, some))
name_taken (b ∷ name) rest is = package_taken b is.spelled.begins (is.spelled.each 0 (omega arith))

pub category_counts : (id : PackageId) → IsId id → IsFolderName id.name.category
category_counts id is = record {
  part = plain_part id.name.category (plain_name Category id.name.category is.category);
  taken = category_taken (slice_index id.name.category 0) is.category.spelled.begins;
}

pub version_counts : (id : PackageId) → IsId id → IsFolderName (name_and_version id)
version_counts id is = record {
  part = plain_part (name_and_version id) (plain-append id.name.«package» (45 ∷ spelling id.version) (plain_name Package id.name.«package» is.«package») (refl, plain_version id.version is.version.version));
  taken = name_taken id.name.«package» (45 ∷ spelling id.version) is.«package»;
}

pub counted_of : (id : PackageId) (name : List ℕ) → IsId id → IsCounted (package_file_path id name)
counted_of id name is = record {
  category = id.name.category;
  pf = name_and_version id;
  name = name;
  is = package_file_path-parts id name;
  category-counts = category_counts id is;
  pf-counts = version_counts id is;
}

below_refl : (rest : List ℕ) → is_below database_path (codes "var/db/pkg/" ++ rest) ≡ true
unfolding database_path
below_refl rest = refl

dropped_refl : (rest : List ℕ) → is_dropped (codes "var/db/pkg/" ++ rest) ≡ true
unfolding database_path
dropped_refl rest = refl

apart_refl : (rest : List ℕ) → is_below jobs (codes "var/db/pkg/" ++ rest) ≡ false
apart_refl rest = refl

pub counted_below : (q : List ℕ) → IsCounted q → is_below database_path q ≡ true
counted_below q is = subst (λ (p : List ℕ). is_below database_path p ≡ true) (sym is.is) (below_refl (is.category ++ (47 ∷ (is.pf ++ (47 ∷ is.name)))))

pub counted_dropped : (q : List ℕ) → IsCounted q → is_dropped q ≡ true
counted_dropped q is = subst (λ (p : List ℕ). is_dropped p ≡ true) (sym is.is) (dropped_refl (is.category ++ (47 ∷ (is.pf ++ (47 ∷ is.name)))))

pub counted_outside : (q : List ℕ) → IsCounted q → is_below jobs q ≡ false
counted_outside q is = subst (λ (p : List ℕ). is_below jobs p ≡ false) (sym is.is) (apart_refl (is.category ++ (47 ∷ (is.pf ++ (47 ∷ is.name)))))

unless_free : (x o : Owned) (b : Bool) → is_dropped x.path ≡ b → Has (unless_dropped x) o → is_dropped o.path ≡ false
unless_free x o true e has = absurd (let h : Has (cond true [] (x ∷ [])) o = subst (λ (b : Bool). Has (cond b [] (x ∷ [])) o) e has in h)
unless_free x o false e has =
    let h : Has (cond false [] (x ∷ [])) o = subst (λ (b : Bool). Has (cond b [] (x ∷ [])) o) e has in
    elim h [ inl same ↦ ap (λ (y : Owned). is_dropped y.path) (sym same) ∙ e | inr none ↦ absurd none ]

line_free : (l : Line) (o : Owned) → Has (owned_by l) o → is_dropped o.path ≡ false
line_free (obj path digest time) o has = unless_free (record { path = path; content = File digest }) o (is_dropped path) refl has
line_free (link_line path target time) o has = unless_free (record { path = path; content = Link target }) o (is_dropped path) refl has
line_free (dir path) o has = absurd has

lines_free : (ls : List Line) (o : Owned) → Has (owned_in ls) o → is_dropped o.path ≡ false
lines_free [] o has = absurd has
lines_free (l ∷ ls) o has = elim (has-append_cases (owned_by l) (owned_in ls) o has) [ inl here ↦ line_free l o here | inr later ↦ lines_free ls o later ]

pub path_free : (f : Folder) (p : Installed) (q : List ℕ) → Says f p → Has (paths p) q → is_dropped q ≡ false
path_free f p q says has =
    let o = has-map_back path_of p.owned q has in
    let text : TellsOwned (field_text f contents) p.owned = says.reads contents in
    let free = lines_free text.ls o.0 (subst (λ (os : List Owned). Has os o.0) text.means o.1) in
    subst (λ (s : List ℕ). is_dropped s ≡ false) o.2 free

-- a file with a text is there
pub text_there : (x : Option ObjectValue) → IsSome (text_of x) → IsSome x
text_there None some = absurd (let h : IsSome {T = List ℕ} None = some in cc h)
text_there (Some x) some = refl

-- a package's folder has its CONTENTS
pub mark : List ℕ
mark = name_of contents

pub says_mark : (f : Folder) (p : Installed) → Says f p → IsSome (f mark)
unfolding mark
says_mark f p says = text_there (f (name_of contents)) (says.there contents refl)

pub all_less : (x : List ℕ) (ps : List Installed) (r : Installed) → AllByRecursion (λ y. byte_order x y ≡ Less) (map folder_name ps) → Has ps r → byte_order x (folder_name r) ≡ Less
all_less x [] r all has = absurd has
all_less x (p ∷ ps) r all (inl e) = subst (λ (y : Installed). byte_order x (folder_name y) ≡ Less) e all.0
all_less x (p ∷ ps) r all (inr has) = all_less x ps r all.1 has

-- of a database's packages no two have one folder
pub one_of_rising : (ps : List Installed) (p r : Installed) → IsRising (map folder_name ps) → Has ps p → Has ps r → folder_name p ≡ folder_name r → p ≡ r
unfolding IsStrictlySortedBy
one_of_rising [] p r rising hp hr e = absurd hp
one_of_rising (x ∷ ps) p r rising (inl a) (inl b) e = sym a ∙ b
one_of_rising (x ∷ ps) p r rising (inl a) (inr b) e = absurd (not_less (folder_name x) (folder_name r) (ap folder_name a ∙ e) (all_less (folder_name x) ps r rising.0 b))
one_of_rising (x ∷ ps) p r rising (inr a) (inl b) e = absurd (not_less (folder_name x) (folder_name p) (ap folder_name b ∙ sym e) (all_less (folder_name x) ps p rising.0 a))
one_of_rising (x ∷ ps) p r rising (inr a) (inr b) e = one_of_rising ps p r rising.1 a b e

-- what has no slash lacks that byte
pub lacks_from : (text : List ℕ) → has_slash text ≡ false → Lacks 47 47 text
lacks_from [] h = refl
lacks_from (b ∷ text) h =
    let parts = or_parts (b == 47) (has_slash text) h in
    or_from (is_either 47 47 b) (list_any (is_either 47 47) text) (or_from (b == 47) (b == 47) parts.0 parts.0) (lacks_from text parts.1)
