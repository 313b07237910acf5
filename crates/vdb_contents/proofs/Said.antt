-- What the text of one line says.
use Rattle.std.proofs.Common.{◌≡◌, ◌∙◌, ◌&&◌, ℕ, true, false, List, [], ◌∷◌, ◌++◌, get_or, drop, Option, Some, refl, ap, sym, subst, arith, append_assoc}
use Rattle.std.specs.Str.{is_utf8}
use Rattle.std.proofs.lemmas.List.{append_cancel_left}
use Rattle.hex.specs.Hex.{encode_lower}
use Rattle.file_tree.specs.Paths.{is_path}
use Rattle.file_link.specs.Targets.{is_target}
use Rattle.file_digest.specs.Digests.{IsNoDigestText, WritesDigest}
use Rattle.vdb_contents.specs.Cuts.{LacksArrow}
use Rattle.vdb_contents.proofs.Arrows.{cut_arrow, path_lacks_arrow}
use Rattle.vdb_contents.specs.Contents.{IsLine, Line, dir, is_time, line_text, obj, sym as link_line}
use Rattle.vdb_contents.specs.Cuts.{HasNoSpace, IsFileParts, IsLinkParts, NoFileParts, NoLinkParts}
use Rattle.vdb_contents.specs.Reading.{IsNoLine, Reads}
use Rattle.vdb_contents.specs.declared.line.Item.{Item}
use Rattle.vdb_contents.specs.declared.line.Item.TheVariants as items
use Rattle.vdb_contents.specs.declared.owned.Content.TheVariants.{File, Link}
use Rattle.vdb_contents.proofs.Lines.{cut_last, has_space, hex_lacks, time_lacks}

abbrev pub obj_start : List ℕ
obj_start = 111 ∷ 98 ∷ 106 ∷ 32 ∷ 47 ∷ []

abbrev pub sym_start : List ℕ
sym_start = 115 ∷ 121 ∷ 109 ∷ 32 ∷ 47 ∷ []

abbrev pub dir_start : List ℕ
dir_start = 100 ∷ 105 ∷ 114 ∷ 32 ∷ 47 ∷ []

-- a line for a file, by what stands behind its first slash
abbrev IsFileOf : List ℕ → Type 0
IsFileOf rest = (p d t : List ℕ) × IsLine (obj p d t) × (rest ≡ p ++ (32 ∷ (encode_lower d ++ (32 ∷ t))))

file_of : (rest : List ℕ) (l : Line) → IsLine l → obj_start ++ rest ≡ line_text l → IsFileOf rest
file_of rest (obj p d t) is e = (p, d, t, is, append_cancel_left obj_start rest (p ++ (32 ∷ (encode_lower d ++ (32 ∷ t)))) e)
file_of rest (link_line p t u) is e = absurd (let f : 111 ≡ 115 = ap (λ (l : List ℕ). get_or l 0 0) e in omega (arith, f))
file_of rest (dir p) is e = absurd (let f : 111 ≡ 100 = ap (λ (l : List ℕ). get_or l 0 0) e in omega (arith, f))

parts_of_file : (rest p h t q d u : List ℕ) → IsFileParts rest p h t → IsLine (obj q d u) → rest ≡ q ++ (32 ∷ (encode_lower d ++ (32 ∷ u)))
    → (p ≡ q) × ((h ≡ encode_lower d) × (t ≡ u))
parts_of_file rest p h t q d u parts is e =
    let ends = cut_last (p ++ (32 ∷ h)) (q ++ (32 ∷ encode_lower d)) t u parts.time-solid (time_lacks u is.1.1).1
    (append_assoc p (32 ∷ h) (32 ∷ t) ∙ (sym parts.is ∙ e) ∙ sym (append_assoc q (32 ∷ encode_lower d) (32 ∷ u))) in
    let middles = cut_last p q h (encode_lower d) parts.digits-solid (hex_lacks d).1 ends.0 in
    (middles.0, (middles.1, ends.1))

pub no_file : (rest : List ℕ) → NoFileParts rest → IsNoLine (obj_start ++ rest)
no_file rest none l is e =
    let f = file_of rest l is e in
    none f.0 (encode_lower f.1) f.2 (record { is = f.4; digits-solid = (hex_lacks f.1).1; time-solid = (time_lacks f.2 f.3.1.1).1 })

pub no_file_time : (rest p h t : List ℕ) → IsFileParts rest p h t → is_time t ≡ false → IsNoLine (obj_start ++ rest)
no_file_time rest p h t parts bad l is e =
    let f = file_of rest l is e in
    let same = parts_of_file rest p h t f.0 f.1 f.2 parts f.3 f.4 in
    cc (ap is_time same.1.1, bad, f.3.1.1)

pub no_file_digest : (rest p h t : List ℕ) → IsFileParts rest p h t → IsNoDigestText h → IsNoLine (obj_start ++ rest)
no_file_digest rest p h t parts bad l is e =
    let f = file_of rest l is e in
    let same = parts_of_file rest p h t f.0 f.1 f.2 parts f.3 f.4 in
    bad f.1 (record { form = f.3.1.0; spelled = same.1.0 })

pub no_file_path : (rest p h t : List ℕ) → IsFileParts rest p h t → (is_utf8 p && is_path p) ≡ false → IsNoLine (obj_start ++ rest)
no_file_path rest p h t parts bad l is e =
    let f = file_of rest l is e in
    let same = parts_of_file rest p h t f.0 f.1 f.2 parts f.3 f.4 in
    cc (ap (λ (x : List ℕ). is_utf8 x && is_path x) same.0, bad, f.3.0)

pub a_file : (rest p h t d x : List ℕ) → IsFileParts rest p h t → is_time t ≡ true → WritesDigest h d
    → (x ≡ p) × ((is_utf8 p && is_path p) ≡ true) → Reads (obj_start ++ rest) (Some (items.Owned (record { path = x; content = File d })))
a_file rest p h t d x parts time digest path = (
  obj p d t,
  (path.1, (digest.form, time)),
  (
    ap (λ (l : List ℕ). obj_start ++ l) (parts.is ∙ ap (λ (l : List ℕ). p ++ (32 ∷ (l ++ (32 ∷ t)))) digest.spelled),
    ap (λ (q : List ℕ). items.Owned (record { path = q; content = File d })) path.0,
  ),
)

-- a line for a link, by what stands behind its first slash
abbrev IsLinkOf : List ℕ → Type 0
IsLinkOf rest = (p t u : List ℕ) × IsLine (link_line p t u) × (rest ≡ p ++ (32 ∷ 45 ∷ 62 ∷ 32 ∷ (t ++ (32 ∷ u))))

link_of : (rest : List ℕ) (l : Line) → IsLine l → sym_start ++ rest ≡ line_text l → IsLinkOf rest
link_of rest (link_line p t u) is e = (p, t, u, is, append_cancel_left sym_start rest (p ++ (32 ∷ 45 ∷ 62 ∷ 32 ∷ (t ++ (32 ∷ u)))) e)
link_of rest (obj p t u) is e = absurd (let f : 115 ≡ 111 = ap (λ (l : List ℕ). get_or l 0 0) e in omega (arith, f))
link_of rest (dir p) is e = absurd (let f : 115 ≡ 100 = ap (λ (l : List ℕ). get_or l 0 0) e in omega (arith, f))

parts_of_link : (rest p t u q s v : List ℕ) → IsLinkParts rest p t u → IsLine (link_line q s v) → rest ≡ q ++ (32 ∷ 45 ∷ 62 ∷ 32 ∷ (s ++ (32 ∷ v)))
    → (p ≡ q) × ((t ≡ s) × (u ≡ v))
parts_of_link rest p t u q s v parts is e =
    let fronts = cut_arrow p q (32 ∷ (t ++ (32 ∷ u))) (32 ∷ (s ++ (32 ∷ v))) parts.first (path_lacks_arrow q is.0) (sym parts.is ∙ e) in
    let ends = cut_last t s u v parts.time-solid (time_lacks v is.1.1).1 (ap (drop 1) fronts.1) in
    (fronts.0, (ends.0, ends.1))

pub no_link : (rest : List ℕ) → NoLinkParts rest → IsNoLine (sym_start ++ rest)
no_link rest none l is e =
    let f = link_of rest l is e in
    none f.0 f.1 f.2 (record { is = f.4; first = path_lacks_arrow f.0 f.3.0; time-solid = (time_lacks f.2 f.3.1.1).1 })

pub no_link_time : (rest p t u : List ℕ) → IsLinkParts rest p t u → is_time u ≡ false → IsNoLine (sym_start ++ rest)
no_link_time rest p t u parts bad l is e =
    let f = link_of rest l is e in
    let same = parts_of_link rest p t u f.0 f.1 f.2 parts f.3 f.4 in
    cc (ap is_time same.1.1, bad, f.3.1.1)

pub no_link_target : (rest p t u : List ℕ) → IsLinkParts rest p t u → is_target t ≡ false → IsNoLine (sym_start ++ rest)
no_link_target rest p t u parts bad l is e =
    let f = link_of rest l is e in
    let same = parts_of_link rest p t u f.0 f.1 f.2 parts f.3 f.4 in
    cc (ap is_target same.1.0, bad, f.3.1.0)

pub no_link_path : (rest p t u : List ℕ) → IsLinkParts rest p t u → (is_utf8 p && is_path p) ≡ false → IsNoLine (sym_start ++ rest)
no_link_path rest p t u parts bad l is e =
    let f = link_of rest l is e in
    let same = parts_of_link rest p t u f.0 f.1 f.2 parts f.3 f.4 in
    cc (ap (λ (x : List ℕ). is_utf8 x && is_path x) same.0, bad, f.3.0)

pub a_link : (rest p t u x y : List ℕ) → IsLinkParts rest p t u → is_time u ≡ true → (y ≡ t) × (is_target t ≡ true)
    → (x ≡ p) × ((is_utf8 p && is_path p) ≡ true) → Reads (sym_start ++ rest) (Some (items.Owned (record { path = x; content = Link y })))
a_link rest p t u x y parts time target path = (
  link_line p t u,
  (path.1, (target.1, time)),
  (
    ap (λ (l : List ℕ). sym_start ++ l) parts.is,
    ap (λ (q : List ℕ). items.Owned (record { path = q; content = Link y })) path.0 ∙ ap (λ (z : List ℕ). items.Owned (record { path = p; content = Link z })) target.0,
  ),
)

pub no_folder : (rest : List ℕ) → (is_utf8 rest && is_path rest) ≡ false → IsNoLine (dir_start ++ rest)
no_folder rest bad (dir p) is e = cc (ap (λ (x : List ℕ). is_utf8 x && is_path x) (append_cancel_left dir_start rest p e), bad, is)
no_folder rest bad (obj p d t) is e = let f : 100 ≡ 111 = ap (λ (l : List ℕ). get_or l 0 0) e in omega (arith, f)
no_folder rest bad (link_line p t u) is e = let f : 100 ≡ 115 = ap (λ (l : List ℕ). get_or l 0 0) e in omega (arith, f)

pub a_folder : (rest : List ℕ) → (is_utf8 rest && is_path rest) ≡ true → Reads (dir_start ++ rest) (Some items.Folder)
a_folder rest is = (dir rest, is, (refl, refl))

pub reads_whole : (text start rest : List ℕ) (r : Option Item) → text ≡ start ++ rest → Reads (start ++ rest) r → Reads text r
reads_whole text start rest r e h = subst (λ (t : List ℕ). Reads t r) (sym e) h

pub begins_no_line : (text : List ℕ) → ((rest : List ℕ) → ¬ (text ≡ obj_start ++ rest)) → ((rest : List ℕ) → ¬ (text ≡ sym_start ++ rest))
    → ((rest : List ℕ) → ¬ (text ≡ dir_start ++ rest)) → IsNoLine text
begins_no_line text a b c (obj p d t) is e = a (p ++ (32 ∷ (encode_lower d ++ (32 ∷ t)))) e
begins_no_line text a b c (link_line p t u) is e = b (p ++ (32 ∷ 45 ∷ 62 ∷ 32 ∷ (t ++ (32 ∷ u)))) e
begins_no_line text a b c (dir p) is e = c p e

-- the parts of a line for a file, from its cuts
pub file_cut : (rest front p h t : List ℕ) → HasNoSpace t × (rest ≡ front ++ (32 ∷ t)) → HasNoSpace h × (front ≡ p ++ (32 ∷ h)) → IsFileParts rest p h t
file_cut rest front p h t a b = record {
  is = a.1 ∙ ap (λ (l : List ℕ). l ++ (32 ∷ t)) b.1 ∙ append_assoc p (32 ∷ h) (32 ∷ t);
  digits-solid = b.0;
  time-solid = a.0;
}

pub no_cut : (rest : List ℕ) → HasNoSpace rest → NoFileParts rest
no_cut rest none p h t parts = has_space (p ++ (32 ∷ h)) t (subst HasNoSpace (parts.is ∙ sym (append_assoc p (32 ∷ h) (32 ∷ t))) none)

pub no_second_cut : (rest front t : List ℕ) → HasNoSpace t × (rest ≡ front ++ (32 ∷ t)) → HasNoSpace front → NoFileParts rest
no_second_cut rest front t a none p h u parts =
    let ends = cut_last front (p ++ (32 ∷ h)) t u a.0 parts.time-solid (sym a.1 ∙ parts.is ∙ sym (append_assoc p (32 ∷ h) (32 ∷ u))) in
    has_space p h (subst HasNoSpace ends.0 none)

-- the parts of a line for a link, from its cuts
pub link_cut : (rest front p behind t u : List ℕ) → HasNoSpace u × (rest ≡ front ++ (32 ∷ u)) → LacksArrow p × (front ≡ p ++ 32 ∷ 45 ∷ 62 ∷ behind)
    → behind ≡ 32 ∷ t → IsLinkParts rest p t u
link_cut rest front p behind t u a b c = record {
  is = a.1 ∙ ap (λ (l : List ℕ). l ++ (32 ∷ u)) (b.1 ∙ ap (λ (l : List ℕ). p ++ 32 ∷ 45 ∷ 62 ∷ l) c) ∙ append_assoc p (32 ∷ 45 ∷ 62 ∷ 32 ∷ t) (32 ∷ u);
  first = b.0;
  time-solid = a.0;
}

pub no_link_cut : (rest : List ℕ) → HasNoSpace rest → NoLinkParts rest
no_link_cut rest none p t u parts =
    has_space (p ++ (32 ∷ 45 ∷ 62 ∷ 32 ∷ t)) u (subst HasNoSpace (parts.is ∙ sym (append_assoc p (32 ∷ 45 ∷ 62 ∷ 32 ∷ t) (32 ∷ u))) none)

-- what stands before the time of a line for a link
front_of_link : (rest front u p t v : List ℕ) → HasNoSpace u × (rest ≡ front ++ (32 ∷ u)) → IsLinkParts rest p t v → front ≡ p ++ (32 ∷ 45 ∷ 62 ∷ 32 ∷ t)
front_of_link rest front u p t v a parts =
    (cut_last front (p ++ (32 ∷ 45 ∷ 62 ∷ 32 ∷ t)) u v a.0 parts.time-solid (sym a.1 ∙ parts.is ∙ sym (append_assoc p (32 ∷ 45 ∷ 62 ∷ 32 ∷ t) (32 ∷ v)))).0

pub no_arrow_cut : (rest front u : List ℕ) → HasNoSpace u × (rest ≡ front ++ (32 ∷ u)) → LacksArrow front → NoLinkParts rest
no_arrow_cut rest front u a none p t v parts = none p (32 ∷ t) (front_of_link rest front u p t v a parts)

pub no_space_cut : (rest front q behind u : List ℕ) → HasNoSpace u × (rest ≡ front ++ (32 ∷ u)) → LacksArrow q × (front ≡ q ++ 32 ∷ 45 ∷ 62 ∷ behind)
    → ((t : List ℕ) → ¬ (behind ≡ 32 ∷ t)) → NoLinkParts rest
no_space_cut rest front q behind u a b none p t v parts =
    none t (cut_arrow q p behind (32 ∷ t) b.0 parts.first (sym b.1 ∙ front_of_link rest front u p t v a parts)).1
