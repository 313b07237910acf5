-- The generated system of a load of so many packages. Package i is `load/p<i>-1`, from 0 on.
use Rattle.std.specs.Prelude.{ℕ, zero, suc, ◌/◌, ◌%◌, ◌&&◌, ◌==◌, nat_le, nat_lt, if◌then◌else◌, List, [], ◌∷◌, ◌++◌, Option, None, Some, codes, map}
use Rattle.std.specs.Fmt.{decimal}
use Rattle.std.specs.List.{flat_map}
use Rattle.file_tree.specs.declared.objects.Kind.TheVariants.{Plain}
use Rattle.tree_mem.specs.Items.{Item}

-- the numbers below n, rising
abbrev pub numbers_below : ℕ → List ℕ
numbers_below zero = []
numbers_below (suc i) = numbers_below i ++ i ∷ []

abbrev pub name_of : ℕ → List ℕ
name_of i = codes "load/p" ++ decimal i

-- what a load wants: each of its packages, by its name
abbrev pub load_names : ℕ → List (List ℕ)
load_names count = map name_of (numbers_below count)

-- the package that package i of so many needs to run: that of half its number, and the first needs
-- the second
abbrev pub needed_by : ℕ → ℕ → Option ℕ
needed_by count i =
    if nat_lt 0 i then Some (i / 2) else (if nat_lt 1 count then Some 1 else None)

-- the package that each tenth one is built with: that of a tenth of its number
abbrev pub built_on : ℕ → Option ℕ
built_on i = if nat_le 10 i && (i % 10 == 0) then Some (i / 10) else None

abbrev pub need_line : List ℕ → Option ℕ → List ℕ
need_line key None = []
need_line key (Some i) = key ++ (codes "=" ++ (name_of i ++ 10 ∷ []))

-- the entry of package i of so many in the cache
abbrev pub entry_text : ℕ → ℕ → List ℕ
entry_text count i =
    need_line (codes "DEPEND") (built_on i) ++ (codes "EAPI=8\nKEYWORDS=amd64\n"
    ++ (need_line (codes "RDEPEND") (needed_by count i)
    ++ codes "SLOT=0\n_md5_=d41d8cd98f00b204e9800998ecf8427e\n"))

abbrev pub plain_file : List ℕ → List ℕ → Item
plain_file path text = (path, record { kind = Plain; bytes = text })

abbrev pub profile_file : Item
profile_file = plain_file (codes "etc/portage/make.profile/make.defaults")
    (codes "ARCH=\"amd64\"\nACCEPT_KEYWORDS=\"amd64\"\n")

abbrev pub ebuild_file : ℕ → Item
ebuild_file i = plain_file (codes "var/db/repos/gentoo/" ++ (name_of i ++ (codes "/p"
    ++ (decimal i ++ codes "-1.ebuild")))) []

abbrev pub entry_file : ℕ → ℕ → Item
entry_file count i = plain_file (codes "var/db/repos/gentoo/metadata/md5-cache/"
    ++ (name_of i ++ codes "-1")) (entry_text count i)

-- what the tree of a load holds: the profile, and of each package its ebuild and its entry
abbrev pub load_files : ℕ → List Item
load_files count = profile_file
    ∷ flat_map (λ i. ebuild_file i ∷ entry_file count i ∷ []) (numbers_below count)
