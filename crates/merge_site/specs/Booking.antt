-- What a site keeps of the ownership book: who owns what, and which group claims what.
use Rattle.std.specs.Prelude.{◌≡◌, ◌++◌, ◌∷◌, ℕ, Bool, true, false, List, [], Option, Some, None, Vec, length, map, slice_get, slice_index_or, slice_set, if◌then◌else◌}
use Rattle.std.specs.Global.{Global}
use Rattle.std.specs.List.{flat_map}
use Rattle.basics.specs.Members.{Has}
use Rattle.file_tree.specs.declared.objects.Entry.{Entry}
use Rattle.merge_journal.specs.Judging.{path_of}
use Rattle.merge_record.specs.declared.record.OwnerKey.{OwnerKey}
use Rattle.owner_book.specs.Book as books
use Rattle.owner_book.specs.Book.{Book, ClaimValue, claim_in, owner_in, paths_of, settled_owner}
use Rattle.owner_book.specs.declared.wish.Wish.{Wish}
use Rattle.merge_core.specs.Core.{standing_in}
use Rattle.merge_core.specs.Event.{Abandon, Acknowledge, Event, SyncClosed}
use Rattle.merge_core.specs.CoreValue.{CoreValue}
use Rattle.merge_core.specs.Phase.{Done, Phase, Told, is_live}
use Rattle.merge_core.specs.Trail as trails
use Rattle.merge_site.specs.declared.group.SiteGroup.{SiteGroup}

-- the wishes of each group, as lists
abbrev pub lists_of : List (Vec Wish Global) → List (List Wish)
lists_of vs = map (λ v. v.items) vs

-- what a group wishes, in the order in which it was staged
abbrev pub wishes_at : List (List Wish) → ℕ → List Wish
wishes_at ws g = slice_index_or ws g []

-- one wish more of a group
abbrev pub with_wish : List (List Wish) → ℕ → Wish → List (List Wish)
with_wish ws g w = slice_set ws g (wishes_at ws g ++ w ∷ [])

-- the wish for the path of an entry
abbrev pub wish_for : OwnerKey → Bool → Entry → Wish
wish_for k folder e = record { path = e.path; owner = k; folder = folder }

-- the keys of the packages that go with a group
abbrev pub dying_of : Option SiteGroup → List OwnerKey
dying_of None = []
dying_of (Some x) = x.dying.items

abbrev pub dying_at : List SiteGroup → ℕ → List OwnerKey
dying_at xs g = dying_of (slice_get xs g)

-- the paths that these packages own, package by package
abbrev pub owned_by : Book → List OwnerKey → List (List ℕ)
owned_by b keys = flat_map (λ k. paths_of b.owned k) keys

-- what a group claims: the wishes that it staged, and the removals of its record
abbrev pub parts_of : CoreValue → List (List Wish) → ℕ → ClaimValue
parts_of k ws g = record { placed = wishes_at ws g; removed = (standing_in k.standings g).removals }

-- the claim that the book has of a group: from its claim on until its closed gate is durable
abbrev pub claim_of : CoreValue → List (List Wish) → ℕ → Option ClaimValue
claim_of k ws g =
    if is_live (standing_in k.standings g).phase then Some (parts_of k ws g) else None

-- the groups that some events tell, in their order
abbrev pub groups_of : (Event → Bool → List ℕ) → List trails.Entry → List ℕ
groups_of f [] = []
groups_of f (e ∷ es) = f e.0 e.1 ++ groups_of f es

-- an event that makes a group done, tells it, or gives it up
abbrev pub done_by : Event → Bool → List ℕ
done_by (SyncClosed g) true = g ∷ []
done_by e ok = []

abbrev pub told_by : Event → Bool → List ℕ
told_by (Acknowledge g) true = g ∷ []
told_by e ok = []

abbrev pub given_up_by : Event → Bool → List ℕ
given_up_by (Abandon g) true = g ∷ []
given_up_by e ok = []

-- the owner of a path once the claims of these groups are settled, one after the other
abbrev pub settled_by : (ℕ → ClaimValue) → List ℕ → List ℕ → Option OwnerKey → Option OwnerKey
settled_by parts [] q owner = owner
settled_by parts (g ∷ gs) q owner = settled_by parts gs q (settled_owner (parts g) q owner)

-- the claim of a group in this phase is settled
abbrev pub is_over : Phase → Bool
is_over Done = true
is_over Told = true
is_over p = false

-- the book is that of the groups: it has the claims of those under way, and the owners that the
-- done groups left
pub record IsBooked (k : CoreValue) (events : List trails.Entry) (wishes : List (List Wish))
    (opened book : Book) : Type 0 where
  pub rows : length wishes ≡ length k.standings
  pub paths : (g : ℕ) →
      map books.path_of (wishes_at wishes g) ≡ map path_of (standing_in k.standings g).placements
  pub claims : (g : ℕ) → claim_in book.claims g ≡ claim_of k wishes g
  pub over : (g : ℕ) → Has (groups_of done_by events) g →
      is_over (standing_in k.standings g).phase ≡ true
  pub owners : (q : List ℕ) → owner_in book.owned q ≡
      settled_by (parts_of k wishes) (groups_of done_by events) q (owner_in opened.owned q)
