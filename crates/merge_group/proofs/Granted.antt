-- What the claim of a group says of the book and the tree, where no other is under way.
use Rattle.std.proofs.Common.{◌≡◌, ◌∙◌, ℕ, Bool, true, false, List, [], ◌∷◌, Some, None, inl, inr, refl, ap, subst}
use Rattle.std.specs.Prelude.{IsTrue, cond}
use Rattle.std.specs.List.{AllByRecursion}
use Rattle.std.proofs.lemmas.Bool.{cases_eq}
use Rattle.basics.specs.Members.{Has}
use Rattle.file_tree.specs.Disk.{Disk, Map}
use Rattle.merge_journal.specs.Group.{Group, with_groups}
use Rattle.owner_book.specs.Book.{Book, HasOwnersOf, owner_in}
use Rattle.owner_book.specs.declared.wish.Wish.{Wish}
use Rattle.merge_core.specs.CoreValue.{machine_of}
use Rattle.merge_core.specs.Order.{IsInOrder}
use Rattle.merge_core.specs.Payloads.{IsAt}
use Rattle.merge_core.specs.Phase.{is_live}
use Rattle.merge_core.specs.declared.phase.Phase.TheVariants as phases
use Rattle.merge_core.proofs.Words.{tree_kept}
use Rattle.merge_site.specs.Booking.{IsBooked, dying_at, parts_of, wishes_at}
use Rattle.merge_site.specs.Claiming.{AreClear, IsClearFor, IsGranted, IsStop, IsUnownedStop, MayClaim, Stops, StopsAt}
use Rattle.merge_site.specs.Site.{SiteValue}
use Rattle.merge_site.specs.declared.fault.ClaimStop.{ClaimStop}
use Rattle.merge_site.specs.declared.fault.ClaimStop.TheVariants as claims
use Rattle.merge_site.specs.declared.group.SiteGroup.{SiteGroup}
use Rattle.merge_core.proofs.Paths.{live_if_working}
use Rattle.merge_group.specs.Causes.{IsRefusalOf, StopsChanges, is_refusal}
use Rattle.merge_group.specs.Granted.{HasBuilt, IsOutside, IsUnclaimed, MayChange}
use Rattle.merge_group.specs.Stops.{stop_of_claim}
use Rattle.merge_group.specs.Working.{Changes, IsAlone, Works, standing_at, stood_at}
use Rattle.merge_group.specs.declared.stop.Stop.{Stop}
use Rattle.merge_group.specs.declared.stop.Stop.TheVariants as stops

pub none_there : {A : Type 0} (xs : List A) → ((x : A) → Has xs x → ⊥) → xs ≡ []
none_there [] h = refl
none_there (x ∷ xs) h = absurd (h x (inl refl))

-- one group is sealed, and no other is under way
none_live : {T S : Type 0} (a : SiteValue T S) (g : ℕ) → IsAt a.keeping g phases.Sealed → IsAlone g a → (h : ℕ) → is_live (standing_at a h).phase ≡ false
none_live a g at alone h = elim (cases_eq h g) [
  | inl same ↦ (ap (λ (n : ℕ). is_live (standing_at a n).phase) same ∙ ap is_live at.phase)
  | inr other ↦ alone h other
]

book_kept : {T S : Type 0} (a : SiteValue T S) (g : ℕ) → IsAt a.keeping g phases.Sealed → IsAlone g a → IsBooked a.keeping a.events a.wishes a.opened_book a.book → IsUnclaimed a.book a.book
book_kept a g at alone booked = record {
  owners = λ q. refl;
  claims = λ h. booked.claims h ∙ ap (λ (b : Bool). cond b (Some (parts_of a.keeping a.wishes h)) None) (none_live a g at alone h);
}

outside_kept : {T S : Type 0} (a : SiteValue T S) (g : ℕ) (opening : Map) (d : Disk) → IsAt a.keeping g phases.Sealed → IsAlone g a → IsInOrder opening (machine_of a.keeping) d → IsOutside (stood_at opening a) d.holds
outside_kept a g opening d at alone order q out =
    (tree_kept opening (machine_of a.keeping) d order q out (λ h works. absurd (cc (live_if_working (standing_at a h).phase works, none_live a g at alone h)))).reads

pub granted : {T S : Type 0} (a : SiteValue T S) (c : Changes) (g : ℕ) (opening : Map) (d : Disk) → IsAt a.keeping g phases.Sealed → HasBuilt c g a → IsBooked a.keeping a.events a.wishes a.opened_book a.book → IsInOrder opening (machine_of a.keeping) d
    → IsGranted a g → AreClear d.holds a g → MayChange (stood_at opening a) a.book a.groups c g
granted a c g opening d at built booked order may clear = record {
  good = built.good;
  book = a.book;
  unclaimed = book_kept a g at built.alone booked;
  granted = subst (λ (l : List Wish). MayClaim a.book (dying_at a.groups g) l c.removals) built.wished
      (subst (λ (l : List (List ℕ)). MayClaim a.book (dying_at a.groups g) (wishes_at a.wishes g) l) (ap (λ (x : Group). x.content.removals) built.changed) may);
  tree = d.holds;
  outside = outside_kept a g opening d at built.alone order;
  clear = subst (λ (l : List Wish). AllByRecursion (IsClearFor d.holds (owner_in a.book.owned)) l) built.wished clear;
}

refused : {T S : Type 0} (tells : Bool) (a : SiteValue T S) (c : Changes) (g : ℕ) (opening : Map) (d : Disk) (s : ClaimStop) → is_refusal s ≡ true → IsAt a.keeping g phases.Sealed → HasBuilt c g a
    → IsBooked a.keeping a.events a.wishes a.opened_book a.book → (IsTrue tells → IsInOrder opening (machine_of a.keeping) d) → IsStop a g s → (IsTrue tells → IsUnownedStop d.holds a g s) → IsRefusalOf tells (stood_at opening a) a.book a.groups c g s
refused tells a c g opening d s is at built booked order stopped met = record {
  refusal = is;
  book = a.book;
  unclaimed = book_kept a g at built.alone booked;
  refuses = subst (λ (l : List Wish). Stops a.book (dying_at a.groups g) l c.removals s) built.wished
      (subst (λ (l : List (List ℕ)). Stops a.book (dying_at a.groups g) (wishes_at a.wishes g) l s) (ap (λ (x : Group). x.content.removals) built.changed) stopped);
  met = λ t. (d.holds, outside_kept a g opening d at built.alone (order t), subst (λ (l : List Wish). StopsAt d.holds (owner_in a.book.owned) l s) built.wished (met t));
}

pub claim_stops : {T S : Type 0} (tells : Bool) (a : SiteValue T S) (c : Changes) (g : ℕ) (opening : Map) (d : Disk) (s : ClaimStop) → IsAt a.keeping g phases.Sealed → HasBuilt c g a → IsBooked a.keeping a.events a.wishes a.opened_book a.book
    → (IsTrue tells → IsInOrder opening (machine_of a.keeping) d) → IsStop a g s → (IsTrue tells → IsUnownedStop d.holds a g s) → StopsChanges tells (stood_at opening a) a.book a.groups c g (stop_of_claim s)
claim_stops tells a c g opening d (claims.Tree of) at built booked order stopped met = tt
claim_stops tells a c g opening d (claims.Collision x) at built booked order stopped met = refused tells a c g opening d (claims.Collision x) refl at built booked order stopped met
claim_stops tells a c g opening d (claims.Image bad) at built booked order stopped met = refused tells a c g opening d (claims.Image bad) refl at built booked order stopped met
claim_stops tells a c g opening d (claims.Removal p) at built booked order stopped met = refused tells a c g opening d (claims.Removal p) refl at built booked order stopped met
claim_stops tells a c g opening d claims.Overlap at built booked order stopped met = refused tells a c g opening d claims.Overlap refl at built booked order stopped met
claim_stops tells a c g opening d claims.Limit at built booked order stopped met = refused tells a c g opening d claims.Limit refl at built booked order stopped met

-- ---- over other maps and books that say the same

unclaimed_same : (b b' book : Book) → HasOwnersOf b' b → IsUnclaimed b book → IsUnclaimed b' book
unclaimed_same b b' book same h = record { owners = λ q. h.owners q ∙ same q; claims = h.claims }

outside_same : (m m' x : Map) → IsOutside m' m → IsOutside m x → IsOutside m' x
outside_same m m' x same h q out = h q out ∙ same q out

-- a claim that is granted over a map and the owners of a book is granted over others that say the same
pub may_same : (m m' : Map) (b b' : Book) (groups : List SiteGroup) (c : Changes) (g : ℕ) → IsOutside m' m → HasOwnersOf b' b → MayChange m b groups c g → MayChange m' b' groups c g
may_same m m' b b' groups c g map owners h = record {
  good = h.good;
  book = h.book;
  unclaimed = unclaimed_same b b' h.book owners h.unclaimed;
  granted = h.granted;
  tree = h.tree;
  outside = outside_same m m' h.tree map h.outside;
  clear = h.clear;
}

-- .. and so is a cause of a stop one
pub stops_same : (tells : Bool) (m m' : Map) (b b' : Book) (groups : List SiteGroup) (c : Changes) (g : ℕ) (e : Stop) → IsOutside m' m → HasOwnersOf b' b → StopsChanges tells m b groups c g e → StopsChanges tells m' b' groups c g e
stops_same tells m m' b b' groups c g (stops.Tree of) map owners h = tt
stops_same tells m m' b b' groups c g stops.Output map owners h = tt
stops_same tells m m' b b' groups c g (stops.Image bad) map owners h = h
stops_same tells m m' b b' groups c g (stops.Claim s) map owners h = record {
  refusal = h.refusal;
  book = h.book;
  unclaimed = unclaimed_same b b' h.book owners h.unclaimed;
  refuses = h.refuses;
  met = λ t. let k = h.met t in (k.0, outside_same m m' k.0 map k.1, k.2);
}
stops_same tells m m' b b' groups c g stops.Limit map owners h = h

-- the map that a site has, while a group of it goes its way
stood_same : {T S : Type 0} (opening : T → Map) (g : ℕ) (a b : SiteValue T S) → Works g a b → b.keeping.order ≡ a.keeping.order → IsOutside (stood_at (opening a.opened) a) (stood_at (opening b.opened) b)
stood_same opening g a b works order q out =
    ap (λ (l : List Group). with_groups l q (opening b.opened q)) order ∙ ap (λ o. with_groups a.keeping.order q (opening o q)) works.opened

pub may_before : {T S : Type 0} (opening : T → Map) (g : ℕ) (a b : SiteValue T S) (c : Changes) → Works g a b → b.keeping.order ≡ a.keeping.order → HasOwnersOf a.book b.book
    → MayChange (stood_at (opening b.opened) b) b.book b.groups c g → MayChange (stood_at (opening a.opened) a) a.book a.groups c g
may_before opening g a b c works order owners h =
    may_same (stood_at (opening b.opened) b) (stood_at (opening a.opened) a) b.book a.book a.groups c g (stood_same opening g a b works order) owners
    (subst (λ (l : List SiteGroup). MayChange (stood_at (opening b.opened) b) b.book l c g) works.groups h)

pub stops_before : {T S : Type 0} (tells : Bool) (opening : T → Map) (g : ℕ) (a b : SiteValue T S) (c : Changes) (e : Stop) → Works g a b → b.keeping.order ≡ a.keeping.order → HasOwnersOf a.book b.book
    → StopsChanges tells (stood_at (opening b.opened) b) b.book b.groups c g e → StopsChanges tells (stood_at (opening a.opened) a) a.book a.groups c g e
stops_before tells opening g a b c e works order owners h =
    stops_same tells (stood_at (opening b.opened) b) (stood_at (opening a.opened) a) b.book a.book a.groups c g e (stood_same opening g a b works order) owners
    (subst (λ (l : List SiteGroup). StopsChanges tells (stood_at (opening b.opened) b) b.book l c g e) works.groups h)
