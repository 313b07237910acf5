-- What there is to choose from, and what is given back of it.
use Rattle.std.proofs.Common.{◌≡◌, ◌∙◌, ℕ, List, [], Result, Ok, Err, ap, subst, sym}
use Rattle.std.specs.Prelude.{IfOk}
use Rattle.file_tree.specs.Disk.{Map}
use Rattle.owner_book.specs.Book.{Book}
use Rattle.law_run.specs.Openings.{AreOwners, HasOpening}
use Rattle.vdb_law.specs.Packages.{Installed}
use Rattle.vdb_text.specs.Limits.{AreWithin}
use Rattle.visible_offers.specs.declared.candidate.Candidate.{Candidate}
use Rattle.visible_set.specs.Offers.{AreOffers}
use Rattle.visible_set.specs.declared.offers.Hidden.{Hidden}
use Rattle.emerge_find.specs.Choices.{AreChoices, choices_of}
use Rattle.run_opening.specs.declared.opened.Opening.{Opening}
use Rattle.emerge_find.specs.declared.ends.NoPlan.{NoPlan}
use Rattle.emerge_find.specs.declared.found.Found.{Found}

-- the opening was read of a tree that holds the same
pub are_choices : (m n : Map) (flips : ℕ) (implicit : List (List ℕ)) (ps : List Installed) (candidates : List Candidate) (hidden : List Hidden) → n ≡ m → AreOffers m flips implicit candidates hidden
    → HasOpening implicit n ps → AreWithin ps → ((qs : List Installed) → HasOpening implicit n qs → ps ≡ qs) → AreChoices m flips (choices_of implicit ps candidates hidden)
are_choices m n flips implicit ps candidates hidden back offers opening within only = record {
  offers = offers;
  opening = subst (λ (y : Map). HasOpening implicit y ps) back opening;
  within = within;
  only = λ qs has. only qs (subst (λ (y : Map). HasOpening implicit y qs) (sym back) has);
}

pub owners_kept : (m : Map) (r : Result Found NoPlan) (o : Opening) → IfOk r (λ f. f.packages ≡ o.packages) → IfOk r (λ f. f.book ≡ o.book) → AreOwners m o.packages.items o.book → IfOk r (λ f. AreOwners m f.packages.items f.book)
owners_kept m (Ok f) o packages book are =
    subst (λ (b : Book). AreOwners m f.packages.items b) (sym book)
    (subst (λ v. AreOwners m v.items o.book) (sym packages) are)
owners_kept m (Err e) o packages book are = tt

pub unclaimed_kept : (r : Result Found NoPlan) (o : Opening) → IfOk r (λ f. f.book ≡ o.book) → o.book.claims ≡ [] → IfOk r (λ f. f.book.claims ≡ [])
unclaimed_kept (Ok f) o book none = ap (λ (b : Book). b.claims) book ∙ none
unclaimed_kept (Err e) o book none = tt
