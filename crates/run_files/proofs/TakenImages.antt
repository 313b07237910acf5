-- What the grant of a group says of the images that it places.
use Rattle.std.proofs.Common.{◌≡◌, ◌++◌, ℕ, Bool, true, false, List, [], map, subst}
use Rattle.std.proofs.lemmas.List.{map-append}
use Rattle.basics.specs.Members.{AreDistinct, Has}
use Rattle.basics.proofs.Each.{all_by_has, all_has}
use Rattle.basics.proofs.Membership.{has-append_left, has-append_right, has-map}
use Rattle.file_tree.specs.Disk.{Map}
use Rattle.file_tree.specs.declared.objects.Entry.{Entry}
use Rattle.merge_fit.specs.Images as images
use Rattle.merge_fit.specs.Images.{is_good}
use Rattle.merge_record.specs.declared.record.OwnerKey.{OwnerKey}
use Rattle.merge_journal.proofs.Form.{are_free-words}
use Rattle.merge_site.specs.Booking.{dying_at, wish_for}
use Rattle.merge_site.specs.declared.group.SiteGroup.{SiteGroup}
use Rattle.owner_book.specs.Book as books
use Rattle.owner_book.specs.Book.{Book}
use Rattle.owner_book.specs.Rules.{is_dying}
use Rattle.owner_book.specs.declared.wish.Wish.{Wish}
use Rattle.vdb_contents.specs.Contents.{is_dropped}
use Rattle.law_claim.proofs.Granted.{free_wish}
use Rattle.merge_group.specs.Granted.{MayChange, wishes_in, wishes_of}
use Rattle.merge_group.specs.Turns.{changes_of}
use Rattle.merge_group.specs.Working.{all_in, all_of}
use Rattle.merge_group.specs.declared.files.Files.{Files}
use Rattle.merge_group.specs.declared.turn.Turn.{Turn}
use Rattle.law_package.proofs.Places.{distinct_back, distinct_front}
use Rattle.law_change.proofs.Pieces.{has-piece}
use Rattle.law_change.proofs.Together.{all_wished, image_wish}
use Rattle.run_files.proofs.Brought.{IsTakenImage, ownable_path}
use Rattle.run_files.proofs.Zips.{distinct_in_piece}

module _ (m : Map) (book : Book) (groups : List SiteGroup) (t : Turn) (group : ℕ) (may : MayChange m book groups (changes_of t) group) where
  abbrev placed : List Files
  placed = t.packages.items

  abbrev removals : List (List ℕ)
  removals = t.removals.items

  abbrev ws : List Wish
  ws = wishes_of placed

  abbrev dying : OwnerKey → Bool
  dying = is_dying (dying_at groups group)

  entry_there : (f : Files) (e : Entry) → Has placed f → Has f.image.items e → Has (all_of placed) e
  entry_there f e there has = has-piece all_in placed f e there (has-append_left f.image.items f.folder.items e has)

  wish_there : (f : Files) (e : Entry) → Has placed f → Has f.image.items e → Has ws (wish_for f.owner false e)
  wish_there f e there has = has-piece wishes_in placed f (wish_for f.owner false e) there (image_wish f e has)

  free_here : (f : Files) (e : Entry) → Has placed f → Has f.image.items e → is_dropped e.path ≡ false
  free_here f e there has =
      let w = wish_for f.owner false e in
      let wished = wish_there f e there has in
      let free = (free_wish may.book dying ws may.granted.taken.free w wished).1.let_in in
      let outside = (are_free-words [] (removals ++ map books.path_of ws) may.granted.apart).outside e.path (has-append_right removals (map books.path_of ws) e.path (has-map books.path_of ws w wished)) in
      ownable_path e.path free outside

  paths_apart : AreDistinct (map images.path_of (all_of placed))
  paths_apart = subst (λ (l : List (List ℕ)). AreDistinct l) (all_wished placed)
      (distinct_back removals (map books.path_of ws) (are_free-words [] (removals ++ map books.path_of ws) may.granted.apart).distinct)

  image_apart : (f : Files) → Has placed f → AreDistinct (map images.path_of f.image.items)
  image_apart f there =
      distinct_front (map images.path_of f.image.items) (map images.path_of f.folder.items)
      (subst (λ (l : List (List ℕ)). AreDistinct l) (map-append images.path_of f.image.items f.folder.items)
      (distinct_in_piece images.path_of all_in placed f paths_apart there))

  pub taken_image : (f : Files) → Has t.packages.items f → IsTakenImage f.image.items
  taken_image f there = record {
    good = all_by_has (λ (e : Entry). is_good e ≡ true) f.image.items (λ e has. all_has (λ (x : Entry). is_good x ≡ true) (all_of placed) e may.good (entry_there f e there has));
    free = λ e has. free_here f e there has;
    distinct = image_apart f there;
  }
