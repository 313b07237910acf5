-- The paths and the contents that are recorded of an image.
use Rattle.std.proofs.Common.{◌≡◌, ℕ, true, List, [], ◌∷◌, Some, refl, ap, map}
use Rattle.file_tree.specs.declared.objects.Entry.{Entry}
use Rattle.file_tree.specs.declared.objects.Kind.{Kind}
use Rattle.file_tree.specs.declared.objects.Kind.TheVariants as kinds
use Rattle.merge_fit.specs.Images as images
use Rattle.merge_fit.specs.Images.{is_good_by}
use Rattle.vdb_contents.specs.Contents.{IsContent, path_of}
use Rattle.vdb_law.specs.Database.{Holds}
use Rattle.vdb_law.specs.Fields.{contents}
use Rattle.law_package.specs.Records.{content_by, owned_of}
use Rattle.law_package.proofs.Digests.{is_digest}

pub same_paths : (es : List Entry) → map path_of (map owned_of es) ≡ map images.path_of es
same_paths [] = refl
same_paths (e ∷ es) = ap (λ (l : List (List ℕ)). e.path ∷ l) (same_paths es)

pub content_good : (k : Kind) (bytes : List ℕ) → is_good_by k bytes ≡ true → IsContent (content_by k bytes)
content_good kinds.Plain bytes good = is_digest bytes
content_good kinds.Exec bytes good = is_digest bytes
content_good kinds.Link bytes good = good

pub content_held : (k : Kind) (bytes : List ℕ) → Holds (Some (record { kind = k; bytes = bytes })) (content_by k bytes)
content_held kinds.Plain bytes = (record { kind = kinds.Plain; bytes = bytes }, refl, (refl, refl))
content_held kinds.Exec bytes = (record { kind = kinds.Exec; bytes = bytes }, refl, (refl, refl))
content_held kinds.Link bytes = refl
