-- What a path of a tree may hold.
use Rattle.std.specs.Prelude.{ℕ, List}
use Rattle.file_tree.specs.declared.objects.Kind.{Kind}
use Rattle.file_tree.specs.declared.objects.Kind.TheVariants.{Plain}

-- an object by its kind and its bytes; of a link the bytes are the target
pub record ObjectValue : Type 0 where
  pub kind : Kind
  pub bytes : List ℕ

-- a plain file of these bytes
abbrev pub plain : List ℕ → ObjectValue
plain bytes = record { kind = Plain; bytes = bytes }
