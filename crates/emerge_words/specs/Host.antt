-- The host that words name.
use Rattle.std.specs.Prelude.{◌≡◌, ℕ, List}
use Rattle.emerge_words.specs.Requests.{IsRequest}
use Rattle.emerge_words.specs.declared.request.Request.{Request}
use Rattle.emerge_words.specs.declared.host.Host.{Host}

-- the host is just what the request says of it, with a builder for each job
pub record IsSaid (r : Request) (h : Host) : Type 0 where
  pub tree : h.tree ≡ r.tree
  pub images : h.images ≡ r.images
  pub build_with : h.build_with ≡ r.build_with
  pub builders : h.builders ≡ r.jobs

-- the host is that of the request which the words make
abbrev pub IsHost : List (List ℕ) → Host → Type 0
IsHost words h = (r : Request) × IsRequest words r × IsSaid r h
