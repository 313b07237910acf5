-- What the repository's masks, the walk and the folders come to together.
use Rattle.std.proofs.Common.{◌≡◌, ℕ, List, Option, None, inr, subst}
use Rattle.file_tree.specs.Disk.{Map}
use Rattle.profile_folders.specs.Folders.{Walks}
use Rattle.profile_folders.specs.declared.fault.ProfileFault.{ProfileFault}
use Rattle.profile_lines.specs.Files.{Content}
use Rattle.profile_lines.specs.Profiles.{FirstFault, IsProfile, MissRest, Opens, ReadsFolders}
use Rattle.profile_lines.specs.declared.fault.ReadFault.{ReadFault}

module _ (m n : Map) (same : n ≡ m) (o : Map) (same' : o ≡ m) (path : List ℕ) (first : Content) (opens : Opens m first) (folders : List (List ℕ)) (end : Option ProfileFault) (walks : Walks n path folders end) where
  walks_here : Walks m path folders end
  walks_here = subst (λ (y : Map). Walks y path folders end) same walks

  pub is_profile : (is : Content) → (end ≡ None) × ReadsFolders o folders first is → IsProfile m path is
  is_profile is reads = record {
    first = first;
    opens = opens;
    folders = folders;
    walks = subst (λ (e : Option ProfileFault). Walks m path folders e) reads.0 walks_here;
    reads = subst (λ (y : Map). ReadsFolders y folders first is) same' reads.1;
  }

  pub miss_profile : (fault : ReadFault) → MissRest o folders end first fault → FirstFault m path fault
  miss_profile fault misses = inr (record {
    first = first;
    opens = opens;
    folders = folders;
    end = end;
    walks = walks_here;
    misses = subst (λ (y : Map). MissRest y folders end first fault) same' misses;
  })
