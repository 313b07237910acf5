-- What the profile and the user's files come to together.
use Rattle.std.proofs.Common.{◌≡◌, ◌∙◌, ℕ, List, ap, inr, subst}
use Rattle.file_tree.specs.Disk.{Map}
use Rattle.profile_lines.specs.Faults.{IsMachine}
use Rattle.profile_lines.specs.Files.{Content}
use Rattle.profile_lines.specs.Profiles.{IsProfile}
use Rattle.profile_lines.specs.declared.fault.ReadFault.{ReadFault}
use Rattle.profile_stack.specs.Files.{Config, MissUser, ReadsUser, begun}
use Rattle.profile_stack.proofs.UserLemmas.{user_or_not}
use Rattle.visible_set.specs.Configured.{IsRead, MissRead, profile_path}
use Rattle.visible_set.specs.Faults.{IsOfMachine, fault_of, fault_of_profile}

module _ (m n : Map) (same : n ≡ m) (path : List ℕ) (path-is : path ≡ profile_path) (p : Content) (is : IsProfile m path p) where
  here : IsProfile m profile_path p
  here = subst (λ (q : List ℕ). IsProfile m q p) path-is is

  pub read_is : (c : Config) → ReadsUser n (begun p) c → IsRead m c
  read_is c reads = record { profile = p; is = here; user = subst (λ (y : Map). ReadsUser y (begun p) c) same reads }

  pub read_misses : (fault : ReadFault) → MissUser n (begun p) fault → MissRead m fault
  read_misses fault miss = inr (p, here, subst (λ (y : Map). MissUser y (begun p) fault) same miss)

  -- where the configuration can be read the user's files have no fault
  pub read_or_not : (c : Config) (fault : ReadFault) → IsRead m c → MissUser n (begun p) fault → ⊥
  read_or_not c fault read miss = user_or_not m (begun read.profile) c (begun p) fault read.user (subst (λ (y : Map). MissUser y (begun p) fault) same miss)

pub machine_alike : (e : ReadFault) → IsMachine e → IsOfMachine (fault_of e)
machine_alike e why = (why.1.0, ap fault_of why.2 ∙ ap fault_of_profile why.1.1)
