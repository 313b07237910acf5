-- Tokens with their openers and leaves replaced read as the trees with theirs replaced.
use Rattle.std.specs.Prelude.{map, nat_lt, if◌then◌else◌, ◌&&◌, ◌||◌, Option, Some, None, Result, Err}
use Rattle.std.proofs.Common.{◌≡◌, ℕ, ◌+◌, Bool, true, false, List, [], ◌∷◌, ◌++◌, length, refl, ap, sym, ◌∙◌}
use Rattle.std.proofs.lemmas.List.{length-map, map_push}
use Rattle.dep_group.specs.declared.token.Token.{Token}
use Rattle.dep_group.specs.declared.token.Token.TheVariants.{Leaf, Begins, Opens, Closes, Glued, Unknown}
use Rattle.dep_group.specs.declared.token.GroupFault.{GroupFault}
use Rattle.dep_group.specs.declared.token.GroupFault.TheVariants as fault
use Rattle.dep_group.specs.Trees.{Tree, leaf, group, tree, trees_of, opens_any}
use Rattle.dep_group.specs.Reading.{Opened, outermost, in_any_of, finished, read}
use Rattle.dep_group.specs.Maps.{opener_map, tree_map, trees_map, token_map, opened_map, answer_map}

pub trees_of-map : {J K L M : Type 0} (f : J → K) (g : L → M) (ts : List (Tree J L)) → trees_of (map (tree_map f g) ts) ≡ trees_map f g (trees_of ts)
trees_of-map f g [] = refl
trees_of-map f g (t ∷ ts) = ap (tree (tree_map f g t)) (trees_of-map f g ts)

answer_map-if : {J K L M : Type 0} (f : J → K) (g : L → M) (b : Bool) (r s : Result (List (Tree J L)) GroupFault) → answer_map f g (if b then r else s) ≡ (if b then answer_map f g r else answer_map f g s)
answer_map-if f g true r s = refl
answer_map-if f g false r s = refl

module _ {J K L M : Type 0} (f : J → K) (g : L → M) (any_of : J → Bool) (any_of' : K → Bool) (barred : L → Bool) (barred' : M → Bool)
    (same_any_of : (j : J) → any_of' (f j) ≡ any_of j) (same_barred : (a : L) → barred' (g a) ≡ barred a) where
  opens_any-map : (o : Option J) → opens_any any_of' (opener_map f o) ≡ opens_any any_of o
  opens_any-map None = refl
  opens_any-map (Some opener) = same_any_of opener

  in_any_of-map : (os : List (Opened J L)) → in_any_of any_of' (map (opened_map f g) os) ≡ in_any_of any_of os
  in_any_of-map [] = refl
  in_any_of-map (o ∷ os) =
      ap (λ b. b || in_any_of any_of' (map (opened_map f g) os)) (opens_any-map o.opener) ∙ ap (λ b. opens_any any_of o.opener || b) (in_any_of-map os)

  outermost-map : (at : ℕ) (os : List (Opened J L)) → outermost at (map (opened_map f g) os) ≡ outermost at os
  outermost-map at [] = refl
  outermost-map at (o ∷ os) = outermost-map o.at os

  finished-map : (at : ℕ) (begun : Option J) (os : List (Opened J L)) (done : List (Tree J L)) → finished at (opener_map f begun) (map (opened_map f g) os) (map (tree_map f g) done) ≡ answer_map f g (finished at begun os done)
  finished-map at None [] done = refl
  finished-map at None (o ∷ os) done = ap (λ n. Err (fault.Open n)) (outermost-map o.at os)
  finished-map at (Some opener) os done = refl

  -- the replaced tokens read as the replaced trees, with the same faults
  pub read-map : (ts : List (Token J L)) (at : ℕ) (begun : Option J) (os : List (Opened J L)) (done : List (Tree J L)) → read any_of' barred' (map (token_map f g) ts) at (opener_map f begun) (map (opened_map f g) os) (map (tree_map f g) done) ≡ answer_map f g (read any_of barred ts at begun os done)
  read-map [] at begun os done = finished-map at begun os done
  read-map (Opens ∷ ts) at begun os done =
      ap (λ n. if nat_lt n 64 then read any_of' barred' (map (token_map f g) ts) (at + 1) None (record { opener = opener_map f begun; at = at; before = map (tree_map f g) done } ∷ map (opened_map f g) os) [] else Err fault.Depth) (length-map os (opened_map f g))
      ∙ ap (λ r. if nat_lt (length os) 64 then r else Err fault.Depth) (read-map ts (at + 1) None (record { opener = begun; at = at; before = done } ∷ os) [])
      ∙ sym (answer_map-if f g (nat_lt (length os) 64) (read any_of barred ts (at + 1) None (record { opener = begun; at = at; before = done } ∷ os) []) (Err fault.Depth))
  read-map (Leaf a ∷ ts) at None os done =
      ap (λ b. if b && barred' (g a) then Err (fault.Barred at) else read any_of' barred' (map (token_map f g) ts) (at + 1) None (map (opened_map f g) os) (map (tree_map f g) done ++ leaf (g a) ∷ [])) (in_any_of-map os)
      ∙ ap (λ b. if in_any_of any_of os && b then Err (fault.Barred at) else read any_of' barred' (map (token_map f g) ts) (at + 1) None (map (opened_map f g) os) (map (tree_map f g) done ++ leaf (g a) ∷ [])) (same_barred a)
      ∙ ap (λ d. if in_any_of any_of os && barred a then Err (fault.Barred at) else read any_of' barred' (map (token_map f g) ts) (at + 1) None (map (opened_map f g) os) d) (sym (map_push (tree_map f g) done (leaf a)))
      ∙ ap (λ r. if in_any_of any_of os && barred a then Err (fault.Barred at) else r) (read-map ts (at + 1) None os (done ++ leaf a ∷ []))
      ∙ sym (answer_map-if f g (in_any_of any_of os && barred a) (Err (fault.Barred at)) (read any_of barred ts (at + 1) None os (done ++ leaf a ∷ [])))
  read-map (Begins opener ∷ ts) at None os done = read-map ts (at + 1) (Some opener) os done
  read-map (Closes ∷ ts) at None [] done = refl
  read-map (Closes ∷ ts) at None (o ∷ os) done =
      ap (λ r. read any_of' barred' (map (token_map f g) ts) (at + 1) None (map (opened_map f g) os) (map (tree_map f g) o.before ++ group (opener_map f o.opener) r ∷ [])) (trees_of-map f g done)
      ∙ ap (λ d. read any_of' barred' (map (token_map f g) ts) (at + 1) None (map (opened_map f g) os) d) (sym (map_push (tree_map f g) o.before (group o.opener (trees_of done))))
      ∙ read-map ts (at + 1) None os (o.before ++ group o.opener (trees_of done) ∷ [])
  read-map (Glued ∷ ts) at None os done = refl
  read-map (Unknown ∷ ts) at None os done = refl
  read-map (Leaf a ∷ ts) at (Some opener) os done = refl
  read-map (Begins o ∷ ts) at (Some opener) os done = refl
  read-map (Closes ∷ ts) at (Some opener) os done = refl
  read-map (Glued ∷ ts) at (Some opener) os done = refl
  read-map (Unknown ∷ ts) at (Some opener) os done = refl
