-- What the open groups of the code are.
use Rattle.std.specs.Prelude.{map, reverse, Option, Some, None, Result, Err}
use Rattle.std.specs.List.{list_any}
use Rattle.std.proofs.Common.{◌≡◌, ◌≢◌, ℕ, ◌-◌, ◌<◌, Bool, ◌||◌, List, [], ◌∷◌, ◌++◌, length, get_or, refl, ap, sym, ◌∙◌, arith}
use Rattle.std.proofs.lemmas.List.{reverse-append}
use Rattle.std.proofs.lemmas.List.Sorted.{list_any-IsPermutation, IsPermutation-reverse}
use Rattle.dep_group.specs.declared.reader.Frame.{Frame}
use Rattle.dep_group.specs.declared.token.Token.{Token}
use Rattle.dep_group.specs.declared.token.Token.TheVariants.{Leaf, Begins, Opens, Closes, Glued, Unknown}
use Rattle.dep_group.specs.declared.token.GroupFault.{GroupFault}
use Rattle.dep_group.specs.declared.token.GroupFault.TheVariants as fault
use Rattle.dep_group.specs.Trees.{Tree, opens_any}
use Rattle.dep_group.specs.Reading.{Opened, outermost, in_any_of, finished, read}
use Rattle.dep_group.specs.Maps.{opener_map, token_map}
use Rattle.dep_group.specs.Nodes.{opened, stacked}

outermost-last : {K L : Type 0} (at : ℕ) (os : List (Opened K L)) (o : Opened K L) → outermost at (os ++ o ∷ []) ≡ o.at
outermost-last at [] o = refl
outermost-last at (p ∷ os) o = outermost-last p.at os o

finished-last : {K L : Type 0} (at : ℕ) (os : List (Opened K L)) (o : Opened K L) (done : List (Tree K L)) → finished at None (os ++ o ∷ []) done ≡ Err (fault.Open o.at)
finished-last at [] o done = refl
finished-last at (p ∷ os) o done = ap (λ n. Err (fault.Open n)) (outermost-last p.at os o)

pub finished-open : {J K L N : Type 0} (kind : J → K) (view : N → Tree K L) (at : ℕ) (fs : List (Frame J N)) (f : Frame J N) (done : List (Tree K L)) → 0 < length fs → finished at None (stacked kind view fs) done ≡ Err (fault.Open (get_or fs 0 f).at)
finished-open kind view at [] f done some = absurd (omega arith)
finished-open kind view at (g ∷ fs) f done some = ap (λ os. finished at None os done) (reverse-append (opened kind view g ∷ []) (map (opened kind view) fs)) ∙ finished-last at (reverse (map (opened kind view) fs)) (opened kind view g) done

any-opened : {J K L N : Type 0} (any_of : K → Bool) (kind : J → K) (view : N → Tree K L) (fs : List (Frame J N)) → in_any_of any_of (map (opened kind view) fs) ≡ list_any (λ f. opens_any any_of (opener_map kind f.opener)) fs
any-opened any_of kind view [] = refl
any-opened any_of kind view (f ∷ fs) = ap (λ b. opens_any any_of (opener_map kind f.opener) || b) (any-opened any_of kind view fs)

pub in_any_of-stacked : {J K L N : Type 0} (any_of : K → Bool) (kind : J → K) (view : N → Tree K L) (fs : List (Frame J N)) → in_any_of any_of (stacked kind view fs) ≡ list_any (λ f. opens_any any_of (opener_map kind f.opener)) fs
in_any_of-stacked any_of kind view fs =
    sym (list_any-IsPermutation (λ o. opens_any any_of o.opener) (map (opened kind view) fs) (stacked kind view fs) (IsPermutation-reverse (map (opened kind view) fs)))
    ∙ any-opened any_of kind view fs

read-cons : {K L : Type 0} (any_of : K → Bool) (barred : L → Bool) (ts rest : List (Token K L)) (t : Token K L) (at place : ℕ) (begun : Option K) (os : List (Opened K L)) (done : List (Tree K L)) (r : Result (List (Tree K L)) GroupFault) → ts ≡ t ∷ rest → place ≡ at → read any_of barred (t ∷ rest) place begun os done ≡ r → read any_of barred ts at begun os done ≡ r
read-cons any_of barred ts rest t at place begun os done r is same h = ap (λ us. read any_of barred us at begun os done) is ∙ ap (λ n. read any_of barred (t ∷ rest) n begun os done) (sym same) ∙ h

-- the same, where the tokens are what the code's say
pub read-token : {J K L M : Type 0} (kind : J → K) (said : L → M) (any_of : K → Bool) (barred : M → Bool) (ts rest : List (Token J L)) (t : Token J L) (at place : ℕ) (begun : Option K) (os : List (Opened K M)) (done : List (Tree K M)) (r : Result (List (Tree K M)) GroupFault) → ts ≡ t ∷ rest → place ≡ at → read any_of barred (token_map kind said t ∷ map (token_map kind said) rest) place begun os done ≡ r → read any_of barred (map (token_map kind said) ts) at begun os done ≡ r
read-token kind said any_of barred ts rest t at place begun os done r is same h =
    read-cons any_of barred (map (token_map kind said) ts) (map (token_map kind said) rest) (token_map kind said t) at place begun os done r (ap (map (token_map kind said)) is) same h

-- what no token is left of is finished
pub read-end : {J K L M : Type 0} (kind : J → K) (said : L → M) (any_of : K → Bool) (barred : M → Bool) (ts : List (Token J L)) (at end : ℕ) (begun : Option K) (os : List (Opened K M)) (done : List (Tree K M)) → length ts ≡ 0 → at ≡ end → read any_of barred (map (token_map kind said) ts) at begun os done ≡ finished end begun os done
read-end kind said any_of barred [] at end begun os done none same = ap (λ n. finished n begun os done) same
read-end kind said any_of barred (t ∷ ts) at end begun os done none same = absurd (omega arith)

-- behind an opener only a parenthesis is in order
pub read-begun : {J K L M : Type 0} (kind : J → K) (said : L → M) (any_of : K → Bool) (barred : M → Bool) (t : Token J L) (rest : List (Token K M)) (at : ℕ) (begun : Option J) (os : List (Opened K M)) (done : List (Tree K M)) → begun ≢ None → t ≢ Opens → read any_of barred (token_map kind said t ∷ rest) at (opener_map kind begun) os done ≡ Err (fault.Leaf (at - 1))
read-begun kind said any_of barred t rest at None os done some other = absurd (some refl)
read-begun kind said any_of barred (Leaf a) rest at (Some o) os done some other = refl
read-begun kind said any_of barred (Begins b) rest at (Some o) os done some other = refl
read-begun kind said any_of barred Opens rest at (Some o) os done some other = absurd (other refl)
read-begun kind said any_of barred Closes rest at (Some o) os done some other = refl
read-begun kind said any_of barred Glued rest at (Some o) os done some other = refl
read-begun kind said any_of barred Unknown rest at (Some o) os done some other = refl
