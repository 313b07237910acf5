-- What is found among those of a name is what is found among all.
use denote.Ref.{Bor}
use Rattle.std.proofs.Common.{◌≡◌, ◌∙◌, ◌||◌, ◌&&◌, ℕ, Bool, true, false, cond, not, List, [], ◌∷◌, ◌++◌, Option, Some, None, filter, map, refl, ap, sym, subst, inl, inr}
use Rattle.std.specs.Prelude.{Vec, bytes_eq}
use Rattle.std.specs.Global.{Global}
use Rattle.std.specs.BTreeMap.{BTreeMap}
use Rattle.std.specs.List.{find, list_all, list_any}
use Rattle.std.specs.Option.{option_map, option_or}
use Rattle.std.proofs.lemmas.Bool.{and_parts, cases_Bool}
use Rattle.std.proofs.lemmas.List.{map-append}
use Rattle.std.proofs.lemmas.List.Folds.{find-append, list_any-append}
use Rattle.std.proofs.lemmas.Slice.Eq.{bytes_eq-Decides}
use Rattle.basics.proofs.Tests.{map-or}
use Rattle.pms_names.specs.Flags.{has}
use Rattle.dep_atom.specs.declared.package.Facts.{Facts}
use Rattle.dep_atom.specs.Match.{accepts_slot, accepts_use, accepts_version, same_name, value_matches}
use Rattle.dep_atom.specs.Values.{AtomValue}
use Rattle.dep_tree.specs.Grammar.{is_block}
use Rattle.dep_tree.specs.Truth.{some_match}
use Rattle.pkg_state.specs.Package.{Package, tree_of}
use Rattle.pkg_state.specs.Consistent.{blocks, class_blocks, facts_of, leaves_in, shares_line}
use Rattle.pkg_state.specs.Blocks.{AreBlocks, block_value}
use Rattle.pkg_state.specs.Index.{AreNamed, all_blocks, blocks_of, blocks_of_class, keeps_out, listed, those_named, those_on}
use Rattle.pkg_state.specs.declared.block.Block.{Block}
use Rattle.pkg_state.specs.declared.class.Class.{Class}
use Rattle.pkg_state.specs.declared.class.Class.TheVariants.{Pdepend, Rdepend}
use Rattle.pkg_state.proofs.Lists.{any_map, any_of_kind, find_map, find_of_kind}

-- the parts of a match that name the package
pub same_package : (a : AtomValue) (f : Facts) (asker : List (List ℕ)) → value_matches a f asker ≡ true → bytes_eq a.name.«package» f.id.name.«package» ≡ true
same_package a f asker e =
    let rest : Bool = accepts_version a.op a.star a.version f.id.version && (accepts_slot a.slot f.slot f.subslot && list_all (accepts_use f.iuse f.enabled asker) a.uses) in
    let name = (and_parts (same_name a.name f.id.name) rest e).0 in
    (and_parts (bytes_eq a.name.category f.id.name.category) (bytes_eq a.name.«package» f.id.name.«package») name).1

-- a look at those of the atom's name is enough
pub match_among_named : (ps : List Package) (a : AtomValue) (asker : List (List ℕ)) → list_any (λ p. value_matches a p.facts asker) (those_named a.name.«package» ps) ≡ some_match (facts_of ps) asker a
match_among_named ps a asker =
    any_of_kind (λ p. value_matches a p.facts asker) (λ p. bytes_eq a.name.«package» p.facts.id.name.«package») (λ p e. same_package a p.facts asker e) ps
    ∙ sym (any_map (λ f. value_matches a f asker) (λ p. p.facts) ps)

or_and : (a b n : Bool) → ((a && n) || (b && n)) ≡ ((a || b) && n)
or_and true true true = refl
or_and true true false = refl
or_and true false true = refl
or_and true false false = refl
or_and false b n = refl

-- a block of the kept ones that passes, off the line
any_kept : {B : Type 0} (k m : B → Bool) (n : Bool) (xs : List B) → list_any (λ a. m a && n) (filter k xs) ≡ (list_any (λ a. k a && m a) xs && n)
any_kept k m n [] = refl
any_kept k m n (x ∷ xs) = elim (cases_Bool (k x)) [
  | inl y ↦ ap (λ (b : Bool). list_any (λ a. m a && n) (cond b (x ∷ filter k xs) (filter k xs))) y
      ∙ (ap (λ (b : Bool). (m x && n) || b) (any_kept k m n xs)
      ∙ (or_and (m x) (list_any (λ a. k a && m a) xs) n
      ∙ sym (ap (λ (b : Bool). ((b && m x) || list_any (λ a. k a && m a) xs) && n) y)))
  | inr e ↦ ap (λ (b : Bool). list_any (λ a. m a && n) (cond b (x ∷ filter k xs) (filter k xs))) e
      ∙ (any_kept k m n xs ∙ sym (ap (λ (b : Bool). ((b && m x) || list_any (λ a. k a && m a) xs) && n) e))
]

abbrev own_leaves : Class → Package → List AtomValue
own_leaves class q = leaves_in class q

class_keeps_out : (class : Class) (p q : Package) → list_any (keeps_out p) (blocks_of_class class q) ≡ (class_blocks class q p && not (shares_line q p))
class_keeps_out class p q =
    any_map (keeps_out p) (λ a. (q, a)) (filter is_block (own_leaves class q))
    ∙ any_kept is_block (λ a. value_matches a p.facts q.facts.enabled) (not (shares_line q p)) (own_leaves class q)

one_keeps_out : (p q : Package) → list_any (keeps_out p) (blocks_of q) ≡ blocks q p
one_keeps_out p q =
    list_any-append (keeps_out p) (blocks_of_class Rdepend q) (blocks_of_class Pdepend q)
    ∙ (ap (λ (b : Bool). b || list_any (keeps_out p) (blocks_of_class Pdepend q)) (class_keeps_out Rdepend p q)
    ∙ (ap (λ (b : Bool). (class_blocks Rdepend q p && not (shares_line q p)) || b) (class_keeps_out Pdepend p q)
    ∙ or_and (class_blocks Rdepend q p) (class_blocks Pdepend q p) (not (shares_line q p))))

-- the first of one package's blocks that passes says whose it is
find_own : (f : Package × AtomValue → Bool) (q : Package) (xs : List AtomValue) → option_map (λ b. b.0) (find f (map (λ a. (q, a)) xs)) ≡ cond (list_any f (map (λ a. (q, a)) xs)) (Some q) None
find_own f q [] = refl
find_own f q (a ∷ xs) = elim (cases_Bool (f (q, a))) [
  | inl e ↦ ap (λ (b : Bool). option_map (λ (b : Package × AtomValue). b.0) (cond b (Some (q, a)) (find f (map (λ a. (q, a)) xs)))) e
      ∙ sym (ap (λ (b : Bool). cond (b || list_any f (map (λ a. (q, a)) xs)) (Some q) None) e)
  | inr e ↦ ap (λ (b : Bool). option_map (λ (b : Package × AtomValue). b.0) (cond b (Some (q, a)) (find f (map (λ a. (q, a)) xs)))) e
      ∙ (find_own f q xs ∙ sym (ap (λ (b : Bool). cond (b || list_any f (map (λ a. (q, a)) xs)) (Some q) None) e))
]

own_blocks : (q : Package) → blocks_of q ≡ map (λ a. (q, a)) (filter is_block (own_leaves Rdepend q) ++ filter is_block (own_leaves Pdepend q))
own_blocks q = sym (map-append (λ a. (q, a)) (filter is_block (own_leaves Rdepend q)) (filter is_block (own_leaves Pdepend q)))

find_in_own : (f : Package × AtomValue → Bool) (q : Package) → option_map (λ b. b.0) (find f (blocks_of q)) ≡ cond (list_any f (blocks_of q)) (Some q) None
find_in_own f q = subst (λ (bs : List (Package × AtomValue)). option_map (λ b. b.0) (find f bs) ≡ cond (list_any f bs) (Some q) None) (sym (own_blocks q))
    (find_own f q (filter is_block (own_leaves Rdepend q) ++ filter is_block (own_leaves Pdepend q)))

or_cond : (b : Bool) (q : Package) (rest : Option Package) → option_or (cond b (Some q) None) rest ≡ cond b (Some q) rest
or_cond true q rest = refl
or_cond false q rest = refl

first_owner : (p : Package) (ps : List Package) → option_map (λ b. b.0) (find (keeps_out p) (all_blocks ps)) ≡ find (λ q. blocks q p) ps
first_owner p [] = refl
first_owner p (q ∷ ps) =
    ap (option_map (λ (b : Package × AtomValue). b.0)) (find-append (keeps_out p) (blocks_of q) (all_blocks ps))
    ∙ (map-or (λ (b : Package × AtomValue). b.0) (find (keeps_out p) (blocks_of q)) (find (keeps_out p) (all_blocks ps))
    ∙ (ap (λ (o : Option Package). option_or o (option_map (λ (b : Package × AtomValue). b.0) (find (keeps_out p) (all_blocks ps)))) (find_in_own (keeps_out p) q)
    ∙ (or_cond (list_any (keeps_out p) (blocks_of q)) q (option_map (λ (b : Package × AtomValue). b.0) (find (keeps_out p) (all_blocks ps)))
    ∙ (ap (λ (b : Bool). cond b (Some q) (option_map (λ (b : Package × AtomValue). b.0) (find (keeps_out p) (all_blocks ps)))) (one_keeps_out p q)
    ∙ ap (cond (blocks q p) (Some q)) (first_owner p ps)))))

-- the first block that keeps a package out is found among those on its name
pub blocker_among_named : (ps : List Package) (p : Package) → option_map (λ b. b.0) (find (keeps_out p) (those_on p.facts.id.name.«package» (all_blocks ps))) ≡ find (λ q. blocks q p) ps
blocker_among_named ps p =
    ap (option_map (λ (b : Package × AtomValue). b.0)) (find_of_kind (keeps_out p) (λ b. bytes_eq p.facts.id.name.«package» b.1.name.«package») (λ b e. named b e) (all_blocks ps))
    ∙ first_owner p ps where
      named : (b : Package × AtomValue) → keeps_out p b ≡ true → bytes_eq p.facts.id.name.«package» b.1.name.«package» ≡ true
      named b e =
          let matches = (and_parts (value_matches b.1 p.facts b.0.facts.enabled) (not (shares_line b.0 p)) e).0 in
          let same = same_package b.1 p.facts b.0.facts.enabled matches in
          (bytes_eq-Decides p.facts.id.name.«package» b.1.name.«package»).1 (sym ((bytes_eq-Decides b.1.name.«package» p.facts.id.name.«package»).0 same))

-- the same of the packages that stand under the name
pub match_under : (ps : List Package) (lists : BTreeMap (Bor (List ℕ)) (Vec (Bor Package) Global)) (a : AtomValue) (asker : List (List ℕ)) (name : List ℕ) (items : List (Bor Package))
    → AreNamed ps lists → name ≡ a.name.«package» → items ≡ listed lists name → list_any (λ p. value_matches a p.now.facts asker) items ≡ some_match (facts_of ps) asker a
match_under ps lists a asker name items are is those =
    sym (any_map (λ (p : Package). value_matches a p.facts asker) (λ p. p.now) items)
    ∙ (ap (λ (l : List Package). list_any (λ p. value_matches a p.facts asker) l) (ap (map (λ (p : Bor Package). p.now)) those ∙ (are name ∙ ap (λ (n : List ℕ). those_named n ps) is))
    ∙ match_among_named ps a asker)

owner_of : (o : Option Block) → option_map (λ (b : Package × AtomValue). b.0) (option_map block_value o) ≡ option_map (λ b. b.owner.now) o
owner_of None = refl
owner_of (Some b) = refl

-- the first block under the name that keeps a package out says which package does
pub blocker_under : (ps : List Package) (lists : BTreeMap (Bor (List ℕ)) (Vec Block Global)) (p : Package) (name : List ℕ) (items : List Block)
    → AreBlocks (all_blocks ps) lists → name ≡ p.facts.id.name.«package» → items ≡ listed lists name
    → option_map (λ b. b.owner.now) (find (λ b. keeps_out p (block_value b)) items) ≡ find (λ q. blocks q p) ps
blocker_under ps lists p name items are is those =
    sym (owner_of (find (λ b. keeps_out p (block_value b)) items))
    ∙ (ap (option_map (λ (b : Package × AtomValue). b.0)) (sym (find_map (keeps_out p) block_value items))
    ∙ (ap (λ (l : List (Package × AtomValue)). option_map (λ (b : Package × AtomValue). b.0) (find (keeps_out p) l)) (ap (map block_value) those ∙ (are name ∙ ap (λ (n : List ℕ). those_on n (all_blocks ps)) is))
    ∙ blocker_among_named ps p))
