-- What the additions of a text ask, one behind another.
use Rattle.std.proofs.Common.{◌≡◌, ◌∙◌, ◌<◌, ◌≤◌, ◌+◌, ℕ, List, [], ◌∷◌, ◌++◌, ap, get_or, length, map, subst, sym, take}
use Rattle.std.specs.List.{AllZip}
use Rattle.std.proofs.lemmas.Grind.{flat_map-append}
use Rattle.std.proofs.lemmas.List.{append-nil, append_assoc, map-append, take_all, take_more}
use Rattle.build_pool.specs.declared.orders.Order.{Order}
use Rattle.pkg_state.specs.Package.{Package}
use Rattle.plan_text.specs.Plans.{GroupValue, group_value}
use Rattle.plan_text.specs.declared.plan.Group.{Group}
use Rattle.plan_check.specs.Asks.{AskedValue, all_asked, asked_value}
use Rattle.plan_check.specs.declared.asked.Asked.{Asked}
use Rattle.plan_model.specs.Asking.{AreAsked, IsAsked, additions_of}
use Rattle.plan_model.proofs.Pairs.{zip_push}

map_more : {A B : Type 0} (f : A → B) (xs : List A) (i : ℕ) (x : A) → i < length xs → x ≡ get_or xs i x → map f (take (i + 1) xs) ≡ map f (take i xs) ++ (f x ∷ [])
map_more f xs i x lt is = ap (map f) (take_more xs i x lt ∙ ap (λ (y : _). take i xs ++ (y ∷ [])) (sym is)) ∙ map-append f (take i xs) (x ∷ [])

-- none has asked yet
pub asked_none : (offered : List Package) (xs : List Order) (asks : List AskedValue) (before : List Order) → AllZip (IsAsked offered) before asks → AllZip (IsAsked offered) (before ++ take 0 xs) asks
asked_none offered xs asks before h = rw (append-nil before) h

-- one addition more asks
pub asked_more : (offered : List Package) (xs : List Order) (i : ℕ) (x : Order) (asks : List Asked) (one : Asked) (before : List Order) → i < length xs → x ≡ get_or xs i x → IsAsked offered x (asked_value one)
    → AllZip (IsAsked offered) (before ++ take i xs) (all_asked asks) → AllZip (IsAsked offered) (before ++ take (i + 1) xs) (all_asked (asks ++ (one ∷ [])))
asked_more offered xs i x asks one before lt is asked so_far =
    let next : take (i + 1) xs ≡ take i xs ++ (x ∷ []) = take_more xs i x lt ∙ ap (λ (y : Order). take i xs ++ (y ∷ [])) (sym is) in
    rw (next, sym (append_assoc before (take i xs) (x ∷ [])), map-append asked_value asks (one ∷ []))
    (zip_push (IsAsked offered) (before ++ take i xs) (all_asked asks) x (asked_value one) so_far asked)

pub asked_all : (offered : List Package) (xs : List Order) (i : ℕ) (asks : List Asked) (before : List Order) → length xs ≤ i
    → AllZip (IsAsked offered) (before ++ take i xs) (all_asked asks) → AllZip (IsAsked offered) (before ++ xs) (all_asked asks)
asked_all offered xs i asks before le h = subst (λ (ys : List Order). AllZip (IsAsked offered) (before ++ ys) (all_asked asks)) (take_all i xs le) h

-- one group more has asked
pub group_asked : (offered : List Package) (gs : List Group) (i : ℕ) (g : Group) (new : List AskedValue) → i < length gs → g ≡ get_or gs i g
    → AllZip (IsAsked offered) (additions_of (map group_value (take i gs)) ++ g.additions.items) new → AreAsked offered (map group_value (take (i + 1) gs)) new
group_asked offered gs i g new lt is h =
    let f : GroupValue → List Order = λ t. t.additions in
    rw (map_more group_value gs i g lt is, flat_map-append f (map group_value (take i gs)) (group_value g ∷ []), append-nil g.additions.items) h

pub groups_asked : (offered : List Package) (gs : List Group) (i : ℕ) (asks : List AskedValue) → length gs ≤ i → AreAsked offered (map group_value (take i gs)) asks → AreAsked offered (map group_value gs) asks
groups_asked offered gs i asks le h = subst (λ (ys : List Group). AreAsked offered (map group_value ys) asks) (take_all i gs le) h
