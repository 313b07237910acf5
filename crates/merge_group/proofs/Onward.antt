-- One turn of a run that takes its turns one by one.
use Rattle.std.proofs.Common.{◌≡◌, ◌⊎◌, ◌++◌, ◌∙◌, ℕ, suc, Bool, true, List, [], ◌∷◌, Result, Ok, Err, inl, refl, sym, ap, subst, length, map, take, append-nil, arith}
use Rattle.std.specs.Prelude.{IfErr, IsErrOf, IsTrue, OnErr, OnOk}
use Rattle.std.proofs.lemmas.List.{length-map}
use Rattle.basics.specs.Members.{Has}
use Rattle.file_tree.specs.Disk.{Map}
use Rattle.owner_book.specs.Book.{HasSettled}
use Rattle.merge_core.specs.Payloads.{IsAt}
use Rattle.merge_core.specs.Phase.{was_opened}
use Rattle.merge_core.specs.declared.phase.Phase.TheVariants as phases
use Rattle.merge_site.specs.Site.{SiteValue}
use Rattle.file_tree.specs.declared.fault.TreeFault.TheVariants as trees
use Rattle.merge_journal.specs.Group.{Group}
use Rattle.merge_group.specs.Applied.{RecoversWith, number}
use Rattle.merge_group.specs.Causes.{IsOfGroup, StopsChanges}
use Rattle.merge_group.specs.Granted.{IsAdmitted}
use Rattle.merge_group.specs.Runs.{EndsAt, IsNew, IsOver, IsUnderWay}
use Rattle.merge_group.specs.Turns.{AreFirst, StopsBehind, changes_of, group_for, numbers}
use Rattle.merge_group.specs.Working.{Works, group_in, is_shut, standing_at, stood_at}
use Rattle.merge_group.specs.declared.stop.Stop.{Stop}
use Rattle.merge_group.specs.declared.stop.Stop.TheVariants as stops
use Rattle.merge_group.specs.declared.turn.Turn.{Turn}
use Rattle.merge_group.proofs.Left.{beginning_of, begins_longer, first_more, first_numbers, has_longer, has_take, numbers_then, one_longer, parts_in, plain_behind, stops_longer, told_then}
use Rattle.merge_group.proofs.Through.{cause_on, ended_now, ended_on, history_now, recovers_weaker, rest_behind, through_on}

module _ {T S : Type 0} (tells : Bool) (opening : Map) (ts : List Turn) (t : Turn) (a b : SiteValue T S) (old told new newly : List ℕ)
    (under : IsUnderWay tells opening ts old told a) (fresh : IsNew ts t) (works : Works t.group a b)
    (let_in : IsTrue tells → was_opened (standing_at b t.group).phase ≡ true → IsAdmitted (stood_at opening a) a.book a.groups (changes_of t) t.group (group_in b t.group)) where
  pub next_merged : {A : Type 0} (r : Result A Stop) → OnOk r (IsAt b.keeping t.group phases.Told) → OnOk r (group_in b t.group ≡ group_for t) → OnOk r (HasSettled a.book b.book (parts_in (changes_of t)))
      → OnOk r (new ≡ old ++ t.group ∷ []) → OnOk r (newly ≡ told ++ t.group ∷ []) → OnOk r (IsUnderWay tells opening (ts ++ t ∷ []) new newly b)
  next_merged (Err e) at group settled merged acknowledged = tt
  next_merged (Ok x) at group settled merged acknowledged = record {
    through = through_on tells opening ts t a b under.through fresh works let_in at group settled;
    count = ap length works.groups ∙ (under.count ∙ sym works.count);
    merged = merged ∙ (ap (λ (l : List ℕ). l ++ t.group ∷ []) under.merged ∙ sym (numbers_then ts (t ∷ [])));
    told = acknowledged ∙ (ap (λ (l : List ℕ). l ++ t.group ∷ []) under.told ∙ sym (numbers_then ts (t ∷ [])));
  }

  pub next_stopped : (r : Result (Unit {0}) Stop) → new ≡ map number b.keeping.order → (new ≡ old) ⊎ (new ≡ old ++ t.group ∷ []) → OnErr r (newly ≡ told) → IfErr r (λ e. IsOfGroup e → new ≡ old)
      → ((IsErrOf r (stops.Tree trees.Failed) → ⊥) → is_shut (standing_at b t.group).phase ≡ true) → IfErr r (StopsChanges tells (stood_at opening a) a.book a.groups (changes_of t) t.group)
      → IfErr r (EndsAt tells opening (ts ++ t ∷ []) new newly b)
  next_stopped (Ok x) order one untold early shut cause = tt
  next_stopped (Err e) order one untold early shut cause = record {
    ended = ended_on tells opening ts [] t a b under.through fresh works let_in (Err e) shut;
    order = order;
    rest = rest_behind tells opening ts [] t a b under.through fresh works let_in (suc (length new))
        (omega (arith, one_longer old new t.group one, ap length under.merged ∙ length-map ts (λ (u : Turn). u.group)));
    first = first_numbers (ts ++ t ∷ []) ts [] t old new refl under.merged one;
    kept = told_then old new newly t.group (untold ∙ (under.told ∙ sym under.merged)) one;
    all_told = λ of. untold ∙ (under.told ∙ sym (early of ∙ under.merged));
    merged = tt;
    told = tt;
    cause = cause_on tells opening ts [] t a b under.through fresh works let_in {A = Unit {0}} (Err e) new (λ of. early of ∙ under.merged) cause;
  }

-- ---- a run that ends between two turns

pub over_now : {T S : Type 0} (tells : Bool) (opening : Map) (ts : List Turn) (history acknowledged : List ℕ) (a : SiteValue T S) (end : Result (Unit {0}) Stop)
    → IsUnderWay tells opening ts history acknowledged a → IfErr end (λ s. IsOfGroup s → ⊥) → IsOver tells opening ts history acknowledged end a
over_now tells opening ts history acknowledged a end under plain = record {
  ended = ended_now tells opening ts a under.through end;
  order = under.merged ∙ sym (history_now tells opening ts a under.through);
  rest = λ h not. under.through.rest h (λ has. not (subst (λ (l : List ℕ). Has (take (suc (length history)) l) h) (append-nil (numbers ts))
      (has_take (numbers ts) [] (suc (length history)) h (let long = ap length under.merged in omega (arith, long)) has)));
  first = beginning_of (numbers ts) history [] (sym under.merged ∙ sym (append-nil history));
  kept = inl (under.told ∙ sym under.merged);
  all_told = told_by end;
  merged = merged_by end;
  told = acknowledged_by end;
  cause = cause_by end plain;
} where
  told_by : (e : Result (Unit {0}) Stop) → IfErr e (λ s. IsOfGroup s → acknowledged ≡ history)
  told_by (Ok x) = tt
  told_by (Err s) = λ of. under.told ∙ sym under.merged

  merged_by : (e : Result (Unit {0}) Stop) → OnOk e (history ≡ numbers ts)
  merged_by (Ok x) = under.merged
  merged_by (Err s) = tt

  acknowledged_by : (e : Result (Unit {0}) Stop) → OnOk e (acknowledged ≡ numbers ts)
  acknowledged_by (Ok x) = under.told
  acknowledged_by (Err s) = tt

  cause_by : (e : Result (Unit {0}) Stop) → IfErr e (λ s. IsOfGroup s → ⊥) → IfErr e (StopsBehind tells opening a.opened_book a.groups ts (length history))
  cause_by (Ok x) no_group = tt
  cause_by (Err s) no_group = plain_behind tells opening a.opened_book a.groups ts (length history) s no_group

-- ---- a run that was stopped, with more turns behind

module _ {T S : Type 0} (tells : Bool) (opening : Map) (ts us : List Turn) (a : SiteValue T S) where
  first_longer : (xs : List Group) → AreFirst opening a.opened_book a.groups ts xs → AreFirst opening a.opened_book a.groups (ts ++ us) xs
  first_longer xs h = first_more opening a.opened_book a.groups ts us xs h

  recovers_longer : (among : List ℕ) (c : Map) → RecoversWith (AreFirst opening a.opened_book a.groups ts) opening among c → RecoversWith (AreFirst opening a.opened_book a.groups (ts ++ us)) opening among c
  recovers_longer among c h = recovers_weaker (AreFirst opening a.opened_book a.groups ts) (AreFirst opening a.opened_book a.groups (ts ++ us)) opening among c first_longer h

  pub ends_longer : (history acknowledged : List ℕ) (e : Stop) → EndsAt tells opening ts history acknowledged a e → EndsAt tells opening (ts ++ us) history acknowledged a e
  ends_longer history acknowledged e over = record {
    ended = record {
      stood = λ tl c during. recovers_longer [] c (over.ended.stood tl c during);
      crash = λ tl c stands. recovers_longer (map number a.keeping.order) c (over.ended.crash tl c stands);
      order = λ tl. first_longer a.keeping.order (over.ended.order tl);
      shut = over.ended.shut;
    };
    order = over.order;
    rest = λ h not. over.rest h (λ has. not (subst (λ (l : List ℕ). Has (take (suc (length history)) l) h) (sym (numbers_then ts us)) (has_longer (numbers ts) (numbers us) (suc (length history)) h has)));
    first = begins_longer ts us history over.first;
    kept = over.kept;
    all_told = over.all_told;
    merged = tt;
    told = tt;
    cause = stops_longer tells opening a.opened_book a.groups ts us (length history) e over.cause;
  }
